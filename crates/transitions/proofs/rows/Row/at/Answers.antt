use Rattle.std.proofs.Common.{arith, refl}
use mathlib.Core.Logic.{⊎_elim}
use Rattle.transitions.proofs.Reading.{cut-off, row-read}
use Rattle.transitions.proofs.rows.Row.at.Goals as goal

pub returns-in_err-next : goal.returns-in_err-next
returns-in_err-next c = let a = c.in_ok-get.ensures.lookup.0 in let b = c.in_ok-code.ensures.cases in
    rw c.from_residual-in_err-next.ensures (cut-off c.args.table.now c.in_ok-get.field-0.now c.args.place a.0 a.2 c.in_ok-code.code.now c.in_ok-code.rest.now b.1 b.2 c.in-len2-up.len_at_least b.0
    c.in_ok-count.count.now c.in_ok-count.rest.now c.in_ok-count.ensures.cases.0 (⊎_elim (λ x. omega arith) (λ x. x) c.in_err-next.ensures.lookup.0))

pub returns : goal.returns
returns c = let a = c.in_ok-get.ensures.lookup.0 in let b = c.in_ok-code.ensures.cases in let d = c.in_ok-count.ensures.cases in let e = c.in_ok-next.ensures.lookup.0 in
    row-read c.args.table.now c.in_ok-get.field-0.now c.args.place a.0 a.2 c.in_ok-code.code.now c.in_ok-code.rest.now b.1 b.2 c.in-len2-up.len_at_least b.0
    c.in_ok-count.count.now c.in_ok-count.rest.now d.0 c.in_ok-next.next.now e.2 e.1 _ refl refl refl refl b.3 (omega (arith, e.3))
