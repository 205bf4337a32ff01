use mathlib.Core.Path.{sym, ap, ◌∙◌, subst}
use mathlib.Core.Bool.{true, false}
use mathlib.Core.List.{List}
use native.Mathlib.Omega.{arith}
use Prim.Native.Nat.{ℕ, ◌+◌, ◌-◌, ◌*◌}
use lib.ListN.{get_or}
use lib.Seq.{get_or-set_other}
use Rattle.replay.specs.Row.{width, closed, backward, ticks}
use Rattle.replay.specs.Private.{raised, Shut}
use Rattle.replay.proofs.Closing.{shut-backward, shut-measured, shut-over}
use Rattle.replay.proofs.index.Rows.close.Goals as goal

pub returns-then-clock-since-clause-closed : goal.returns-then-clock-since-clause-closed
returns-then-clock-since-clause-closed c =
    let t = c.args.self.now.cells.now in
    let e = c.raise-then-clock-since.ensures.cells ∙ ap (λ (x : List ℕ). raised c.args.row backward 1 x) c.raise.ensures.cells in
    let apart = get_or-set_other t (c.args.row * width + closed) (c.args.row * width + ticks) (get_or t (c.args.row * width + closed) 0 + 1) 0 (omega arith) in
    let beside = get_or-set_other (raised c.args.row closed 1 t) (c.args.row * width + backward) (c.args.row * width + ticks) (get_or (raised c.args.row closed 1 t) (c.args.row * width + backward) 0 + 1) 0 (omega arith) in
    λ n l long. subst (λ (x : List ℕ). Shut c.args.row c.args.since c.args.clock n t true x) (sym e)
    (shut-backward c.args.row c.args.since c.args.clock t n l long c.if-clock-since.true (omega (arith, beside, apart, c.get-ticks.ensures, c.get-ticks.type_inv)))

pub returns-then-ticks-more-clause-closed : goal.returns-then-ticks-more-clause-closed
returns-then-ticks-more-clause-closed c =
    let t = c.args.self.now.cells.now in
    let apart = get_or-set_other t (c.args.row * width + closed) (c.args.row * width + ticks) (get_or t (c.args.row * width + closed) 0 + 1) 0 (omega arith) in
    λ n l long. subst (λ (x : List ℕ). Shut c.args.row c.args.since c.args.clock n t false x) (sym c.raise.ensures.cells)
    (shut-over c.args.row c.args.since c.args.clock t n l long c.if-clock-since.false (omega (arith, apart, c.get-ticks.ensures, c.get-ticks.type_inv, c.if-ticks-more.true)))

pub returns-clause-closed : goal.returns-clause-closed
returns-clause-closed c =
    let t = c.args.self.now.cells.now in
    let e = c.raise-2.ensures.cells ∙ ap (λ (x : List ℕ). raised c.args.row ticks (c.args.clock - c.args.since) x) c.raise.ensures.cells in
    let apart = get_or-set_other t (c.args.row * width + closed) (c.args.row * width + ticks) (get_or t (c.args.row * width + closed) 0 + 1) 0 (omega arith) in
    λ n l long. subst (λ (x : List ℕ). Shut c.args.row c.args.since c.args.clock n t true x) (sym e)
    (shut-measured c.args.row c.args.since c.args.clock t n l long c.if-clock-since.false (omega (arith, apart, c.get-ticks.ensures, c.if-ticks-more.false)))
