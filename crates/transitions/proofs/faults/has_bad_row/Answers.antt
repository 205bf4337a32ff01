use Rattle.transitions.specs.Table.{behind, places, bad_row}
use Rattle.transitions.proofs.Placing.{bad-cut, row_bad, row-places, places-cons, places-end}
use Rattle.transitions.proofs.Choices.{any-hit, any-miss, any_none}
use mathlib.Core.Path.{sym, ◌∙◌}
use Rattle.transitions.proofs.faults.has_bad_row.Goals as goal

pub returns-in_default : goal.returns-in_default
returns-in_default c = let t = c.args.table.now in let l = c.loop-place in sym (any-hit (bad_row t) l.place (places t (behind t l.place)) (places t l.place) (places-cons t l.place c.loop-place-test.true) (sym (bad-cut t l.place c.in_default.ensures))) ∙ l.invariant

pub returns-then-is_faulty : goal.returns-then-is_faulty
returns-then-is_faulty c = let t = c.args.table.now in let l = c.loop-place in sym (any-hit (bad_row t) l.place (places t c.in-Some.row.behind) (places t l.place) (row-places t l.place c.in-Some.row c.in-Some.ensures) (sym (row_bad t l.place c.in-Some.row c.in-Some.ensures) ∙ sym c.is_faulty.ensures ∙ c.if-is_faulty.true)) ∙ l.invariant

pub loop-place-preserved : goal.loop-place-preserved
loop-place-preserved c = let t = c.args.table.now in let l = c.loop-place in any-miss (bad_row t) l.place (places t c.in-Some.row.behind) (places t l.place) (row-places t l.place c.in-Some.row c.in-Some.ensures) (sym (row_bad t l.place c.in-Some.row c.in-Some.ensures) ∙ sym c.is_faulty.ensures ∙ c.if-is_faulty.false) ∙ l.invariant

pub returns : goal.returns
returns c = let t = c.args.table.now in let l = c.loop-place in sym (any_none (bad_row t) (places t l.place) (places-end t l.place c.loop-place-test.false)) ∙ l.invariant
