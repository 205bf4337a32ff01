use Rattle.transitions.specs.Table.{places}
use Rattle.transitions.proofs.Parting.{pair-none}
use Rattle.transitions.proofs.Adjoining.{some_pair, no-pair}
use Rattle.transitions.proofs.Placing.{places-end}
use Rattle.transitions.proofs.parts.clash_by_parts.Goals as goal

pub returns-in_default : goal.returns-in_default
returns-in_default c = some_pair c.args.table.now (c.loop-p.invariant.3 c.in_default.ensures)

pub returns : goal.returns
returns c = let t = c.args.table.now in let l = c.loop-p in no-pair t (λ h. pair-none t (places t l.p) (places-end t l.p c.loop-p-test.false) (l.invariant.2 h))
