use Rattle.transitions.specs.Key.{shown}
use Rattle.transitions.proofs.Advancing.{answer-on}
use Rattle.transitions.proofs.indexed.Index.follow.Goals as goal

pub loop-left-preserved : goal.loop-left-preserved
loop-left-preserved c = let l = c.loop-left in answer-on c.args.self.table.now l.edge l.bits.now l.left (shown c.in_ok-row.row) (c.in_ok-row.ensures c.loop-left-test.true) _ l.invariant
