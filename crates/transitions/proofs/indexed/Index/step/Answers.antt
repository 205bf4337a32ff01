use Rattle.transitions.specs.Key.{shown}
use Rattle.transitions.proofs.Advancing.{step-passes, step-ahead}
use Rattle.transitions.proofs.indexed.Index.step.Goals as goal

pub returns-then-left-row : goal.returns-then-left-row
returns-then-left-row c pos = step-passes c.args.self.table.now c.args.edge c.args.bits.now c.args.left (shown c.in_ok-row.row) c.in_ok-row.ensures pos c.if-left-row.true

pub returns : goal.returns
returns c pos = step-ahead c.args.self.table.now c.args.edge c.args.bits.now c.args.left (shown c.in_ok-row.row) c.in_ok-row.ensures pos c.if-left-row.false
