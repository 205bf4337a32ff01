use Rattle.transitions.specs.Walk.{walk_from, answer_of}
use Rattle.transitions.specs.Table.{rows_of}
use mathlib.Core.List.{[]}
use mathlib.Core.Path.{◌≡◌}
use Rattle.transitions.proofs.indexed.Index.follow.Given as goal

abbrev pub invariant-loop-left : goal.invariant-loop-left
invariant-loop-left l = answer_of (walk_from (rows_of l.self.table.now) l.edge l.bits [] l.left) ≡ answer_of (walk_from (rows_of l.self.table.now) l.start l.initial.bits [] l.wanted)

abbrev pub decreases-loop-left : goal.decreases-loop-left
decreases-loop-left l = l.left
