use Rattle.transitions.specs.Walk.{walk_from}
use Rattle.transitions.specs.Table.{rows_of}
use Rattle.transitions.proofs.Filling.{Filling}
use mathlib.Core.List.{[]}
use Prim.Native.Nat.{◌-◌}
use Rattle.transitions.proofs.indexed.Index.fill.Given as goal

abbrev pub invariant-loop-done : goal.invariant-loop-done
invariant-loop-done l = Filling (rows_of l.self.table.now) (walk_from (rows_of l.self.table.now) l.start l.initial.bits [] l.wanted) l.wanted l.initial.list l.list l.edge l.bits l.done

abbrev pub decreases-loop-done : goal.decreases-loop-done
decreases-loop-done l = l.wanted - l.done
