use Rattle.transitions.proofs.Halving.{Half}
use mathlib.Core.List.{◌∷◌}
use Prim.Native.Nat.{◌-◌}
use Rattle.transitions.proofs.indexed.Index.upper.Given as goal

abbrev pub invariant-loop-low : goal.invariant-loop-low
invariant-loop-low l = Half l.self.table.now l.self.places.now (l.edge ∷ l.bits) l.low l.high

abbrev pub decreases-loop-low : goal.decreases-loop-low
decreases-loop-low l = l.high - l.low
