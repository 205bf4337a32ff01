use Rattle.transitions.proofs.Parting.{Crossing}
use lib.ListN.{length}
use Prim.Native.Nat.{◌-◌}
use mathlib.Core.Path.{◌≡◌}
use Rattle.transitions.proofs.parts.cross.Given as goal

abbrev pub invariant-loop-q : goal.invariant-loop-q
invariant-loop-q l = Crossing l.table l.p l.q (length l.initial.places) × (length l.places ≡ length l.initial.places)

abbrev pub decreases-loop-q : goal.decreases-loop-q
decreases-loop-q l = length l.table - l.q
