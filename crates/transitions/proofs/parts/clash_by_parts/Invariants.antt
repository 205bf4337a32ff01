use Rattle.transitions.specs.Index.{Pair}
use Rattle.transitions.specs.View.{Sound}
use Rattle.transitions.specs.Table.{places}
use lib.ListN.{length}
use Prim.Native.Nat.{◌-◌}
use mathlib.Core.Path.{◌≡◌}
use Rattle.transitions.proofs.parts.clash_by_parts.Given as goal

abbrev pub invariant-loop-p : goal.invariant-loop-p
invariant-loop-p l = Sound l.table l.p × (length l.places ≡ length l.initial.places) × (Pair l.table (places l.table 0) → Pair l.table (places l.table l.p)) × (Pair l.table (places l.table l.p) → Pair l.table (places l.table 0))

abbrev pub decreases-loop-p : goal.decreases-loop-p
decreases-loop-p l = length l.table - l.p
