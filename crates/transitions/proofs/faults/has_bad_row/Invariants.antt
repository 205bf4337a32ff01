use Rattle.transitions.specs.Table.{places, any, bad_row}
use lib.ListN.{length}
use Prim.Native.Nat.{◌-◌}
use mathlib.Core.Path.{◌≡◌}
use Rattle.transitions.proofs.faults.has_bad_row.Given as goal

abbrev pub invariant-loop-place : goal.invariant-loop-place
invariant-loop-place l = any (bad_row l.table) (places l.table l.place) ≡ any (bad_row l.table) (places l.table 0)

abbrev pub decreases-loop-place : goal.decreases-loop-place
decreases-loop-place l = length l.table - l.place
