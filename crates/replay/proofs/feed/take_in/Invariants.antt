use Prim.Native.Nat.{◌-◌}
use mathlib.Core.Path.{◌≡◌}
use lib.ListN.{length}
use Rattle.replay.specs.Row.{most_rows}
use Rattle.replay.specs.Index.{Indexed}
use Rattle.replay.specs.Private.{rows_in, places}
use Rattle.replay.proofs.Reading.{Reading, coming}
use Rattle.replay.proofs.feed.take_in.Given as goal

abbrev pub invariant-loop-last : goal.invariant-loop-last
invariant-loop-last l = Reading l.base l.read (coming l.base l.read l.initial.way l.initial.held l.initial.calls l.initial.counts l.initial.table) l.initial.table l.table l.calls l.counts l.held l.way × Indexed (rows_in l.counts.rows l.table) l.index × (length l.index ≡ most_rows) × (length l.cache ≡ places)

abbrev pub decreases-loop-last : goal.decreases-loop-last
decreases-loop-last l = length l.read - l.way.at.place
