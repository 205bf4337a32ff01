use mathlib.Core.Path.{◌≡◌}
use Prim.Native.Nat.{◌-◌, ◌^◌, ◌<◌, ◌≤◌}
use Rattle.replay.specs.Index.{halved}
use Rattle.replay.specs.Private.{rows_in}
use Rattle.replay.proofs.index.Rows.halve.Given as goal

abbrev pub invariant-loop-low : goal.invariant-loop-low
invariant-loop-low l = (l.low ≤ l.high) × (l.high ≤ l.self.count) × (l.high - l.low < 2 ^ l.budget) × (halved l.budget (rows_in l.self.count l.self.cells.now) l.self.index.now l.id l.low l.high ≡ halved l.initial.budget (rows_in l.self.count l.self.cells.now) l.self.index.now l.id 0 l.self.count)

abbrev pub decreases-loop-low : goal.decreases-loop-low
decreases-loop-low l = l.high - l.low
