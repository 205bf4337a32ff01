-- What was written, and then the rows that are left, are all rows.
use Rattle.std.proofs.Common.{◌≡◌, ℕ, List, ◌++◌, ◌-◌}
use Rattle.std.specs.Io.KnownBytes.{Appends}
use Rattle.console.specs.Lines.{rows_text}
use Rattle.console.proofs.lines.print_rows.Given as goal

abbrev pub invariant-loop-row : goal.invariant-loop-row
invariant-loop-row g l =
    (done : List ℕ) × Appends (g.W.Write.contents l.initial.out) (g.W.Write.contents l.out) done
    × (done ++ rows_text l.width (l.rows - l._row) l.rest ≡ rows_text l.width l.rows l.table)
