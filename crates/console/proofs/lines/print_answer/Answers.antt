-- A report is its counts' line and then its rows.
use Rattle.std.proofs.Common.{◌≡◌, ℕ, List, [], ◌∷◌, ◌++◌, sym, append_assoc}
use Rattle.std.specs.Prelude.{codes}
use Rattle.std.specs.Fmt.{decimal}
use Rattle.replay.specs.Row.{width}
use Rattle.replay.specs.Replay.{report}
use Rattle.console.specs.Lines.{counts_text, rows_text, verdict_text}
use Rattle.console.proofs.Parts.{on_err, ok-behind_same, err-behind_same, part-of_front}
use Rattle.console.proofs.lines.print_answer.Goals as goal

line_first : (line rest : List ℕ) → line ++ 10 ∷ rest ≡ (line ++ 10 ∷ []) ++ rest
line_first line rest = sym (append_assoc line (10 ∷ []) rest)

counts_first : (rows buffers records calls : ℕ) (table : List ℕ) → verdict_text (report rows buffers records calls) table ≡ counts_text rows buffers records calls ++ rows_text width rows table
counts_first rows buffers records calls table =
    line_first (codes "rows " ++ decimal rows ++ codes " buffers " ++ decimal buffers ++ codes " records " ++ decimal records ++ codes " open " ++ decimal calls) (rows_text width rows table)

pub returns-in_err-print_counts-in-Ok-clause-err : goal.returns-in_err-print_counts-in-Ok-clause-err
returns-in_err-print_counts-in-Ok-clause-err g c = rw c.in-Ok.is
    (on_err _ (part-of_front _ _ _ _ _ (counts_first c.in-Ok.report.rows c.in-Ok.report.buffers c.in-Ok.report.records c.in-Ok.report.«open» c.args.table.now) c.in_err-print_counts-in-Ok.ensures.err))

pub returns-in_ok-print_counts-in-Ok-clause-ok : goal.returns-in_ok-print_counts-in-Ok-clause-ok
returns-in_ok-print_counts-in-Ok-clause-ok g c = rw c.in-Ok.is
    (ok-behind_same _ _ _ _ _ _ _ (counts_first c.in-Ok.report.rows c.in-Ok.report.buffers c.in-Ok.report.records c.in-Ok.report.«open» c.args.table.now) c.in_ok-print_counts-in-Ok.ensures.ok c.print_rows.ensures.ok)

pub returns-in_ok-print_counts-in-Ok-clause-err : goal.returns-in_ok-print_counts-in-Ok-clause-err
returns-in_ok-print_counts-in-Ok-clause-err g c = rw c.in-Ok.is
    (err-behind_same _ _ _ _ _ _ _ (counts_first c.in-Ok.report.rows c.in-Ok.report.buffers c.in-Ok.report.records c.in-Ok.report.«open» c.args.table.now) c.in_ok-print_counts-in-Ok.ensures.ok c.print_rows.ensures.err)
