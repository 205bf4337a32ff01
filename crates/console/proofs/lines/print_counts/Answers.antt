-- The line is written in two halves.
use Rattle.std.proofs.Common.{◌≡◌, ℕ, List, [], ◌∷◌, ◌++◌, append_assoc, append-nil}
use Rattle.std.specs.Prelude.{codes}
use Rattle.std.specs.Fmt.{decimal}
use Rattle.console.specs.Lines.{counts_text}
use Rattle.console.proofs.Parts.{on_err, ok-behind_same, err-behind_same, part-of_front}
use Rattle.console.proofs.lines.print_counts.Goals as goal

regroup : (front third three fourth four end : List ℕ) → front ++ third ++ three ++ fourth ++ four ++ end ≡ (front ++ []) ++ (third ++ three ++ fourth ++ four ++ end)
regroup front third three fourth four end = simp (append_assoc, append-nil)

halves : (rows buffers records calls : ℕ) → counts_text rows buffers records calls
    ≡ (codes "rows " ++ decimal rows ++ codes " buffers " ++ decimal buffers ++ []) ++ (codes " records " ++ decimal records ++ codes " open " ++ decimal calls ++ 10 ∷ [])
halves rows buffers records calls =
    regroup (codes "rows " ++ decimal rows ++ codes " buffers " ++ decimal buffers) (codes " records ") (decimal records) (codes " open ") (decimal calls) (10 ∷ [])

pub returns-in_err-print_pair-clause-err : goal.returns-in_err-print_pair-clause-err
returns-in_err-print_pair-clause-err g c =
    on_err _ (part-of_front _ _ _ _ _ (halves c.args.report.rows c.args.report.buffers c.args.report.records c.args.report.«open») c.in_err-print_pair.ensures.err)

pub returns-clause-ok : goal.returns-clause-ok
returns-clause-ok g c = ok-behind_same _ _ _ _ _ _ _ (halves c.args.report.rows c.args.report.buffers c.args.report.records c.args.report.«open») c.in_ok-print_pair.ensures.ok c.print_pair-2.ensures.ok

pub returns-clause-err : goal.returns-clause-err
returns-clause-err g c = err-behind_same _ _ _ _ _ _ _ (halves c.args.report.rows c.args.report.buffers c.args.report.records c.args.report.«open») c.in_ok-print_pair.ensures.ok c.print_pair-2.ensures.err
