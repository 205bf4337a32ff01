-- A listing is its counts' line and then its tables.
use Rattle.std.proofs.Common.{◌≡◌, ℕ, List, [], ◌∷◌, ◌++◌, append_assoc}
use Rattle.std.specs.Prelude.{codes, Ok}
use Rattle.std.specs.Fmt.{decimal}
use Rattle.console.specs.Lines.{rows_text}
use Rattle.console.proofs.Parts.{on_err, err-behind_same, part-of_front}
use Rattle.dcfg.specs.declared.Listed.{Listed}
use Rattle.dcfg_stdin.specs.Listing.{listing_text}
use Rattle.dcfg_stdin.proofs.write_listing.Goals as goal

regroup : (line edges threads : List ℕ) → line ++ 10 ∷ edges ++ threads ≡ (line ++ 10 ∷ []) ++ (edges ++ threads)
regroup line edges threads = simp append_assoc

line_first : (listed : Listed) (edges threads : List ℕ) → listing_text (Ok listed) edges threads
    ≡ (codes "edges " ++ decimal listed.edges ++ codes " threads " ++ decimal listed.threads ++ 10 ∷ []) ++ (rows_text 5 listed.edges edges ++ rows_text 2 listed.threads threads)
line_first listed edges threads =
    regroup (codes "edges " ++ decimal listed.edges ++ codes " threads " ++ decimal listed.threads) (rows_text 5 listed.edges edges) (rows_text 2 listed.threads threads)

pub returns-in_err-print_pair-in-Ok-clause-err : goal.returns-in_err-print_pair-in-Ok-clause-err
returns-in_err-print_pair-in-Ok-clause-err g c = rw c.in-Ok.is
    (on_err _ (part-of_front _ _ _ _ _ (line_first c.in-Ok.listed c.args.edges.now c.args.threads.now) c.in_err-print_pair-in-Ok.ensures.err))

pub returns-in_ok-print_pair-in-Ok-clause-err : goal.returns-in_ok-print_pair-in-Ok-clause-err
returns-in_ok-print_pair-in-Ok-clause-err g c = rw c.in-Ok.is
    (err-behind_same _ _ _ _ _ _ _ (line_first c.in-Ok.listed c.args.edges.now c.args.threads.now) c.in_ok-print_pair-in-Ok.ensures.ok c.write_tables.ensures.err)
