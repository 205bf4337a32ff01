-- Each turn writes the first of the rows that are left.
use Rattle.std.proofs.Common.{rules, arith, ◌≡◌, ℕ, zero, suc, ◌+◌, ◌-◌, ◌<◌, ◌≤◌, length, true, false, nat_lt, List, [], ◌∷◌, ◌++◌, take, drop, if◌then◌else◌, sym, ap, ◌∙◌, subst, append_assoc, append-nil}
use Rattle.std.specs.declared.option.Option.{Option}
use Rattle.std.specs.Io.KnownBytes.{Appends}
use Rattle.std.proofs.KnownBytes.{Appends-trans}
use Rattle.console.specs.Lines.{row_text, rows_text}
use Rattle.console.proofs.Parts.{on_err, part-of_piece}
use Rattle.console.proofs.lines.print_rows.Goals as goal

none_left : (width n i : ℕ) (rest : List ℕ) → n ≤ i → rows_text width (n - i) rest ≡ []
unfolding rows_text
none_left width n i rest over =
    let none : n - i ≡ zero = omega arith in
    ap (λ k. rows_text width k rest) none

too_short : (width n i : ℕ) (rest : List ℕ) → i < n → nat_lt (length rest) width ≡ true → rows_text width (n - i) rest ≡ []
unfolding rows_text
too_short width n i rest more short =
    let next : n - i ≡ suc (n - (i + 1)) = omega arith in
    ap (λ k. rows_text width k rest) next
    ∙ ap (λ b. if b then [] else (row_text (take width rest) ++ 10 ∷ rows_text width (n - (i + 1)) (drop width rest))) short

first_row : (width n i : ℕ) (rest : List ℕ) → i < n → nat_lt (length rest) width ≡ false
    → rows_text width (n - i) rest ≡ row_text (take width rest) ++ 10 ∷ rows_text width (n - (i + 1)) (drop width rest)
unfolding rows_text
first_row width n i rest more long =
    let next : n - i ≡ suc (n - (i + 1)) = omega arith in
    ap (λ k. rows_text width k rest) next
    ∙ ap (λ b. if b then [] else (row_text (take width rest) ++ 10 ∷ rows_text width (n - (i + 1)) (drop width rest))) long

-- what was written before a row, the row, and the rows behind it
row_moved : (width n i : ℕ) (rest row behind done all : List ℕ) → i < n → nat_lt (length rest) width ≡ false → row ≡ take width rest → behind ≡ drop width rest
    → done ++ rows_text width (n - i) rest ≡ all → (done ++ (row_text row ++ 10 ∷ [])) ++ rows_text width (n - (i + 1)) behind ≡ all
row_moved width n i rest row behind done all more long front back so_far =
    append_assoc done (row_text row ++ 10 ∷ []) _
    ∙ ap (λ t. done ++ t)
    (append_assoc (row_text row) (10 ∷ []) _
    ∙ ap (λ xs. row_text xs ++ 10 ∷ rows_text width (n - (i + 1)) behind) front
    ∙ ap (λ xs. row_text (take width rest) ++ 10 ∷ rows_text width (n - (i + 1)) xs) back
    ∙ sym (first_row width n i rest more long))
    ∙ so_far

all_written : (a b : Option (List ℕ)) (done rest all : List ℕ) → Appends a b done → rest ≡ [] → done ++ rest ≡ all → Appends a b all
all_written a b done rest all written none so_far = subst (Appends a b) (sym (append-nil done) ∙ ap (λ t. done ++ t) (sym none) ∙ so_far) written

pub returns-then-rest-width-clause-ok : goal.returns-then-rest-width-clause-ok
returns-then-rest-width-clause-ok g c =
    let none = too_short c.args.width c.args.rows c.loop-row._row c.loop-row.rest.now (search rules) (search rules) in
    all_written _ _ _ _ _ c.loop-row.invariant.1 none c.loop-row.invariant.2

pub returns-in_err-print_row-clause-err : goal.returns-in_err-print_row-clause-err
returns-in_err-print_row-clause-err g c =
    let moved = row_moved c.args.width c.args.rows c.loop-row._row c.loop-row.rest.now c.split_at.result.0.now c.split_at.result.1.now c.loop-row.invariant.0 _
    (search rules) (search rules) c.split_at.ensures.front c.split_at.ensures.back c.loop-row.invariant.2 in
    on_err _ (part-of_piece _ _ _ _ _ _ _ (sym moved) c.loop-row.invariant.1 c.in_err-print_row.ensures.err)

pub loop-row-preserved : goal.loop-row-preserved
loop-row-preserved g c =
    let moved = row_moved c.args.width c.args.rows c.loop-row._row c.loop-row.rest.now c.split_at.result.0.now c.split_at.result.1.now c.loop-row.invariant.0 _
    (search rules) (search rules) c.split_at.ensures.front c.split_at.ensures.back c.loop-row.invariant.2 in
    (_, Appends-trans _ _ _ _ _ c.loop-row.invariant.1 c.in_ok-print_row.ensures.ok, moved)

pub returns-clause-ok : goal.returns-clause-ok
returns-clause-ok g c =
    let none = none_left c.args.width c.args.rows c.loop-row._row c.loop-row.rest.now (search rules) in
    all_written _ _ _ _ _ c.loop-row.invariant.1 none c.loop-row.invariant.2
