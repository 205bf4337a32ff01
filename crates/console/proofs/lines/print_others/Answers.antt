-- Where a number was not written whole, the numbers before it were.
use Rattle.std.proofs.Common.{◌≡◌, ℕ, ◌+◌, ◌<◌, List, [], ◌∷◌, ◌++◌, length, take, drop, get_or, flat_map, rules, sym, ap, ◌∙◌, append-nil, take-append-drop}
use Rattle.std.proofs.lemmas.Grind.{flat_map-append}
use Rattle.std.proofs.lemmas.List.{take_more}
use Rattle.console.specs.Lines.{spaced}
use Rattle.console.proofs.Parts.{on_err, part-of_piece}
use Rattle.console.proofs.lines.print_others.Goals as goal

flat_map-split : (f : ℕ → List ℕ) (xs : List ℕ) (i : ℕ) → i < length xs → flat_map f xs ≡ (flat_map f (take i xs) ++ f (get_or xs i 0)) ++ flat_map f (drop (i + 1) xs)
flat_map-split f xs i more =
    let behind = flat_map f (drop (i + 1) xs) in
    ap (flat_map f) (sym (take-append-drop (i + 1) xs)) ∙ flat_map-append f (take (i + 1) xs) (drop (i + 1) xs)
    ∙ ap (λ l. flat_map f l ++ behind) (take_more xs i 0 more)
    ∙ ap (λ l. l ++ behind) (flat_map-append f (take i xs) (get_or xs i 0 ∷ []) ∙ ap (λ l. flat_map f (take i xs) ++ l) (append-nil (f (get_or xs i 0))))

pub returns-in_err-print_spaced-clause-err : goal.returns-in_err-print_spaced-clause-err
returns-in_err-print_spaced-clause-err g c =
    on_err _ (part-of_piece _ _ _ _ _ _ _ (flat_map-split spaced c.args.numbers.now c.loop-number.number-index (search rules)) c.loop-number.invariant c.in_err-print_spaced.ensures.err)
