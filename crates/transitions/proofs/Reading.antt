-- A row, read part by part from what stands from its place on. Assumes nothing.
use Rattle.std.proofs.Common.{◌≡◌, ◌<◌, ◌≤◌, length, ℕ, ◌+◌, ◌-◌, min, List, ◌∷◌, get_or, take, drop, sym, ap, ap₂, ◌∙◌, arith, length-drop}
use Rattle.std.proofs.lemmas.List.{take_rest, take_min, get_or-drop, drop-drop}
use Rattle.transitions.specs.Table.{code_length, list_at, list_length, behind, code_at}
use Rattle.transitions.specs.Key.{IsRow}
use Rattle.transitions.specs.declared.rows.Row.{Row}

module _ (t s : List ℕ) (p : ℕ) (within : p ≤ length t) (is : s ≡ take (length t - p) (drop p t)) where
  from-place : s ≡ drop p t
  from-place = is ∙ take_rest t p

  long : length s + p ≡ length t
  long = omega (arith, ap length from-place, length-drop p t)

  number : (k : ℕ) → get_or s k 0 ≡ get_or t (p + k) 0
  number k = ap (λ (l : List ℕ). get_or l k 0) from-place ∙ get_or-drop p t k 0

  first : get_or s 0 0 ≡ get_or t p 0
  first = let e : p + 0 ≡ p = omega arith in number 0 ∙ ap (λ (k : ℕ). get_or t k 0) e

  behind-two : take (length s - 2) (drop 2 s) ≡ drop (p + 2) t
  behind-two = take_rest s 2 ∙ ap (drop 2) from-place ∙ drop-drop 2 p t

  -- A code is read as far as the table goes.
  pub code-cut : (n : ℕ) → n ≡ min (get_or s 1 0) (length (take (length s - 2) (drop 2 s))) → take n (take (length s - 2) (drop 2 s)) ≡ code_at t p
  code-cut n h = let rest : List ℕ = take (length s - 2) (drop 2 s) in
      ap (λ (k : ℕ). take k rest) h ∙ take_min (get_or s 1 0) rest ∙ ap₂ take (number 1) behind-two

  module _ (code rest : List ℕ) (code-is : code ≡ take (get_or s 1 0) (take (length s - 2) (drop 2 s)))
      (rest-is : rest ≡ drop (get_or s 1 0) (take (length s - 2) (drop 2 s))) (two : 2 ≤ length s)
      (fits : get_or s 1 0 ≤ length (take (length s - 2) (drop 2 s)))
      (count : ℕ) (list : List ℕ) (split : rest ≡ count ∷ list) where
    size : get_or s 1 0 ≡ code_length t p
    size = number 1

    pub code-read : code ≡ code_at t p
    code-read = code-is ∙ ap₂ take size behind-two

    rest-from : rest ≡ drop (list_at t p) t
    rest-from = rest-is ∙ ap₂ drop size behind-two ∙ drop-drop (code_length t p) (p + 2) t

    pub count-read : count ≡ list_length t p
    count-read = let e : list_at t p + 0 ≡ list_at t p = omega arith in
        ap (λ (l : List ℕ). get_or l 0 0) (sym split ∙ rest-from) ∙ get_or-drop (list_at t p) t 0 0 ∙ ap (λ (k : ℕ). get_or t k 0) e

    list-from : list ≡ drop (list_at t p + 1) t
    list-from = ap (drop 1) (sym split ∙ rest-from) ∙ drop-drop 1 (list_at t p) t

    room : length list + (list_at t p + 1) ≡ length t
    room =
        omega (arith, ap length split, ap length rest-from, length-drop (list_at t p) t)

    pub cut-off : length list < count → length t < behind t p
    cut-off h = omega (arith, room, count-read)

    pub row-read : (next : List ℕ) → next ≡ take (count - 0) list → count ≤ length list → (r : Row) → r.edge ≡ get_or s 0 0 → r.code.now ≡ code → r.next.now ≡ next
        → r.behind ≡ p + 3 + length code + length next → length code ≡ get_or s 1 0 → length next ≡ count → IsRow t p r
    row-read next e h r re rc rn rb lc ln = record {
      whole = omega (arith, room, count-read);
      edge = re ∙ first;
      code = rc ∙ code-read;
      next = let z : count - 0 ≡ list_length t p = omega (arith, count-read) in rn ∙ e ∙ ap₂ take z list-from;
      behind = omega (arith, rb, lc, ln, size, count-read);
    }
