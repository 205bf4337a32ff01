-- What writes leave that follow each other.
use Rattle.std.proofs.Common.{◌≡◌, ℕ, ◌+◌, List, ◌++◌, length, take, Result, Ok, Err, OnOk, OnErr, sym, subst, arith, length-append}
use Rattle.std.proofs.lemmas.List.{take-append-le}
use Rattle.std.proofs.Math.Seq.{take-append-add}
use Rattle.std.specs.declared.option.Option.{Option}
use Rattle.std.specs.Io.KnownBytes.{Appends}
use Rattle.std.proofs.KnownBytes.{Appends-trans}
use Rattle.console.specs.Output.{AppendsPart}

-- a part of a text's front is a part of the text
pub part-more : (a b : Option (List ℕ)) (xs ys : List ℕ) → AppendsPart a b xs → AppendsPart a b (xs ++ ys)
part-more a b xs ys p = record {
  count = p.count;
  within = omega (arith, p.within, length-append xs ys);
  bytes = subst (Appends a b) (sym (take-append-le p.count xs ys p.within)) p.bytes;
}

-- a text, and then a part of another
pub part-behind : (a b c : Option (List ℕ)) (xs ys : List ℕ) → Appends a b xs → AppendsPart b c ys → AppendsPart a c (xs ++ ys)
part-behind a b c xs ys whole p = record {
  count = length xs + p.count;
  within = omega (arith, p.within, length-append xs ys);
  bytes = subst (Appends a c) (sym (take-append-add xs ys p.count)) (Appends-trans a b c xs (take p.count ys) whole p.bytes);
}

-- a part of a piece that stands at a text's front
pub part-of_front : (a b : Option (List ℕ)) (piece rest text : List ℕ) → text ≡ piece ++ rest → AppendsPart a b piece → AppendsPart a b text
part-of_front a b piece rest text split p = subst (AppendsPart a b) (sym split) (part-more a b piece rest p)

-- what stands before a piece of a text, and then a part of the piece
pub part-of_piece : (a b c : Option (List ℕ)) (front piece rest text : List ℕ) → text ≡ (front ++ piece) ++ rest → Appends a b front → AppendsPart b c piece → AppendsPart a c text
part-of_piece a b c front piece rest text split whole p = part-of_front a c (front ++ piece) rest text split (part-behind a b c front piece whole p)

-- a text, and then a write of another that may have failed
pub err-behind : {T E : Type 0} (r : Result T E) (a b c : Option (List ℕ)) (xs ys : List ℕ) → Appends a b xs → OnErr r (AppendsPart b c ys) → OnErr r (AppendsPart a c (xs ++ ys))
err-behind (Ok x) a b c xs ys whole p = tt
err-behind (Err e) a b c xs ys whole p = part-behind a b c xs ys whole p

-- the same, where the whole is put together otherwise
pub err-behind_same : {T E : Type 0} (r : Result T E) (a b c : Option (List ℕ)) (xs ys text : List ℕ) → text ≡ xs ++ ys → Appends a b xs → OnErr r (AppendsPart b c ys) → OnErr r (AppendsPart a c text)
err-behind_same r a b c xs ys text split whole p = subst (λ t. OnErr r (AppendsPart a c t)) (sym split) (err-behind r a b c xs ys whole p)

-- a text, and then a write of another that may have gone well, where the whole is put together otherwise
pub ok-behind_same : {T E : Type 0} (r : Result T E) (a b c : Option (List ℕ)) (xs ys text : List ℕ) → text ≡ xs ++ ys → Appends a b xs → OnOk r (Appends b c ys) → OnOk r (Appends a c text)
ok-behind_same (Ok x) a b c xs ys text split whole p = subst (Appends a c) (sym split) (Appends-trans a b c xs ys whole p)
ok-behind_same (Err e) a b c xs ys text split whole p = tt

-- what holds anyway holds after an error
pub on_err : {T E P : Type 0} (r : Result T E) → P → OnErr r P
on_err (Ok x) p = tt
on_err (Err e) p = p

-- for functions that write one text behind another
pub ruleset parts = (part-more, part-behind, Appends-trans, err-behind)
