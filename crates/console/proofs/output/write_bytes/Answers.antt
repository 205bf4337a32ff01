-- Each write takes the next bytes.
use Rattle.std.proofs.Common.{ℕ, ◌+◌, ◌-◌, ◌≤◌, ◌≡◌, List, length, take, drop, sym, subst, arith, length-drop}
use Rattle.std.proofs.Math.Seq.{take_all, take-add}
use Rattle.std.specs.declared.option.Option.{Option}
use Rattle.std.specs.Io.KnownBytes.{Appends}
use Rattle.std.proofs.KnownBytes.{Appends-trans}
use Rattle.console.proofs.output.write_bytes.Goals as goal

next-front : (a b c : Option (List ℕ)) (d n : ℕ) (xs : List ℕ) → d ≤ length xs → n ≤ length (take (length xs - d) (drop d xs))
    → Appends a b (take d xs) → Appends b c (take n (take (length xs - d) (drop d xs))) → (d + n ≤ length xs) × Appends a c (take (d + n) xs)
next-front a b c d n xs within fits front more =
    let all : take (length xs - d) (drop d xs) ≡ drop d xs = take_all (length xs - d) (drop d xs) (omega (arith, length-drop d xs)) in
    let left : n ≤ length (drop d xs) = subst (λ l. n ≤ length l) all fits in
    let next : Appends b c (take n (drop d xs)) = subst (λ l. Appends b c (take n l)) all more in
    (omega (arith, left, length-drop d xs), subst (Appends a c) (sym (take-add d n xs)) (Appends-trans a b c (take d xs) (take n (drop d xs)) front next))

pub loop-done-preserved : goal.loop-done-preserved
loop-done-preserved g c = next-front _ _ _ c.loop-done.done c.in_ok-more.more c.args.bytes.now c.loop-done.invariant.0 c.in_ok-more.ensures.bound c.loop-done.invariant.1 c.in_ok-more.ensures.bytes
