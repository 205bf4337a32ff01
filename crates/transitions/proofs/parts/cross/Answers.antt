use Rattle.transitions.specs.Index.{Pair, Free, held_of}
use Rattle.transitions.specs.Table.{places}
use Rattle.transitions.proofs.Parting.{crossing-found, crossing-turn, crossing-end, part-back}
use lib.Seq.{length-take-le}
use mathlib.Core.List.{List, ◌++◌}
use lib.ListN.{length, take, drop, length-append, length-drop}
use Prim.Native.Nat.{ℕ, ◌/◌}
use mathlib.Core.Path.{◌≡◌, sym, ap, ◌∙◌, subst}
use native.Mathlib.Omega.{arith}
use Rattle.transitions.proofs.parts.cross.Goals as goal

module _ (t : List ℕ) (p next : ℕ) (x y : List ℕ) (front : length y ≡ length (take (length x / 2) x)) where
  half : length y ≡ length x / 2
  half = front ∙ length-take-le (length x / 2) x (omega arith)

  -- The places behind half of them are as they were, so there is as much room as before.
  halves : length (y ++ drop (length x / 2) x) ≡ length x
  halves = omega (arith, half, length-append y (drop (length x / 2) x), length-drop (length x / 2) x)

  rest : places t next ≡ drop (length y) (places t p) → places t next ≡ drop (length (y ++ drop (length x / 2) x) / 2) (places t p)
  rest e = e ∙ ap (λ (n : ℕ). drop n (places t p)) (half ∙ ap (λ (n : ℕ). n / 2) (sym halves))

pub returns-in_err-q : goal.returns-in_err-q
returns-in_err-q c = let t = c.args.table.now in let l = c.loop-q in
    rw c.from_residual.ensures (crossing-found t c.args.p _ l.q l.invariant.0 (subst (λ (k : ℕ). Pair t (held_of t c.args.p l.q k)) l.invariant.1 c.in_err-q.ensures))

pub returns-then-table-q : goal.returns-then-table-q
returns-then-table-q c = let t = c.args.table.now in let l = c.loop-q in let n = c.note-front in
    let e = rest t c.args.p n.result.next c.args.places.now n.new.places n.auto.places n.ensures.rest in
    record {
      behind = λ h. subst (λ (k : List ℕ). Pair t k) (sym e) (crossing-end t c.args.p _ l.q l.invariant.0 c.in_ok-q.q (subst (λ (k : ℕ). Free t c.args.p l.q k c.in_ok-q.q) l.invariant.1 c.in_ok-q.ensures) c.if-table-q.true h);
      back = part-back t c.args.p _ n.result.next e;
      onward = record { sound = n.ensures.sound; after = n.ensures.onward; ahead = λ h. n.ensures.ahead h (omega (arith, half t c.args.p n.result.next c.args.places.now n.new.places n.auto.places, c.requires.1)) };
    }

pub loop-q-smaller : goal.loop-q-smaller
loop-q-smaller c = let h = c.in_ok-q.ensures.onward in omega (arith, h.after, h.ahead (omega (arith, h.after, c.if-table-q.false)), c.if-table-q.false)

pub loop-q-preserved : goal.loop-q-preserved
loop-q-preserved c = let t = c.args.table.now in let l = c.loop-q in
    (crossing-turn t c.args.p _ l.q l.invariant.0 c.in_ok-q.q (subst (λ (k : ℕ). Free t c.args.p l.q k c.in_ok-q.q) l.invariant.1 c.in_ok-q.ensures), c.hold.auto.places ∙ l.invariant.1)
