use Rattle.transitions.proofs.Halving.{matched-nothing, matched-last, last-misses}
use Rattle.transitions.proofs.Adjoining.{run-good}
use Rattle.transitions.specs.Key.{IsRow, Place}
use lib.ListN.{get_or}
use Prim.Native.Nat.{ℕ}
use mathlib.Core.Path.{sym, ◌∙◌, subst}
use native.Mathlib.Omega.{arith}
use Rattle.transitions.proofs.indexed.Index.last_match.Goals as goal

pub returns-in_err-last : goal.returns-in_err-last
returns-in_err-last c = let q = c.requires.indexed in
    rw c.from_residual.ensures (matched-nothing c.args.self.table.now c.args.self.places.now c.args.edge c.args.bits.now q.1 q.0.free c.args.up c.requires.halved (λ pos. absurd (c.in_err-last.ensures (omega arith))))

pub whole-row-requires : goal.whole-row-requires
unfolding Place
whole-row-requires c = let q = c.requires.indexed in let z = c.in_ok-last.ensures in
    (run-good c.args.self.table.now c.args.self.places.now q.1 q.0.sound c.in_ok-last.last (omega (arith, c.requires.halved.within, z))).within

pub returns-then-matches : goal.returns-then-matches
returns-then-matches c = let q = c.requires.indexed in let z = c.in_ok-last.ensures in
    matched-last c.args.self.table.now c.args.self.places.now c.args.edge c.args.bits.now q.1 q.0.free c.args.up c.requires.halved c.whole-row.result (subst (λ (n : ℕ). IsRow c.args.self.table.now (get_or c.args.self.places.now n 0) c.whole-row.result) z.1 c.whole-row.ensures) q.0.sound (omega arith) (sym c.matches.ensures ∙ c.if-matches.true)

pub returns-else-matches : goal.returns-else-matches
returns-else-matches c = let q = c.requires.indexed in let z = c.in_ok-last.ensures in
    last-misses c.args.self.table.now c.args.self.places.now c.args.edge c.args.bits.now q.1 q.0.free c.args.up c.requires.halved c.whole-row.result (subst (λ (n : ℕ). IsRow c.args.self.table.now (get_or c.args.self.places.now n 0) c.whole-row.result) z.1 c.whole-row.ensures) (sym c.matches.ensures ∙ c.if-matches.false)
