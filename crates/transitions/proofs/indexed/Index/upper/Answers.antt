use Rattle.transitions.proofs.Halving.{half-up, half-down, whole-row}
use mathlib.Core.List.{◌∷◌}
use mathlib.Core.Path.{sym, ◌∙◌}
use Prim.Native.Nat.{◌+◌, ◌-◌, ◌/◌}
use native.Mathlib.Omega.{arith}
use Rattle.transitions.proofs.indexed.Index.upper.Goals as goal

pub is_up_to-requires : goal.is_up_to-requires
is_up_to-requires c = let l = c.loop-low in
    whole-row c.args.self.table.now c.args.self.places.now (c.args.edge ∷ c.args.bits.now) c.requires.0 c.requires.1 l.low l.high (l.low + (l.high - l.low) / 2) l.invariant (omega arith) (omega arith)

pub loop-low-preserved-then-is_up_to : goal.loop-low-preserved-then-is_up_to
loop-low-preserved-then-is_up_to c = let l = c.loop-low in
    half-up c.args.self.table.now c.args.self.places.now (c.args.edge ∷ c.args.bits.now) c.requires.0 c.requires.1 l.low l.high (l.low + (l.high - l.low) / 2) l.invariant (omega arith) (omega arith) (sym c.is_up_to.ensures ∙ c.if-is_up_to.true)

pub loop-low-preserved : goal.loop-low-preserved
loop-low-preserved c = let l = c.loop-low in
    half-down c.args.self.table.now c.args.self.places.now (c.args.edge ∷ c.args.bits.now) c.requires.0 c.requires.1 l.low l.high (l.low + (l.high - l.low) / 2) l.invariant (omega arith) (omega arith) (sym c.is_up_to.ensures ∙ c.if-is_up_to.false)
