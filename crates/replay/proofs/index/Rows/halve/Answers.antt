use mathlib.Core.Path.{◌≡◌, refl, sym, ap, ◌∙◌}
use native.Mathlib.Omega.{arith}
use Prim.Native.Nat.{ℕ, suc, ◌+◌, ◌-◌, ◌/◌, ◌<◌}
use lib.ListN.{get_or}
use Rattle.std.specs.Prelude.{Ok}
use Rattle.replay.specs.Index.{id_of, halved, Told}
use Rattle.replay.specs.Private.{rows_in}
use Rattle.replay.proofs.Rows.{length-rows_in}
use Rattle.replay.proofs.Indexing.{paid, half, shown-id, in-index, halved-over, halved-hit, halved-up, halved-down, told-row, told-none}
use Rattle.replay.proofs.index.Rows.halve.Goals as goal

pub loop-low-init : goal.loop-low-init
loop-low-init c = (omega arith, omega arith, omega (arith, c.requires.1), refl)

pub overflow_sub-place : goal.overflow_sub-place
overflow_sub-place c = omega (arith, c.loop-low.invariant.0)

pub overflow_add-place : goal.overflow_add-place
overflow_add-place c =
    let below : (c.loop-low.low + (c.loop-low.high - c.loop-low.low) / 2) < c.args.self.now.count = omega (arith, c.loop-low.invariant.1) in
    omega (arith, below, c.requires.0.few)

pub offset_bounds-self-place : goal.offset_bounds-self-place
offset_bounds-self-place c =
    let below : (c.loop-low.low + (c.loop-low.high - c.loop-low.low) / 2) < c.args.self.now.count = omega (arith, c.loop-low.invariant.1) in
    omega (arith, below, c.requires.0.few)

pub bounds-self-place : goal.bounds-self-place
bounds-self-place c =
    let below : (c.loop-low.low + (c.loop-low.high - c.loop-low.low) / 2) < c.args.self.now.count = omega (arith, c.loop-low.invariant.1) in
    omega (arith, below, c.requires.0.few, c.requires.0.wide)

pub look-seen-requires : goal.look-seen-requires
look-seen-requires c =
    let below : (c.loop-low.low + (c.loop-low.high - c.loop-low.low) / 2) < c.args.self.now.count = omega (arith, c.loop-low.invariant.1) in
    let among : (get_or c.args.self.now.index.now (c.loop-low.low + (c.loop-low.high - c.loop-low.low) / 2) 0) < c.args.self.now.count = in-index c.args.self.now.count c.args.self.now.cells.now c.args.self.now.index.now (c.loop-low.low + (c.loop-low.high - c.loop-low.low) / 2) c.requires.0.indexed below in (
      paid c.loop-low.budget (c.loop-low.high - c.loop-low.low) (omega (arith, c.loop-low-test.true)) c.loop-low.invariant.2,
      omega (arith, among, c.requires.0.few, c.requires.0.long),
    )

pub returns-then-seen-id-clause-told : goal.returns-then-seen-id-clause-told
returns-then-seen-id-clause-told c =
    let below : (c.loop-low.low + (c.loop-low.high - c.loop-low.low) / 2) < c.args.self.now.count = omega (arith, c.loop-low.invariant.1) in
    let among : (get_or c.args.self.now.index.now (c.loop-low.low + (c.loop-low.high - c.loop-low.low) / 2) 0) < c.args.self.now.count = in-index c.args.self.now.count c.args.self.now.cells.now c.args.self.now.index.now (c.loop-low.low + (c.loop-low.high - c.loop-low.low) / 2) c.requires.0.indexed below in
    let shown : id_of (rows_in c.args.self.now.count c.args.self.now.cells.now) (get_or c.args.self.now.index.now (c.loop-low.low + (c.loop-low.high - c.loop-low.low) / 2) 0) ≡ c.look-seen.result = shown-id c.args.self.now.count c.args.self.now.cells.now (get_or c.args.self.now.index.now (c.loop-low.low + (c.loop-low.high - c.loop-low.low) / 2) 0) c.look-seen.result among c.look-seen.ensures.shown in
    let spent : suc c.look-seen.new.budget ≡ c.loop-low.budget = omega (arith, c.look-seen.ensures.paid) in
    let on : _ ≡ halved c.args.budget.now (rows_in c.args.self.now.count c.args.self.now.cells.now) c.args.self.now.index.now c.args.id 0 c.args.self.now.count = sym (halved-hit (rows_in c.args.self.now.count c.args.self.now.cells.now) c.args.self.now.index.now _ c.loop-low.low c.loop-low.high _ (omega (arith, c.loop-low-test.true)) (shown ∙ c.if-seen-id.true)) ∙ ap (λ (left : ℕ). halved left (rows_in c.args.self.now.count c.args.self.now.cells.now) c.args.self.now.index.now c.args.id c.loop-low.low c.loop-low.high) spent ∙ c.loop-low.invariant.3 in
    let told : Told (rows_in c.args.self.now.count c.args.self.now.cells.now) (halved c.args.budget.now (rows_in c.args.self.now.count c.args.self.now.cells.now) c.args.self.now.index.now c.args.id 0 c.args.self.now.count) (Ok (get_or c.args.self.now.index.now (c.loop-low.low + (c.loop-low.high - c.loop-low.low) / 2) 0)) c.look-seen.new.budget = told-row _ _ _ _ _ on (omega (arith, among, length-rows_in c.args.self.now.count c.args.self.now.cells.now)) in
    record { same = told.same; rest = omega (arith, told.rest) }

pub returns-then-seen-id-clause-within : goal.returns-then-seen-id-clause-within
returns-then-seen-id-clause-within c =
    in-index c.args.self.now.count c.args.self.now.cells.now c.args.self.now.index.now (c.loop-low.low + (c.loop-low.high - c.loop-low.low) / 2) c.requires.0.indexed (omega (arith, c.loop-low.invariant.1))

pub overflow_add-low : goal.overflow_add-low
overflow_add-low c =
    let below : (c.loop-low.low + (c.loop-low.high - c.loop-low.low) / 2) < c.args.self.now.count = omega (arith, c.loop-low.invariant.1) in
    omega (arith, below, c.requires.0.few)

pub loop-low-smaller-then-seen-id-2 : goal.loop-low-smaller-then-seen-id-2
loop-low-smaller-then-seen-id-2 c = omega arith

pub loop-low-preserved-then-seen-id-2 : goal.loop-low-preserved-then-seen-id-2
loop-low-preserved-then-seen-id-2 c =
    let below : (c.loop-low.low + (c.loop-low.high - c.loop-low.low) / 2) < c.args.self.now.count = omega (arith, c.loop-low.invariant.1) in
    let among : (get_or c.args.self.now.index.now (c.loop-low.low + (c.loop-low.high - c.loop-low.low) / 2) 0) < c.args.self.now.count = in-index c.args.self.now.count c.args.self.now.cells.now c.args.self.now.index.now (c.loop-low.low + (c.loop-low.high - c.loop-low.low) / 2) c.requires.0.indexed below in
    let shown : id_of (rows_in c.args.self.now.count c.args.self.now.cells.now) (get_or c.args.self.now.index.now (c.loop-low.low + (c.loop-low.high - c.loop-low.low) / 2) 0) ≡ c.look-seen.result = shown-id c.args.self.now.count c.args.self.now.cells.now (get_or c.args.self.now.index.now (c.loop-low.low + (c.loop-low.high - c.loop-low.low) / 2) 0) c.look-seen.result among c.look-seen.ensures.shown in
    let spent : suc c.look-seen.new.budget ≡ c.loop-low.budget = omega (arith, c.look-seen.ensures.paid) in
    let on : _ ≡ halved c.args.budget.now (rows_in c.args.self.now.count c.args.self.now.cells.now) c.args.self.now.index.now c.args.id 0 c.args.self.now.count = sym (halved-up (rows_in c.args.self.now.count c.args.self.now.cells.now) c.args.self.now.index.now _ c.loop-low.low c.loop-low.high _ (omega (arith, c.loop-low-test.true)) (omega (arith, shown, c.if-seen-id-2.true))) ∙ ap (λ (left : ℕ). halved left (rows_in c.args.self.now.count c.args.self.now.cells.now) c.args.self.now.index.now c.args.id c.loop-low.low c.loop-low.high) spent ∙ c.loop-low.invariant.3 in (
      omega arith,
      c.loop-low.invariant.1,
      half c.loop-low.budget c.look-seen.new.budget (c.loop-low.high - c.loop-low.low) _ c.look-seen.ensures.paid c.loop-low.invariant.2 (omega arith),
      on,
    )

pub loop-low-smaller : goal.loop-low-smaller
loop-low-smaller c = omega arith

pub loop-low-preserved : goal.loop-low-preserved
loop-low-preserved c =
    let below : (c.loop-low.low + (c.loop-low.high - c.loop-low.low) / 2) < c.args.self.now.count = omega (arith, c.loop-low.invariant.1) in
    let among : (get_or c.args.self.now.index.now (c.loop-low.low + (c.loop-low.high - c.loop-low.low) / 2) 0) < c.args.self.now.count = in-index c.args.self.now.count c.args.self.now.cells.now c.args.self.now.index.now (c.loop-low.low + (c.loop-low.high - c.loop-low.low) / 2) c.requires.0.indexed below in
    let shown : id_of (rows_in c.args.self.now.count c.args.self.now.cells.now) (get_or c.args.self.now.index.now (c.loop-low.low + (c.loop-low.high - c.loop-low.low) / 2) 0) ≡ c.look-seen.result = shown-id c.args.self.now.count c.args.self.now.cells.now (get_or c.args.self.now.index.now (c.loop-low.low + (c.loop-low.high - c.loop-low.low) / 2) 0) c.look-seen.result among c.look-seen.ensures.shown in
    let spent : suc c.look-seen.new.budget ≡ c.loop-low.budget = omega (arith, c.look-seen.ensures.paid) in
    let on : _ ≡ halved c.args.budget.now (rows_in c.args.self.now.count c.args.self.now.cells.now) c.args.self.now.index.now c.args.id 0 c.args.self.now.count = sym (halved-down (rows_in c.args.self.now.count c.args.self.now.cells.now) c.args.self.now.index.now _ c.loop-low.low c.loop-low.high _ (omega (arith, c.loop-low-test.true)) (omega (arith, shown, c.if-seen-id-2.false, c.if-seen-id.false))) ∙ ap (λ (left : ℕ). halved left (rows_in c.args.self.now.count c.args.self.now.cells.now) c.args.self.now.index.now c.args.id c.loop-low.low c.loop-low.high) spent ∙ c.loop-low.invariant.3 in (
      omega arith,
      omega (arith, c.loop-low.invariant.1),
      half c.loop-low.budget c.look-seen.new.budget (c.loop-low.high - c.loop-low.low) _ c.look-seen.ensures.paid c.loop-low.invariant.2 (omega arith),
      on,
    )

pub returns-clause-told : goal.returns-clause-told
returns-clause-told c = told-none _ _ _ _
    (sym (halved-over (rows_in c.args.self.now.count c.args.self.now.cells.now) c.args.self.now.index.now _ c.loop-low.low c.loop-low.high c.loop-low.budget (omega (arith, c.loop-low-test.false)))
    ∙ c.loop-low.invariant.3)
