use Rattle.std.proofs.Common.{ℕ, List, ◌≡◌, ◌+◌, ◌-◌, ◌≤◌, true, length, drop, refl, sym, ◌∙◌, subst, arith, ap}
use Rattle.fdr.specs.declared.record.Record.{Record}
use Rattle.replay.specs.Row.{cells, table_of}
use Rattle.replay.specs.Index.{Indexed}
use Rattle.replay.specs.Private.{rows_in, Answered, Orders}
use Rattle.replay.specs.State.{viewed, table_sound, Advanced}
use Rattle.replay.specs.Stream.{Stream, fed, stop}
use Rattle.replay.specs.Sound.{Sound}
use Rattle.replay.specs.Feeding.{Finds, Sees}
use Rattle.replay.specs.Packing.{Readable, calls_of, counts_in, Enters, TakenIn}
use Rattle.replay.specs.declared.calls.Calls.{Calls}
use Rattle.replay.specs.declared.calls.Counts.{Counts}
use Rattle.replay.specs.declared.reads.Way.{Way}
use Rattle.replay.specs.declared.reads.Sight.{Sight}
use Rattle.refusal.specs.declared.fault.Fault.{Fault}
use Rattle.std.specs.Prelude.{Ok, Err}
use Rattle.replay.specs.declared.stream.Stream as code
use Rattle.replay.specs.declared.stream.Fed.{Fed}
use Rattle.replay.proofs.CheckingState.{parts, state-going, advanced-as}
use Rattle.replay.proofs.Widths.{Wide, wide}
use Rattle.replay.proofs.Taking.{stops}
use Rattle.std.proofs.lemmas.Result.{err_from_is_err_and}
use Rattle.refusal.specs.Refusal.{number_of}
use Rattle.replay.proofs.Reading.{coming, comes-sound, first_holds, first-whole, first-kept, no_call, advanced-kept, more-advanced, is-stopped, reading-taken, is-refused, space, reading-act, reading-as}
use Rattle.replay.proofs.Holding.{same_length}
use Rattle.replay.proofs.feed.take_in.Goals as goal

-- The way into the read is found: what the read comes to, and what it is to come to.
module _ {x : code.Stream} {read : List ℕ} {from : ℕ} (t : List ℕ) (p : Readable x read from × (cells ≤ length t) × (table_sound x t ≡ true)) (a : Wide x) {w : Way} (e : Enters x read from w)
    {d : Calls} {k : Counts} {v : List ℕ} (calls : d ≡ calls_of x) (counts : k ≡ counts_in x) (table : v ≡ table_of (rows_in x.rows t) t) where
  same : coming (x.offset - from) read w x.held d k v ≡ fed (viewed x t) (drop from read)
  same = first-whole x read from t p.0 p.1 p.2 a w e d k v calls counts table

  sound : Sound (x.offset - from + length read) (coming (x.offset - from) read w x.held d k v)
  sound = subst (Sound (x.offset - from + length read)) (sym same) (comes-sound x read from t p.0 p.1 p.2 a)

  -- An answer for the table at the loop is one for the table that was lent.
  answered : (u : List ℕ) (y : Stream) (r : Fed) (z : List ℕ) → drop cells u ≡ drop cells v → y ≡ coming (x.offset - from) read w x.held d k v → Advanced y u r z → Advanced (fed (viewed x t) (drop from read)) t r z
  answered u y r z n q h = advanced-as _ _ _ _ _ (q ∙ same) (advanced-kept y u _ r z (n ∙ first-kept x read from t p.0 p.1 p.2 a v table) h)

  stopped : (u : List ℕ) (f : Fault) → drop cells u ≡ drop cells v → coming (x.offset - from) read w x.held d k v ≡ stop (number_of f.refusal) f.place → TakenIn (fed (viewed x t) (drop from read)) t (Err f) u
  stopped u f n q = (sym same ∙ q, n ∙ first-kept x read from t p.0 p.1 p.2 a v table)

pub clear_behind-requires : goal.clear_behind-requires
clear_behind-requires c =
    let p = c.requires in
    ((parts _ (state-going _ p.0.on p.0.low ∙ p.0.sound)).counts.few, p.1)

pub loop-last-init : goal.loop-last-init
loop-last-init c =
    let p = c.requires in
    let a = wide c.args.x _ c.well_formed.0 in
    let h = first_holds _ _ _ _ p.0 p.1 p.2 a _ c.way_of-way.ensures _ _ _ c.calls_of-calls.ensures c.counts_of-counts.ensures c.clear_behind.ensures c.clear_behind.auto.table in
    (h.0, h.1, a.index, a.cache)

pub returns-in_err-last : goal.returns-in_err-last
returns-in_err-last c =
    let base = c.args.x.offset - c.args.from in
    let read = c.args.read.now in
    let l = c.loop-last in
    let p = err_from_is_err_and c.from_residual.result c.from_residual.ensures.1 in
    rw (p.1, p.2) (stopped c.args.table.now c.requires (wide c.args.x _ c.well_formed.0) c.way_of-way.ensures c.calls_of-calls.ensures c.counts_of-counts.ensures c.clear_behind.ensures c.loop-last.table c.in_err-last.field-0.0 l.invariant.0.kept (is-stopped _ _ _ _ _ _ _ _ _ l.invariant.0 _ _ c.in_err-last.ensures))

pub returns-in-More : goal.returns-in-More
returns-in-More c =
    let base = c.args.x.offset - c.args.from in
    let read = c.args.read.now in
    let l = c.loop-last in
    let p = c.requires.0 in
    let wants = subst (λ (z : Sight). Sees base read l.held l.way (Ok z) c.look.new.held) c.in-More.is c.in_ok-last.ensures in
    answered c.args.table.now c.requires (wide c.args.x _ c.well_formed.0) c.way_of-way.ensures c.calls_of-calls.ensures c.counts_of-counts.ensures c.clear_behind.ensures _ _ _ _ refl refl
    (more-advanced _ _ _ _ _ _ _ _ _ l.invariant.0 _ _ wants _ _ _ (omega (arith, p.low, p.within, p.base))
    (sound c.args.table.now c.requires (wide c.args.x _ c.well_formed.0) c.way_of-way.ensures c.calls_of-calls.ensures c.counts_of-counts.ensures c.clear_behind.ensures) l.invariant.1 _ c.pack.ensures)

pub returns-in-Err : goal.returns-in-Err
returns-in-Err c =
    let base = c.args.x.offset - c.args.from in
    let read = c.args.read.now in
    let l = c.loop-last in
    let finds = subst (λ (z : Sight). Sees base read l.held l.way (Ok z) c.look.new.held) c.in-Found.is c.in_ok-last.ensures in
    let call = subst (λ (r : Record). Finds base read l.held l.way r c.in-Found.place c.in-Found.next c.look.new.held) c.in-Function.is finds in
    let acted = (c.call.ensures.called _ l.invariant.0.held).0 in
    stopped c.args.table.now c.requires (wide c.args.x _ c.well_formed.0) c.way_of-way.ensures c.calls_of-calls.ensures c.counts_of-counts.ensures c.clear_behind.ensures c.in-Err.table-in-Err-1-own.given.0 c.at.result (ap (drop cells) (c.in-Err.table-in-Err-1-own.given.1.1 (sym c.call.ensures.loans.cells)) ∙ acted.kept ∙ l.invariant.0.kept) (is-refused _ _ _ _ _ _ _ _ _ l.invariant.0 _ _ _ _ _ _ call _ _ _ acted _ c.in-Err.is ∙ sym (stops c.at.ensures))

pub follow-requires : goal.follow-requires
follow-requires c =
    let base = c.args.x.offset - c.args.from in
    let read = c.args.read.now in
    let l = c.loop-last in
    let finds = subst (λ (z : Sight). Sees base read l.held l.way (Ok z) c.look.new.held) c.in-Found.is c.in_ok-last.ensures in
    let call = subst (λ (r : Record). Finds base read l.held l.way r c.in-Found.place c.in-Found.next c.look.new.held) c.in-Function.is finds in
    let acted = (c.call.ensures.called _ l.invariant.0.held).0 in
    space _ _ _ _ _ _ _ _ _ l.invariant.0 _ _ _ _ _ _ call _ _ _ acted _ c.in-Ok.is

pub loop-last-preserved-in-Function : goal.loop-last-preserved-in-Function
loop-last-preserved-in-Function c =
    let base = c.args.x.offset - c.args.from in
    let read = c.args.read.now in
    let l = c.loop-last in
    let finds = subst (λ (z : Sight). Sees base read l.held l.way (Ok z) c.look.new.held) c.in-Found.is c.in_ok-last.ensures in
    let call = subst (λ (r : Record). Finds base read l.held l.way r c.in-Found.place c.in-Found.next c.look.new.held) c.in-Function.is finds in
    let called = c.call.ensures.called _ l.invariant.0.held in
    rw (c.table-in-Function-1.given.1.1 (sym c.call.ensures.loans.cells), c.index-in-Function-2-1.given.1.1 (sym c.call.ensures.loans.index), c.cache-in-Function-2-1.given.1.1 (sym c.call.ensures.loans.cache)) (
      reading-as _ _ _ _ _ _ _ _ _ _ _ c.follow.ensures c.call-counts.ensures
          (reading-act _ _ _ _ _ _ _ _ _ l.invariant.0 _ _ _ _ _ _ call _ _ _ called.0 (same_length _ _ called.0.kept l.invariant.0.held.long c.call.new.rows.long) _ c.in-Ok.is),
      subst (λ (y : Counts). Indexed (rows_in y.rows c.call.new.rows.cells.now) c.call.new.rows.index.now) (sym c.call-counts.ensures)
          (subst (λ (a : Answered). Orders c.call.new.rows.count a c.call.new.rows.cells.now c.call.new.rows.index.now) c.in-Ok.is called.1),
      c.call.new.rows.wide,
      c.call.new.rows.places,
    )

pub loop-last-preserved : goal.loop-last-preserved
loop-last-preserved c =
    let base = c.args.x.offset - c.args.from in
    let read = c.args.read.now in
    let l = c.loop-last in
    let finds = subst (λ (s : Sight). Sees base read l.held l.way (Ok s) c.look.new.held) c.in-Found.is c.in_ok-last.ensures in (
      reading-as _ _ _ _ _ _ _ _ _ _ _ c.take-calls.ensures c.take-counts.ensures
          (reading-taken _ _ _ _ _ _ _ _ _ l.invariant.0 _ _ _ _ finds (no_call c.in-Found.record c.in-Found.next.at c.in_default.not-Function)),
      subst (λ (y : Counts). Indexed (rows_in y.rows l.table) l.index) (sym c.take-counts.ensures) l.invariant.1,
      l.invariant.2,
      l.invariant.3,
    )
