use mathlib.Core.Path.{sym, ap, ◌∙◌}
use native.Mathlib.Omega.{arith}
use Prim.Native.Nat.{ℕ}
use Rattle.replay.specs.State.{row_at_sound}
use Rattle.replay.proofs.CheckingRows.{rows_stop}
use Rattle.replay.proofs.check_rows.rows_sound.Goals as goal

pub returns-then-not-row_at_sound : goal.returns-then-not-row_at_sound
returns-then-not-row_at_sound c =
    sym (rows_stop _ _ c.loop-k.k _ (omega arith) (ap (λ (n : ℕ). row_at_sound c.args.table.now c.loop-k.k n) (sym c.from.ensures) ∙ sym c.row_at_sound.ensures ∙ c.if-not-row_at_sound.true))
