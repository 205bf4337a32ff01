-- The refusal of a number, and the number of a refusal. Assumes nothing.
use Rattle.std.proofs.Common.{ℕ, ◌<◌, arith, ◌≡◌, ◌≢◌, refl, sym, ap, ◌∙◌, List, [], ◌∷◌, Option, Some, None, Result, Ok, Err}
use borrow.Author.Tests.{ne_eqb}
use Rattle.refusal.specs.Number.{Names}
use Rattle.refusal.specs.Refusal.{number_of}
use Rattle.refusal.specs.declared.Refusal.{Refusal}
use Rattle.refusal.specs.declared.Refusal.TheVariants.{LogLength, Version, LogType, BufferSize, PastEnd, UnknownAction, Grammar, Thread, Clock, NoOpenCall, Depth, FunctionCount, Ticks, ShortTable, NoRoom, OutOfRange, NoUnit, NoMeasuredCall, UnknownKind, Offset, Unsound, TextLength, NotJson, Nesting, RepeatedName, WrongKind, IdOutside, RepeatedId, ListCount, Missing, CountSum, TransitionTable, NoTransition, UnmatchedBits, PastWanted, BitsLeft}
use Rattle.refusal.specs.declared.number.UnknownNumber.{UnknownNumber}
use Rattle.walk.specs.Grammar.{stage_number, StageOf}
use Rattle.walk.specs.declared.grammar.UnknownStage.{UnknownStage}
use Rattle.walk.specs.declared.grammar.Stage.{Stage}
use Rattle.walk.specs.declared.grammar.Stage.TheVariants.{Between, WallTimeNext, CpuNext, Body, Arguments}
use Rattle.transfer.specs.Numbers.{refusals, among, named_by, stage_of}

-- A refusal is that of its number.
pub named_back : (r : Refusal) → named_by (number_of r) ≡ Some r
unfolding named_by among
named_back LogLength = refl
named_back Version = refl
named_back LogType = refl
named_back BufferSize = refl
named_back PastEnd = refl
named_back UnknownAction = refl
named_back Grammar = refl
named_back Thread = refl
named_back Clock = refl
named_back NoOpenCall = refl
named_back Depth = refl
named_back FunctionCount = refl
named_back Ticks = refl
named_back ShortTable = refl
named_back NoRoom = refl
named_back OutOfRange = refl
named_back NoUnit = refl
named_back NoMeasuredCall = refl
named_back UnknownKind = refl
named_back Offset = refl
named_back Unsound = refl
named_back TextLength = refl
named_back NotJson = refl
named_back Nesting = refl
named_back RepeatedName = refl
named_back WrongKind = refl
named_back IdOutside = refl
named_back RepeatedId = refl
named_back ListCount = refl
named_back Missing = refl
named_back CountSum = refl
named_back TransitionTable = refl
named_back NoTransition = refl
named_back UnmatchedBits = refl
named_back PastWanted = refl
named_back BitsLeft = refl

not-among : (n : ℕ) (rs : List Refusal) → ((r : Refusal) → number_of r ≢ n) → among n rs ≡ None
unfolding among
not-among n [] h = refl
not-among n (r ∷ rs) h = rw (ne_eqb n (number_of r) (λ e. h r (sym e)), among) (not-among n rs h)

abbrev pub known_of : Result Refusal UnknownNumber → Option Refusal
known_of (Ok r) = Some r
known_of (Err e) = None

-- The refusal that reading a number gives.
pub named : (n : ℕ) (x : Result Refusal UnknownNumber) → Names n x → named_by n ≡ known_of x
unfolding named_by
named n (Ok r) e = ap (λ (m : ℕ). among m refusals) (sym e) ∙ named_back r
named n (Err u) e = not-among n refusals e.1

pub number_some : (r : Refusal) → number_of r ≡ 0 → ⊥
unfolding named_by among
number_some r e = let z : Some r ≡ None = sym (named_back r) ∙ ap named_by e in cc

-- The stage of a number, and the number of a stage.
pub stage_back : (g : Stage) → stage_of (stage_number g) ≡ g
unfolding stage_of
stage_back Between = refl
stage_back WallTimeNext = refl
stage_back CpuNext = refl
stage_back Body = refl
stage_back Arguments = refl

last-stage : (n : ℕ) → 4 < n → stage_of n ≡ Arguments
unfolding stage_of
last-stage n h = rw (ne_eqb n 0 (λ e. omega arith), stage_of, ne_eqb n 1 (λ e. omega arith), ne_eqb n 2 (λ e. omega arith), ne_eqb n 3 (λ e. omega arith))

abbrev pub stage_or_last : Result Stage UnknownStage → Stage
stage_or_last (Ok g) = g
stage_or_last (Err e) = Arguments

-- The stage that reading a number gives.
pub staged : (n : ℕ) (x : Result Stage UnknownStage) → StageOf n x → stage_of n ≡ stage_or_last x
staged n (Ok g) e = ap stage_of (sym e) ∙ stage_back g
staged n (Err u) e = last-stage n e.1
