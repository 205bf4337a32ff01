-- What reading a refusal's number gives. Assumes nothing.
use Rattle.std.specs.Prelude.{ℕ, ◌≡◌, ◌≢◌, Result, Ok, Err}
use Rattle.refusal.specs.Refusal.{number_of}
use Rattle.refusal.specs.declared.Refusal.{Refusal}
use Rattle.refusal.specs.declared.number.UnknownNumber.{UnknownNumber}

-- The refusal that has it, or that none has.
abbrev pub Names : ℕ → Result Refusal UnknownNumber → Type 0
Names n (Ok r) = number_of r ≡ n
Names n (Err e) = (e.0 ≡ n) × ((r : Refusal) → number_of r ≢ n)
