-- What the readers answer: how far they read, with what they read there, or a refusal and its place. Assumes nothing.
use Rattle.std.specs.Prelude.{ℕ, Result}
use Rattle.refusal.specs.declared.fault.Fault.{Fault}
use Rattle.dcfg.specs.declared.listing.Listing.{Listing}
use Rattle.dcfg.specs.declared.running.Running.{Running}

abbrev pub Passed : Type 0
Passed = Result ℕ Fault

abbrev pub Got : Type 0
Got = Result (ℕ × ℕ) Fault

abbrev pub Outcome : Type 0
Outcome = Result (ℕ × Listing) Fault

abbrev pub Ran : Type 0
Ran = Result (ℕ × Running) Fault
