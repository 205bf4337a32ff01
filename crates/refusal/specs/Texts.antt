-- What is printed of a refusal, in bytes. Assumes nothing.
use Rattle.std.specs.Prelude.{ℕ, List, ◌++◌, codes}
use Rattle.std.specs.Fmt.{decimal}
use Rattle.refusal.specs.Refusal.{number_of}
use Rattle.refusal.specs.declared.Refusal.{Refusal}
use Rattle.refusal.specs.declared.fault.Fault.{Fault}
use Rattle.refusal.specs.declared.number.UnknownNumber.{UnknownNumber}

abbrev pub refusal_text : Refusal → List ℕ
refusal_text r = codes "refusal " ++ decimal (number_of r)

abbrev pub fault_text : Fault → List ℕ
fault_text f = codes "refused " ++ decimal (number_of f.refusal) ++ codes " at " ++ decimal f.place

abbrev pub unknown_text : UnknownNumber → List ℕ
unknown_text e = codes "no refusal has number " ++ decimal e.0
