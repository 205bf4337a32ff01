use mathlib.Core.Path.{◌≡◌}
use lib.ListN.{drop}
use Rattle.json_tokens.specs.Read.{At}
use Rattle.json_tokens.specs.Plain.{letters}
use Rattle.json_tokens.proofs.plain.word.Given as goal

abbrev pub invariant-loop-b : goal.invariant-loop-b
invariant-loop-b l = letters l.text (drop l.b-index l.letters) (At l.at) ≡ letters l.text l.letters (At l.start)
