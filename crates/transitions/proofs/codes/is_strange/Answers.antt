use Rattle.std.proofs.Common.{rules, ◌∙◌}
use Rattle.std.proofs.lemmas.Iterator.{YieldsList-from_slice}
use Rattle.std.proofs.lemmas.Iterator.Search.{any_from_yields_List}
use Rattle.transitions.specs.Table.{no_bit}
use Rattle.transitions.proofs.Choices.{any-listed}
use Rattle.transitions.proofs.codes.is_strange.Goals as goal

pub returns : goal.returns
returns c = any_from_yields_List no_bit _ _ _ c.any.ensures.ran (YieldsList-from_slice c.args.characters.now (cc)) (λ x b q k. search rules) ∙ any-listed no_bit c.args.characters.now
