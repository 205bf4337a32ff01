use Rattle.std.proofs.Common.{rules, ◌∙◌, ℕ, eqb, length}
use Rattle.std.proofs.lemmas.Bool.{lt-leb}
use Rattle.std.proofs.lemmas.Iterator.{YieldsList-from_slice, YieldsList-from_zip}
use Rattle.std.proofs.lemmas.Iterator.Search.{all_from_yields_List}
use Rattle.transitions.proofs.Coding.{begins-zip, begins-longer}
use Rattle.transitions.proofs.codes.begins.Goals as goal

pub returns-then-code-bits : goal.returns-then-code-bits
returns-then-code-bits c = all_from_yields_List (λ (p : ℕ × ℕ). eqb p.0 p.1) c.all.new.self _ c.all.result c.all.ensures.ran (YieldsList-from_zip (YieldsList-from_slice c.args.code.now (cc)) (YieldsList-from_slice c.args.bits.now (cc))) (λ x b q k. search rules) ∙ begins-zip c.args.code.now c.args.bits.now c.if-code-bits.true

pub returns-else-code-bits : goal.returns-else-code-bits
returns-else-code-bits c = lt-leb (length c.args.code.now) (length c.args.bits.now) c.if-code-bits.false ∙ begins-longer c.args.code.now c.args.bits.now c.if-code-bits.false
