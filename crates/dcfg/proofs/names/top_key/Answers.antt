use mathlib.Core.Path.{sym, ◌∙◌}
use Rattle.dcfg.proofs.Naming.{number-here, number-on, number-none}
use Rattle.dcfg.proofs.names.top_key.Goals as goal

pub returns-then-is : goal.returns-then-is
returns-then-is c = number-here 0 _ _ _ (sym c.is.ensures ∙ c.if-is.true)

pub returns-then-is-2 : goal.returns-then-is-2
returns-then-is-2 c = number-here 1 _ _ _ (sym c.is-2.ensures ∙ c.if-is-2.true) ∙ number-on 0 _ _ _ (sym c.is.ensures ∙ c.if-is.false)

pub returns-then-is-3 : goal.returns-then-is-3
returns-then-is-3 c = number-here 2 _ _ _ (sym c.is-3.ensures ∙ c.if-is-3.true) ∙ number-on 1 _ _ _ (sym c.is-2.ensures ∙ c.if-is-2.false) ∙ number-on 0 _ _ _ (sym c.is.ensures ∙ c.if-is.false)

pub returns-then-is-4 : goal.returns-then-is-4
returns-then-is-4 c = number-here 3 _ _ _ (sym c.is-4.ensures ∙ c.if-is-4.true) ∙ number-on 2 _ _ _ (sym c.is-3.ensures ∙ c.if-is-3.false) ∙ number-on 1 _ _ _ (sym c.is-2.ensures ∙ c.if-is-2.false) ∙ number-on 0 _ _ _ (sym c.is.ensures ∙ c.if-is.false)

pub returns-then-is-5 : goal.returns-then-is-5
returns-then-is-5 c = number-here 4 _ _ _ (sym c.is-5.ensures ∙ c.if-is-5.true) ∙ number-on 3 _ _ _ (sym c.is-4.ensures ∙ c.if-is-4.false) ∙ number-on 2 _ _ _ (sym c.is-3.ensures ∙ c.if-is-3.false) ∙ number-on 1 _ _ _ (sym c.is-2.ensures ∙ c.if-is-2.false) ∙ number-on 0 _ _ _ (sym c.is.ensures ∙ c.if-is.false)

pub returns-else-is-5 : goal.returns-else-is-5
returns-else-is-5 c = number-none 5 _ ∙ number-on 4 _ _ _ (sym c.is-5.ensures ∙ c.if-is-5.false) ∙ number-on 3 _ _ _ (sym c.is-4.ensures ∙ c.if-is-4.false) ∙ number-on 2 _ _ _ (sym c.is-3.ensures ∙ c.if-is-3.false) ∙ number-on 1 _ _ _ (sym c.is-2.ensures ∙ c.if-is-2.false) ∙ number-on 0 _ _ _ (sym c.is.ensures ∙ c.if-is.false)
