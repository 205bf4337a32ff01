use Rattle.transitions.proofs.Advancing.{sought-found, sought-unmatched, sought-nowhere}
use mathlib.Core.Path.{sym, ◌∙◌}
use Rattle.transitions.proofs.indexed.Index.halve.Goals as goal

pub returns-in-Some : goal.returns-in-Some
returns-in-Some c = sought-found c.args.self.table.now c.args.edge c.args.bits.now c.in-Some.row c.in-Some.ensures

pub returns-in-None : goal.returns-in-None
returns-in-None c = sought-unmatched c.args.self.table.now c.args.edge c.args.bits.now c.in-None.ensures (sym c.has_edge.ensures ∙ c.if-has_edge.true)

pub returns-in-None-2 : goal.returns-in-None-2
returns-in-None-2 c = sought-nowhere c.args.self.table.now c.args.edge c.args.bits.now (sym c.has_edge.ensures ∙ c.if-has_edge.false)
