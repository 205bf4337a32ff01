use Rattle.transitions.proofs.Halving.{edge-nowhere, edge-somewhere, edge-told}
use borrow.Author.Tests.{le-ltb}
use mathlib.Core.Path.{◌∙◌}
use native.Mathlib.Omega.{arith}
use Rattle.transitions.proofs.indexed.Index.has_edge.Goals as goal

pub returns-then-is_edge_at : goal.returns-then-is_edge_at
returns-then-is_edge_at c = let w = c.is_edge_at.ensures.told c.if-is_edge_at.true in edge-somewhere c.args.self.table.now c.args.self.places.now c.requires.indexed.1 c.args.edge c.args.up w.0 w.1

pub returns-then-up-gt0 : goal.returns-then-up-gt0
returns-then-up-gt0 c = let q = c.requires.indexed in
    edge-told c.args.self.table.now c.args.self.places.now c.args.edge c.args.bits.now q.1 q.0.free c.args.up c.requires.halved (c.is_edge_at.ensures.denied c.if-is_edge_at.false) c.if-up-gt0.true c.is_edge_at-then-up-gt0.result c.is_edge_at-then-up-gt0.ensures

pub returns-else-up-gt0 : goal.returns-else-up-gt0
returns-else-up-gt0 c = let q = c.requires.indexed in
    le-ltb 0 c.args.up c.if-up-gt0.false
    ∙ edge-nowhere c.args.self.table.now c.args.self.places.now c.args.edge c.args.bits.now q.1 q.0.free c.args.up c.requires.halved (c.is_edge_at.ensures.denied c.if-is_edge_at.false) (λ pos. absurd (omega arith))
