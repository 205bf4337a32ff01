use Rattle.transitions.proofs.Halving.{edge-read}
use Rattle.transitions.proofs.Adjoining.{run-good}
use native.Mathlib.Omega.{arith}
use Rattle.transitions.proofs.indexed.Index.is_edge_at.Goals as goal

pub returns-in_default : goal.returns-in_default
returns-in_default c = absurd (omega (arith, c.in_default.ensures, (run-good c.args.self.table.now c.args.self.places.now c.requires.1 c.requires.0.sound c.args.i (omega arith)).within))

pub returns : goal.returns
returns c = edge-read c.args.self.table.now c.args.self.places.now c.args.i c.args.edge (omega arith) c.in-Some.row c.in-Some.ensures
