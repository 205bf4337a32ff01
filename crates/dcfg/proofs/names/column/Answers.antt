use mathlib.Core.Path.{refl}
use Rattle.dcfg.proofs.Naming.{first-named}
use Rattle.dcfg.proofs.names.column.Goals as goal

pub returns-in-EdgeTypes : goal.returns-in-EdgeTypes
returns-in-EdgeTypes c = rw c.in-EdgeTypes.is (first-named _ _ c.number.ensures refl)

pub returns-in-SpecialNodes : goal.returns-in-SpecialNodes
returns-in-SpecialNodes c = rw c.in-SpecialNodes.is (first-named _ _ c.number-in-SpecialNodes.ensures refl)

pub returns-in-Processes : goal.returns-in-Processes
returns-in-Processes c = rw c.in-Processes.is (first-named _ _ c.number-in-Processes.ensures refl)

pub returns-in-Edges : goal.returns-in-Edges
returns-in-Edges c = rw c.in-Edges.is (first-named _ _ c.number-in-Edges.ensures refl)
