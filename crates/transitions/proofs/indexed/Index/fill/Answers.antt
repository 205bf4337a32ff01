use Rattle.transitions.specs.Key.{shown}
use Rattle.transitions.specs.Table.{rows_of}
use Rattle.transitions.specs.Walk.{walk_from}
use Rattle.transitions.proofs.Advancing.{gone-is}
use Rattle.transitions.proofs.Filling.{filling-turn, filling-stop, filling-end}
use mathlib.Core.List.{[]}
use Prim.Native.Nat.{◌-◌}
use native.Mathlib.Omega.{arith}
use Rattle.transitions.proofs.indexed.Index.fill.Goals as goal

pub returns-in_default : goal.returns-in_default
returns-in_default c = let l = c.loop-done in
    filling-stop (rows_of c.args.self.table.now) c.args.wanted c.args.list.now (walk_from (rows_of c.args.self.table.now) c.args.start c.args.bits.now [] c.args.wanted) l.list l.edge l.bits.now l.done l.invariant c.requires.walks _ (c.in_default.ensures (omega arith))

pub loop-done-preserved : goal.loop-done-preserved
loop-done-preserved c = let l = c.loop-done in let r = shown c.in-Ok.row in let g = c.in-Ok.ensures (omega arith) in
    filling-turn (rows_of c.args.self.table.now) c.args.wanted c.args.list.now (walk_from (rows_of c.args.self.table.now) c.args.start c.args.bits.now [] c.args.wanted) l.list l.edge l.bits.now l.done l.invariant r.next _ _ _ g.fits (gone-is c.args.self.table.now l.edge l.bits.now (c.args.wanted - l.done) r g) c.put.ensures

pub returns : goal.returns
returns c = let l = c.loop-done in
    filling-end (rows_of c.args.self.table.now) c.args.wanted c.args.list.now (walk_from (rows_of c.args.self.table.now) c.args.start c.args.bits.now [] c.args.wanted) l.list l.edge l.bits.now l.done l.invariant c.requires.walks c.loop-done-test.false
