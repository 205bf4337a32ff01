use mathlib.Core.Path.{◌∙◌}
use native.Mathlib.Omega.{arith}
use Prim.Native.Nat.{◌+◌, ◌-◌, ◌<◌, min}
use lib.ListN.{length, get_or, length-set}
use Rattle.replay.proofs.Filling.{filled_next}
use Rattle.replay.proofs.reads.fill.Goals as goal

pub loop-i-preserved : goal.loop-i-preserved
loop-i-preserved c =
    let a = c.args in
    let l = c.loop-i in
    let p = c.requires in
    let few : l.i < min (a.wanted - a.count) (length a.read.now - a.place) = omega (arith, c.min-more.ensures, c.loop-i-test.true) in (
      length-set l.held (a.count + l.i) (get_or a.read.now (a.place + l.i) 0) ∙ l.invariant.0,
      filled_next a.read.now l.held a.held.now a.place a.count l.i (omega (arith, p)) (omega (arith, few, p, l.invariant.0)) (omega (arith, few)) l.invariant.1,
    )
