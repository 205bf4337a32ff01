use Rattle.std.specs.Prelude.{All, IsTrue, ◌↔◌, take, ◌<◌}
use Rattle.std.proofs.Common.{rules}
use Rattle.replay.proofs.Checking.{below_all}
use Rattle.replay.proofs.check.all_below.Goals as goal

pub returns : goal.returns
returns c =
    let each : IsTrue c.all.result ↔ All (λ m. m < c.args.n) (take c.args.k c.args.numbers.now) = search rules in
    below_all c.args.numbers.now c.args.n c.args.k c.all.result c.requires each
