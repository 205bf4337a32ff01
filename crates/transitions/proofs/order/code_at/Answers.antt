use Rattle.transitions.proofs.Reading.{code-cut}
use Rattle.transitions.proofs.order.code_at.Goals as goal

pub returns : goal.returns
returns c = let a = c.in-Some-len2-up.ensures.lookup.0 in
    code-cut c.args.table.now c.in-Some-len2-up.field-0.now c.args.place a.0 a.2 c.min.result c.min.ensures
