use Rattle.std.proofs.Common.{rules, ap, ◌≡◌}
use Rattle.std.specs.Ordering.{is_lt}
use Rattle.std.proofs.lemmas.Fn.{always_returns_same}
use Rattle.sorting.specs.Order.{order, comes_before}
use Rattle.sorting.proofs.Sorts.{put, ranked}
use Rattle.transitions.specs.Key.{key_at}
use Rattle.transitions.proofs.order.sort.Goals as goal

pub returns : goal.returns
returns c =
    let t = c.args.table.now in
    let by = key_at t in
    put by c.sort_unstable_by.ensures.permutation
    (c.sort_unstable_by.ensures.sorted (comes_before by) (ranked by) (always_returns_same _ _ _ (λ a r f' k.
    let e : r ≡ order by a.0.now a.1.0.now = search rules in
    (ap is_lt e, search rules))))
