use mathlib.Core.Path.{◌≡◌, sym, ap, ◌∙◌, subst}
use native.Mathlib.Omega.{arith}
use Prim.Native.Nat.{ℕ, ◌<◌, ◌≤◌}
use Rattle.std.specs.Prelude.{Result, Ok, Err, IfOk}
use Rattle.std.specs.Result.{result_unwrap_or}
use lib.ListN.{length, get_or}
use Rattle.replay.specs.Index.{halved, Found, Told, Sought, sought_by}
use Rattle.replay.specs.Private.{rows_in}
use Rattle.replay.proofs.Rows.{length-rows_in}
use Rattle.replay.proofs.Indexing.{enough, shown-id, is_row, sought-hit, sought-miss, sought-past, sought-finds, told-row, told-known, told-unknown}
use Rattle.replay.proofs.index.Rows.find.Goals as goal
use Rattle.replay.proofs.index.Rows.find.Goals.{else-row-self-via-then-row-self+else-look-id, else-row-self-via-else-row-self}

pub returns-then-look-id-clause-searched : goal.returns-then-look-id-clause-searched
returns-then-look-id-clause-searched c =
    let rows = rows_in c.args.self.now.count c.args.self.now.cells.now in
    let few = length-rows_in c.args.self.now.count c.args.self.now.cells.now in
    let r = get_or c.args.self.now.cache.now c.slot-at.result 0 in
    record {
      named = r;
      same = told-row rows r 0 _ _ (ap (λ (n : ℕ). record { row = r; place = 0; left = n }) (omega (arith, c.look.ensures.paid))
          ∙ sought-hit rows c.args.self.now.index.now c.requires.search.indexed c.args.id r c.args.budget.now (omega (arith, c.if-row-self.true, few)) (shown-id c.args.self.now.count c.args.self.now.cells.now r _ c.if-row-self.true c.look.ensures.shown ∙ c.if-look-id.true))
          (omega (arith, c.if-row-self.true, few));
    }

pub returns-then-look-id-clause-known : goal.returns-then-look-id-clause-known
returns-then-look-id-clause-known c =
    let few = length-rows_in c.args.self.now.count c.args.self.now.cells.now in
    let r = get_or c.args.self.now.cache.now c.slot-at.result 0 in
    (is_row _ c.args.self.now.index.now c.requires.search.indexed c.args.id r (omega (arith, c.if-row-self.true, few)) (shown-id c.args.self.now.count c.args.self.now.cells.now r _ c.if-row-self.true c.look.ensures.shown ∙ c.if-look-id.true), c.if-row-self.true)

-- What is left of the budget suffices, and finds what the whole search finds.
left_over : (c : goal.After-self-1) → halved c.else-row-self.budget (rows_in c.args.self.now.count c.args.self.now.cells.now) c.args.self.now.index.now c.args.id 0 c.args.self.now.count ≡ sought_by (get_or c.args.self.now.cache.now c.slot-at.result 0) c.args.budget.now (rows_in c.args.self.now.count c.args.self.now.cells.now) c.args.self.now.index.now c.args.id
left_over c =
    let rows = rows_in c.args.self.now.count c.args.self.now.cells.now in
    let few = length-rows_in c.args.self.now.count c.args.self.now.cells.now in
    let named = get_or c.args.self.now.cache.now c.slot-at.result 0 in
    ap (λ (n : ℕ). halved c.else-row-self.budget rows c.args.self.now.index.now c.args.id 0 n) (sym few)
    ∙ elim c.else-row-self.branch [
      | else-row-self-via-then-row-self+else-look-id w ↦ ap (λ (b : ℕ). halved b rows c.args.self.now.index.now c.args.id 0 (length rows)) (omega (arith, w.budget-is, w.look.ensures.paid))
          ∙ sought-miss rows c.args.self.now.index.now c.requires.search.indexed _ named c.args.budget.now (omega (arith, w.if-row-self.true, few)) (λ e. w.if-look-id.false (sym (shown-id c.args.self.now.count c.args.self.now.cells.now named _ w.if-row-self.true w.look.ensures.shown) ∙ e))
      | else-row-self-via-else-row-self w ↦ ap (λ (b : ℕ). halved b rows c.args.self.now.index.now c.args.id 0 (length rows)) (omega (arith, w.budget-is))
          ∙ sought-past rows c.args.self.now.index.now c.requires.search.indexed _ named c.args.budget.now (omega (arith, w.if-row-self.false, few))
    ]

-- The cache's row costs one of it.
still : (c : goal.After-halve-arg-1) → 11 ≤ c.else-row-self.budget
still c = elim c.else-row-self.branch [
  | else-row-self-via-then-row-self+else-look-id w ↦ omega (arith, w.budget-is, w.look.ensures.paid, c.requires.budget)
  | else-row-self-via-else-row-self w ↦ omega (arith, w.budget-is, c.requires.budget)
]

pub halve-found-requires : goal.halve-found-requires
halve-found-requires c = (c.requires.search, enough c.else-row-self.budget c.args.self.now.count (still c) c.requires.search.few)

told : (c : goal.After-self-1) → Told (rows_in c.args.self.now.count c.args.self.now.cells.now) (sought_by (get_or c.args.self.now.cache.now c.slot-at.result 0) c.args.budget.now (rows_in c.args.self.now.count c.args.self.now.cells.now) c.args.self.now.index.now c.args.id) c.halve-found.result c.halve-found.new.budget
told c = subst (λ (x : Found). Told (rows_in c.args.self.now.count c.args.self.now.cells.now) x c.halve-found.result c.halve-found.new.budget) (left_over c) c.halve-found.ensures.told

sought : (c : goal.After-self-1) → Sought c.args.budget.now (rows_in c.args.self.now.count c.args.self.now.cells.now) c.args.self.now.index.now c.args.id (sought_by (get_or c.args.self.now.cache.now c.slot-at.result 0) c.args.budget.now (rows_in c.args.self.now.count c.args.self.now.cells.now) c.args.self.now.index.now c.args.id)
sought c = sought-finds _ c.args.self.now.index.now c.requires.search.indexed c.args.id _ c.args.budget.now (omega (arith, c.requires.budget)) (omega (arith, length-rows_in c.args.self.now.count c.args.self.now.cells.now, c.requires.search.few))

pub returns-clause-searched : goal.returns-clause-searched
returns-clause-searched c = record { named = get_or c.args.self.now.cache.now c.slot-at.result 0; same = told c }

pub returns-clause-known : goal.returns-clause-known
returns-clause-known c = told-known _ c.args.self.now.index.now c.args.id c.args.self.now.count _ _ _ _ (length-rows_in c.args.self.now.count c.args.self.now.cells.now) (told c) (sought c)

pub returns-clause-unknown : goal.returns-clause-unknown
returns-clause-unknown c = told-unknown _ c.args.self.now.index.now c.args.id c.args.self.now.count _ _ _ _ (length-rows_in c.args.self.now.count c.args.self.now.cells.now) (told c) (sought c)

unwrapped : (a : Result ℕ ℕ) (n : ℕ) → IfOk a (λ r. r < n) → result_unwrap_or a n ≤ n
unwrapped (Ok r) n l = omega arith
unwrapped (Err e) n l = omega arith

pub overflow_cast-self : goal.overflow_cast-self
overflow_cast-self c = omega (arith, c.unwrap_or.ensures, unwrapped c.halve-found.result c.args.self.now.count c.halve-found.ensures.within, c.args.self.now.few)
