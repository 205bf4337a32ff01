-- Each number is written with what stands behind it.
use Rattle.std.proofs.Common.{◌≡◌, ℕ, List, ◌++◌, append_assoc}
use Rattle.std.specs.Fmt.{decimal}
use Rattle.std.proofs.KnownBytes.{Appends-trans}
use Rattle.console.proofs.Parts.{on_err, ok-behind_same, err-behind_same, part-of_piece}
use Rattle.console.proofs.output.print_pair.Goals as goal

regroup : (before one between two behind : List ℕ) → before ++ one ++ between ++ two ++ behind ≡ (before ++ (one ++ between)) ++ (two ++ behind)
regroup before one between two behind = simp append_assoc

pub returns-in_err-print_number-clause-err : goal.returns-in_err-print_number-clause-err
returns-in_err-print_number-clause-err g c =
    let split = regroup c.args.before.now (decimal c.args.one) c.args.between.now (decimal c.args.two) c.args.behind.now in
    on_err _ (part-of_piece _ _ _ _ _ _ _ split c.in_ok-write_bytes.ensures.ok c.in_err-print_number.ensures.err)

pub returns-clause-ok : goal.returns-clause-ok
returns-clause-ok g c =
    let split = regroup c.args.before.now (decimal c.args.one) c.args.between.now (decimal c.args.two) c.args.behind.now in
    ok-behind_same _ _ _ _ _ _ _ split (Appends-trans _ _ _ _ _ c.in_ok-write_bytes.ensures.ok c.in_ok-print_number.ensures.ok) c.print_number-2.ensures.ok

pub returns-clause-err : goal.returns-clause-err
returns-clause-err g c =
    let split = regroup c.args.before.now (decimal c.args.one) c.args.between.now (decimal c.args.two) c.args.behind.now in
    err-behind_same _ _ _ _ _ _ _ split (Appends-trans _ _ _ _ _ c.in_ok-write_bytes.ensures.ok c.in_ok-print_number.ensures.ok) c.print_number-2.ensures.err
