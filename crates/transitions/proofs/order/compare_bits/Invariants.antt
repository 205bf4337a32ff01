use Rattle.std.proofs.Common.{◌≡◌, drop}
use Rattle.std.specs.Ordering.{nat_cmp}
use Rattle.std.specs.Cmp.Lexicographic.{slice_cmp}
use Rattle.transitions.proofs.order.compare_bits.Given as goal

abbrev pub invariant-loop-c : goal.invariant-loop-c
invariant-loop-c l = slice_cmp nat_cmp l.code l.bits ≡ slice_cmp nat_cmp (drop l.c-index l.code) l.rest
