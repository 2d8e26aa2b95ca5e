use Rattle.std.proofs.Common.{◌≡◌, ℕ, ◌+◌, ◌*◌, ◌≤◌, ◌||◌, Bool, true, false, cond, List, Some, None, length, arith, nat_lt, refl}
use Rattle.std.proofs.lemmas.Bool.Decides.{nat_tests}
use Rattle.tab_load.specs.Faults.{count_at, count_fault, least_of, most_of}
use Rattle.tab_load.specs.declared.counts.Format.{Format}
use Rattle.tab_load.specs.declared.fault.ImageFault.TheVariants.{Cut, Count}

-- a count without a fault is there
pub whole-count : (format : Format) (octets : List ℕ) (number : ℕ) → count_fault format octets number ≡ None → 6 + 2 * number ≤ length octets
whole-count format octets number none =
    by_test (nat_lt (length octets) (6 + 2 * number)) refl none
  where
    by_test : (short : Bool) → nat_lt (length octets) (6 + 2 * number) ≡ short → cond short (Some Cut) (cond (nat_lt (count_at octets number) (least_of number) || nat_lt (most_of format number) (count_at octets number)) (Some Count) None) ≡ None → 6 + 2 * number ≤ length octets
    by_test true is none = cc
    by_test false is none = grind (arith, nat_tests)
