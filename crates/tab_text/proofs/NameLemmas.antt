use Rattle.std.proofs.Common.{◌≡◌, ℕ, ◌≤◌, Bool, true, false, ◌&&◌, not, nat_lt, leb, List, length, codes, arith, refl, sym, ◌∙◌}
use Rattle.std.specs.Str.{bytes_eq}
use Rattle.std.proofs.lemmas.Bool.Decides.{nat_tests}
use Rattle.std.proofs.lemmas.List.{take_all}
use Rattle.tab_text.specs.Names.{is_spelled, is_name}
use Rattle.text_parts.specs.Fronts.{values_in, IsFront}
use Rattle.text_parts.specs.declared.front.Front.{Front}

and-false : (a c d : Bool) → (a && false && c && d) ≡ false
and-false true c d = refl
and-false false c d = refl

-- what is longer than a name is none
pub name-long : (octets : List ℕ) → nat_lt 40 (length octets) ≡ true → is_name octets ≡ false
unfolding is_name
name-long octets over =
    let long : leb (length octets) 40 ≡ false = grind (arith, nat_tests) in
    rw long (and-false (is_spelled octets) (not (bytes_eq octets (codes "when"))) (not (bytes_eq octets (codes "and"))))

le-from : (m n : ℕ) → leb m n ≡ true → m ≤ n
le-from m n is = grind (arith, nat_tests)

second : (a b c d : Bool) → (a && b && c && d) ≡ true → b ≡ true
second true true c d is = refl
second true false c d is = cc
second false b c d is = cc

-- a name is no longer than a name may be
pub name-short : (octets : List ℕ) → is_name octets ≡ true → length octets ≤ 40
unfolding is_name
name-short octets is =
    le-from (length octets) 40 (second (is_spelled octets) (leb (length octets) 40) (not (bytes_eq octets (codes "when"))) (not (bytes_eq octets (codes "and"))) is)

-- a list that has no more values than are kept is kept whole
pub front-whole : {T : Type 0} {N : ℕ} (list : List T) (kept : Front T N) → length list ≤ N → IsFront list kept → list ≡ values_in kept
front-whole list kept short front = sym (front.values ∙ take_all _ list short)

under : (limit count : ℕ) → nat_lt limit count ≡ false → count ≤ limit
under limit count is = grind (arith, nat_tests)

pub front-under : {T : Type 0} {N : ℕ} (list : List T) (kept : Front T N) → nat_lt N (length list) ≡ false → IsFront list kept → list ≡ values_in kept
front-under {T} {N} list kept short front = front-whole list kept (under N (length list) short) front
