use Rattle.std.proofs.Common.{◌≡◌, ℕ, ◌+◌, ◌*◌, ◌<◌, ◌≤◌, ◌||◌, Bool, false, cond, nat_lt, suc, zero, List, ◌++◌, Some, None, length, take, drop, arith, refl, ◌∙◌}
use Rattle.std.specs.List.{flat_map}
use Rattle.std.specs.Int.{w32, to_be_bytes}
use Rattle.std.proofs.lemmas.Bool.{le-ltb}
use Rattle.std.proofs.lemmas.List.{append_assoc}
use Rattle.std.proofs.lemmas.Nat.{from_be_bytes-to_be_bytes_2}
use Rattle.tab_asm.specs.Formats.{format_2}
use Rattle.tab_asm.specs.Images.{Image, name_octets, offset_octets, image_octets}
use Rattle.tab_load.specs.Faults.{count_at, count_fault, least_of, most_of}
use Rattle.tab_load.specs.declared.counts.Format.TheVariants.{Two}
use Rattle.tab_load.specs.declared.fault.ImageFault.TheVariants.{Cut, Count}

-- the octets behind the names
abbrev pub body_octets : Image → List ℕ
body_octets image = flat_map (offset_octets format_2) image.entries ++ (to_be_bytes w32 (length image.code) ++ image.code)

-- the parts of the octets of an image
pub record Parts (image : Image) (octets : List ℕ) : Type 0 where
  pub long : 14 ≤ length octets
  pub magic : take 4 octets ≡ format_2.magic
  pub states : count_at octets 0 ≡ length image.states
  pub kinds : count_at octets 1 ≡ length image.kinds
  pub guards : count_at octets 2 ≡ length image.guards
  pub actions : count_at octets 3 ≡ length image.actions
  pub rows : count_at octets 4 ≡ image.rows
  pub names : drop 14 octets
      ≡ flat_map name_octets image.states
      ++ (flat_map name_octets image.kinds ++ (flat_map name_octets image.guards ++ (flat_map name_octets image.actions ++ body_octets image)))

-- how many names and rows a table of format 2 may have
pub record HasFew (image : Image) : Type 0 where
  pub some_state : 1 ≤ length image.states
  pub some_row : 1 ≤ image.rows
  pub states : length image.states ≤ 64
  pub kinds : length image.kinds ≤ 128
  pub guards : length image.guards ≤ 64
  pub actions : length image.actions ≤ 64
  pub rows : image.rows ≤ 4096

to-the-right : (a b c d e f g : List ℕ) → (((((a ++ b) ++ c) ++ d) ++ e) ++ f) ++ g ≡ a ++ (b ++ (c ++ (d ++ (e ++ (f ++ g)))))
to-the-right a b c d e f g =
    append_assoc ((((a ++ b) ++ c) ++ d) ++ e) f g
    ∙ append_assoc (((a ++ b) ++ c) ++ d) e (f ++ g)
    ∙ append_assoc ((a ++ b) ++ c) d (e ++ (f ++ g))
    ∙ append_assoc (a ++ b) c (d ++ (e ++ (f ++ g)))
    ∙ append_assoc a b (c ++ (d ++ (e ++ (f ++ g))))

pub parts-of : (image : Image) → HasFew image → Parts image (image_octets format_2 image)
unfolding image_octets
parts-of image few = record {
  long = omega arith;
  magic = refl;
  states = from_be_bytes-to_be_bytes_2 (length image.states) (omega (arith, few.states));
  kinds = from_be_bytes-to_be_bytes_2 (length image.kinds) (omega (arith, few.kinds));
  guards = from_be_bytes-to_be_bytes_2 (length image.guards) (omega (arith, few.guards));
  actions = from_be_bytes-to_be_bytes_2 (length image.actions) (omega (arith, few.actions));
  rows = from_be_bytes-to_be_bytes_2 image.rows (omega (arith, few.rows));
  names = to-the-right (flat_map name_octets image.states) (flat_map name_octets image.kinds) (flat_map name_octets image.guards) (flat_map name_octets image.actions) (flat_map (offset_octets format_2) image.entries) (to_be_bytes w32 (length image.code)) image.code;
}

-- a count in its range is no fault
count-in : (octets : List ℕ) (number count : ℕ) → 6 + 2 * number ≤ length octets → count_at octets number ≡ count → least_of number ≤ count → count ≤ most_of Two number → count_fault Two octets number ≡ None
count-in octets number count long is least most =
    let whole : nat_lt (length octets) (6 + 2 * number) ≡ false = le-ltb (length octets) (6 + 2 * number) long in
    let low : nat_lt (count_at octets number) (least_of number) ≡ false = rw is (le-ltb count (least_of number) least) in
    let high : nat_lt (most_of Two number) (count_at octets number) ≡ false = rw is (le-ltb (most_of Two number) count most) in
    by_tests (nat_lt (length octets) (6 + 2 * number)) (nat_lt (count_at octets number) (least_of number)) (nat_lt (most_of Two number) (count_at octets number)) whole low high
  where
    by_tests : (short low high : Bool) → short ≡ false → low ≡ false → high ≡ false → cond short (Some Cut) (cond (low || high) (Some Count) None) ≡ None
    by_tests short low high is_whole is_low is_high = rw (is_whole, is_low, is_high) refl

-- no count of an image is a fault
pub no-count-fault : (image : Image) (octets : List ℕ) → Parts image octets → HasFew image → (number : ℕ) → number < 5 → count_fault Two octets number ≡ None
no-count-fault image octets p few zero under = count-in octets 0 (length image.states) (omega (arith, p.long)) p.states few.some_state few.states
no-count-fault image octets p few (suc zero) under = count-in octets 1 (length image.kinds) (omega (arith, p.long)) p.kinds (omega arith) few.kinds
no-count-fault image octets p few (suc (suc zero)) under = count-in octets 2 (length image.guards) (omega (arith, p.long)) p.guards (omega arith) few.guards
no-count-fault image octets p few (suc (suc (suc zero))) under = count-in octets 3 (length image.actions) (omega (arith, p.long)) p.actions (omega arith) few.actions
no-count-fault image octets p few (suc (suc (suc (suc zero)))) under = count-in octets 4 image.rows (omega (arith, p.long)) p.rows few.some_row few.rows
no-count-fault image octets p few (suc (suc (suc (suc (suc number))))) under = absurd (omega (arith, under))
