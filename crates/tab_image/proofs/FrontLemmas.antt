use Rattle.std.proofs.Common.{◌≡◌, ℕ, ◌*◌, ◌<◌, List, [], ◌∷◌, ◌++◌, Option, Some, None, length, take, drop, slice_index_or, arith, refl, sym, ap, ◌∙◌}
use Rattle.std.specs.List.{All, flat_map}
use Rattle.std.specs.Int.{w32, to_be_bytes, from_be_bytes}
use Rattle.std.proofs.lemmas.List.{append_assoc, append_cancel_left, length-append, take-append-drop}
use Rattle.std.proofs.lemmas.List.Elements.{All-head, All-tail}
use Rattle.std.proofs.lemmas.Nat.{from_be_bytes-to_be_bytes_4}
use Rattle.tab_asm.specs.Formats.{format_2}
use Rattle.tab_asm.specs.Images.{name_octets, offset_octets}
use Rattle.tab_load.specs.Loading.{IsOffset}
use Rattle.tab_load.specs.declared.counts.Format.TheVariants.{Two}

-- what stands behind a part, where the octets to its end are those before it and its own
pub behind-part : (octets : List ℕ) (begin end : ℕ) (part : List ℕ) → take end octets ≡ take begin octets ++ part → drop begin octets ≡ part ++ drop end octets
behind-part octets begin end part front =
    append_cancel_left (take begin octets) (drop begin octets) (part ++ drop end octets)
    (take-append-drop begin octets ∙ sym (take-append-drop end octets) ∙ ap (λ (x : List ℕ). x ++ drop end octets) front ∙ append_assoc (take begin octets) part (drop end octets))

-- lists that are one list, and as long in front, are the same in front and behind
pub parts-same : (a b c d : List ℕ) → length a ≡ length c → a ++ b ≡ c ++ d → (a ≡ c) × (b ≡ d)
parts-same [] b [] d long is = (refl, is)
parts-same [] b (y ∷ c) d long is = absurd (omega (arith, long))
parts-same (x ∷ a) b [] d long is = absurd (omega (arith, long))
parts-same (x ∷ a) b (y ∷ c) d long is =
    let first : x ≡ y = ap (λ (l : List ℕ). slice_index_or l 0 0) is in
    let rest = parts-same a b c d (omega (arith, long)) (ap (drop 1) is) in
    (rw (first, rest.0) refl, rest.1)

-- as many names as these, where names begin as these do, are these
pub names-same : (names actual : List (List ℕ)) (other rest : List ℕ) → length names ≡ length actual → flat_map name_octets names ++ other ≡ flat_map name_octets actual ++ rest → (names ≡ actual) × (other ≡ rest)
names-same [] [] other rest many is = (refl, is)
names-same [] (name ∷ actual) other rest many is = absurd (omega (arith, many))
names-same (name ∷ names) [] other rest many is = absurd (omega (arith, many))
names-same (one ∷ names) (name ∷ actual) other rest many is =
    let own : one ++ (flat_map name_octets names ++ other) ≡ name ++ (flat_map name_octets actual ++ rest) = sym (append_assoc one (flat_map name_octets names) other) ∙ ap (drop 1) is ∙ append_assoc name (flat_map name_octets actual) rest in
    let long : length one ≡ length name = ap (λ (l : List ℕ). slice_index_or l 0 0) is in
    let first = parts-same one (flat_map name_octets names ++ other) name (flat_map name_octets actual ++ rest) long own in
    let later = names-same names actual other rest (omega (arith, many)) first.1 in
    (rw (first.0, later.0) refl, later.1)

cons-same : (one name : List ℕ) (names all : List (List ℕ)) → one ≡ name → all ≡ names → name ∷ all ≡ one ∷ names
cons-same one name names all same rest = rw (same, rest) refl

-- fewer names than these are a front of these, and behind them stands the next one
pub record NextName (before all : List (List ℕ)) (other rest : List ℕ) : Type 0 where
  pub name : List ℕ
  pub after : List (List ℕ)
  pub joined : all ≡ before ++ name ∷ after
  pub next : other ≡ name_octets name ++ (flat_map name_octets after ++ rest)

pub next-name : (before all : List (List ℕ)) (other rest : List ℕ) → length before < length all → flat_map name_octets before ++ other ≡ flat_map name_octets all ++ rest → NextName before all other rest
next-name [] [] other rest few is = absurd (omega (arith, few))
next-name [] (name ∷ all) other rest few is = record { name = name; after = all; joined = refl; next = is ∙ append_assoc (name_octets name) (flat_map name_octets all) rest }
next-name (one ∷ before) [] other rest few is = absurd (omega (arith, few))
next-name (one ∷ before) (name ∷ all) other rest few is =
    let own : one ++ (flat_map name_octets before ++ other) ≡ name ++ (flat_map name_octets all ++ rest) = sym (append_assoc one (flat_map name_octets before) other) ∙ ap (drop 1) is ∙ append_assoc name (flat_map name_octets all) rest in
    let long : length one ≡ length name = ap (λ (l : List ℕ). slice_index_or l 0 0) is in
    let first = parts-same one (flat_map name_octets before ++ other) name (flat_map name_octets all ++ rest) long own in
    let later = next-name before all other rest (omega (arith, few)) first.1 in
    record { name = later.name; after = later.after; joined = cons-same one name (before ++ later.name ∷ later.after) all first.0 later.joined; next = later.next }

-- numbers below 2^32 with the same octets are one number
pub number-same : (a b : ℕ) → a < 4294967296 → b < 4294967296 → to_be_bytes w32 a ≡ to_be_bytes w32 b → a ≡ b
number-same a b small few is = sym (from_be_bytes-to_be_bytes_4 a small) ∙ ap (from_be_bytes w32) is ∙ from_be_bytes-to_be_bytes_4 b few

-- an entry is known by its octets
offset-same : (a b : Option ℕ) → IsOffset Two a → IsOffset Two b → offset_octets format_2 a ≡ offset_octets format_2 b → a ≡ b
offset-same None None small few is = refl
offset-same None (Some b) small few is = absurd (let same = number-same 4294967295 b (omega arith) (omega (arith, few)) is in omega (arith, same, few))
offset-same (Some a) None small few is = absurd (let same = number-same a 4294967295 (omega (arith, small)) (omega arith) is in omega (arith, same, small))
offset-same (Some a) (Some b) small few is = ap (λ (n : ℕ). Some n) (number-same a b (omega (arith, small)) (omega (arith, few)) is)

offset-length : (entry : Option ℕ) → length (offset_octets format_2 entry) ≡ 4
offset-length None = refl
offset-length (Some offset) = refl

pub entries-length : (entries : List (Option ℕ)) → length (flat_map (offset_octets format_2) entries) ≡ 4 * length entries
entries-length [] = refl
entries-length (entry ∷ entries) =
    let rest = entries-length entries in
    let first = offset-length entry in
    let both = length-append (offset_octets format_2 entry) (flat_map (offset_octets format_2) entries) in
    omega (arith, rest, first, both)

-- as many entries as these, where entries begin as these do, are these
pub entries-same : (entries actual : List (Option ℕ)) (other rest : List ℕ) → length entries ≡ length actual → All (IsOffset Two) entries → All (IsOffset Two) actual → flat_map (offset_octets format_2) entries ++ other ≡ flat_map (offset_octets format_2) actual ++ rest → (entries ≡ actual) × (other ≡ rest)
entries-same [] [] other rest many small few is = (refl, is)
entries-same [] (entry ∷ actual) other rest many small few is = absurd (omega (arith, many))
entries-same (one ∷ entries) [] other rest many small few is = absurd (omega (arith, many))
entries-same (one ∷ entries) (entry ∷ actual) other rest many small few is =
    let own : offset_octets format_2 one ++ (flat_map (offset_octets format_2) entries ++ other) ≡ offset_octets format_2 entry ++ (flat_map (offset_octets format_2) actual ++ rest) = sym (append_assoc (offset_octets format_2 one) (flat_map (offset_octets format_2) entries) other) ∙ is ∙ append_assoc (offset_octets format_2 entry) (flat_map (offset_octets format_2) actual) rest in
    let long : length (offset_octets format_2 one) ≡ length (offset_octets format_2 entry) = offset-length one ∙ sym (offset-length entry) in
    let first = parts-same (offset_octets format_2 one) (flat_map (offset_octets format_2) entries ++ other) (offset_octets format_2 entry) (flat_map (offset_octets format_2) actual ++ rest) long own in
    let later = entries-same entries actual other rest (omega (arith, many)) (All-tail (IsOffset Two) one entries small) (All-tail (IsOffset Two) entry actual few) first.1 in
    let head = offset-same one entry (All-head (IsOffset Two) one entries small) (All-head (IsOffset Two) entry actual few) first.0 in
    (rw (head, later.0) refl, later.1)
