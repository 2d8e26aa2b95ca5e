-- Which octets a text spells.
use Rattle.std.proofs.Common.{◌≡◌, ◌≤◌, ℕ, true, false, List, take, length, Option, Some, None, get_or, arith, ap, subst, ◌∙◌}
use Rattle.std.proofs.Math.Seq.{take-length}
use Rattle.base_text.specs.Digits.{Means, is_hex_text}
use Rattle.base_text.specs.Stops.{StopsBy}
use Rattle.base_text.specs.declared.digits.Stop.{Stop}
use Rattle.base_text.specs.declared.digits.Stop.TheVariants.{TextEnds, PieceFull, BadCharacter}
use Rattle.image_text.specs.Images.{Spells, is_whole}

-- a text that was read to its end
means-all : (text piece : List ℕ) (used made : ℕ) (half : Option ℕ) → used ≡ length text → Means None (take used text) (take made piece) half → Means None text (take made piece) half
means-all text piece used made half end means =
    subst (λ (t : List ℕ). Means None t (take made piece) half) (ap (λ (n : ℕ). take n text) end ∙ take-length text) means

-- a text means one list of octets, and leaves one digit or none
abbrev pub HasOneMeaning : Type 0
HasOneMeaning =
    (before after other : Option ℕ) (text octets others : List ℕ) → Means before text octets after → Means before text others other →
    (octets ≡ others) × (after ≡ other)

-- any other text spells no octets
pub not-spelled : HasOneMeaning → (text piece : List ℕ) (room used made : ℕ) (stop : Stop) (half : Option ℕ) → is_whole stop half ≡ false → room ≡ length text → made ≤ used → StopsBy text room used made stop → Means None (take used text) (take made piece) half → (octets : List ℕ) → Spells text octets → ⊥
not-spelled one text piece room used made TextEnds None whole same few stops means octets is = cc
not-spelled one text piece room used made TextEnds (Some digit) whole same few stops means octets is =
    let left = (one None (Some digit) None text (take made piece) octets (means-all text piece used made (Some digit) stops means) is).1 in
    cc
not-spelled one text piece room used made PieceFull half whole same few stops means octets is = omega (arith, same, few, stops.0, stops.1)
not-spelled one text piece room used made BadCharacter half whole same few stops means octets is =
    let hex : is_hex_text (get_or text used 0) ≡ true = is.clean used 0 stops.0 in
    let none = stops.1 in
    cc
