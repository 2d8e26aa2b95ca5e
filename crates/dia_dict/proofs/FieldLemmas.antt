-- What is known of a value that was read, or refused, against the fault of its data.
use Rattle.std.proofs.Common.{◌≡◌, ℕ, ◌<◌, true, List, [], ◌∷◌, All, None, Some, refl}
use Rattle.std.specs.Str.{IsUtf8}
use Rattle.std.proofs.lemmas.Bool.{lt-ltb}
use Rattle.std.proofs.lemmas.Str.{is_utf8-from_IsUtf8}
use Rattle.std.proofs.lemmas.List.Elements.{All-head, All-tail}
use Rattle.dia_avp.proofs.FieldLaws.{not_utf8}
use Rattle.dia_dict.specs.declared.definition.AvpKind.{AvpKind}
use Rattle.dia_dict.specs.declared.definition.AvpKind.TheVariants.{Utf8String, DiameterIdentity}
use Rattle.dia_dict.specs.declared.fault.DictFault.TheVariants.{BadValue}
use Rattle.dia_dict.specs.Kind.{is_ascii, data_fault}

is_ascii-All : (octets : List ℕ) → All (λ o. o < 128) octets → is_ascii octets ≡ true
is_ascii-All [] h = refl
is_ascii-All (o ∷ octets) h = rw (lt-ltb o 128 (All-head (λ x. x < 128) o octets h)) (is_ascii-All octets (All-tail (λ x. x < 128) o octets h))

-- ASCII is an identity
pub identity-good : (kind : AvpKind) (octets : List ℕ) → kind ≡ DiameterIdentity → All (λ o. o < 128) octets → data_fault kind octets ≡ None
identity-good kind octets is ascii = rw is (rw (is_ascii-All octets ascii) refl)

-- UTF-8 is text, and nothing else is
pub text-good : (kind : AvpKind) (octets : List ℕ) → kind ≡ Utf8String → IsUtf8 octets → data_fault kind octets ≡ None
text-good kind octets is text = rw is (rw (is_utf8-from_IsUtf8 octets text) refl)

pub text-bad : (kind : AvpKind) (octets : List ℕ) → kind ≡ Utf8String → (IsUtf8 octets → ⊥) → data_fault kind octets ≡ Some BadValue
text-bad kind octets is other = rw is (rw (not_utf8 octets other) refl)
