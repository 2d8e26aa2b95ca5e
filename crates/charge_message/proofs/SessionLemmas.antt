-- Which octets are the name of a session.
use Rattle.std.proofs.Common.{◌≡◌, ◌==◌, ◌&&◌, not, Bool, true, false, ℕ, List, length, Option, Some, None, refl}
use Rattle.std.specs.Prelude.{if◌then◌else◌}
use Rattle.std.specs.Str.{IsUtf8, is_utf8}
use Rattle.std.proofs.lemmas.Str.{IsUtf8-from_is_utf8, is_utf8-from_IsUtf8}
use Rattle.charge_message.specs.Messages.{is_session}

-- UTF-8 that is not empty
pub named : (octets text : List ℕ) → (length octets == 0) ≡ false → text ≡ octets → IsUtf8 octets → Some text ≡ (if is_session octets then Some octets else None)
unfolding is_session
named octets text some is utf8 = rw (is, is_utf8-from_IsUtf8 octets utf8, some) refl

unnamed_by : (octets : List ℕ) (b : Bool) → is_utf8 octets ≡ b → (IsUtf8 octets → ⊥) → (of_it : Option (List ℕ)) → of_it ≡ None → of_it ≡ (if b && not (length octets == 0) then Some octets else None)
unnamed_by octets true e not_it of_it is = absurd (not_it (IsUtf8-from_is_utf8 octets e))
unnamed_by octets false e not_it of_it is = is

-- no UTF-8
pub unnamed : (octets : List ℕ) → (IsUtf8 octets → ⊥) → None ≡ (if is_session octets then Some octets else None)
unfolding is_session
unnamed octets not_it = unnamed_by octets (is_utf8 octets) refl not_it None refl
