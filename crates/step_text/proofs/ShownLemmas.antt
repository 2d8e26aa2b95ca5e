-- A name that is shown reads back.
use Rattle.std.proofs.Common.{◌≡◌, ◌<◌, ℕ, ◌+◌, ◌*◌, ◌/◌, ◌%◌, ◌==◌, true, false, cond, List, [], ◌∷◌, ◌++◌, refl, ap, ◌∙◌, Some, zero, suc, arith}
use Rattle.std.specs.Prelude.{slice_index, unwrap_or}
use Rattle.std.proofs.lemmas.Bool.Decides.{nat_tests}
use Rattle.hex.specs.Hex.{IsBytes, encode_lower, encode_with, lower_digits}
use Rattle.hex.proofs.HexLemmas.{IsDigits-lower_digits}
use Rattle.bench_item.specs.declared.key.Key.{Key}
use Rattle.bench_item.specs.declared.key.Role.{Role}
use Rattle.bench_item.specs.declared.key.Role.TheVariants.{Peer, Client, Server}
use Rattle.step_text.specs.Guess.{key_of, nibble, unshown}
use Rattle.step_text.specs.Names.{is_plain, key_name, prefix_of, shown, shown_octet}
use Rattle.step_text.proofs.NameLemmas.{unshown-plain}

nibble-digit : (d : ℕ) → d < 16 → nibble (slice_index lower_digits d) ≡ d
nibble-digit d fits = ap (λ o. unwrap_or o 0) (IsDigits-lower_digits d fits)

plain_is_other : (c : ℕ) → is_plain c ≡ true → (c == 37) ≡ false
plain_is_other c plain = grind (arith, nat_tests)

-- an octet that is shown, before others
unshown_octet : (c : ℕ) (rest : List ℕ) → c < 256 → unshown (shown_octet c ++ rest) ≡ c ∷ unshown rest
unfolding encode_with
unshown_octet c rest fits = elim (is_plain c) as (λ b. is_plain c ≡ b → unshown (cond b (c ∷ []) (37 ∷ encode_lower (c ∷ [])) ++ rest) ≡ c ∷ unshown rest) [
  | true ↦ λ e. unshown-plain c rest (plain_is_other c e)
  | false ↦ λ e.
      let high : c / 16 < 16 = omega arith in
      let low : c % 16 < 16 = omega arith in
      let whole : c / 16 * 16 + c % 16 ≡ c = omega arith in
      rw (nibble-digit (c / 16) high, nibble-digit (c % 16) low, whole) refl
] refl

pub unshown-shown : (name : List ℕ) → IsBytes name → unshown (shown name) ≡ name
unshown-shown [] bytes = refl
unshown-shown (c ∷ name) bytes =
    unshown_octet c (shown name) (bytes 0) ∙ ap (λ rest. c ∷ rest) (unshown-shown name (λ i. bytes (suc i)))

-- a key's name is octets, and the key reads back
pub key_name-bytes : (key : Key) → IsBytes key.name → IsBytes (key_name key)
key_name-bytes key bytes = prefixed key.role key.name bytes
  where
    two : (c d : ℕ) (name : List ℕ) → c < 256 → d < 256 → IsBytes name → IsBytes (c ∷ d ∷ name)
    two c d name first second bytes zero = first
    two c d name first second bytes (suc zero) = second
    two c d name first second bytes (suc (suc i)) = bytes i

    prefixed : (role : Role) (name : List ℕ) → IsBytes name → IsBytes (prefix_of role ++ name)
    prefixed Peer name bytes = two 112 58 name (omega arith) (omega arith) bytes
    prefixed Client name bytes = two 99 58 name (omega arith) (omega arith) bytes
    prefixed Server name bytes = two 115 58 name (omega arith) (omega arith) bytes

pub key_of-name : (key : Key) → key_of (key_name key) ≡ Some key
key_of-name key = named key.role key.name
  where
    named : (role : Role) (name : List ℕ) → key_of (prefix_of role ++ name) ≡ Some (record { role = role; name = name })
    named Peer name = refl
    named Client name = refl
    named Server name = refl
