-- Which key a word is.
use Rattle.std.specs.Prelude.{ℕ, ◌==◌, ◌+◌, ◌*◌, List, [], ◌∷◌, Option, Some, None, if◌then◌else◌}
use Rattle.hex.specs.Hex.{hex_digit_value}
use Rattle.step_text.specs.Names.{is_plain}
use Rattle.bench_item.specs.declared.key.Key.{Key}
use Rattle.bench_item.specs.declared.key.Role.{Role}
use Rattle.bench_item.specs.declared.key.Role.TheVariants.{Peer, Client, Server}

-- the octet of two hexadecimal digits
abbrev pub octet_with : Option ℕ → Option ℕ → Option ℕ
octet_with (Some high) (Some low) = Some (high * 16 + low)
octet_with (Some high) None = None
octet_with None low = None

abbrev pub octet_of : ℕ → ℕ → Option ℕ
octet_of high low = octet_with (hex_digit_value high) (hex_digit_value low)

-- an octet in front of others, where both are there
abbrev pub before : Option ℕ → Option (List ℕ) → Option (List ℕ)
before (Some octet) (Some octets) = Some (octet ∷ octets)
before (Some octet) None = None
before None octets = None

-- an octet that stands for itself
abbrev pub plain : ℕ → Option ℕ
plain c = if is_plain c then Some c else None

-- the octets of a name: each stands for itself, or is `%` and two hexadecimal digits
abbrev pub name_of : List ℕ → Option (List ℕ)
name_of [] = Some []
name_of (c ∷ []) = before (plain c) (Some [])
name_of (c ∷ d ∷ []) = before (plain c) (name_of (d ∷ []))
name_of (c ∷ d ∷ e ∷ rest) =
    if c == 37 then before (octet_of d e) (name_of rest) else before (plain c) (name_of (d ∷ e ∷ rest))

-- `p`, `c`, `s`
abbrev pub role_of : ℕ → Option Role
role_of mark =
    if mark == 112 then Some Peer else (if mark == 99 then Some Client else (if mark == 115 then Some Server else None))

abbrev pub key_with : Option Role → Option (List ℕ) → Option Key
key_with (Some role) (Some name) = Some (record { role = role; name = name })
key_with (Some role) None = None
key_with None name = None

-- the key of a word: the role's letter, a colon, the octets of the name
abbrev pub key_of : List ℕ → Option Key
key_of [] = None
key_of (mark ∷ []) = None
key_of (mark ∷ colon ∷ name) = if colon == 58 then key_with (role_of mark) (name_of name) else None
