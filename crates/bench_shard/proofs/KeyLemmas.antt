-- Keys are known by their octets.
use Rattle.std.proofs.Common.{◌≡◌, ℕ, Bool, true, not, cond, ◌&&◌, List, [], ◌∷◌, length, map, Option, Some, None, refl, ap, ◌∙◌, ltb}
use Rattle.std.specs.Prelude.{◌==◌, position}
use Rattle.std.specs.List.{prefix_len}
use Rattle.std.specs.Str.{bytes_eq}
use Rattle.std.proofs.lemmas.Bool.{and_parts}
use Rattle.std.proofs.lemmas.Cmp.{nat_list_eq_equiv}
use Rattle.std.proofs.lemmas.Slice.Eq.{bytes_eq-Decides}
use Rattle.sess_dir.proofs.Places.{position-map}
use Rattle.sess_dir.specs.Names.{place_of}
use Rattle.bench_item.specs.Keys.{is_same_key, is_same_role}
use Rattle.bench_item.specs.declared.key.Key.{Key}
use Rattle.bench_item.specs.declared.key.Role.{Role}
use Rattle.bench_item.specs.declared.key.Role.TheVariants.{Peer, Client, Server}
use Rattle.bench_shard.specs.Names.{key_octets, role_octet}

role-octet : (a b : Role) → (role_octet b == role_octet a) ≡ is_same_role a b
role-octet Peer Peer = refl
role-octet Peer Client = refl
role-octet Peer Server = refl
role-octet Client Peer = refl
role-octet Client Client = refl
role-octet Client Server = refl
role-octet Server Peer = refl
role-octet Server Client = refl
role-octet Server Server = refl

same-role : (a b : Role) → is_same_role a b ≡ true → a ≡ b
same-role Peer Peer e = refl
same-role Peer Client e = absurd cc
same-role Peer Server e = absurd cc
same-role Client Peer e = absurd cc
same-role Client Client e = refl
same-role Client Server e = absurd cc
same-role Server Peer e = absurd cc
same-role Server Client e = absurd cc
same-role Server Server e = refl

role-itself : (a : Role) → is_same_role a a ≡ true
role-itself Peer = refl
role-itself Client = refl
role-itself Server = refl

-- keys with the same octets are the same, and no others
octets-same : (k key : Key) → bytes_eq (key_octets key) (key_octets k) ≡ is_same_key k key
octets-same k key =
    ap (λ (b : Bool). b && bytes_eq key.name k.name) (role-octet k.role key.role) ∙ ap (λ (b : Bool). is_same_role k.role key.role && b) (nat_list_eq_equiv.symm key.name k.name)

pub same-key : (k key : Key) → is_same_key k key ≡ true → k ≡ key
same-key k key e =
    let parts = and_parts (is_same_role k.role key.role) (bytes_eq k.name key.name) e in
    let P : Role → List ℕ → Key = λ r n. record { role = r; name = n } in
    ap (λ (r : Role). P r k.name) (same-role k.role key.role parts.0) ∙ ap (P key.role) ((bytes_eq-Decides k.name key.name).0 parts.1)

pub key-itself : (k : Key) → is_same_key k k ≡ true
key-itself k = ap (λ (b : Bool). b && bytes_eq k.name k.name) (role-itself k.role) ∙ nat_list_eq_equiv.refl k.name

-- tests that agree everywhere pass first at the same place
prefix_len-same : {X : Type 0} (p q : X → Bool) → ((x : X) → p x ≡ q x) → (xs : List X) → prefix_len p xs ≡ prefix_len q xs
prefix_len-same p q same [] = refl
prefix_len-same p q same (x ∷ xs) = rw (same x, prefix_len-same p q same xs) refl

pub position-same : {X : Type 0} (p q : X → Bool) → ((x : X) → p x ≡ q x) → (xs : List X) → position p xs ≡ position q xs
position-same {X = X} p q same xs =
    let P : ℕ → Option ℕ = λ n. cond (ltb n (length xs)) (Some n) None in
    ap P (prefix_len-same (λ (x : X). not (p x)) (λ (x : X). not (q x)) (λ x. ap not (same x)) xs)

-- the place of a key among names that are keys' octets
pub place-octets : (keys : List Key) (key : Key) → place_of (map key_octets keys) (key_octets key) ≡ position (λ k. is_same_key k key) keys
place-octets keys key =
    position-map (bytes_eq (key_octets key)) key_octets keys
    ∙ position-same (λ (k : Key). bytes_eq (key_octets key) (key_octets k)) (λ (k : Key). is_same_key k key) (λ k. octets-same k key) keys
