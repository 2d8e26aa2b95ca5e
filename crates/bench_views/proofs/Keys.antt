-- Keys in octets: which are one, and the places of keys in a directory.
use Rattle.std.proofs.Common.{◌≡◌, ◌+◌, ℕ, List, [], ◌∷◌, ◌++◌, Bool, true, false, refl, sym, ◌∙◌, ap}
use Rattle.std.specs.Prelude.{◌&&◌, ◌||◌, map, not, cond, if◌then◌else◌}
use Rattle.std.specs.List.{list_any, position_or_len}
use Rattle.std.specs.Str.{bytes_eq}
use Rattle.std.proofs.lemmas.List.{map-append}
use Rattle.std.proofs.lemmas.Slice.Eq.{bytes_eq-Decides}
use Rattle.bench_item.specs.declared.key.Key.{Key}
use Rattle.bench_item.specs.declared.key.Role.{Role}
use Rattle.bench_item.specs.declared.key.Role.TheVariants.{Client, Peer, Server}
use Rattle.bench_item.specs.Keys.{is_same_key, is_same_role}
use Rattle.bench_shard.specs.Names.{key_octets, role_octet}
use Rattle.bench_views.proofs.Distinct.{with_new}

-- two tests that say yes to each other are one
same-bool : (a b : Bool) → (a ≡ true → b ≡ true) → (b ≡ true → a ≡ true) → a ≡ b
same-bool true true f g = refl
same-bool true false f g = sym (f refl)
same-bool false true f g = g refl
same-bool false false f g = refl

bytes-swap : (x y : List ℕ) → bytes_eq x y ≡ bytes_eq y x
bytes-swap x y =
    same-bool (bytes_eq x y) (bytes_eq y x)
    (λ h. (bytes_eq-Decides y x).1 (sym ((bytes_eq-Decides x y).0 h)))
    (λ h. (bytes_eq-Decides x y).1 (sym ((bytes_eq-Decides y x).0 h)))

-- the octets of two keys are the same where the keys are
pub octets-same : (key one : Key) → bytes_eq (key_octets key) (key_octets one) ≡ is_same_key one key
octets-same key one = by key.role one.role
  where
    by : (r s : Role) → bytes_eq (role_octet r ∷ key.name) (role_octet s ∷ one.name) ≡ (is_same_role s r && bytes_eq one.name key.name)
    by Peer Peer = bytes-swap key.name one.name
    by Peer Client = refl
    by Peer Server = refl
    by Client Peer = refl
    by Client Client = bytes-swap key.name one.name
    by Client Server = refl
    by Server Peer = refl
    by Server Client = refl
    by Server Server = bytes-swap key.name one.name

-- the place of a key among the keys in octets
pub octets-place : (key : Key) (keys : List Key) → position_or_len (bytes_eq (key_octets key)) (map key_octets keys) ≡ position_or_len (λ one. is_same_key one key) keys
octets-place key [] = refl
octets-place key (one ∷ keys) =
    ap (λ n. cond (not (bytes_eq (key_octets key) (key_octets one))) (1 + n) 0) (octets-place key keys)
    ∙ ap (λ b. cond (not b) (1 + position_or_len (λ k. is_same_key k key) keys) 0) (octets-same key one)

-- whether a key is there
pub octets-there : (key : Key) (keys : List Key) → list_any (bytes_eq (key_octets key)) (map key_octets keys) ≡ list_any (λ one. is_same_key one key) keys
octets-there key [] = refl
octets-there key (one ∷ keys) =
    ap (λ b. b || list_any (bytes_eq (key_octets key)) (map key_octets keys)) (octets-same key one)
    ∙ ap (λ b. is_same_key one key || b) (octets-there key keys)

-- the octets of a directory with one more key, unless it is there
pub octets-new : (key : Key) (keys : List Key) → map key_octets (with_new is_same_key key keys) ≡ (if list_any (bytes_eq (key_octets key)) (map key_octets keys) then map key_octets keys else map key_octets keys ++ key_octets key ∷ [])
octets-new key keys = rw (octets-there key keys) (by (list_any (λ one. is_same_key one key) keys) refl)
  where
    by : (b : Bool) → list_any (λ one. is_same_key one key) keys ≡ b → map key_octets (if b then keys else keys ++ key ∷ []) ≡ (if b then map key_octets keys else map key_octets keys ++ key_octets key ∷ [])
    by true is = refl
    by false is = map-append key_octets keys (key ∷ [])
