-- The machines of peers, one after the other.
use Rattle.std.proofs.Common.{◌≡◌, ℕ, zero, suc, ◌+◌, ◌<◌, List, [], ◌∷◌, ◌++◌, length, get_or, take, refl, ap, sym, ◌∙◌, arith}
use Rattle.std.specs.Prelude.{◌==◌, filter, map}
use Rattle.std.proofs.lemmas.List.{length-append, map-append, take_more}
use Rattle.std.proofs.lemmas.List.Elements.{filter-append}
use Rattle.bench_item.specs.Keys.{home, key_of, number_at}
use Rattle.bench_item.specs.declared.key.Role.TheVariants.{Peer}
use Rattle.bench_spec.specs.Machines.{start}
use Rattle.bench_shard.specs.Names.{key_octets}
use Rattle.bench_shard.specs.View.{peer_names, starts}

-- those of some hosts, and then those of others
peer_names-append : (shards number : ℕ) (xs ys : List (List ℕ)) → peer_names shards number (xs ++ ys) ≡ peer_names shards number xs ++ peer_names shards number ys
peer_names-append shards number xs ys =
    let here = λ (host : List ℕ). home shards host == number in
    ap (map (λ (host : List ℕ). key_octets (key_of Peer host))) (filter-append here xs ys) ∙ map-append (λ (host : List ℕ). key_octets (key_of Peer host)) (filter here xs) (filter here ys)

-- those of one host more
pub peer_names-more : (shards number : ℕ) (hosts names new : List (List ℕ)) (i : ℕ) (host d : List ℕ) → i < length hosts → names ≡ peer_names shards number (take i hosts) → host ≡ get_or hosts i d
    → new ≡ names ++ peer_names shards number (host ∷ []) → new ≡ peer_names shards number (take (i + 1) hosts)
peer_names-more shards number hosts names new i host d within so_far here more =
    more ∙ ap (λ (xs : List (List ℕ)). xs ++ peer_names shards number (host ∷ [])) so_far
    ∙ ap (λ (h : List ℕ). peer_names shards number (take i hosts) ++ peer_names shards number (h ∷ [])) here
    ∙ sym (peer_names-append shards number (take i hosts) (get_or hosts i d ∷ []))
    ∙ ap (peer_names shards number) (sym (take_more hosts i d within))

-- so many machines at their start
pub length-starts : (number count : ℕ) → length (starts number count) ≡ count
length-starts number zero = refl
length-starts number (suc count) = length-append (starts number count) (start (number_at number count) ∷ []) ∙ omega (arith, length-starts number count)
