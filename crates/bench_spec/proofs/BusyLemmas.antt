-- The log of a session that finds no room is legal, whole.
use Rattle.std.proofs.Common.{◌≡◌, ◌≤◌, ◌<◌, ℕ, zero, suc, ◌+◌, List, [], ◌∷◌, ◌++◌, Bool, true, false, Some, None}
use Rattle.std.proofs.Common.{refl, sym, ◌∙◌, ap, length, arith}
use Rattle.std.specs.Prelude.{◌==◌, not, nat_le, filter, map, replicate, take}
use Rattle.std.specs.List.{list_all, list_any}
use Rattle.std.proofs.lemmas.Bool.Decides.{nat_tests}
use Rattle.std.proofs.lemmas.List.{append-nil, length-map, length-replicate}
use Rattle.std.proofs.lemmas.Slice.Eq.{bytes_eq-Decides}
use Rattle.bench_item.specs.declared.entry.Handled.TheVariants.{TooBusy}
use Rattle.bench_item.specs.declared.key.Key.{Key}
use Rattle.bench_item.specs.declared.key.Role.TheVariants.{Peer}
use Rattle.bench_item.specs.declared.limit.TheConstants.{MAX_MACHINES}
use Rattle.bench_item.specs.declared.source.Source.TheVariants.{Desk}
use Rattle.bench_item.specs.declared.step.Step.TheVariants.{Drop, Lift, Told}
use Rattle.bench_item.specs.Keys.{home, is_same_key, key_of, peers_in}
use Rattle.bench_item.specs.Past.{distinct}
use Rattle.bench_spec.specs.BusyLog.{full, hosts, log, settings_with}
use Rattle.bench_spec.specs.ExampleLog.{carried}
use Rattle.bench_spec.specs.Legal.{IsLegal, MayFollow, finds_no_room}
use Rattle.bench_spec.specs.Machines.{directory}
use Rattle.bench_spec.specs.SessionLog.{event, session, told, works}
use Rattle.bench_spec.proofs.NumberLemmas.{any-distinct, none_if_no}
use Rattle.bench_spec.proofs.OrderLemmas.{order_by}
use Rattle.bench_spec.proofs.RunLemmas.{both_true, key_sound}
use Rattle.bench_spec.proofs.TextLemmas.{octet_is_utf8}

-- a peer's machine is no session's
no_session : (names : List (List ℕ)) → list_any (λ k. is_same_key k session) (map (key_of Peer) names) ≡ false
no_session [] = refl
no_session (name ∷ names) = no_session names

nobody : Key
nobody = key_of Peer []

-- so where the shard has all that it may have, the session finds no room
no_room : (peers : List (List ℕ)) → MAX_MACHINES ≤ length (directory (settings_with peers).node 0 [])
    → finds_no_room (settings_with peers) (take 3 log) session ≡ true
no_room peers many =
    let lacks : list_any (λ k. is_same_key k session) (directory (settings_with peers).node 0 []) ≡ false =
    any-distinct is_same_key key_sound session (map (key_of Peer) (peers_in (settings_with peers).node 0) ++ [])
    ∙ ap (list_any (λ k. is_same_key k session))
    (append-nil (map (key_of Peer) (peers_in (settings_with peers).node 0)))
    ∙ no_session (peers_in (settings_with peers).node 0) in
    rw (none_if_no (λ k. is_same_key k session) (directory (settings_with peers).node 0 []) nobody lacks)
    (is_full (length (directory (settings_with peers).node 0 [])) many)
  where
    is_full : (n : ℕ) → MAX_MACHINES ≤ n → nat_le MAX_MACHINES n ≡ true
    is_full n many = grind (arith, nat_tests, many)

-- each entry may follow those before it
follows_1 : (peers : List (List ℕ)) → MayFollow (settings_with peers) [] (carried (Told 0 session (event 0)) None)
follows_1 peers = record {
  could = rw (octet_is_utf8 120 (omega arith)) refl;
  parts = (refl, refl);
  order = order_by (settings_with peers) (take 1 log) (tt, tt);
}

follows_2 : (peers : List (List ℕ))
    → MayFollow (settings_with peers) (take 1 log) (carried (Lift (Desk 0)) (Some (told 0)))
follows_2 peers = record {
  could = refl;
  parts = (refl, refl);
  order = order_by (settings_with peers) (take 2 log) (((refl, refl, refl), tt), tt);
}

follows_3 : (peers : List (List ℕ))
    → MayFollow (settings_with peers) (take 2 log) (carried (Drop (Desk 0)) (Some (told 0)))
follows_3 peers = record {
  could = refl;
  parts = (refl, refl);
  order = order_by (settings_with peers) (take 3 log) (((refl, refl, refl), tt), tt);
}

follows_4 : (peers : List (List ℕ)) → MAX_MACHINES ≤ length (directory (settings_with peers).node 0 [])
    → MayFollow (settings_with peers) (take 3 log) (works (told 0) TooBusy)
follows_4 peers many = record {
  could = refl;
  parts = no_room peers many;
  order = order_by (settings_with peers) log (((refl, refl, refl), tt), (refl, tt));
}

-- hosts of different lengths are all in one shard's directory
apart : (n first count : ℕ) → n < first
    → list_all (λ k. not (is_same_key (key_of Peer (replicate n 0)) k)) (map (key_of Peer) (hosts first count)) ≡ true
unfolding hosts
apart n first zero below = refl
apart n first (suc count) below =
    by (is_same_key (key_of Peer (replicate n 0)) (key_of Peer (replicate first 0))) refl
    (apart n (first + 1) count (omega (arith, below)))
  where
    lengths : replicate {A = ℕ} n 0 ≡ replicate {A = ℕ} first 0 → n ≡ first
    lengths same = sym (length-replicate {A = ℕ} n 0) ∙ ap length same ∙ length-replicate {A = ℕ} first 0

    by : (b : Bool) → is_same_key (key_of Peer (replicate n 0)) (key_of Peer (replicate first 0)) ≡ b
        → list_all (λ k. not (is_same_key (key_of Peer (replicate n 0)) k))
        (map (key_of Peer) (hosts (first + 1) count)) ≡ true
        → list_all (λ k. not (is_same_key (key_of Peer (replicate n 0)) k))
        (map (key_of Peer) (replicate first 0 ∷ hosts (first + 1) count)) ≡ true
    by false is rest = rw is rest
    by true is rest =
        let same = lengths ((bytes_eq-Decides (replicate n 0) (replicate first 0)).0 is) in
        absurd (omega (arith, same, below))

kept_all : {X : Type 0} (p : X → Bool) (xs : List X) → list_all p xs ≡ true → filter p xs ≡ xs
kept_all p [] all = refl
kept_all p (x ∷ xs) all =
    let parts = both_true (p x) (list_all p xs) all in
    rw (parts.0, kept_all p xs parts.1) refl

distinct_hosts : (first count : ℕ)
    → distinct is_same_key (map (key_of Peer) (hosts first count)) ≡ map (key_of Peer) (hosts first count)
unfolding hosts
distinct_hosts first zero = refl
distinct_hosts first (suc count) =
    ap (λ ks. key_of Peer (replicate first 0) ∷ ks)
    (ap (filter (λ k. not (is_same_key (key_of Peer (replicate first 0)) k))) (distinct_hosts (first + 1) count)
    ∙ kept_all (λ k. not (is_same_key (key_of Peer (replicate first 0)) k))
    (map (key_of Peer) (hosts (first + 1) count)) (apart first (first + 1) count (omega arith)))

in_one : (names : List (List ℕ)) → filter (λ host. home 1 host == 0) names ≡ names
in_one [] = refl
in_one (name ∷ names) =
    let first : home 1 name ≡ 0 = omega arith in
    rw (first, in_one names) refl

length-hosts : (first count : ℕ) → length (hosts first count) ≡ count
unfolding hosts
length-hosts first zero = refl
length-hosts first (suc count) = ap suc (length-hosts (first + 1) count)

many : MAX_MACHINES ≤ length (directory (settings_with full).node 0 [])
unfolding full
many =
    let all : length (directory (settings_with full).node 0 []) ≡ MAX_MACHINES =
    ap (λ names. length (distinct is_same_key (map (key_of Peer) names ++ []))) (in_one (hosts 0 MAX_MACHINES))
    ∙ ap (λ ks. length (distinct is_same_key ks)) (append-nil (map (key_of Peer) (hosts 0 MAX_MACHINES)))
    ∙ ap length (distinct_hosts 0 MAX_MACHINES)
    ∙ length-map (hosts 0 MAX_MACHINES) (key_of Peer)
    ∙ length-hosts 0 MAX_MACHINES in
    omega (arith, all)

pub is_legal : IsLegal (settings_with full) log
is_legal = (follows_1 full, (follows_2 full, (follows_3 full, (follows_4 full many, tt))))
