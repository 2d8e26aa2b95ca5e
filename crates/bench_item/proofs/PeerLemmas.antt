-- The number of a peer's machine is that peer's alone, whatever its case in a message.
use Rattle.std.proofs.Common.{◌≡◌, ℕ, zero, suc, ◌+◌, ◌-◌, ◌*◌, ◌<◌, ◌≤◌, ◌==◌, Bool, true, false, cond, List, [], ◌∷◌, ◌++◌, Option, Some, None, length, map, take, drop, get_or, refl, sym, ap, ◌∙◌, arith, length-append, is_some, add-one}
use Rattle.std.specs.Prelude.{Result, Ok, Err, OnOk, OnErr, sum, filter, slice_get, IfSome, nat_le, nat_lt}
use Rattle.std.specs.List.{position_or_len}
use Rattle.std.specs.Option.{option_map}
use Rattle.std.specs.Str.{str_to_ascii_lowercase}
use Rattle.std.proofs.Math.Nat.{mod-add-div, mod-lt}
use Rattle.std.proofs.lemmas.Bool.{eqb-true, eq-eqb, ne_eqb, lt-ltb}
use Rattle.std.proofs.lemmas.List.{length-take, length-map, map-append, take-map}
use Rattle.std.proofs.lemmas.List.Folds.{find_at}
use Rattle.std.proofs.lemmas.List.Quantifiers.{all_pairs_push}
use Rattle.std.proofs.lemmas.List.Sums.{length-filter, count_by-le-length, position_or_len_is}
use Rattle.std.proofs.lemmas.Nat.{div-mul-add, mod-mul-add}
use Rattle.std.proofs.lemmas.Option.{slice_get_within, get_or_from_slice_get, slice_get-map}
use Rattle.std.proofs.lemmas.Slice.Eq.{bytes_eq-Decides}
use Rattle.base_list.proofs.NamedLemmas.{position-None}
use Rattle.base_list.specs.declared.error.AddError.{AddError}
use Rattle.base_list.specs.declared.error.AddFault.TheVariants.{Taken, Full}
use Rattle.bench_item.specs.Keys.{Configured, home, in_shard, number_at, numbered, place_of, shard_of}
use Rattle.bench_item.specs.Peers.{IsConfigured, configured_host, host_place, is_same_host, number_behind, number_of_peer, numbered_host, refusal}
use Rattle.bench_item.specs.declared.limit.TheConstants.{MAX_MACHINES, MAX_PEERS}

-- one that passes stands behind those before it that do
step_in : {X : Type 0} (b : Bool) (y x : X) (passing before : List X) → slice_get passing (length before) ≡ Some x → slice_get (cond b (y ∷ passing) passing) (length (cond b (y ∷ before) before)) ≡ Some x
step_in true y x passing before is = is
step_in false y x passing before is = is

filtered_at : {X : Type 0} (q : X → Bool) (xs : List X) (i : ℕ) (x : X) → slice_get xs i ≡ Some x → q x ≡ true → slice_get (filter q xs) (length (filter q (take i xs))) ≡ Some x
filtered_at q [] i x is passes = absurd cc
filtered_at q (y ∷ ys) zero x is passes = let same : y ≡ x = cc in rw (same, passes) refl
filtered_at q (y ∷ ys) (suc i) x is passes = step_in (q y) y x (filter q ys) (filter q (take i ys)) (filtered_at q ys i x is passes)

-- Where one that passes stands in the whole list.
record StoodAt {X : Type 0} (q : X → Bool) (xs : List X) (place : ℕ) (x : X) : Type 0 where
  pub at : ℕ
  pub is : slice_get xs at ≡ Some x
  pub passes : q x ≡ true
  pub before : length (filter q (take at xs)) ≡ place

behind : {X : Type 0} (q : X → Bool) (y : X) (ys : List X) (place : ℕ) (x : X) → q y ≡ true → StoodAt q ys place x → StoodAt q (y ∷ ys) (suc place) x
behind q y ys place x e stood = record { at = suc stood.at; is = stood.is; passes = stood.passes; before = rw e (ap suc stood.before) }

skipped : {X : Type 0} (q : X → Bool) (y : X) (ys : List X) (place : ℕ) (x : X) → q y ≡ false → StoodAt q ys place x → StoodAt q (y ∷ ys) place x
skipped q y ys place x e stood = record { at = suc stood.at; is = stood.is; passes = stood.passes; before = rw e stood.before }

front : {X : Type 0} (q : X → Bool) (y : X) (ys : List X) (x : X) → q y ≡ true → Some y ≡ Some x → StoodAt q (y ∷ ys) zero x
front q y ys x e is = let same : y ≡ x = cc in record { at = 0; is = is; passes = rw (← same) e; before = refl }

stood_by : {X : Type 0} (q : X → Bool) (y : X) (ys : List X) (place : ℕ) (x : X) (b : Bool) → q y ≡ b → ((p : ℕ) → slice_get (filter q ys) p ≡ Some x → StoodAt q ys p x) → slice_get (cond b (y ∷ filter q ys) (filter q ys)) place ≡ Some x → StoodAt q (y ∷ ys) place x
stood_by q y ys zero x true e later is = front q y ys x e is
stood_by q y ys (suc place) x true e later is = behind q y ys place x e (later place is)
stood_by q y ys place x false e later is = skipped q y ys place x e (later place is)

stood_at : {X : Type 0} (q : X → Bool) (xs : List X) (place : ℕ) (x : X) → slice_get (filter q xs) place ≡ Some x → StoodAt q xs place x
stood_at q [] place x is = absurd cc
stood_at q (y ∷ ys) place x is = stood_by q y ys place x (q y) refl (λ p. stood_at q ys p x) is

-- so many are before a peer that their number is a place
few_before : (shards shard place : ℕ) (hosts : List (List ℕ)) → length hosts ≤ MAX_PEERS → length (in_shard shards shard (take place hosts)) < MAX_MACHINES
few_before shards shard place hosts few =
    let counted = length-filter (λ host. home shards host == shard) (take place hosts) in
    let fewer = count_by-le-length (λ host. home shards host == shard) (take place hosts) in
    let taken = length-take place hosts in
    omega (arith, counted, fewer, taken, few)

-- the number of a peer's machine is that of no other
pub numbered-number : (c : Configured) (place : ℕ) (host : List ℕ) → length c.hosts ≤ MAX_PEERS → slice_get c.hosts place ≡ Some host → numbered c (number_behind c.shards (take place c.hosts) host) ≡ slice_get c.hosts place
numbered-number c place host few is =
    let shard = home c.shards host in
    let before = length (in_shard c.shards shard (take place c.hosts)) in
    let less = few_before c.shards shard place c.hosts few in
    rw (div-mul-add shard MAX_MACHINES before less, mod-mul-add shard MAX_MACHINES before less)
    (filtered_at (λ one. home c.shards one == shard) c.hosts place host is (eq-eqb shard shard refl) ∙ sym is)

-- a host is one with itself
same_itself : (host : List ℕ) → is_same_host host host ≡ true
same_itself host = (bytes_eq-Decides (str_to_ascii_lowercase host) (str_to_ascii_lowercase host)).1 refl

-- the first that is one with a configured host is that host
place-own : (c : Configured) (place : ℕ) (host : List ℕ) → IsConfigured c → slice_get c.hosts place ≡ Some host → host_place c host ≡ Some place
place-own c place host well is =
    let within = slice_get_within c.hosts place host is in
    let here : get_or c.hosts place host ≡ host = get_or_from_slice_get c.hosts place host host is in
    let first : position_or_len (λ one. is_same_host one host) c.hosts ≡ place = position_or_len_is (λ one. is_same_host one host) c.hosts place host (omega arith)
    (λ k less. rw here at (well.apart k place host less within))
    (λ less. rw here (same_itself host)) in
    rw (first, lt-ltb place (length c.hosts) within) refl

-- the machine with a number is that of the peer that its host names
pub number-numbered : (c : Configured) (number : ℕ) (host : List ℕ) → IsConfigured c → numbered c number ≡ Some host → numbered_host c host ≡ Some number
number-numbered c number host well is =
    let stood = stood_at (λ one. home c.shards one == shard_of number) c.hosts (place_of number) host is in
    let own : home c.shards host ≡ shard_of number = eqb-true _ _ stood.passes in
    rw (place-own c stood.at host well stood.is, stood.is, own, stood.before) (ap Some (whole number))
  where
    whole : (n : ℕ) → number_at (shard_of n) (place_of n) ≡ n
    whole n = let split = mod-add-div n MAX_MACHINES in omega (arith, split)

pub found-numbered : (c : Configured) (number : ℕ) (found : Option (List ℕ)) → IsConfigured c → found ≡ numbered c number → IfSome found (λ host. numbered_host c host ≡ Some number)
found-numbered c number None well is = tt
found-numbered c number (Some host) well is = number-numbered c number host well (sym is)

at_first : {X : Type 0} (xs : List X) (i n : ℕ) → cond (nat_lt i (length xs)) (Some i) None ≡ Some n → i ≡ n
at_first xs i n h = elim (nat_lt i (length xs)) as (λ b. cond b (Some i) None ≡ Some n → i ≡ n) [ true ↦ λ e. cc | false ↦ λ e. cc ] h

-- the host at the place of a host is the configured one
pub configured-place : (c : Configured) (host : List ℕ) (place : ℕ) → host_place c host ≡ Some place → slice_get c.hosts place ≡ configured_host c host
configured-place c host place h =
    let first = at_first c.hosts (position_or_len (λ one. is_same_host one host) c.hosts) place h in
    rw (find_at (λ one. is_same_host one host) c.hosts, first) refl

pub own-configured : (c : Configured) (host : List ℕ) (place : ℕ) (number : Option ℕ) → host_place c host ≡ Some place → IfSome number (λ n. numbered c n ≡ slice_get c.hosts place) → IfSome number (λ n. numbered c n ≡ configured_host c host)
own-configured c host place None is own = tt
own-configured c host place (Some n) is own = own ∙ configured-place c host place is

no_fault : {X F : Type 0} (o : Option X) (b : Bool) (f g : F) → cond (is_some o) (Some f) (cond b (Some g) None) ≡ None → (o ≡ None) × (b ≡ false)
no_fault None true f g h = absurd cc
no_fault None false f g h = (refl, refl)
no_fault (Some x) b f g h = absurd cc

-- one more that isn't refused
pub configured-more : (c : Configured) (host : List ℕ) → IsConfigured c → refusal host c ≡ None → IsConfigured (record c { hosts = c.hosts ++ host ∷ [] })
configured-more c host well free =
    let none = no_fault (host_place c host) (nat_le MAX_PEERS (length c.hosts)) Taken Full free in
    let one_more = length-append c.hosts (host ∷ []) in
    let room : nat_le MAX_PEERS (length c.hosts) ≡ false = none.1 in
    record {
      some = well.some;
      few = well.few;
      peers = grind arith;
      apart = all_pairs_push (λ one other. is_same_host one other ≡ false) c.hosts host well.apart
          (λ k d less. position-None (λ one. is_same_host one host) c.hosts none.0 k d less);
    }

-- of the hosts behind a place those in a shard, by the shards of all
pub in_shard-drop : (shards shard place : ℕ) (hosts : List (List ℕ)) → place < length hosts
    → in_shard shards shard (drop place hosts) ≡ cond (get_or (map (home shards) hosts) place 0 == shard) (get_or hosts place [] ∷ in_shard shards shard (drop (suc place) hosts)) (in_shard shards shard (drop (suc place) hosts))
in_shard-drop shards shard place [] less = absurd (omega arith)
in_shard-drop shards shard zero (host ∷ hosts) less = refl
in_shard-drop shards shard (suc place) (host ∷ hosts) less = in_shard-drop shards shard place hosts (omega arith)

-- the shards of hosts say how many of them are in one
pub count-homes : (shards shard : ℕ) (hosts : List (List ℕ)) → length (filter (λ one. one == shard) (map (home shards) hosts)) ≡ length (in_shard shards shard hosts)
count-homes shards shard [] = refl
count-homes shards shard (host ∷ hosts) = both (home shards host == shard) (count-homes shards shard hosts)
  where
    both : (b : Bool) → length (filter (λ one. one == shard) (map (home shards) hosts)) ≡ length (in_shard shards shard hosts)
        → length (cond b (home shards host ∷ filter (λ one. one == shard) (map (home shards) hosts)) (filter (λ one. one == shard) (map (home shards) hosts))) ≡ length (cond b (host ∷ in_shard shards shard hosts) (in_shard shards shard hosts))
    both true e = ap suc e
    both false e = e

-- What is known of the number of the peer at a place.
pub record IsNumberOf (c : Configured) (place home_of before : ℕ) : Type 0 where
  pub host : List ℕ
  pub is : slice_get c.hosts place ≡ Some host
  pub number : home_of * MAX_MACHINES + before ≡ number_behind c.shards (take place c.hosts) host
  pub shard : home_of < 16
  pub few : before < MAX_MACHINES

pub number-is : (c : Configured) (homes : List ℕ) (place home_of before : ℕ) → IsConfigured c → homes ≡ map (home c.shards) c.hosts → slice_get homes place ≡ Some home_of → before ≡ length (filter (λ one. one == home_of) (take place homes)) → IsNumberOf c place home_of before
number-is c homes place home_of before well all is counted = of_host (slice_get c.hosts place) refl (sym (slice_get-map (home c.shards) c.hosts place) ∙ rw all at is)
  where
    counts : before ≡ length (in_shard c.shards home_of (take place c.hosts))
    counts = counted ∙ rw (all, take-map (home c.shards) place c.hosts) (count-homes c.shards home_of (take place c.hosts))

    of_host : (o : Option (List ℕ)) → slice_get c.hosts place ≡ o → option_map (home c.shards) o ≡ Some home_of → IsNumberOf c place home_of before
    of_host None at_place e = absurd cc
    of_host (Some host) at_place e =
        let own : home c.shards host ≡ home_of = cc in
        let less = mod-lt (sum host) {m = c.shards} well.some in
        record {
          host = host;
          is = at_place;
          number = rw (own, counts) refl;
          shard = omega (arith, own, less, well.few);
          few = rw counts (few_before c.shards home_of place c.hosts well.peers);
        }

pub number-of_peer : (c : Configured) (place home_of before : ℕ) → IsNumberOf c place home_of before → Some (home_of * MAX_MACHINES + before) ≡ number_of_peer c place
number-of_peer c place home_of before n = rw (n.is, n.number) refl

pub number-own : (c : Configured) (place home_of before : ℕ) → IsConfigured c → IsNumberOf c place home_of before → numbered c (home_of * MAX_MACHINES + before) ≡ slice_get c.hosts place
number-own c place home_of before well n = rw n.number (numbered-number c place n.host well.peers n.is)

-- a loop over the shards of all hosts passes one of the shard that it looks for, or one of another
passed : (c : Configured) (shard place before : ℕ) → place < length c.hosts → get_or (map (home c.shards) c.hosts) place 0 ≡ shard → (before ≡ 0 → ⊥)
    → slice_get (in_shard c.shards shard (drop place c.hosts)) before ≡ slice_get (in_shard c.shards shard (drop (place + 1) c.hosts)) (before - 1)
passed c shard place zero less own some = absurd (some refl)
passed c shard place (suc before) less own some =
    let one : suc before - 1 ≡ before = omega arith in
    rw (in_shard-drop c.shards shard place c.hosts less, eq-eqb _ _ own, add-one place, one) refl

other : (c : Configured) (shard place before : ℕ) → place < length c.hosts → (get_or (map (home c.shards) c.hosts) place 0 ≡ shard → ⊥)
    → slice_get (in_shard c.shards shard (drop place c.hosts)) before ≡ slice_get (in_shard c.shards shard (drop (place + 1) c.hosts)) before
other c shard place before less own = rw (in_shard-drop c.shards shard place c.hosts less, ne_eqb _ _ own, add-one place) refl

within : (c : Configured) (homes : List ℕ) (place : ℕ) → homes ≡ map (home c.shards) c.hosts → place < length homes → place < length c.hosts
within c homes place all less = let same = length-map c.hosts (home c.shards) in rw (all, same) at less

pub host-passed : (c : Configured) (homes : List ℕ) (shard place before next : ℕ) (wanted : Option (List ℕ)) → homes ≡ map (home c.shards) c.hosts → place < length homes → get_or homes place 0 ≡ shard → (before ≡ 0 → ⊥) → next ≡ before - 1
    → slice_get (in_shard c.shards shard (drop place c.hosts)) before ≡ wanted → slice_get (in_shard c.shards shard (drop (place + 1) c.hosts)) next ≡ wanted
host-passed c homes shard place before next wanted all less own some is so =
    rw is (sym (passed c shard place before (within c homes place all less) (rw all at own) some) ∙ so)

pub host-skipped : (c : Configured) (homes : List ℕ) (shard place before next : ℕ) (wanted : Option (List ℕ)) → homes ≡ map (home c.shards) c.hosts → place < length homes → (get_or homes place 0 ≡ shard → ⊥) → next ≡ before
    → slice_get (in_shard c.shards shard (drop place c.hosts)) before ≡ wanted → slice_get (in_shard c.shards shard (drop (place + 1) c.hosts)) next ≡ wanted
host-skipped c homes shard place before next wanted all less own is so =
    rw is (sym (other c shard place before (within c homes place all less) (rw all at own)) ∙ so)

-- A list to which nothing was added, or one more that isn't refused: with the shards of all.
pub keeps : (c : Configured) (host : List ℕ) (hosts : List (List ℕ)) (homes all_homes : List ℕ) (result : Result (Unit {0}) AddError) → IsConfigured c → homes ≡ map (home c.shards) c.hosts → refusal host c ≡ None
    → OnOk result (hosts ≡ c.hosts ++ host ∷ []) → OnOk result (all_homes ≡ homes ++ home c.shards host ∷ []) → OnErr result ((hosts ≡ c.hosts) × (all_homes ≡ homes))
    → IsConfigured (record { hosts = hosts; shards = c.shards }) × (all_homes ≡ map (home c.shards) hosts)
keeps c host hosts homes all_homes (Ok u) well all free added counted err =
    rw (added, counted, all) (configured-more c host well free, sym (map-append (home c.shards) c.hosts (host ∷ [])))
keeps c host hosts homes all_homes (Err e) well all free added counted err =
    rw (err.0, err.1) (well, all)

pub none-is : {X : Type 0} (o : Option X) → ((x : X) → o ≡ Some x → ⊥) → o ≡ None
none-is None never = refl
none-is (Some x) never = absurd (never x refl)
