-- The parts of a world at its start are what a log without entries says.
use Rattle.std.proofs.Common.{◌≡◌, ◌+◌, ◌<◌, ℕ, suc, zero, Bool, false, List, [], ◌∷◌, ap, arith, inl, inr, length, refl, replicate, subst, sym, ◌∙◌}
use Rattle.std.specs.Prelude.{map}
use Rattle.std.specs.FinMap as map
use Rattle.std.specs.List.{range_with_len}
use Rattle.std.proofs.lemmas.Bool.{cases_lt}
use Rattle.std.proofs.lemmas.List.{length-map, length-replicate}
use Rattle.std.proofs.lemmas.List.FromFn.{length-map-range_with_len}
use Rattle.acct_book.specs.Book.{Opened}
use Rattle.bench_item.specs.Keys.{Configured, peers_of}
use Rattle.bench_queue.specs.Outbox.{OutboxState, OutboxView, nothing_out}
use Rattle.bench_shard.specs.Stands.{Stands}
use Rattle.bench_shard.specs.View.{ShardView, opened}
use Rattle.bench_spec.specs.Settings.{Settings}
use Rattle.bench_views.specs.Pages.{page_at}
use Rattle.bench_views.specs.Shards.{outbox_at}
use Rattle.bench_views.specs.Stored.{EachAt, IsShardAt, IsTied, Stored, source_at}
use Rattle.bench_views.proofs.Each.{some-same}
use Rattle.bench_core.specs.Inside.{IsPageAt}
use Rattle.bench_start.specs.Starting.{page_at_start, pages_at_start}
use Rattle.bench_core.specs.Starting.{AreStanding, shards_at_start}
use Rattle.bench_core.specs.Whole.{CanGoBack, IsWhole}

-- what is made of each number, by its place
each-from : {X : Type 0} (P : ℕ → X → Type 0) (f : ℕ → X) (first n : ℕ) → ((k : ℕ) → k < n → P k (f (first + k))) → EachAt P (map f (range_with_len first n))
each-from P f first zero h k x is = absurd cc
each-from P f first (suc n) h zero x is = subst (P 0) (ap f (plus_none first) ∙ some-same (f first) x is) (h 0 (omega arith))
  where
    plus_none : (m : ℕ) → m + 0 ≡ m
    plus_none m = omega arith
each-from P f first (suc n) h (suc k) x is =
    each-from (λ j y. P (suc j) y) f (first + 1) n (λ j less. subst (λ m. P (suc j) (f m)) (next first j) (h (suc j) (omega (arith, less)))) k x is
  where
    next : (m j : ℕ) → m + suc j ≡ (m + 1) + j
    next m j = omega arith

pub each-range : {X : Type 0} (P : ℕ → X → Type 0) (f : ℕ → X) (n : ℕ) → ((k : ℕ) → k < n → P k (f k)) → EachAt P (map f (range_with_len 0 n))
each-range P f n h = each-from P f 0 n (λ k less. subst (λ m. P k (f m)) (zero_plus k) (h k less))
  where
    zero_plus : (k : ℕ) → k ≡ 0 + k
    zero_plus k = omega arith

map-map : {X Y Z : Type 0} (g : Y → Z) (f : X → Y) (xs : List X) → map g (map f xs) ≡ map (λ x. g (f x)) xs
map-map g f [] = refl
map-map {Z = Z} g f (x ∷ xs) = ap (λ (zs : List Z). g (f x) ∷ zs) (map-map g f xs)

-- no shard is paused
paused-from : (peers : Configured) (first count : ℕ) → map (λ v. v.paused) (map (λ number. opened number peers) (range_with_len first count)) ≡ replicate count false
paused-from peers first zero = refl
paused-from peers first (suc count) = ap (λ (bs : List Bool). false ∷ bs) (paused-from peers (first + 1) count)

pub none-paused : (peers : Configured) (count : ℕ) → map (λ v. v.paused) (shards_at_start peers count) ≡ replicate count false
none-paused peers count = paused-from peers 0 count

-- the outboxes at the start, as a contract sees them
views-from : (count : ℕ) → map (λ (o : OutboxState). o.view) (replicate count (record { view = nothing_out; room = 0 })) ≡ replicate count nothing_out
views-from zero = refl
views-from (suc count) = ap (λ (vs : List OutboxView). nothing_out ∷ vs) (views-from count)

each-like : {X : Type 0} (P : ℕ → X → Type 0) (y : X) (n : ℕ) → ((k : ℕ) → P k y) → EachAt P (replicate n y)
each-like P y zero h k x is = absurd cc
each-like P y (suc n) h zero x is = subst (P 0) (some-same y x is) (h 0)
each-like P y (suc n) h (suc k) x is = each-like (λ j z. P (suc j) z) y n (λ j. h (suc j)) k x is

nothing-at : (settings : Settings) (place : ℕ) → nothing_out ≡ outbox_at settings [] (source_at place)
nothing-at settings zero = refl
nothing-at settings (suc desk) = refl

nothing-each : {X : Type 0} (P : ℕ → X → Type 0) → EachAt P []
nothing-each P k x is = absurd cc

-- what a world keeps at its start
abbrev pub stored_at_start : Settings → Stored
stored_at_start settings = record {
  shards = shards_at_start (peers_of settings.node) settings.node.shards;
  outboxes = map (λ (o : OutboxState). o.view) (replicate (settings.desks + 1) (record { view = nothing_out; room = 0 }));
  lines = [];
  carried = [];
  books = map (λ p. p.book) (pages_at_start settings.pages settings.accounts);
  timers = map.empty;
}

start-tied : (settings : Settings) → AreStanding (peers_of settings.node) settings.node.shards → IsTied settings [] (stored_at_start settings)
start-tied settings standing = record {
  shard_count = length-map-range_with_len (λ number. opened number (peers_of settings.node)) 0 settings.node.shards;
  shards = each-range (IsShardAt settings []) (λ number. opened number (peers_of settings.node)) settings.node.shards (λ k less. (refl, standing settings k less refl));
  outbox_count = ap length (views-from (settings.desks + 1)) ∙ length-replicate (settings.desks + 1) nothing_out;
  outboxes = subst (EachAt (λ p v. v ≡ outbox_at settings [] (source_at p))) (sym (views-from (settings.desks + 1))) (each-like (λ p v. v ≡ outbox_at settings [] (source_at p)) nothing_out (settings.desks + 1) (nothing-at settings));
  lines = record { each = tt };
  lifted_of = nothing-each _;
  carried_count = refl;
  carried_of = nothing-each _;
  book_count = length-map (pages_at_start settings.pages settings.accounts) (λ p. p.book) ∙ length-map-range_with_len (page_at_start settings.pages settings.accounts) 0 settings.pages;
  books = subst (EachAt (λ k book. book ≡ page_at settings k [])) (sym (map-map (λ p. p.book) (page_at_start settings.pages settings.accounts) (range_with_len 0 settings.pages))) (each-range (λ k book. book ≡ page_at settings k []) (λ k. (page_at_start settings.pages settings.accounts k).book) settings.pages (λ k less. refl));
  timers = λ machine. rw map.get-empty refl;
}

pub start-whole : (settings : Settings) → AreStanding (peers_of settings.node) settings.node.shards → IsWhole settings [] (stored_at_start settings) []
start-whole settings standing =
    let tied = start-tied settings standing in
    record { legal = tt; tied = tied; back = CanGoBack.AtStart (stored_at_start settings) tied }

-- one more shard that is what a log without entries says
pub standing-more : (peers own : Configured) (n : ℕ) (shard : ShardView) → AreStanding peers n → own ≡ peers → shard ≡ opened n own
    → ((settings : Settings) → own ≡ record { hosts = settings.node.peers; shards = settings.node.shards } → Stands settings [] shard) → AreStanding peers (n + 1)
standing-more peers own n shard so_far own_is shard_is stands settings k less is = elim (cases_lt k n) [
  | inl before ↦ so_far settings k before is
  | inr behind ↦
      let last : n ≡ k = omega (arith, less, behind) in
      subst (λ (m : ℕ). Stands settings [] (opened m peers)) last
      (subst (λ (p : Configured). Stands settings [] (opened n p)) own_is (subst (Stands settings []) shard_is (stands settings (own_is ∙ is))))
]

-- each page has its number
pub each-pages : (count : ℕ) (accounts : List Opened) → EachAt (IsPageAt count) (pages_at_start count accounts)
each-pages count accounts = each-range (IsPageAt count) (page_at_start count accounts) count (λ k less. (refl, refl))
