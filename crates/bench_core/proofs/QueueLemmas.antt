-- What waits at a shard and how many machines it has is what the log says.
use Rattle.std.proofs.Common.{◌≡◌, ◌<◌, ◌≤◌, ◌+◌, ℕ, zero, suc, List, [], ◌∷◌, length, drop, Option, Some, None, refl, ◌∙◌, ap, arith, true}
use Rattle.std.specs.Prelude.{option_map, option_to_list, slice_get}
use Rattle.std.specs.Option.{option_map_or}
use Rattle.std.proofs.lemmas.Option.{slice_get_past}
use Rattle.bench_item.specs.declared.source.Source.{Source}
use Rattle.bench_queue.specs.Inbox.{items_in}
use Rattle.bench_shard.specs.View.{ShardView}
use Rattle.bench_shard.proofs.ViewLemmas.{count}
use Rattle.bench_spec.specs.Items.{dropped, hand, inbox, lifted}
use Rattle.bench_spec.specs.Machines.{directory}
use Rattle.bench_spec.specs.Refusal.{is_source}
use Rattle.bench_views.specs.Looks.{hand_of}
use Rattle.bench_views.proofs.Looks.{hand_of-log}
use Rattle.bench_core.specs.Inside.{IsSound, settings_in, stored_in}
use Rattle.bench_core.proofs.LegalLemmas.{legal_order}
use Rattle.bench_core.specs.declared.keeping.Core.TheInside.{Inside}
use Rattle.bench_core.proofs.LookLemmas.{within}

-- a shard that is there
record There (w : Inside) (shard : ℕ) : Type 0 where
  v : ShardView
  at : slice_get w.shards.items shard ≡ Some v
  machines : length v.names ≡ length (directory (settings_in w).node shard w.log.entries)
  waits : items_in v.inbox ≡ inbox (settings_in w).node w.log.entries shard

there : (w : Inside) (shard : ℕ) → IsSound w → shard < (settings_in w).node.shards → There w shard
there w shard sound less =
    let found = within w.shards.items shard (omega (arith, less, sound.whole.tied.shard_count)) in
    let is = sound.whole.tied.shards shard found.0 found.1 in
    record {
      v = found.0;
      at = found.1;
      machines = count (settings_in w) w.log.entries found.0 is.1 ∙ ap (λ k. length (directory (settings_in w).node k w.log.entries)) is.0;
      waits = ap items_in is.1.inbox ∙ ap (inbox (settings_in w).node w.log.entries) is.0;
    }

pub machines-shown : (w : Inside) (shard : ℕ) → IsSound w → shard < (settings_in w).node.shards
    → option_map (λ (v : ShardView). length v.names) (slice_get w.shards.items shard) ≡ Some (length (directory (settings_in w).node shard w.log.entries))
machines-shown w shard sound less =
    let h = there w shard sound less in ap (option_map (λ (v : ShardView). length v.names)) h.at ∙ ap Some h.machines

pub inbox-shown : (w : Inside) (shard : ℕ) → IsSound w → shard < (settings_in w).node.shards
    → option_map_or (λ (v : ShardView). items_in v.inbox) (slice_get w.shards.items shard) [] ≡ inbox (settings_in w).node w.log.entries shard
inbox-shown w shard sound less =
    let h = there w shard sound less in ap (λ (o : Option ShardView). option_map_or (λ (v : ShardView). items_in v.inbox) o []) h.at ∙ h.waits

-- a shard that is not there
pub none-there : (w : Inside) (shard : ℕ) → IsSound w → (settings_in w).node.shards ≤ shard → slice_get w.shards.items shard ≡ None
none-there w shard sound past = slice_get_past w.shards.items shard (omega (arith, past, sound.whole.tied.shard_count))

-- of a list that has at most one item more, the rest is that item
one-left : {X : Type 0} (xs : List X) (n : ℕ) → length xs ≤ n + 1 → option_to_list (slice_get xs n) ≡ drop n xs
one-left [] zero most = refl
one-left [] (suc n) most = refl
one-left (x ∷ []) zero most = refl
one-left (x ∷ y ∷ xs) zero most = absurd (omega (arith, most))
one-left (x ∷ xs) (suc n) most = one-left xs n (omega (arith, most))

-- what is in the hand of a source that is there
pub hand-shown : (w : Inside) (source : Source) → IsSound w → is_source (settings_in w) w.log.entries source ≡ true
    → option_to_list (hand_of source (stored_in w)) ≡ hand w.log.entries source
hand-shown w source sound there =
    let order = legal_order (settings_in w) w.log.entries sound.whole.legal in
    ap option_to_list (hand_of-log (settings_in w) w.log.entries (stored_in w) source sound.whole.tied order there)
    ∙ one-left (lifted w.log.entries source) (length (dropped w.log.entries source)) (order.sources source).one_between
