-- A shard, an outbox and an inbox are what a log says, with one more entry without a move.
use Rattle.std.proofs.Common.{◌≡◌, ◌+◌, ℕ, List, [], ◌∷◌, ◌++◌, false, Option, None, refl, sym, ◌∙◌, ap, length}
use Rattle.std.specs.Prelude.{map, if◌then◌else◌, flat_map, option_to_list}
use Rattle.std.proofs.lemmas.List.{append-nil, length-append}
use Rattle.bench_item.specs.declared.entry.Entry.{Entry}
use Rattle.bench_item.specs.declared.item.Item.{Item}
use Rattle.bench_item.specs.declared.item.MachineItem.{MachineItem}
use Rattle.bench_item.specs.declared.source.Source.{Source}
use Rattle.bench_item.specs.declared.source.Source.TheVariants.{Clock, Desk, Shard}
use Rattle.bench_item.specs.declared.step.Step.{Step}
use Rattle.bench_queue.specs.Inbox.{InboxView}
use Rattle.bench_queue.specs.Outbox.{OutboxView}
use Rattle.bench_spec.specs.Items.{arrived, dropped, lifted, posts, work_posts, worked}
use Rattle.bench_spec.specs.Machines.{is_work, machine_item}
use Rattle.bench_spec.specs.Settings.{Settings}
use Rattle.bench_spec.proofs.AfterLemmas.{flat_map-snoc}
use Rattle.bench_spec.proofs.BookLemmas.{entry_of}
use Rattle.bench_views.specs.Carried.{arrives, carried_in, carried_out, carried_shard, drops, gives, lifts, works}
use Rattle.bench_shard.specs.Names.{key_octets}
use Rattle.bench_shard.specs.Stands.{Stands}
use Rattle.bench_shard.specs.View.{ShardView}
use Rattle.bench_views.specs.Shards.{inbox_at, outbox_at}
use Rattle.bench_views.proofs.Directories.{directory-same}
use Rattle.bench_views.proofs.Handled.{moves-none}
use Rattle.bench_views.proofs.Order.{arrived-snoc, dropped-snoc, lifted-snoc, worked-snoc}
use Rattle.bench_views.proofs.Standing.{states-same}

-- the fields of views
abbrev the_outbox : List Item → ℕ → ℕ → OutboxView
the_outbox ps l d = record { posts = ps; lifted = l; dropped = d }

outbox-fields : (ps qs : List Item) (l m d n : ℕ) → ps ≡ qs → l ≡ m → d ≡ n → the_outbox ps l d ≡ the_outbox qs m n
outbox-fields ps qs l m d n a b c = rw (a, b, c) refl

abbrev the_inbox : List MachineItem → ℕ → InboxView
the_inbox items worked = record { items = items; worked = worked }

inbox-fields : (xs ys : List MachineItem) (m n : ℕ) → xs ≡ ys → m ≡ n → the_inbox xs m ≡ the_inbox ys n
inbox-fields xs ys m n a b = rw (a, b) refl

length-more : {X : Type 0} (xs ys zs : List X) → zs ≡ xs ++ ys → length zs ≡ length xs + length ys
length-more xs ys zs same = ap length same ∙ length-append xs ys

-- what an outbox that stands for what was put out says of it
out-after : (settings : Settings) (log : List Entry) (e : Entry) (source : Source) (more : List Item) → posts settings (log ++ e ∷ []) source ≡ posts settings log source ++ more → outbox_at settings (log ++ e ∷ []) source ≡ the_outbox (posts settings log source ++ more) (length (lifted log source) + length (lifts source e)) (length (dropped log source) + length (drops source e))
out-after settings log e source more goes =
    outbox-fields (posts settings (log ++ e ∷ []) source) (posts settings log source ++ more) (length (lifted (log ++ e ∷ []) source)) (length (lifted log source) + length (lifts source e)) (length (dropped (log ++ e ∷ []) source)) (length (dropped log source) + length (drops source e))
    goes (length-more (lifted log source) (lifts source e) (lifted (log ++ e ∷ []) source) (lifted-snoc log e source))
    (length-more (dropped log source) (drops source e) (dropped (log ++ e ∷ []) source) (dropped-snoc log e source))

-- the outbox of a desk, and of the clock
pub desk-after : (settings : Settings) (log : List Entry) (e : Entry) (desk : ℕ) → outbox_at settings (log ++ e ∷ []) (Desk desk) ≡ carried_out (Desk desk) e (outbox_at settings log (Desk desk))
desk-after settings log e desk = out-after settings log e (Desk desk) (gives (Desk desk) e) (flat_map-snoc (λ x. gives (Desk desk) x) log e)

pub clock-after : (settings : Settings) (log : List Entry) (e : Entry) → outbox_at settings (log ++ e ∷ []) Clock ≡ carried_out Clock e (outbox_at settings log Clock)
clock-after settings log e = out-after settings log e Clock (gives Clock e) (flat_map-snoc (λ x. gives Clock x) log e)

-- the outbox of a shard, at an entry that is no work
pub shard_out-after : (settings : Settings) (log : List Entry) (e : Entry) (shard : ℕ) → is_work shard e.step ≡ false → outbox_at settings (log ++ e ∷ []) (Shard shard) ≡ carried_out (Shard shard) e (outbox_at settings log (Shard shard))
shard_out-after settings log e shard idle =
    out-after settings log e (Shard shard) [] (flat_map-snoc (λ x. if is_work shard x.step then work_posts settings.node x else []) log e ∙ ap (λ b. posts settings log (Shard shard) ++ (if b then work_posts settings.node e else [])) idle)

-- its inbox
pub shard_in-after : (settings : Settings) (log : List Entry) (e : Entry) (shard : ℕ) → is_work shard e.step ≡ false → inbox_at settings (log ++ e ∷ []) shard ≡ carried_in settings.node shard e (inbox_at settings log shard)
shard_in-after settings log e shard idle =
    inbox-fields (arrived settings.node (log ++ e ∷ []) shard) (arrived settings.node log shard ++ arrives settings.node shard e) (length (worked (log ++ e ∷ []) shard)) (length (worked log shard))
    (arrived-snoc settings.node log e shard)
    (ap length (worked-snoc log e shard ∙ ap (λ ws. worked log shard ++ ws) none ∙ append-nil (worked log shard)))
  where
    none : works shard e ≡ []
    none = ap (λ b. if b then flat_map machine_item (option_to_list e.item) else []) idle

-- a shard
pub stands-carried : (settings : Settings) (log : List Entry) (step : Step) (item : Option Item) (v : ShardView) → ((shard : ℕ) → is_work shard step ≡ false) → Stands settings log v → Stands settings (log ++ entry_of step item None ∷ []) (carried_shard settings.node (entry_of step item None) v)
stands-carried settings log step item v idle s = record {
  here = s.here;
  peers = s.peers;
  names = s.names ∙ ap (map key_octets) (sym (directory-same settings.node v.number log (entry_of step item None) refl));
  states = s.states ∙ sym (states-same settings.node v.number log (entry_of step item None) refl (λ key here. moves-none key (entry_of step item None) refl));
  inbox = ap (carried_in settings.node v.number (entry_of step item None)) s.inbox ∙ sym (shard_in-after settings log (entry_of step item None) v.number (idle v.number));
  outbox = ap (carried_out (Shard v.number) (entry_of step item None)) s.outbox ∙ sym (shard_out-after settings log (entry_of step item None) v.number (idle v.number));
}
