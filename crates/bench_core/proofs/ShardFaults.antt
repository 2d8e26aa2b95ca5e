-- Why a shard does not work: by the shards that a world keeps as by its log.
use Rattle.std.proofs.Common.{◌≡◌, ◌≤◌, ℕ, zero, suc, List, [], ◌∷◌, length, Bool, true, false, Option, Some, None, refl, sym, ◌∙◌, ap, arith}
use Rattle.std.specs.Prelude.{◌+◌, ◌||◌, map, not, nat_lt, slice_get, unwrap_or}
use Rattle.std.specs.Option.{option_map}
use Rattle.std.proofs.lemmas.Bool.{le-ltb, lt-ltb}
use Rattle.std.proofs.lemmas.Option.{slice_get-map, slice_get_within}
use Rattle.bench_item.specs.declared.entry.Entry.{Entry}
use Rattle.bench_item.specs.declared.item.Item.{Item}
use Rattle.bench_item.specs.declared.item.MachineItem.{MachineItem}
use Rattle.bench_item.specs.declared.limit.TheConstants.{MAX_WAITING, WORK_ROOM}
use Rattle.bench_item.specs.declared.source.Source.TheVariants.{Shard}
use Rattle.bench_item.specs.declared.step.Step.TheVariants.{Work}
use Rattle.bench_item.specs.declared.step.StepFault.{StepFault}
use Rattle.bench_item.specs.declared.step.StepFault.TheVariants.{Full, Nothing, Paused, Unknown}
use Rattle.bench_queue.specs.Inbox.{items_in}
use Rattle.bench_queue.specs.Outbox.{items_out}
use Rattle.bench_shard.specs.declared.fault.WorkFault.TheVariants as fault
use Rattle.bench_shard.specs.Refusal as own
use Rattle.bench_shard.specs.View.{ShardView}
use Rattle.bench_spec.specs.Items.{inbox, outbox}
use Rattle.bench_spec.specs.Refusal.{is_empty, is_log_full, is_paused, lacks_work_room, refusal}
use Rattle.bench_spec.specs.Settings.{Settings}
use Rattle.bench_views.specs.Stored.{IsTied, Stored}
use Rattle.bench_core.specs.Faults.{first_of, shard_fault, unpaused_shard_fault, work_fault_or}

-- the four reasons
abbrev four : Bool → Bool → Bool → Bool → Option StepFault
four unknown paused nothing full = first_of ((unknown, Unknown) ∷ (paused, Paused) ∷ (nothing, Nothing) ∷ (full, Full) ∷ [])

four-by : (paused nothing room full : Bool)
    → work_fault_or (own.first_of ((paused, fault.Paused) ∷ (nothing, fault.Nothing) ∷ (room, fault.Full) ∷ [])) full ≡ four false paused nothing (full || room)
four-by true nothing room full = refl
four-by false true room full = refl
four-by false false true true = refl
four-by false false true false = refl
four-by false false false true = refl
four-by false false false false = refl

past-none : {X : Type 0} (xs : List X) (k : ℕ) → slice_get xs k ≡ None → length xs ≤ k
past-none [] k e = omega arith
past-none (x ∷ xs) zero e = absurd cc
past-none (x ∷ xs) (suc k) e = omega (arith, past-none xs k e)

-- a shard that is there, and is paused or not
there-by : (settings : Settings) (log : List Entry) (paused : List Bool) (s : Stored) (shard : ℕ) (v : ShardView) (halted : Bool) → IsTied settings log s
    → is_paused paused shard ≡ halted → slice_get s.shards shard ≡ Some v
    → work_fault_or (own.first_of ((halted, fault.Paused) ∷ (is_empty (items_in v.inbox), fault.Nothing) ∷ (own.lacks_work_room v, fault.Full) ∷ [])) (is_log_full log)
    ≡ refusal settings log paused (Work shard)
there-by settings log paused s shard v halted tied pauses at =
    let is = tied.shards shard v at in
    let known : not (nat_lt shard settings.node.shards) ≡ false = ap not (lt-ltb shard settings.node.shards (omega (arith, slice_get_within s.shards shard v at, tied.shard_count))) in
    let came : inbox settings.node log shard ≡ items_in v.inbox =
    ap (λ (k : ℕ). inbox settings.node log k) (sym is.0) ∙ ap items_in (sym is.1.inbox) in
    let posted : outbox settings log (Shard shard) ≡ items_out v.outbox =
    ap (λ (k : ℕ). outbox settings log (Shard k)) (sym is.0) ∙ ap items_out (sym is.1.outbox) in
    four-by halted (is_empty (items_in v.inbox)) (own.lacks_work_room v) (is_log_full log)
    ∙ ap (λ (b : Bool). four b halted (is_empty (items_in v.inbox)) (is_log_full log || own.lacks_work_room v)) (sym known)
    ∙ ap (λ (b : Bool). four (not (nat_lt shard settings.node.shards)) b (is_empty (items_in v.inbox)) (is_log_full log || own.lacks_work_room v)) (sym pauses)
    ∙ ap (λ (xs : List MachineItem). four (not (nat_lt shard settings.node.shards)) (is_paused paused shard) (is_empty xs) (is_log_full log || own.lacks_work_room v)) (sym came)
    ∙ ap (λ (xs : List Item). four (not (nat_lt shard settings.node.shards)) (is_paused paused shard) (is_empty (inbox settings.node log shard)) (is_log_full log || nat_lt MAX_WAITING (length xs + WORK_ROOM))) (sym posted)

there-shard : (settings : Settings) (log : List Entry) (paused : List Bool) (s : Stored) (shard : ℕ) (v : ShardView) → IsTied settings log s → paused ≡ map (λ v. v.paused) s.shards
    → slice_get s.shards shard ≡ Some v → work_fault_or (own.work_refusal v) (is_log_full log) ≡ refusal settings log paused (Work shard)
there-shard settings log paused s shard v tied pauses at =
    there-by settings log paused s shard v v.paused tied
    (ap (λ (ps : List Bool). unwrap_or (slice_get ps shard) false) pauses ∙ ap (λ (o : Option Bool). unwrap_or o false) (slice_get-map (λ (x : ShardView). x.paused) s.shards shard ∙ ap (option_map (λ (x : ShardView). x.paused)) at))
    at

-- a shard that is not there
none-there : (settings : Settings) (log : List Entry) (paused : List Bool) (s : Stored) (shard : ℕ) → IsTied settings log s → slice_get s.shards shard ≡ None
    → Some Unknown ≡ refusal settings log paused (Work shard)
none-there settings log paused s shard tied e =
    let unknown : not (nat_lt shard settings.node.shards) ≡ true = ap not (le-ltb shard settings.node.shards (omega (arith, past-none s.shards shard e, tied.shard_count))) in
    ap (λ (b : Bool). four b (is_paused paused shard) (is_empty (inbox settings.node log shard)) (is_log_full log || lacks_work_room settings log shard)) (sym unknown)

-- a shard does not work
pub work-log : (settings : Settings) (log : List Entry) (paused : List Bool) (s : Stored) (shard : ℕ) → IsTied settings log s → paused ≡ map (λ v. v.paused) s.shards
    → shard_fault (slice_get s.shards shard) (is_log_full log) ≡ refusal settings log paused (Work shard)
work-log settings log paused s shard tied pauses = by (slice_get s.shards shard) refl
  where
    by : (o : Option ShardView) → slice_get s.shards shard ≡ o → shard_fault o (is_log_full log) ≡ refusal settings log paused (Work shard)
    by None e = none-there settings log paused s shard tied e
    by (Some v) e = there-shard settings log paused s shard v tied pauses e

-- and would not if none were paused
pub unpaused-log : (settings : Settings) (log : List Entry) (s : Stored) (shard : ℕ) → IsTied settings log s
    → unpaused_shard_fault (slice_get s.shards shard) (is_log_full log) ≡ refusal settings log [] (Work shard)
unpaused-log settings log s shard tied = by (slice_get s.shards shard) refl
  where
    by : (o : Option ShardView) → slice_get s.shards shard ≡ o → unpaused_shard_fault o (is_log_full log) ≡ refusal settings log [] (Work shard)
    by None e = none-there settings log [] s shard tied e
    by (Some v) e = there-by settings log [] s shard v false tied refl e
