-- Why a shard does not work.
use Rattle.std.specs.Prelude.{ℕ, ◌+◌, ◌==◌, not, nat_lt, Bool, false, List, [], ◌∷◌, length, find}
use Rattle.std.specs.Prelude.{option_map, unwrap_or, Option}
use Rattle.std.specs.Option.{option_map_or}
use Rattle.charge_session.specs.declared.want.Want.{Want}
use Rattle.bench_item.specs.declared.limit.TheConstants.{MAX_WAITING, WORK_ROOM}
use Rattle.bench_queue.specs.Inbox.{items_in}
use Rattle.bench_queue.specs.Outbox.{items_out}
use Rattle.bench_spec.specs.Refusal.{is_empty}
use Rattle.bench_shard.specs.Tasks.{page_of}
use Rattle.bench_shard.specs.View.{ShardView}
use Rattle.bench_shard.specs.declared.fault.WorkFault.{WorkFault}
use Rattle.bench_shard.specs.declared.fault.WorkFault.TheVariants.{Paused, Nothing, NeedsPage, Full, NoMemory}

-- whether the outbox lacks the room for the deeds of a step
abbrev pub lacks_work_room : ShardView → Bool
lacks_work_room v = nat_lt MAX_WAITING (length (items_out v.outbox) + WORK_ROOM)

-- what stands in the way of work, each thing with its fault, in the order in which they are told
abbrev pub reasons : ShardView → List (Bool × WorkFault)
reasons v = (v.paused, Paused) ∷ (is_empty (items_in v.inbox), Nothing) ∷ (lacks_work_room v, Full) ∷ []

-- the first of the reasons that holds
abbrev pub first_of : List (Bool × WorkFault) → Option WorkFault
first_of faults = option_map (λ reason. reason.1) (find (λ reason. reason.0) faults)

-- why a shard does not work, memory and the account book's page aside; none where it may
abbrev pub work_refusal : ShardView → Option WorkFault
work_refusal v = first_of (reasons v)

-- whether a page of the account book, of that number among so many, is another than the one that is needed
abbrev pub is_other_page : ℕ → ℕ → Option Want → Bool
is_other_page number pages want = option_map_or (λ page. not (page == number)) (page_of pages want) false

-- the same with that page, where the oldest item asks this
abbrev pub reasons_at : ℕ → ℕ → Option Want → ShardView → List (Bool × WorkFault)
reasons_at number pages want v =
    (v.paused, Paused) ∷ (is_empty (items_in v.inbox), Nothing)
    ∷ (is_other_page number pages want, NeedsPage (unwrap_or (page_of pages want) 0)) ∷ (lacks_work_room v, Full) ∷ []

abbrev pub refusal_at : ℕ → ℕ → Option Want → ShardView → Option WorkFault
refusal_at number pages want v = first_of (reasons_at number pages want v)

-- the number of a fault, in their order
abbrev pub number_of : WorkFault → ℕ
number_of Paused = 1
number_of Nothing = 2
number_of (NeedsPage page) = 3
number_of Full = 4
number_of NoMemory = 5
