-- Which step is the next where all that waits is carried and handled.
use Rattle.std.specs.Prelude.{ℕ, Bool, List, [], ◌∷◌, ◌++◌, find, is_none, length, map, Option}
use Rattle.std.specs.List.{range_with_len}
use Rattle.bench_item.specs.declared.limit.TheConstants.{MAX_DESKS, MAX_SHARDS}
use Rattle.bench_item.specs.declared.source.Source.{Source}
use Rattle.bench_item.specs.declared.source.Source.TheVariants as of
use Rattle.bench_item.specs.declared.step.Step.{Step}
use Rattle.bench_item.specs.declared.step.Step.TheVariants as steps
use Rattle.bench_spec.specs.Lines.{openings}
use Rattle.bench_spec.specs.Refusal.{refusal}
use Rattle.bench_spec.specs.Taken.{Run}
use Rattle.bench_script.specs.declared.next.Carry.{Carry}
use Rattle.bench_script.specs.declared.next.Carry.TheVariants.{Drop, Lift}
use Rattle.bench_script.specs.declared.next.Sort.{Sort}
use Rattle.bench_script.specs.declared.next.Sort.TheVariants.{Line, Shard, Desk}

-- the step that carries an item of a source
abbrev pub carried : Carry → Source → Step
carried Drop source = steps.Drop source
carried Lift source = steps.Lift source

-- the source of a sort and a number
abbrev pub source_of : Sort → ℕ → Source
source_of Line number = of.Line number
source_of Shard number = of.Shard number
source_of Desk number = of.Desk number

-- so many numbers, from one on
unfoldable pub numbers : ℕ → ℕ → List ℕ
numbers from count = range_with_len from count

-- so many sources of a sort, from a number on
abbrev pub numbered : Sort → ℕ → ℕ → List Source
numbered sort from count = map (source_of sort) (numbers from count)

-- the sources, in the order in which they are asked: the lines that were opened, the shards, the desks, each by number,
-- and the clock
unfoldable pub sources : ℕ → List Source
sources lines = numbered Line 1 lines ++ numbered Shard 0 MAX_SHARDS ++ numbered Desk 0 MAX_DESKS ++ of.Clock ∷ []

-- the work of so many shards, from a number on
abbrev pub works : ℕ → ℕ → List Step
works from count = map (λ shard. steps.Work shard) (numbers from count)

-- the steps that carry or handle an item: what is in a hand is dropped before another item is lifted, and both come
-- before a shard's work
unfoldable pub settling_steps : ℕ → List Step
settling_steps lines =
    map (carried Drop) (sources lines) ++ map (carried Lift) (sources lines)
    ++ works 0 MAX_SHARDS

-- whether a step may be taken
unfoldable pub is_free : Run → Step → Bool
is_free run step = is_none (refusal run.settings run.log run.paused step)

-- the next step: the first of them that may be taken; none where nothing waits, or nothing of it can be carried or
-- handled
unfoldable pub next_settled : Run → Option Step
next_settled run = find (is_free run) (settling_steps (length (openings run.log)))
