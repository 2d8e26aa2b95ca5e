-- The timers that are armed.
use Rattle.std.specs.Prelude.{ℕ, ◌*◌, List, [], ◌∷◌, ◌++◌, codes, decimal, flat_map, Option, Some, None}
use Rattle.std.specs.List.{range_with_len}
use Rattle.bench_item.specs.declared.key.Key.{Key}
use Rattle.bench_item.specs.declared.limit.TheConstants.{MAX_MACHINES, MAX_SHARDS}
use Rattle.bench_script.specs.Printed.{machine_at}
use Rattle.bench_spec.specs.Taken.{Run, shown}
use Rattle.step_text.specs.Lines.{behind}
use Rattle.step_text.specs.Names as names

-- the word for a machine, `-` where there is none
abbrev pub key_word : Option Key → List ℕ
key_word None = codes "-"
key_word (Some key) = names.shown (names.key_name key)

-- ` KEY`: the machine of a number
abbrev pub machine_text : Run → ℕ → List ℕ
machine_text run machine = behind (key_word (machine_at run machine) ∷ [])

-- `timer KEY GEN`, where the timer of the machine of that number is armed, with that generation
abbrev pub timer_line : Run → ℕ → Option ℕ → List ℕ
timer_line run machine None = []
timer_line run machine (Some generation) =
    codes "timer" ++ machine_text run machine ++ codes " " ++ decimal generation ++ codes "\n"

abbrev pub timer_text : Run → ℕ → List ℕ
timer_text run machine = timer_line run machine ((shown run).timer_of machine)

-- of the first so many numbers
unfoldable pub timers_to : Run → ℕ → List ℕ
timers_to run count = flat_map (timer_text run) (range_with_len 0 count)

-- of all numbers that a node's machines have, in their order
abbrev pub timers_text : Run → List ℕ
timers_text run = timers_to run (MAX_SHARDS * MAX_MACHINES)
