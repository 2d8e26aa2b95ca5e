-- Where a walk begins.
use Rattle.std.specs.Prelude.{ℕ, List, [], ◌∷◌, Option, Some, None, codes, nat_lt, position, replicate, if◌then◌else◌}
use Rattle.std.specs.Option.{option_map}
use Rattle.std.specs.Str.{bytes_eq}
use Rattle.tab_law.specs.declared.limits.TheConstants.{PLACES}
use Rattle.tab_step.specs.declared.machine.MachineState.{MachineState}
use Rattle.text_parts.specs.Words.{Word, words}
use Rattle.event_text.specs.Events.{registers_of}
use Rattle.tab_walk.specs.declared.start.WalkOptions.{WalkOptions}

-- a machine in state 0, its registers 0
abbrev pub at_start : MachineState
at_start = record { state = 0; regs = replicate PLACES 0 }

-- a machine in the state of that number with those registers; a state's number is an octet
abbrev pub machine_at : ℕ → List ℕ → Option MachineState
machine_at state regs = if nat_lt state 256 then Some (record { state = state; regs = regs }) else None

-- the same, where both are there
abbrev pub machine_with : Option ℕ → Option (List ℕ) → Option MachineState
machine_with (Some state) (Some regs) = machine_at state regs
machine_with (Some state) None = None
machine_with None regs = None

-- the state of a name, and registers `rN=V`
abbrev pub machine_from : (names : List (List ℕ)) → List Word → Option MachineState
machine_from names [] = None
machine_from names (name ∷ others) =
    machine_with (position (λ state. bytes_eq state name.octets) names) (registers_of others)

-- the machine of a text `STATE rN=V ..`; the names are those of the states
unfoldable pub machine_of : (names : List (List ℕ)) → List ℕ → Option MachineState
machine_of names text = machine_from names (words text)

-- where a walk begins: as it is asked to, or at the start
abbrev pub start_of : (names : List (List ℕ)) → Option (List ℕ) → Option MachineState
start_of names None = Some at_start
start_of names (Some text) = machine_of names text

-- the text that it is asked to begin at
abbrev pub from_of : WalkOptions → Option (List ℕ)
from_of options = option_map (λ text. text.now) options.from

-- what is told where no machine is written so
unfoldable pub start_text : List ℕ
start_text =
    codes "bad start\n  wanted: STATE rN=V ..: a state of the table, then registers, each once, N at most 63 and V below 2^64\n"
