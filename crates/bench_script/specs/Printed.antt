-- What is printed of a step that was tried.
use Rattle.std.specs.Prelude.{ℕ, List, [], ◌++◌, codes, decimal, map, nat_lt, Option}
use Rattle.std.specs.Prelude.{None, option_to_list, if◌then◌else◌}
use Rattle.base_list.specs.declared.named.Named.{Named}
use Rattle.bench_item.specs.Keys.{shard_of}
use Rattle.bench_item.specs.Steps.{number_of}
use Rattle.bench_item.specs.declared.entry.Entry.{Entry}
use Rattle.bench_item.specs.declared.key.Key.{Key}
use Rattle.bench_item.specs.declared.key.Role.{Role}
use Rattle.bench_item.specs.declared.key.Role.TheVariants.{Peer, Client, Server}
use Rattle.bench_item.specs.declared.step.Step.{Step}
use Rattle.bench_item.specs.declared.step.Step.TheVariants.{Fired}
use Rattle.bench_item.specs.declared.step.StepFault.{StepFault}
use Rattle.bench_spec.specs.Machines.{key_numbered}
use Rattle.bench_spec.specs.Settings.{Settings}
use Rattle.bench_spec.specs.Taken.{Run}
use Rattle.log_text.specs.Books as books
use Rattle.log_text.specs.EntryLines.{entry_lines}
use Rattle.step_text.specs.Names.{key_name, names_of}

-- the machine of a number, if there is one
abbrev pub machine_at : Run → ℕ → Option Key
machine_at run machine =
    if nat_lt (shard_of machine) run.settings.node.shards
    then key_numbered run.settings.node run.log machine
    else None

-- the machine that a step names by its number, under its key: the one whose timer fires
abbrev pub machines_for : Run → Step → List (Named ℕ)
machines_for run (Fired machine generation) =
    map (λ key. record { name = key_name key; value = machine }) (option_to_list (machine_at run machine))
machines_for run step = []

-- the names of the states of a role's table
abbrev pub states_of : Settings → Role → List (List ℕ)
states_of settings Peer = settings.peer.states
states_of settings Client = settings.client.states
states_of settings Server = settings.server.states

-- the names in the text of a step: those of the bench
abbrev pub names_at : Run → Step → books.Named
names_at run step = record {
  names = names_of run.settings.node.laws (machines_for run step);
  states = states_of run.settings;
}

-- an entry that was taken, in the world that it led to
abbrev pub taken_text : Run → Entry → List ℕ
taken_text run entry = entry_lines (names_at run entry.step) entry

-- a step that was refused
abbrev pub refused_text : StepFault → List ℕ
refused_text fault = codes "refused " ++ decimal (number_of fault) ++ codes "\n"
