-- A debugger on a bench that is opened, or why there is none.
use Rattle.std.specs.Prelude.{◌≡◌, ℕ, min, List, replicate, Option, Some, None, option_map}
use Rattle.std.specs.Option.{option_and_then, option_or}
use Rattle.bench_debug.specs.Debug.{Debugging, started}
use Rattle.bench_debug.specs.Seen.{seen}
use Rattle.bench_item.specs.declared.limit.TheConstants.{MAX_SHARDS}
use Rattle.bench_open.specs.declared.config.Config as handed
use Rattle.bench_script.specs.Ran.{IsRunBy}
use Rattle.bench_spec.specs.Opening.{Config, laws_of, opening_refusal, settings_of}
use Rattle.bench_spec.specs.Taken.{Run, opened}
use Rattle.bench_setup.specs.Opening.{opening_text}
use Rattle.cmd_bench.specs.Told.{bad_text}
use Rattle.role_tables.specs.Roles.{all_laws}
use Rattle.script_text.specs.Scripts.{first_bad, script_of}
use Rattle.tab_law.specs.Books.{Laws}
use Rattle.cmd_debug.specs.declared.opening.Opened.{Opened}
use Rattle.cmd_debug.specs.declared.opening.Opened.TheVariants.{Ready, Refused}

-- a debugger of a bench at the start of a script, or the script's first line of another form
abbrev pub IsBegun : Run → (script : List ℕ) → Opened → Type 0
IsBegun run script (Ready debugger) =
    (first_bad run.settings.node.laws script ≡ None)
    × (seen debugger ≡ started run (script_of run.settings.node.laws script))
IsBegun run script (Refused text) = option_map bad_text (first_bad run.settings.node.laws script) ≡ Some text.items

-- what is refused first: the opening, or a line of the script
unfoldable pub refusal_of : Config → List ℕ → Option (List ℕ)
refusal_of config script =
    option_or (option_and_then (opening_text (laws_of config)) (opening_refusal config))
    (option_map bad_text (first_bad (laws_of config) script))

-- a debugger on the bench of a configuration, at the start of a script
abbrev pub start_of : Config → List ℕ → Debugging
start_of config script = started (opened (settings_of config)) (script_of (laws_of config) script)

-- the laws of the registries that a configuration is opened with
abbrev pub laws_for : handed.Config → List Laws
laws_for config = replicate (min config.shards MAX_SHARDS) all_laws

-- there is one where nothing is refused, and its bench is run by these laws; or that is refused
abbrev pub IsOpenedBy : Config → List Laws → (script : List ℕ) → Opened → Type 0
IsOpenedBy config laws script (Ready debugger) =
    (refusal_of config script ≡ None) × IsRunBy (seen debugger).world laws × (seen debugger ≡ start_of config script)
IsOpenedBy config laws script (Refused text) = refusal_of config script ≡ Some text.items
