-- What is told of a bench that is opened and of a script that is run on it.
use Rattle.std.specs.Prelude.{◌≡◌, ◌⊎◌, ℕ, min, Bool, true, false, List, [], ◌++◌, codes, decimal, map, replicate}
use Rattle.std.specs.Prelude.{Option, Some, None, option_map}
use Rattle.std.specs.Option.{option_or}
use Rattle.base_device.specs.Devices.{Tells}
use Rattle.base_device.specs.Tellings.{told_status}
use Rattle.base_device.specs.declared.status.Status.{Status}
use Rattle.base_device.specs.declared.status.Status.TheVariants as statuses
use Rattle.bench_item.specs.declared.limit.TheConstants.{MAX_SHARDS}
use Rattle.bench_open.specs.Given.{config_of}
use Rattle.bench_open.specs.declared.config.Config as handed
use Rattle.bench_setup.specs.Opening.{opening_told}
use Rattle.bench_script.specs.Ends.{lines_text, totals_text}
use Rattle.bench_script.specs.Ran.{Ran}
use Rattle.bench_spec.specs.Opening.{Config, laws_of, settings_of}
use Rattle.bench_spec.specs.Taken.{Run, opened}
use Rattle.role_tables.specs.Roles.{all_laws}
use Rattle.script_text.specs.RunLines.{first_bad_run, run_script_of}
use Rattle.script_text.specs.declared.run_line.RunLine.{RunLine}
use Rattle.cmd_bench.specs.declared.shown.Shown.{Shown}

-- what is opened: a configuration with the laws of all roles for each shard, of which there are no more than may be
abbrev pub opened_with : handed.Config → Config
opened_with config = config_of config (replicate (min config.shards MAX_SHARDS) all_laws)

-- a text that is printed, or not
abbrev pub if_shown : Bool → List ℕ → List ℕ
if_shown true text = text
if_shown false text = []

-- what is printed at the end: the lines, and these accounts
abbrev pub ends_text : Shown → Run → List ℕ → List ℕ
ends_text shown run accounts = if_shown shown.lines (lines_text run) ++ if_shown shown.totals (totals_text run accounts)

-- lines were run, and what they print was put, or not
pub record RunShown (old : Run) (lines : List RunLine) (steps_shown : Bool) (new : Run) (text : List ℕ) : Type 0 where
  pub steps : List ℕ
  pub ran : Ran old lines new steps
  pub put : text ≡ if_shown steps_shown steps

-- what is printed where lines are run: what they print, and the end
pub record RunText (old : Run) (lines : List RunLine) (shown : Shown) (accounts text : List ℕ) : Type 0 where
  pub new : Run
  pub steps : List ℕ
  pub ran : Ran old lines new steps
  pub printed : text ≡ if_shown shown.steps steps ++ ends_text shown new accounts

-- the first line of a script that has another form
abbrev pub bad_text : ℕ → List ℕ
bad_text line = codes "bad line " ++ decimal line ++ codes "\n"

-- what is printed of a script's run on a bench that is open, and whether it is a refusal
abbrev pub IsRunIn : Run → (script : List ℕ) → Shown → (accounts text : List ℕ) → Bool → Type 0
IsRunIn run script shown accounts text true = option_map bad_text (first_bad_run run.settings.node.laws script)
    ≡ Some text
IsRunIn run script shown accounts text false =
    (first_bad_run run.settings.node.laws script ≡ None)
    × RunText run (run_script_of run.settings.node.laws script) shown accounts text

-- what is refused first: the opening, or a line of the script
unfoldable pub refusal_of : Config → List ℕ → Option (List ℕ)
refusal_of config script =
    option_or (opening_told config) (option_map bad_text (first_bad_run (laws_of config) script))

-- what is printed of a script's run on a bench, and whether it is a refusal
abbrev pub IsBenchRun : Config → (script : List ℕ) → Shown → (text : List ℕ) → Bool → Type 0
IsBenchRun config script shown text true = refusal_of config script ≡ Some text
IsBenchRun config script shown text false =
    (refusal_of config script ≡ None)
    × RunText (opened (settings_of config)) (run_script_of (laws_of config) script) shown
    (map (λ account. account.id) config.accounts) text

-- The text of a run was taken whole, and its status is the answer, or a write fault came; or memory ran out.
pub record RunTold
    {O : Type 0} (contents : O → Option (List ℕ)) (failures idle : O → ℕ) (config : Config) (script : List ℕ)
    (shown : Shown) (old new : O) (answer : Status) : Type 0 where
  pub text : List ℕ
  pub refused : Bool
  pub run : IsBenchRun config script shown text refused
  pub told : Tells contents failures idle old new text (told_status refused) answer

abbrev pub IsRunOn : {O : Type 0} → (contents : O → Option (List ℕ)) → (failures idle : O → ℕ) → Config
    → (script : List ℕ) → Shown → (old new : O) → Status → Type 0
IsRunOn contents failures idle config script shown old new answer =
    RunTold contents failures idle config script shown old new answer
    ⊎ Tells contents failures idle old new (codes "no memory\n") statuses.NoMemory answer
