-- A script's run on a bench that was opened is that of the configuration; an opening that is refused is what is told.
use Rattle.std.proofs.Common.{◌≡◌, ◌∙◌, ℕ, Bool, true, false, List, Option, Some, None, ap, subst, sym}
use Rattle.std.specs.Prelude.{IfOk, Result, Ok, Err, map, option_map}
use Rattle.std.specs.Option.{option_and_then, option_or}
use Rattle.base_device.specs.declared.told.Told.{Told}
use Rattle.bench_open.specs.Faults.{IsErrorFor}
use Rattle.bench_spec.specs.Opening.{Config, laws_of, opening_refusal, settings_of}
use Rattle.bench_spec.specs.Taken.{Run, opened}
use Rattle.bench_spec.specs.declared.opening.OpeningError.{OpeningError}
use Rattle.bench_spec.specs.declared.opening.OpeningError.TheVariants as errors
use Rattle.fault_text.specs.declared.spots.RowPlace.{RowPlace}
use Rattle.script_text.specs.RunLines.{first_bad_run}
use Rattle.bench_setup.specs.Opening.{opening_text_at, unbound_at}
use Rattle.cmd_bench.specs.Told.{IsBenchRun, IsRunIn, bad_text, refusal_of}
use Rattle.cmd_bench.specs.declared.shown.Shown.{Shown}

-- where the bench is opened, the script alone can be refused
refusal_opened : (config : Config) (script : List ℕ) → opening_refusal config ≡ None
    → refusal_of config script ≡ option_map bad_text (first_bad_run (laws_of config) script)
unfolding refusal_of
refusal_opened config script none =
    ap (λ (o : Option OpeningError). option_or (option_and_then (opening_text_at (laws_of config) (unbound_at config)) o) (option_map bad_text (first_bad_run (laws_of config) script))) none

run_opened : (config : Config) (script : List ℕ) (shown : Shown) (text : List ℕ) (refused : Bool) → opening_refusal config ≡ None
    → IsRunIn (opened (settings_of config)) script shown (map (λ account. account.id) config.accounts) text refused
    → IsBenchRun config script shown text refused
run_opened config script shown text true none is = refusal_opened config script none ∙ is
run_opened config script shown text false none is = (refusal_opened config script none ∙ ap (option_map bad_text) is.0, is.1)

-- a run on the bench that was opened
pub run_of : (config : Config) (script : List ℕ) (shown : Shown) (core : Run) (accounts text : List ℕ) (refused : Bool) → opening_refusal config ≡ None
    → core ≡ opened (settings_of config) → accounts ≡ map (λ account. account.id) config.accounts
    → IsRunIn core script shown accounts text refused → IsBenchRun config script shown text refused
run_of config script shown core accounts text refused none is ids run =
    let numbers : List ℕ = map (λ account. account.id) config.accounts in
    let there : IsRunIn (opened (settings_of config)) script shown accounts text refused =
    subst (λ (r : Run). IsRunIn r script shown accounts text refused) is run
    in run_opened config script shown text refused none
    (subst (λ (ns : List ℕ). IsRunIn (opened (settings_of config)) script shown ns text refused) ids there)

-- what is told with the row of a configuration
pub told_at : (config : Config) (place : Option RowPlace) (error : OpeningError) (text : List ℕ) → place ≡ unbound_at config
    → opening_text_at (laws_of config) place error ≡ Some text → opening_text_at (laws_of config) (unbound_at config) error ≡ Some text
told_at config place error text is told =
    subst (λ (p : Option RowPlace). opening_text_at (laws_of config) p error ≡ Some text) is told

-- the reason of an opening that is refused
pub reason_of : (config : Config) (error : OpeningError) (text : List ℕ) → IsErrorFor (opening_refusal config) error
    → opening_text_at (laws_of config) (unbound_at config) error ≡ Some text → opening_refusal config ≡ Some error
reason_of config errors.Limits text for told = for
reason_of config errors.Names text for told = for
reason_of config errors.Laws text for told = for
reason_of config (errors.Unbound name) text for told = for
reason_of config errors.Account text for told = for
reason_of config errors.NoMemory text for told = absurd cc

pub refused_of : (config : Config) (script : List ℕ) (shown : Shown) (error : OpeningError) (text : List ℕ) → IsErrorFor (opening_refusal config) error
    → opening_text_at (laws_of config) (unbound_at config) error ≡ Some text → IsBenchRun config script shown text true
unfolding refusal_of
refused_of config script shown error text for told =
    let whole : Option OpeningError → Option (List ℕ) =
    λ o. option_or (option_and_then (opening_text_at (laws_of config) (unbound_at config)) o) (option_map bad_text (first_bad_run (laws_of config) script))
    in let first : Option (List ℕ) → Option (List ℕ) = λ o. option_or o (option_map bad_text (first_bad_run (laws_of config) script)) in
    ap whole (reason_of config error text for told) ∙ ap first told

-- the same of an answer that may want memory
pub runs_of : {E : Type 0} (config : Config) (script : List ℕ) (shown : Shown) (core : Run) (accounts : List ℕ) (result : Result Told E) → opening_refusal config ≡ None
    → core ≡ opened (settings_of config) → accounts ≡ map (λ account. account.id) config.accounts
    → IfOk result (λ run. IsRunIn core script shown accounts run.text.items run.refused)
    → IfOk result (λ run. IsBenchRun config script shown run.text.items run.refused)
runs_of config script shown core accounts (Err e) none is ids run = tt
runs_of config script shown core accounts (Ok outcome) none is ids run =
    run_of config script shown core accounts outcome.text.items outcome.refused none is ids run

-- an opening that is refused, as it is told
pub refused_outcome : (config : Config) (script : List ℕ) (shown : Shown) (place : Option RowPlace) (error : OpeningError) (outcome : Told) → place ≡ unbound_at config
    → IsErrorFor (opening_refusal config) error → opening_text_at (laws_of config) place error ≡ Some outcome.text.items → outcome.refused ≡ true
    → IsBenchRun config script shown outcome.text.items outcome.refused
refused_outcome config script shown place error outcome there for told is =
    subst (λ (b : Bool). IsBenchRun config script shown outcome.text.items b) (sym is)
    (refused_of config script shown error outcome.text.items for (told_at config place error outcome.text.items there told))
