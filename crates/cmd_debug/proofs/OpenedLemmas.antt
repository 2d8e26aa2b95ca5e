-- A debugger on a bench that was opened is that of the configuration; an opening that is refused is what is told.
use Rattle.std.proofs.Common.{◌≡◌, ◌∙◌, ℕ, List, Option, Some, None, ap, subst}
use Rattle.std.specs.Prelude.{IfOk, Result, Ok, Err, option_map}
use Rattle.std.specs.Option.{option_and_then, option_or}
use Rattle.bench_debug.specs.Debug.{Debugging}
use Rattle.bench_debug.specs.Seen.{seen}
use Rattle.bench_debug.specs.declared.debugger.Debugger.{Debugger}
use Rattle.bench_open.specs.Faults.{IsErrorFor}
use Rattle.bench_open.specs.Given.{config_of}
use Rattle.bench_open.specs.declared.config.Config as handed
use Rattle.bench_spec.specs.Opening.{Config, laws_of, opening_refusal, settings_of}
use Rattle.bench_spec.specs.Taken.{Run, opened}
use Rattle.bench_spec.specs.declared.opening.OpeningError.{OpeningError}
use Rattle.bench_spec.specs.declared.opening.OpeningError.TheVariants as errors
use Rattle.cmd_bench.proofs.BookLemmas.{run_by}
use Rattle.bench_setup.specs.Opening.{opening_text}
use Rattle.cmd_bench.specs.Told.{bad_text}
use Rattle.script_text.specs.Scripts.{first_bad}
use Rattle.tab_law.specs.Books.{Laws}
use Rattle.cmd_debug.specs.Opened.{IsBegun, IsOpenedBy, refusal_of}
use Rattle.cmd_debug.specs.declared.opening.Opened.{Opened}
use Rattle.cmd_debug.specs.declared.opening.Opened.TheVariants.{Ready, Refused}

-- where the bench is opened, the script alone can be refused
refusal_opened : (config : Config) (script : List ℕ) → opening_refusal config ≡ None
    → refusal_of config script ≡ option_map bad_text (first_bad (laws_of config) script)
unfolding refusal_of
refusal_opened config script none =
    ap (λ (o : Option OpeningError). option_or (option_and_then (opening_text (laws_of config)) o) (option_map bad_text (first_bad (laws_of config) script))) none

-- a debugger of the bench that was opened
opened_there : (config : handed.Config) (books : List Laws) (script : List ℕ) (made : Opened) → opening_refusal (config_of config books) ≡ None
    → IsBegun (opened (settings_of (config_of config books))) script made → IsOpenedBy (config_of config books) books script made
opened_there config books script (Ready debugger) none begun =
    let at : (seen debugger).world ≡ opened (settings_of (config_of config books)) = ap (λ (d : Debugging). d.world) begun.1 in (
      refusal_opened (config_of config books) script none ∙ ap (option_map bad_text) begun.0,
      run_by config books (seen debugger).world none at,
      begun.1,
    )
opened_there config books script (Refused text) none begun = refusal_opened (config_of config books) script none ∙ begun

pub begun_opened : {E : Type 0} (config : handed.Config) (books : List Laws) (script : List ℕ) (core : Run) (result : Result Opened E) → opening_refusal (config_of config books) ≡ None
    → core ≡ opened (settings_of (config_of config books)) → IfOk result (IsBegun core script) → IfOk result (IsOpenedBy (config_of config books) books script)
begun_opened config books script core (Err error) none is begun = tt
begun_opened config books script core (Ok made) none is begun =
    opened_there config books script made none (subst (λ (r : Run). IsBegun r script made) is begun)

-- the reason of an opening that is refused
reason_of : (config : Config) (error : OpeningError) (text : List ℕ) → IsErrorFor (opening_refusal config) error
    → opening_text (laws_of config) error ≡ Some text → opening_refusal config ≡ Some error
reason_of config errors.Limits text for told = for
reason_of config errors.Names text for told = for
reason_of config errors.Laws text for told = for
reason_of config (errors.Unbound name) text for told = for
reason_of config errors.Account text for told = for
reason_of config errors.NoMemory text for told = absurd cc

pub refused_of : (config : Config) (script : List ℕ) (error : OpeningError) (text : List ℕ) → IsErrorFor (opening_refusal config) error
    → opening_text (laws_of config) error ≡ Some text → refusal_of config script ≡ Some text
unfolding refusal_of
refused_of config script error text for told =
    let whole : Option OpeningError → Option (List ℕ) =
    λ o. option_or (option_and_then (opening_text (laws_of config)) o) (option_map bad_text (first_bad (laws_of config) script))
    in let first : Option (List ℕ) → Option (List ℕ) = λ o. option_or o (option_map bad_text (first_bad (laws_of config) script)) in
    ap whole (reason_of config error text for told) ∙ ap first told

-- a debugger that is there
pub ready_of : (config : Config) (laws : List Laws) (script : List ℕ) (made : Opened) (debugger : Debugger) → made ≡ Ready debugger
    → IsOpenedBy config laws script made → IsOpenedBy config laws script (Ready debugger)
ready_of config laws script made debugger is by = subst (λ (o : Opened). IsOpenedBy config laws script o) is by
