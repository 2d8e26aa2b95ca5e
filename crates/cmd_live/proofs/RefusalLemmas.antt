-- Which node is refused.
use Rattle.std.proofs.Common.{◌≡◌, ◌∙◌, ◌<◌, ◌+◌, ◌∷◌, ℕ, List, Option, Some, Ok, ap, drop, get_or, inr, length, refl, subst, sym, true}
use Rattle.std.proofs.lemmas.List.{drop_more}
use Rattle.std.proofs.lemmas.Option.{slice_get-get_or}
use Rattle.std.specs.List.{slice_get}
use Rattle.std.specs.Prelude.{Err, IfErr, Result, map}
use Rattle.bench_open.specs.Faults.{IsOpeningError}
use Rattle.bench_open.specs.Given.{config_of, first_of}
use Rattle.bench_open.specs.declared.config.Config.{Config}
use Rattle.bench_setup.specs.Opening.{opening_text_at, unbound_in}
use Rattle.bench_setup.specs.declared.setups.Setup.{Setup}
use Rattle.bench_spec.specs.Opening.{settings_of}
use Rattle.bench_spec.specs.Taken.{Run, opened}
use Rattle.bench_spec.specs.declared.opening.OpeningError.{OpeningError}
use Rattle.cmd_live.specs.Nodes.{is_wanted, nodes_of, settings_at}
use Rattle.cmd_live.specs.Refusals.{HasBadDesk, HasBadDeskIn, HasOpened, IsNotOpened, IsRefusal, IsRefusedIfWanted, IsRefusedIn, IsRefusedNode, IsTwice, IsUnready}
use Rattle.cmd_live.specs.Stops.{IsStop}
use Rattle.cmd_live.specs.declared.stop.Stop.{Stop}
use Rattle.cmd_live.specs.declared.stop.Stop.TheVariants as stops
use Rattle.config_text.specs.declared.node.NodeConfig.{NodeConfig}
use Rattle.role_tables.specs.Roles.{all_laws}
use Rattle.cmd_live.specs.declared.opening.Refused.{Refused}
use Rattle.cmd_live.specs.declared.opening.Refused.TheVariants.{Failed, NoMemory, Told}
use Rattle.fault_text.specs.declared.spots.RowPlace.{RowPlace}
use Rattle.tab_law.specs.Books.{Laws}

-- the first of those behind a place
pub at_place : {X : Type 0} (xs rest : List X) (place : ℕ) (x : X) → place < length xs → drop place xs ≡ x ∷ rest
    → (slice_get xs place ≡ Some x) × (drop (place + 1) xs ≡ rest)
at_place xs rest place x within is =
    let cut : x ∷ rest ≡ get_or xs place x ∷ drop (place + 1) xs = sym is ∙ drop_more xs place x within in (
      slice_get-get_or xs place x within ∙ ap (λ l. Some (get_or l 0 x)) (sym cut),
      sym (ap (drop 1) cut),
    )

-- a node that is to live is one of CONFIG
pub refused_in : (host : Option (List ℕ)) (setups : List Setup) (place : ℕ) (setup : Setup) (why : Refused) → slice_get setups place ≡ Some setup
    → IsRefusedIfWanted host place setup why → IsRefusedIn host setups why
refused_in host setups place setup (Told text) there is = record {
  place = place;
  setup = setup;
  there = there;
  refused = is;
}
refused_in host setups place setup (Failed text) there is = record {
  place = place;
  setup = setup;
  there = there;
  refused = is;
}
refused_in host setups place setup NoMemory there is = tt

pub refused_err : {T : Type 0} (host : Option (List ℕ)) (setups : List Setup) (place : ℕ) (setup : Setup) (was why : Refused) (r : Result T Refused) → r ≡ Err why → why ≡ was
    → slice_get setups place ≡ Some setup → IsRefusedIfWanted host place setup was → IfErr r (IsRefusedIn host setups)
refused_err {T} host setups place setup was why r is same there refused =
    subst (λ (q : Result T Refused). IfErr q (IsRefusedIn host setups)) (sym is)
    (subst (λ (e : Refused). IsRefusedIn host setups e) (sym same) (refused_in host setups place setup was there refused))

-- a node that is to live, memory aside
if_wanted : (host : Option (List ℕ)) (place : ℕ) (setup : Setup) (why : Refused) → is_wanted host setup ≡ true → IsRefusedNode place setup why
    → IsRefusedIfWanted host place setup why
if_wanted host place setup (Told text) wanted is = (wanted, is)
if_wanted host place setup (Failed text) wanted is = (wanted, is)
if_wanted host place setup NoMemory wanted is = tt

pub wanted_err : {T : Type 0} (host : Option (List ℕ)) (place : ℕ) (setup : Setup) (was why : Refused) (r : Result T Refused) → r ≡ Err why → why ≡ was
    → is_wanted host setup ≡ true → IsRefusedNode place setup was → IfErr r (IsRefusedIfWanted host place setup)
wanted_err {T} host place setup was why r is same wanted refused =
    subst (λ (q : Result T Refused). IfErr q (IsRefusedIfWanted host place setup)) (sym is)
    (subst (λ (e : Refused). IsRefusedIfWanted host place setup e) (sym same) (if_wanted host place setup was wanted refused))

-- memory may always be wanting
pub no_memory : (place : ℕ) (setup : Setup) → IsRefusedNode place setup NoMemory
no_memory place setup = inr tt

-- a bench is opened with the laws of registries, which are borrowed
pub opened_by : {R : Type 0} (book : R → Laws) (rs rs_open : List R) (config : Config) (run : Run) → rs_open ≡ rs → run.settings.node.laws ≡ all_laws
    → run ≡ opened (settings_of (config_of config (map book rs_open))) → HasOpened config (map book rs) (Ok run)
opened_by {R} book rs rs_open config run same laws is =
    (laws, subst (λ (qs : List R). run ≡ opened (settings_of (config_of config (map book qs)))) same is)

-- a desk can't tell a text of the bench that was just opened
pub unready_err : {T : Type 0} (place : ℕ) (node : NodeConfig) (bench : Config) (run : Run) (r : Result T Refused) → run ≡ opened (settings_at bench)
    → IfErr r (HasBadDeskIn place node run) → IfErr r (IsUnready place node bench)
unready_err place node bench run (Ok x) same bad = tt
unready_err place node bench run (Err (Told text)) same bad = inr (subst (λ (q : Run). HasBadDesk place node q (Told text)) same bad)
unready_err place node bench run (Err (Failed text)) same bad = absurd bad
unready_err place node bench run (Err NoMemory) same bad = tt

-- two nodes would have one log
twice_refusal : (host log : Option (List ℕ)) (setups : List Setup) (nodes : List NodeConfig) (why : Refused) → nodes ≡ nodes_of host setups
    → IsTwice log nodes why → IsRefusal host log setups why
twice_refusal host log setups nodes (Told text) same twice = inr (subst (λ (ns : List NodeConfig). IsTwice log ns (Told text)) same twice)
twice_refusal host log setups nodes (Failed text) same twice = absurd twice
twice_refusal host log setups nodes NoMemory same twice = tt

-- what an error is
err_is : {T E : Type 0} (P : E → Type 0) (was e : E) (r : Result T E) → r ≡ Err e → e ≡ was → P was → IfErr r P
err_is {T} {E} P was e r is same holds = subst (λ (q : Result T E). IfErr q P) (sym is) (subst P (sym same) holds)

pub twice_err : {T I : Type 0} (remaining : I → Option (List ℕ)) (reads failures : I → ℕ) (host log : Option (List ℕ)) (setups : List Setup) (source : I) (failed' : Option (List ℕ)) (nodes : List NodeConfig)
    (why : Refused) (stop : Stop) (r : Result T Stop) → r ≡ Err stop → stop ≡ stops.Refused why → nodes ≡ nodes_of host setups → IsTwice log nodes why
    → IfErr r (IsStop remaining reads failures host log setups source source failed')
twice_err remaining reads failures host log setups source failed' nodes why stop r is same there twice =
    err_is (IsStop remaining reads failures host log setups source source failed') (stops.Refused why) stop r is same (refl, twice_refusal host log setups nodes why there twice)

-- a bench is not opened with the laws of registries, which are borrowed three times
pub not_opened : {R : Type 0} (book : R → Laws) (rs rs_row rs_open rs_text : List R) (config : Config) (row : Option RowPlace) (error : OpeningError) (text : List ℕ)
    → rs_row ≡ rs → rs_open ≡ rs → rs_text ≡ rs → row ≡ unbound_in (first_of (map book rs_row)) config.peer config.client config.server
    → IsOpeningError (config_of config (map book rs_open)) error → opening_text_at (first_of (map book rs_text)) row error ≡ Some text
    → IsNotOpened config (map book rs) text
not_opened {R} book rs rs_row rs_open rs_text config row error text same_row same_open same_text there is told = record {
  error = error;
  is = subst (λ (qs : List R). IsOpeningError (config_of config (map book qs)) error) same_open is;
  told =
      subst (λ (p : Option RowPlace). opening_text_at (first_of (map book rs)) p error ≡ Some text)
      (there ∙ ap (λ (qs : List R). unbound_in (first_of (map book qs)) config.peer config.client config.server) same_row)
      (subst (λ (qs : List R). opening_text_at (first_of (map book qs)) row error ≡ Some text) same_text told);
}
