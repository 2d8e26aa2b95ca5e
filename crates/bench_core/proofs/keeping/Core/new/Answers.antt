use Rattle.std.proofs.Common.{◌≡◌, Option, None, ap, map, subst, sym, ◌∙◌}
use Rattle.std.specs.Option.{option_map}
use Rattle.bench_open.specs.Faults.{IsErrorFor, error_of}
use Rattle.bench_open.specs.Given.{config_of, first_of}
use Rattle.bench_open.specs.Openable.{IsOpenable}
use Rattle.bench_open.proofs.BookLemmas.{first-book}
use Rattle.bench_open.proofs.OpenableLemmas.{can-open}
use Rattle.bench_spec.specs.Opening.{opening_refusal}
use Rattle.bench_spec.specs.Taken.{opened}
use Rattle.bench_spec.specs.declared.opening.OpeningError.{OpeningError}
use Rattle.bench_start.specs.Starting.{settings_with}
use Rattle.bench_start.proofs.NewLemmas.{registry-there}
use Rattle.bench_core.proofs.keeping.Core.new.Goals as goal

pub returns-in-Some-clause-fault : goal.returns-in-Some-clause-fault
returns-in-Some-clause-fault g c =
    subst (λ (r : Option OpeningError). IsErrorFor r c.opening_error.result) (ap (option_map error_of) (sym c.in-Some.is) ∙ c.opening_fault.ensures) c.opening_error.ensures

pub bounds-registries-0 : goal.bounds-registries-0
bounds-registries-0 g c =
    registry-there (λ r. r.book) c.args.registries.now c.args.config (sym c.opening_fault.ensures ∙ ap (option_map error_of) c.in_default.is)

pub open-requires : goal.open-requires
open-requires g c =
    let none : opening_refusal (config_of c.args.config (map (λ r. r.book) c.args.registries.now)) ≡ None = sym c.opening_fault.ensures ∙ ap (option_map error_of) c.in_default.is in
    let there = registry-there (λ r. r.book) c.args.registries.now c.args.config none in
    let first : first_of (map (λ r. r.book) c.args.registries.now) ≡ c.laws.result.now = first-book (λ r. r.book) c.args.registries.now c.index-registries-0.result there ∙ ap (λ r. r.book) (sym c.index-registries-0.is) ∙ sym c.laws.ensures in
    subst (IsOpenable c.args.config) first (can-open c.args.config (map (λ r. r.book) c.args.registries.now) none)

pub returns-in-Ok-clause-ok : goal.returns-in-Ok-clause-ok
returns-in-Ok-clause-ok g c =
    let none : opening_refusal (config_of c.args.config (map (λ r. r.book) c.args.registries.now)) ≡ None = sym c.opening_fault.ensures ∙ ap (option_map error_of) c.in_default.is in
    let there = registry-there (λ r. r.book) c.args.registries.now c.args.config none in
    let first : first_of (map (λ r. r.book) c.args.registries.now) ≡ c.laws.result.now = first-book (λ r. r.book) c.args.registries.now c.index-registries-0.result there ∙ ap (λ r. r.book) (sym c.index-registries-0.is) ∙ sym c.laws.ensures in
    (none, c.in-Ok.ensures ∙ ap (λ laws. opened (settings_with c.args.config laws)) (sym first))
