use Rattle.std.proofs.Common.{◌≡◌, ◌<◌, [], ap, length, map, refl, sym, ◌∙◌}
use Rattle.std.specs.Option.{option_copied}
use Rattle.bench_item.specs.Past.{any_after}
use Rattle.bench_spec.specs.Opening.{is_bad_account}
use Rattle.bench_open.specs.Given.{config_of, first_of, opened_as}
use Rattle.bench_open.proofs.BookLemmas.{first-book}
use Rattle.bench_open.proofs.OpenableLemmas.{some-registry}
use Rattle.bench_open.proofs.OpeningLemmas.{IsLawfulFor, tells-account, tells-laws, tells-nothing, tells-unbound}
use Rattle.bench_open.proofs.opening.opening_fault.Goals as goal

pub returns-then-has_bad_laws : goal.returns-then-has_bad_laws
returns-then-has_bad_laws g c =
    let books = map (λ r. r.book) c.args.registries.now in
    tells-laws c.args.config.now books (sym c.is_past_limits.ensures ∙ c.if-is_past_limits.false) (sym c.has_bad_names.ensures ∙ c.if-has_bad_names.false)
    (sym (c.has_bad_laws.ensures (config_of c.args.config.now books) refl) ∙ c.if-has_bad_laws.true)

pub returns-in-Some : goal.returns-in-Some
returns-in-Some g c =
    let books = map (λ r. r.book) c.args.registries.now in
    let lawful : IsLawfulFor c.args.config.now books = record {
      limits = sym c.is_past_limits.ensures ∙ c.if-is_past_limits.false;
      names = sym c.has_bad_names.ensures ∙ c.if-has_bad_names.false;
      laws = sym (c.has_bad_laws.ensures (config_of c.args.config.now books) refl) ∙ c.if-has_bad_laws.false;
    } in
    let some : 0 < length c.args.registries.now = some-registry (λ r. r.book) c.args.registries.now c.args.config.now lawful.limits in
    let first : first_of books ≡ c.laws.result.now = first-book (λ r. r.book) c.args.registries.now c.index-registries-0.result some ∙ ap (λ r. r.book) (sym c.index-registries-0.is) ∙ sym c.laws.ensures in
    tells-unbound c.args.config.now books c.in-Some.name.now lawful (ap option_copied (sym c.in-Some.is) ∙ c.first_unbound.ensures books first)

pub returns-then-has_bad_account : goal.returns-then-has_bad_account
returns-then-has_bad_account g c =
    let books = map (λ r. r.book) c.args.registries.now in
    let lawful : IsLawfulFor c.args.config.now books = record {
      limits = sym c.is_past_limits.ensures ∙ c.if-is_past_limits.false;
      names = sym c.has_bad_names.ensures ∙ c.if-has_bad_names.false;
      laws = sym (c.has_bad_laws.ensures (config_of c.args.config.now books) refl) ∙ c.if-has_bad_laws.false;
    } in
    let some : 0 < length c.args.registries.now = some-registry (λ r. r.book) c.args.registries.now c.args.config.now lawful.limits in
    let first : first_of books ≡ c.laws.result.now = first-book (λ r. r.book) c.args.registries.now c.index-registries-0.result some ∙ ap (λ r. r.book) (sym c.index-registries-0.is) ∙ sym c.laws.ensures in
    tells-account c.args.config.now books lawful (ap option_copied (sym c.in_default.is) ∙ c.first_unbound.ensures books first)
    (ap (λ as_. any_after (is_bad_account c.args.config.now.pages) [] (map opened_as as_)) (sym c.deref.ensures.value) ∙ sym c.has_bad_account.ensures ∙ c.if-has_bad_account.true)

pub returns : goal.returns
returns g c =
    let books = map (λ r. r.book) c.args.registries.now in
    let lawful : IsLawfulFor c.args.config.now books = record {
      limits = sym c.is_past_limits.ensures ∙ c.if-is_past_limits.false;
      names = sym c.has_bad_names.ensures ∙ c.if-has_bad_names.false;
      laws = sym (c.has_bad_laws.ensures (config_of c.args.config.now books) refl) ∙ c.if-has_bad_laws.false;
    } in
    let some : 0 < length c.args.registries.now = some-registry (λ r. r.book) c.args.registries.now c.args.config.now lawful.limits in
    let first : first_of books ≡ c.laws.result.now = first-book (λ r. r.book) c.args.registries.now c.index-registries-0.result some ∙ ap (λ r. r.book) (sym c.index-registries-0.is) ∙ sym c.laws.ensures in
    tells-nothing c.args.config.now books lawful (ap option_copied (sym c.in_default.is) ∙ c.first_unbound.ensures books first)
    (ap (λ as_. any_after (is_bad_account c.args.config.now.pages) [] (map opened_as as_)) (sym c.deref.ensures.value) ∙ sym c.has_bad_account.ensures ∙ c.if-has_bad_account.false)
