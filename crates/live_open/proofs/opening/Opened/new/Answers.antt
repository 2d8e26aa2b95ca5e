use Rattle.std.proofs.Common.{◌≡◌, ◌<◌, Option, None, ap, length, map, subst, sym, ◌∙◌}
use Rattle.std.specs.Option.{option_map}
use Rattle.bench_open.specs.Faults.{IsErrorFor, error_of}
use Rattle.bench_open.specs.Given.{config_of, first_of}
use Rattle.bench_open.specs.Openable.{IsOpenable}
use Rattle.bench_open.proofs.BookLemmas.{first-book}
use Rattle.bench_open.proofs.OpenableLemmas.{can-open}
use Rattle.bench_spec.specs.Opening.{opening_refusal}
use Rattle.bench_spec.specs.declared.opening.OpeningError.{OpeningError}
use Rattle.bench_start.specs.Starting.{settings_with}
use Rattle.bench_start.proofs.NewLemmas.{registry-there}
use Rattle.bench_item.specs.Keys.{peers_of}
use Rattle.live_open.specs.Opening.{AreFew, AreOpened, Agree, tables_of}
use Rattle.live_open.proofs.AgreeLemmas.{agree, count-made, few, some-page}
use Rattle.live_open.proofs.opening.Opened.new.Goals as goal

pub returns-in-Some-clause-fault : goal.returns-in-Some-clause-fault
returns-in-Some-clause-fault g c =
    subst (λ (r : Option OpeningError). IsErrorFor r c.opening_error.result) (ap (option_map error_of) (sym c.in-Some.is) ∙ c.opening_fault.ensures) c.opening_error.ensures

pub bounds-registries-0 : goal.bounds-registries-0
bounds-registries-0 g c =
    registry-there (λ r. r.book) c.args.registries.now c.args.config (sym c.opening_fault.ensures ∙ ap (option_map error_of) c.in_default.is)

pub open-requires : goal.open-requires
open-requires g c =
    let none : opening_refusal (config_of c.args.config (map (λ r. r.book) c.args.registries.now)) ≡ None = sym c.opening_fault.ensures ∙ ap (option_map error_of) c.in_default.is in
    let there = registry-there (λ r. r.book) c.args.registries.now c.args.config none in
    let first : first_of (map (λ r. r.book) c.args.registries.now) ≡ c.laws.result.now = first-book (λ r. r.book) c.args.registries.now c.index-registries-0.result there ∙ ap (λ r. r.book) (sym c.index-registries-0.is) ∙ sym c.laws.ensures in
    subst (IsOpenable c.args.config) first (can-open c.args.config (map (λ r. r.book) c.args.registries.now) none)

pub returns-in-Ok-clause-could : goal.returns-in-Ok-clause-could
returns-in-Ok-clause-could g c = sym c.opening_fault.ensures ∙ ap (option_map error_of) c.in_default.is

pub returns-in-Ok-clause-ok : goal.returns-in-Ok-clause-ok
returns-in-Ok-clause-ok g c =
    let none : opening_refusal (config_of c.args.config (map (λ r. r.book) c.args.registries.now)) ≡ None = sym c.opening_fault.ensures ∙ ap (option_map error_of) c.in_default.is in
    let there = registry-there (λ r. r.book) c.args.registries.now c.args.config none in
    let first : first_of (map (λ r. r.book) c.args.registries.now) ≡ c.laws.result.now = first-book (λ r. r.book) c.args.registries.now c.index-registries-0.result there ∙ ap (λ r. r.book) (sym c.index-registries-0.is) ∙ sym c.laws.ensures in
    let o = c.in-Ok.opened in
    subst (λ laws. AreOpened (settings_with c.args.config laws) o.shards.items o.pages.items o.lines o.clock o.desks) (sym first) c.in-Ok.ensures

pub returns-in-Ok-clause-agree : goal.returns-in-Ok-clause-agree
returns-in-Ok-clause-agree g c =
    let books = map (λ r. r.book) c.args.registries.now in
    let none : opening_refusal (config_of c.args.config books) ≡ None = sym c.opening_fault.ensures ∙ ap (option_map error_of) c.in_default.is in
    let there = registry-there (λ r. r.book) c.args.registries.now c.args.config none in
    let first : first_of books ≡ c.laws.result.now = first-book (λ r. r.book) c.args.registries.now c.index-registries-0.result there ∙ ap (λ r. r.book) (sym c.index-registries-0.is) ∙ sym c.laws.ensures in
    let s = settings_with c.args.config c.laws.result.now in
    subst (λ shards. Agree shards books) (sym c.in-Ok.ensures.shards_are)
    (agree c.args.config books (tables_of s) (peers_of s.node) none (sym first))

pub returns-in-Ok-clause-few : goal.returns-in-Ok-clause-few
returns-in-Ok-clause-few g c =
    let books = map (λ r. r.book) c.args.registries.now in
    let none : opening_refusal (config_of c.args.config books) ≡ None = sym c.opening_fault.ensures ∙ ap (option_map error_of) c.in_default.is in
    let s = settings_with c.args.config c.laws.result.now in
    subst AreFew (sym c.in-Ok.ensures.shards_are) (few c.args.config books (tables_of s) (peers_of s.node) none)

pub returns-in-Ok-clause-count : goal.returns-in-Ok-clause-count
returns-in-Ok-clause-count g c =
    let s = settings_with c.args.config c.laws.result.now in
    (ap length c.in-Ok.ensures.shards_are ∙ count-made (tables_of s) (peers_of s.node) c.args.config.shards, c.in-Ok.ensures.desks_are)

pub returns-in-Ok-clause-some_page : goal.returns-in-Ok-clause-some_page
returns-in-Ok-clause-some_page g c =
    let books = map (λ r. r.book) c.args.registries.now in
    let none : opening_refusal (config_of c.args.config books) ≡ None = sym c.opening_fault.ensures ∙ ap (option_map error_of) c.in_default.is in
    subst (λ pages. 0 < length pages) (sym c.in-Ok.ensures.pages_are) (some-page c.args.config books none)
