use Rattle.std.proofs.Common.{◌≡◌, ℕ, ◌<◌, List, None, Some, length, ap, sym, rules, ◌∙◌}
use Rattle.std.specs.Prelude.{◌==◌, position}
use Rattle.base_list.specs.Named.{place_of}
use Rattle.tab_step.proofs.BindLemmas.{as-many}
use Rattle.tab_image.specs.RunBy.{number_of}
use Rattle.tab_image.proofs.EntryLemmas.{number-is, entry-none, entry-some}
use Rattle.tab_image.proofs.entry.entry_of.Goals as goal

pub returns-in_default : goal.returns-in_default
returns-in_default c =
    let image = c.args.program.now.image in
    let number = number-is c.args.book.now image c.args.kind c.args.program.now.kind_places c.known.ensures.kinds_named c.requires.kinds in
    let kinds = c.as_slice-kinds.ensures.value ∙ c.names-names.ensures.kinds in
    let none : number_of c.args.book.now image c.args.kind ≡ None = number ∙ ap (λ (places : List ℕ). position (λ place. place == c.args.kind) places) (sym kinds) ∙ sym c.number_of.ensures ∙ c.in_default.is in
    let within : c.args.state < length image.states = search rules in
    sym (entry-none c.args.book.now image c.args.state c.args.kind within none)

pub returns : goal.returns
returns c =
    let image = c.args.program.now.image in
    let number = number-is c.args.book.now image c.args.kind c.args.program.now.kind_places c.known.ensures.kinds_named c.requires.kinds in
    let kinds = c.as_slice-kinds.ensures.value ∙ c.names-names.ensures.kinds in
    let some : number_of c.args.book.now image c.args.kind ≡ Some c.in-Some.number = number ∙ ap (λ (places : List ℕ). position (λ place. place == c.args.kind) places) (sym kinds) ∙ sym c.number_of.ensures ∙ c.in-Some.is in
    let within : c.args.state < length image.states = search rules in
    let many : length c.as_slice-kinds.result.now ≡ length image.kinds = ap length kinds ∙ sym (as-many (λ name. place_of name c.args.book.now.kinds) image.kinds c.args.program.now.kind_places c.requires.kinds) in
    rw (many, c.entries.ensures) (sym (entry-some c.args.book.now image c.args.state c.args.kind c.in-Some.number within some))
