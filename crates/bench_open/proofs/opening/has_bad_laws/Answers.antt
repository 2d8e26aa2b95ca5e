use Rattle.std.proofs.Common.{ap, sym, ◌∙◌}
use Rattle.bench_open.specs.Kinds.{lacks_role_kind}
use Rattle.bench_open.proofs.BookLemmas.{laws-differ, laws-kind}
use Rattle.bench_open.proofs.opening.has_bad_laws.Goals as goal

pub returns-then-not-are_same_books : goal.returns-then-not-are_same_books
returns-then-not-are_same_books g c = λ config are.
    laws-differ (λ r. r.book) c.args.registries.now config are (sym c.are_same_books.ensures ∙ c.if-not-are_same_books.true)

pub returns : goal.returns
returns g c = λ config are.
    c.lacks_kind.ensures ∙ ap lacks_role_kind (c.laws.ensures ∙ ap (λ r. r.book) c.index-registries-0.is)
    ∙ laws-kind (λ r. r.book) c.args.registries.now config c.index-registries-0.result c.requires are (sym c.are_same_books.ensures ∙ c.if-not-are_same_books.false)
