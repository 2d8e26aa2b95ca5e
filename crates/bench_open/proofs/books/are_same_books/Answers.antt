use Rattle.std.proofs.Common.{sym, ◌∙◌}
use Rattle.bench_open.proofs.BookLemmas.{fails-first}
use Rattle.bench_open.proofs.books.are_same_books.Goals as goal

pub returns-then-not-is_same_book : goal.returns-then-not-is_same_book
returns-then-not-is_same_book g c =
    fails-first (λ r. r.book) c.args.registries.now c.loop-registry.registry-index c.index-registries-0.result c.registry-item.result c.laws-first.result.now c.laws.result.now
    c.requires c.loop-registry-test.true c.index-registries-0.is c.registry-item.is c.laws-first.ensures c.laws.ensures (sym c.is_same_book.ensures ∙ c.if-not-is_same_book.true)
