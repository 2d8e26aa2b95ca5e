use Rattle.std.proofs.Common.{sym}
use Rattle.bench_carry.proofs.BackLemmas.{booked-there, books-past, books-within, numbers-within}
use Rattle.bench_carry.proofs.back.unbook.Goals as goal

pub unbook_page-requires : goal.unbook_page-requires
unbook_page-requires c = booked-there c.args.pages.now c.args.place c.args.count _ c.if-place-pages.true c.requires

pub returns-then-place-pages-clause-books : goal.returns-then-place-pages-clause-books
returns-then-place-pages-clause-books c =
    books-within c.args.pages.now c.args.place c.args.count c.unbook_page.new.page _ c.if-place-pages.true c.unbook_page.ensures

pub returns-else-place-pages-clause-books : goal.returns-else-place-pages-clause-books
returns-else-place-pages-clause-books c = sym (books-past c.args.pages.now c.args.place c.args.count c.if-place-pages.false)

pub returns-then-place-pages-clause-numbers : goal.returns-then-place-pages-clause-numbers
returns-then-place-pages-clause-numbers c = numbers-within c.args.pages.now c.args.place c.unbook_page.new.page _ _ _ c.unbook_page.ensures
