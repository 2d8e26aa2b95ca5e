use Rattle.std.proofs.Common.{◌≡◌, ◌%◌, ◌∙◌, Some, subst, sym}
use Rattle.std.specs.Prelude.{slice_get}
use Rattle.acct_book.specs.Book.{totals_of}
use Rattle.bench_spec.specs.Booked.{book_at}
use Rattle.bench_core.proofs.LookLemmas.{page-there, totals-shown}
use Rattle.bench_core.proofs.keeping.Core.totals.Goals as goal

pub returns-clause-value : goal.returns-clause-value
returns-clause-value c =
    let w = c.self.inside in
    let page = page-there w c.args.account c.self.invariant in
    subst (λ run. c.totals_in.result ≡ totals_of (book_at run.settings run.log) c.args.account) c.self.view_is
    (c.totals_in.ensures.value page.0 (subst (λ ps. slice_get ps (c.args.account % w.page_count) ≡ Some page.0) (sym c.deref.ensures.value) page.1)
    ∙ totals-shown w c.args.account page.0 c.self.invariant page.1)
