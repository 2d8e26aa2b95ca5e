use Rattle.acct_pages.proofs.pages.Pages.with_page.Goals as goal

-- the page as it was lent, and as the closure left it
pub returns : goal.returns
returns g c = record { called = (c.deref_mut.result.now, c.lend.new.page, c.lend.ensures) }
