use Rattle.std.proofs.Common.{◌≡◌, ◌+◌, length, vec_len}
use Rattle.acct_pages.proofs.pages.Pages.keep.Given as goal

-- as many locks as pages were taken out
abbrev pub invariant-loop-page : goal.invariant-loop-page
invariant-loop-page l = vec_len l.locks + length l.page-iterator.rest.items ≡ vec_len l.fn.pages
