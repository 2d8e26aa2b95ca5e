use Rattle.std.proofs.Common.{◌≡◌, vec_len}
use Rattle.acct_pages.proofs.pages.Pages.new.Given as goal

-- a page for each number so far
abbrev pub invariant-loop-number : goal.invariant-loop-number
invariant-loop-number l = vec_len l.pages ≡ l.number
