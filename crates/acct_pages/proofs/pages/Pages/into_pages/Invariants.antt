use Rattle.std.proofs.Common.{◌≡◌, ◌+◌, ◌≤◌, length, vec_len}
use Rattle.std.specs.Vec.{vec_capacity}
use Rattle.acct_pages.proofs.pages.Pages.into_pages.Given as goal

-- as many pages as locks were opened, and there is room for all
abbrev pub invariant-loop-lock : goal.invariant-loop-lock
invariant-loop-lock l = (vec_len l.room + length l.lock-iterator.rest.items ≡ l.fn.self) × (l.fn.self ≤ vec_capacity l.room)
