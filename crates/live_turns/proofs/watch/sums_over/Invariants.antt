use Rattle.std.proofs.Common.{◌≡◌, ◌≤◌, ◌*◌, ◌^◌, take}
use Rattle.std.specs.Prelude.{sum_by}
use Rattle.bench_open.specs.declared.account.Account.{Account}
use Rattle.live_turns.specs.Watched.{debited_at, reserved_at}
use Rattle.live_turns.proofs.watch.sums_over.Given as goal

abbrev pub invariant-loop-account : goal.invariant-loop-account
invariant-loop-account l = record {
  reserved : l.reserved ≡ sum_by (λ (account : Account). reserved_at l.core account.id) (take l.account-index l.accounts);
  debited : l.debited ≡ sum_by (λ (account : Account). debited_at l.core account.id) (take l.account-index l.accounts);
  few : l.reserved ≤ l.account-index * 2 ^ 64;
  small : l.debited ≤ l.account-index * 2 ^ 64;
}
