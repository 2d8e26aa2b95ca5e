use Rattle.std.proofs.Common.{◌≡◌, drop}
use Rattle.charge_facts.specs.Accounts.{account_of}
use Rattle.charge_facts.proofs.account.account_of.Given as goal

-- none that was looked at is of type 0
abbrev pub invariant-loop-id : goal.invariant-loop-id
invariant-loop-id l = account_of l.ids ≡ account_of (drop l.id-index l.ids)
