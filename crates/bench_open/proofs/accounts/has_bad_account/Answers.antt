use Rattle.std.proofs.Common.{sym, ◌∙◌}
use Rattle.bench_open.proofs.AccountLemmas.{none-bad, some-bad}
use Rattle.bench_open.proofs.accounts.has_bad_account.Goals as goal

pub returns-then-is_bad_account : goal.returns-then-is_bad_account
returns-then-is_bad_account c =
    some-bad c.args.pages c.args.accounts.now c.loop-i.i _ c.loop-i-test.true (sym c.is_bad_account.ensures ∙ c.if-is_bad_account.true)

pub loop-i-preserved : goal.loop-i-preserved
loop-i-preserved c =
    none-bad c.args.pages c.args.accounts.now c.loop-i.i _ c.loop-i-test.true c.loop-i.invariant (sym c.is_bad_account.ensures ∙ c.if-is_bad_account.false)
