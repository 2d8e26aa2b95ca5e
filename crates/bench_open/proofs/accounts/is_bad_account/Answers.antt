use Rattle.std.proofs.Common.{arith, sym, ◌∙◌}
use Rattle.bench_open.proofs.AccountLemmas.{bad-full, bad-given, bad-number, bad-there}
use Rattle.bench_open.proofs.accounts.is_bad_account.Goals as goal

pub returns-then-account-eq0 : goal.returns-then-account-eq0
returns-then-account-eq0 c = bad-number c.args.pages c.args.past.now c.args.account c.if-account-eq0.true

pub returns-then-is_there : goal.returns-then-is_there
returns-then-is_there c = bad-there c.args.pages c.args.past.now c.args.account (sym c.is_there.ensures ∙ c.if-is_there.true)

pub returns-then-account-gt-MAX_GIVEN : goal.returns-then-account-gt-MAX_GIVEN
returns-then-account-gt-MAX_GIVEN c = bad-given c.args.pages c.args.past.now c.args.account c.if-account-gt-MAX_GIVEN.true

pub returns : goal.returns
returns c =
    bad-full c.args.pages c.args.past.now c.args.account c.count_on.result (λ e. omega (arith, e)) (sym c.is_there.ensures ∙ c.if-is_there.false)
    c.if-account-gt-MAX_GIVEN.false c.count_on.ensures.count
