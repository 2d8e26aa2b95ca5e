use Rattle.std.proofs.Common.{◌∙◌, ap, inl, inr, option_to_list}
use Rattle.bench_looks.proofs.BeforeLemmas.{logged-later, logged-there}
use Rattle.bench_looks.proofs.before.logged_before.Goals as goal

pub returns-then-stamps-place : goal.returns-then-stamps-place
returns-then-stamps-place c =
    logged-later c.args.stamp c.args.stamps.now c.args.log.now.entries c.args.place (inl c.if-stamps-place.true)

pub returns-then-stamp-stamps : goal.returns-then-stamp-stamps
returns-then-stamp-stamps c =
    logged-later c.args.stamp c.args.stamps.now c.args.log.now.entries c.args.place (inr c.if-stamp-stamps.true)

pub returns : goal.returns
returns c =
    ap option_to_list c.in_ok-entry.ensures.entry
    ∙ logged-there c.args.stamp c.args.stamps.now c.args.log.now.entries c.args.place c.if-stamps-place.false
    c.if-stamp-stamps.false
