use Rattle.std.proofs.Common.{[], ap, sym, take, ◌∙◌}
use Rattle.bench_spec.specs.Opening.{is_repeated}
use Rattle.bench_open.proofs.ListLemmas.{any_after-more, any_after-some}
use Rattle.bench_open.proofs.names.has_repeated.Goals as goal

pub returns-then-is_repeated : goal.returns-then-is_repeated
returns-then-is_repeated c =
    sym (any_after-some is_repeated [] c.args.hosts.now c.loop-i.i c.index-hosts-i.result c.loop-i-test.true
    (ap (is_repeated (take c.loop-i.i c.args.hosts.now)) (sym c.index-hosts-i.is) ∙ sym c.is_repeated.ensures ∙ c.if-is_repeated.true))

pub loop-i-preserved : goal.loop-i-preserved
loop-i-preserved c =
    any_after-more is_repeated c.args.hosts.now c.loop-i.i c.index-hosts-i.result c.loop-i-test.true c.loop-i.invariant
    (ap (is_repeated (take c.loop-i.i c.args.hosts.now)) (sym c.index-hosts-i.is) ∙ sym c.is_repeated.ensures ∙ c.if-is_repeated.false)
