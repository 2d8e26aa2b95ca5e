use Rattle.std.proofs.Common.{◌≡◌, subst, sym}
use Rattle.std.specs.Prelude.{OnOk}
use Rattle.bench_item.specs.declared.item.Item.TheVariants.{ToLine}
use Rattle.live_parts.specs.LineParts.{HasCome}
use Rattle.live_parts.proofs.LineLemmas.{deed-is}
use Rattle.live_parts.proofs.deliver.come.Goals as goal

pub returns-in-Some-clause-ok : goal.returns-in-Some-clause-ok
returns-in-Some-clause-ok c =
    let is : c.args.item.now ≡ ToLine c.in-Some.deed.now = deed-is c.args.item.now c.in-Some.deed.now (sym c.in-Some.ensures) in
    subst (λ i. OnOk c.come_deed.result (HasCome c.args.lines.now.rules c.args.lines.now.lines c.come_deed.new.lines.lines i)) (sym is)
    c.come_deed.ensures.ok
