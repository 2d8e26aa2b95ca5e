use Rattle.std.proofs.Common.{map}
use Rattle.bench_open.specs.Given.{opened_as}
use Rattle.bench_start.specs.Starting.{page_at_start}
use Rattle.bench_start.proofs.ListLemmas.{more-by}
use Rattle.bench_start.proofs.pages.open_pages.Goals as goal

pub loop-number-preserved : goal.loop-number-preserved
loop-number-preserved c =
    more-by (page_at_start c.args.count (map opened_as c.args.accounts.now)) c.loop-number.number c.loop-number.pages.items c.push.new.self.items c.in_ok-page.page c.loop-number.invariant c.in_ok-page.ensures c.in_ok-push.ensures.items
