use Rattle.std.proofs.Common.{◌∙◌, ◌+◌, ap}
use Rattle.std.specs.Prelude.{◌==◌, ◌&&◌, nat_le}
use Rattle.bench_item.specs.Keys.{home}
use Rattle.bench_spec.specs.Desks.{told_count}
use Rattle.bench_desk.proofs.desk.Desk.agrees.Goals as goal

pub returns : goal.returns
returns c = λ settings stamp stands same.
    let told = told_count settings c.args.self.now.number c.args.self.now.kept (home settings.node.shards c.args.key.now.name) in
    c.is_agreed.ensures
    ∙ ap (λ n. (c.args.waiting + c.args.handled == n) && nat_le c.seen_there.result c.args.handled) (c.told_there.ensures settings same)
    ∙ ap (λ n. (c.args.waiting + c.args.handled == told) && nat_le n c.args.handled) (c.seen_there.ensures settings same)
