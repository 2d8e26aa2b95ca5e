use Rattle.std.proofs.Common.{rules}
use Rattle.bench_move.proofs.DecideLemmas.{decided-with}
use Rattle.bench_move.proofs.roles.Roles.decide.Goals as goal

pub returns-clause-decided : goal.returns-clause-decided
returns-clause-decided g c =
    decided-with c.args.self.now c.args.peers.now c.args.page.now.book c.args.number c.args.before.now c.args.item.now c.args.want.now _ c.requires.want
    (search rules) (search rules) (search rules) (search rules) (search rules) (search rules) (search rules)
