use Rattle.live_desk.proofs.KeyLemmas.{keys_of-decide}
use Rattle.live_desk.proofs.desk.Desk.keys.Goals as goal

pub returns-clause-decide : goal.returns-clause-decide
returns-clause-decide c =
    keys_of-decide c.args.laws.now c.args.self.now c.in_ok-keys.keys.items c.in_ok-keys.ensures
