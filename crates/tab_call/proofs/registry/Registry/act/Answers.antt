use Rattle.tab_call.proofs.KeptLemmas.{kept-at}
use Rattle.tab_call.proofs.registry.Registry.act.Goals as goal

pub returns : goal.returns
returns g c =
    let k = kept-at _ _ _ c.args.place c.index.result.now c.args.self.now.acts_kept c.requires in
    rw k.1.0 (rw k.1.1 (rw (← c.index.ensures) c.act.ensures))
