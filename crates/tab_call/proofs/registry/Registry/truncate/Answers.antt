use Rattle.tab_call.proofs.KeptLemmas.{kept-take}
use Rattle.tab_call.proofs.registry.Registry.truncate.Goals as goal

pub invariant_of-self : goal.invariant_of-self
invariant_of-self g c = record {
  guards_kept = rw (c.truncate-2.ensures.items, c.truncate.ensures) (kept-take _ c.args.guards _ _ c.args.self.now.guards_kept);
  acts_kept = rw (c.truncate-3.ensures.items, c.truncate.ensures) (kept-take _ c.args.acts _ _ c.args.self.now.acts_kept);
}
