use Rattle.tab_law.specs.declared.limits.TheConstants.{MAX_KINDS, MAX_GUARDS, MAX_ACTIONS}
use Rattle.base_list.proofs.NamedLemmas.{IsKept-take}
use Rattle.tab_law.proofs.book.LawBook.truncate.Goals as goal

pub invariant_of-self : goal.invariant_of-self
invariant_of-self c =
    let kinds = IsKept-take MAX_KINDS c.args.kinds c.self.inside.kinds (record { named = c.self.invariant.kinds_named; few = c.self.invariant.few_kinds }) in
    let guards = IsKept-take MAX_GUARDS c.args.guards c.self.inside.guards (record { named = c.self.invariant.guards_named; few = c.self.invariant.few_guards }) in
    let acts = IsKept-take MAX_ACTIONS c.args.acts c.self.inside.acts (record { named = c.self.invariant.acts_named; few = c.self.invariant.few_acts }) in
    record {
      kinds_named = rw c.truncate.ensures kinds.named;
      few_kinds = rw c.truncate.ensures kinds.few;
      guards_named = rw c.truncate-2.ensures guards.named;
      few_guards = rw c.truncate-2.ensures guards.few;
      acts_named = rw c.truncate-3.ensures acts.named;
      few_acts = rw c.truncate-3.ensures acts.few;
    }
