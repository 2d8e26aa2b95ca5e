use Rattle.tab_law.specs.declared.limits.TheConstants.{MAX_GUARDS}
use Rattle.base_list.proofs.NamedLemmas.{IsKept, IsKept-add}
use Rattle.tab_law.proofs.book.LawBook.add_guard.Goals as goal

pub invariant_of-self : goal.invariant_of-self
invariant_of-self c =
    let old : IsKept MAX_GUARDS c.self.inside.guards = record { named = c.self.invariant.guards_named; few = c.self.invariant.few_guards } in
    let kept = IsKept-add c.add.result MAX_GUARDS (record { name = c.args.name.now; value = c.args.law }) c.self.inside.guards c.add.new.self old c.add.ensures.ok c.add.ensures.free c.add.ensures.err in
    record {
      guards_named = kept.named;
      few_guards = kept.few;
      kinds_named = c.self.invariant.kinds_named;
      acts_named = c.self.invariant.acts_named;
      few_kinds = c.self.invariant.few_kinds;
      few_acts = c.self.invariant.few_acts;
    }
