use Rattle.tab_law.specs.declared.limits.TheConstants.{MAX_ACTIONS}
use Rattle.base_list.proofs.NamedLemmas.{IsKept, IsKept-add}
use Rattle.tab_law.proofs.book.LawBook.add_act.Goals as goal

pub invariant_of-self : goal.invariant_of-self
invariant_of-self c =
    let old : IsKept MAX_ACTIONS c.self.inside.acts = record { named = c.self.invariant.acts_named; few = c.self.invariant.few_acts } in
    let kept = IsKept-add c.add.result MAX_ACTIONS (record { name = c.args.name.now; value = c.args.law }) c.self.inside.acts c.add.new.self old c.add.ensures.ok c.add.ensures.free c.add.ensures.err in
    record {
      acts_named = kept.named;
      few_acts = kept.few;
      kinds_named = c.self.invariant.kinds_named;
      guards_named = c.self.invariant.guards_named;
      few_kinds = c.self.invariant.few_kinds;
      few_guards = c.self.invariant.few_guards;
    }
