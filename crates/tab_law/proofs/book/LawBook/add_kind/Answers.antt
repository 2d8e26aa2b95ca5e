use Rattle.tab_law.specs.declared.limits.TheConstants.{MAX_KINDS}
use Rattle.base_list.proofs.NamedLemmas.{IsKept, IsKept-add}
use Rattle.tab_law.proofs.book.LawBook.add_kind.Goals as goal

pub invariant_of-self : goal.invariant_of-self
invariant_of-self c =
    let old : IsKept MAX_KINDS c.self.inside.kinds = record { named = c.self.invariant.kinds_named; few = c.self.invariant.few_kinds } in
    let kept = IsKept-add c.add.result MAX_KINDS (record { name = c.args.name.now; value = tt }) c.self.inside.kinds c.add.new.self old c.add.ensures.ok c.add.ensures.free c.add.ensures.err in
    record {
      kinds_named = kept.named;
      few_kinds = kept.few;
      guards_named = c.self.invariant.guards_named;
      acts_named = c.self.invariant.acts_named;
      few_guards = c.self.invariant.few_guards;
      few_acts = c.self.invariant.few_acts;
    }
