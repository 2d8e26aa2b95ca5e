use Rattle.std.proofs.Common.{ℕ, subst, sym}
use Rattle.base_list.specs.declared.named.Named.{Named}
use Rattle.std.specs.Prelude.{All}
use Rattle.std.proofs.lemmas.List.Elements.{All-push}
use Rattle.hex.specs.Hex.{IsBytes}
use Rattle.base_list.proofs.NamedLemmas.{IsKept, IsKept-add}
use Rattle.step_text.proofs.machines.Machines.add.Goals as goal

pub invariant_of-self : goal.invariant_of-self
invariant_of-self c =
    let old : IsKept 65536 c.self.inside.numbers = record { named = c.self.invariant.named; few = c.self.invariant.few } in
    let entry : Named ℕ = record { name = c.deref.result.now; value = c.args.number } in
    let kept = IsKept-add c.add.result 65536 entry c.self.inside.numbers c.add.new.self old c.add.ensures.ok c.add.ensures.free c.add.ensures.err in
    let octets : IsBytes c.deref.result.now = subst IsBytes (sym c.deref.ensures.value) c.in-Ok.ensures.octets in
    record {
      named = kept.named;
      few = kept.few;
      octets = subst (All (λ entry. IsBytes entry.name)) (sym c.in-Ok-add.ensures.ok) (All-push (λ entry. IsBytes entry.name) c.self.inside.numbers entry c.self.invariant.octets octets);
    }
