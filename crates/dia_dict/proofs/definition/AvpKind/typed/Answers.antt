use Rattle.std.proofs.Common.{subst, List, ℕ, All, ◌<◌}
use Rattle.dia_dict.proofs.FieldLemmas.{identity-good, text-good, text-bad}
use Rattle.dia_dict.proofs.definition.AvpKind.typed.Goals as goal

pub returns-in-Err-as_text-clause-fault : goal.returns-in-Err-as_text-clause-fault
returns-in-Err-as_text-clause-fault c =
    let refused = c.in-Err-as_text.ensures.refused in
    rw refused.0 (text-bad _ _ c.in-Utf8String.is refused.1)

pub returns-in-Ok-as_text-clause-none : goal.returns-in-Ok-as_text-clause-none
returns-in-Ok-as_text-clause-none c = text-good _ _ c.in-Utf8String.is c.in-Ok-as_text.ensures.value.1

pub returns-in-Ok-as_identity-clause-none : goal.returns-in-Ok-as_identity-clause-none
returns-in-Ok-as_identity-clause-none c =
    let v = c.in-Ok-as_identity.ensures.value in
    identity-good _ _ c.in-DiameterIdentity.is (subst (λ (l : List ℕ). All (λ o. o < 128) l) v.0 v.1)
