-- Why a desk does not tell a machine an event: two reasons of one fault.
use Rattle.std.proofs.Common.{◌≡◌, [], ◌∷◌, Bool, true, false, refl}
use Rattle.std.specs.Prelude.{◌&&◌, not}
use Rattle.bench_item.specs.declared.step.StepFault.TheVariants.{Full, Unknown}
use Rattle.bench_core.specs.Faults.{first_of}

-- one reason of both
pub both-unknown : (a b f : Bool) → first_of ((not a, Unknown) ∷ (not b, Unknown) ∷ (f, Full) ∷ []) ≡ first_of ((not (a && b), Unknown) ∷ (f, Full) ∷ [])
both-unknown true b f = refl
both-unknown false true f = refl
both-unknown false false f = refl
