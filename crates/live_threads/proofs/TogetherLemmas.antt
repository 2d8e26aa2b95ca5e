-- What threads answer that each had a node live.
use Rattle.std.proofs.Common.{◌≡◌, ◌∙◌, ◌<◌, ℕ, List, Option, None, Some, Result, Ok, Err, Vec, ap, arith, length, subst, sym}
use Rattle.std.specs.Global.{Global}
use Rattle.std.specs.Prelude.{IfOk, IfSome, slice_get, slice_index_or, vec_len}
use Rattle.std.specs.Fork.{GivesJobs}
use Rattle.std.specs.Fn.{FnReturns}
use denote.Param.Members.{Shared}
use Rattle.std.proofs.lemmas.Option.{get_or_from_slice_get, slice_get_within}
use Rattle.live_turns.specs.Together.{AreTogether, opened_with}
use Rattle.live_turns.specs.declared.turns.Lived.{Lived}
use Rattle.live_turns.specs.declared.turns.Living.{Living}

-- each answers a world of the bench that its node had
worlds_of : {F : Type 0} (g : Shared F (Living × Unit {0}) (Option Lived)) (f : F) (livings : List Living) (lived : List (Option Lived))
    → ((living : Living) (r : Option Lived) → FnReturns g f (living, tt) r → IfSome r (λ one. one.core.settings ≡ opened_with living))
    → GivesJobs g f livings lived → (place : ℕ) (living : Living) (one : Lived) → slice_get livings place ≡ Some living
    → slice_get lived place ≡ Some (Some one) → one.core.settings ≡ opened_with living
worlds_of g f livings lived each gives place living one there has =
    let within : place < length livings = slice_get_within livings place living there in
    let job = (gives place None within).1 in
    let same : slice_index_or lived place None ≡ Some one = get_or_from_slice_get lived place (Some one) None has in
    let of = each job.job (slice_index_or lived place None) job.call in
    let its = subst (λ (r : Option Lived). IfSome r (λ one. one.core.settings ≡ opened_with job.job)) same of in
    its ∙ ap opened_with (sym (job.job_is living) ∙ get_or_from_slice_get livings place living living there)

-- and so of all, where there was memory
pub ok_together : {F E : Type 0} (g : Shared F (Living × Unit {0}) (Option Lived)) (f : F) (livings : Vec Living Global)
    (r : Result (Vec (Option Lived) Global) E)
    → ((living : Living) (r : Option Lived) → FnReturns g f (living, tt) r → IfSome r (λ one. one.core.settings ≡ opened_with living))
    → IfOk r (λ v. vec_len v ≡ vec_len livings) → IfOk r (λ v. GivesJobs g f livings.items v.items)
    → IfOk r (λ v. AreTogether livings.items v.items)
ok_together g f livings (Ok v) each long gives = record {
  each = omega (arith, long, v.ok.0, livings.ok.0);
  worlds = worlds_of g f livings.items v.items each gives;
}
ok_together g f livings (Err e) each long gives = tt
