-- What a port's answer says of what it was offered.
use Rattle.std.proofs.Common.{◌≡◌, Result, Ok, Err, OnOk, IfErr, OnErr, inl, inr, subst, sym}
use Rattle.bench_net.specs.Answers.{meaning_of}
use Rattle.bench_net.specs.Events.{Event, Declines, Settles}
use Rattle.bench_net.specs.Pipes.{refusal_of}
use Rattle.bench_net.specs.declared.refusal.Refusal.{Refusal}
use Rattle.bench_net.specs.declared.refusal.Refusal.TheVariants.{Unknown, Closed, Full, NoMemory}
use Rattle.bench_net.specs.declared.settle.Answer.{Answer}
use Rattle.bench_net.specs.declared.settle.Answer.TheVariants.{Declined}
use Rattle.bench_net.specs.declared.settle.Stop.{Stop}
use Rattle.bench_net.specs.declared.settle.Stop.TheVariants as stops

-- an answer that isn't a refusal for now settles it
pub settled_by : {P T : Type 0} (takes : P → Event → P → Type 0) (refuses : P → Event → Refusal → Type 0) (old new : P) (event : Event) (r : Result T Refusal) (answer : Answer)
    → OnOk r (takes old event new) → IfErr r (λ why. refuses old event why) → OnErr r (new ≡ old) → meaning_of r ≡ Ok answer
    → Settles takes refuses old event new
settled_by takes refuses old new event (Ok x) answer ok refused same e = inl ok
settled_by takes refuses old new event (Err Unknown) answer ok refused same e = inr (same, inl refused)
settled_by takes refuses old new event (Err Closed) answer ok refused same e = inr (same, inr refused)
settled_by takes refuses old new event (Err Full) answer ok refused same e = cc
settled_by takes refuses old new event (Err NoMemory) answer ok refused same e = cc

-- what the port has no use for was declined by it as it is
pub declined_by : {P T : Type 0} (refuses : P → Event → Refusal → Type 0) (old new : P) (event : Event) (r : Result T Refusal)
    → IfErr r (λ why. refuses old event why) → OnErr r (new ≡ old) → meaning_of r ≡ Ok Declined
    → Declines refuses new event
declined_by refuses old new event (Ok x) refused same e = cc
declined_by refuses old new event (Err Unknown) refused same e = inl (subst (λ p. refuses p event Unknown) (sym same) refused)
declined_by refuses old new event (Err Closed) refused same e = inr (subst (λ p. refuses p event Closed) (sym same) refused)
declined_by refuses old new event (Err Full) refused same e = cc
declined_by refuses old new event (Err NoMemory) refused same e = cc

-- what the port wants later it refuses as it is, and it is as it was
pub held_by : {P T : Type 0} (refuses : P → Event → Refusal → Type 0) (old new : P) (event : Event) (r : Result T Refusal) (stop : Stop)
    → IfErr r (λ why. refuses old event why) → OnErr r (new ≡ old) → meaning_of r ≡ Err stop
    → refuses new event (refusal_of stop)
held_by refuses old new event (Ok x) stop refused same e = cc
held_by refuses old new event (Err Unknown) stop refused same e = cc
held_by refuses old new event (Err Closed) stop refused same e = cc
held_by refuses old new event (Err Full) stops.Full refused same e = subst (λ p. refuses p event Full) (sym same) refused
held_by refuses old new event (Err Full) stops.NoMemory refused same e = cc
held_by refuses old new event (Err NoMemory) stops.Full refused same e = cc
held_by refuses old new event (Err NoMemory) stops.NoMemory refused same e = subst (λ p. refuses p event NoMemory) (sym same) refused

pub same_when_held : {P T : Type 0} (old new : P) (r : Result T Refusal) (stop : Stop) → OnErr r (new ≡ old) → meaning_of r ≡ Err stop → new ≡ old
same_when_held old new (Ok x) stop same e = cc
same_when_held old new (Err why) stop same e = same
