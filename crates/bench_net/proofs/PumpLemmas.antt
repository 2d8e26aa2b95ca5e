-- What a whole call comes to.
use Rattle.std.proofs.Common.{◌≡◌, ◌⊎◌, ℕ, ◌+◌, Bool, true, false, not, ◌||◌, ◌&&◌, List, [], Option, Result, Err, length, rules, refl, sym, ◌∙◌, ap, inl, inr, subst}
use Rattle.std.specs.Io.KnownBytes.{IsAtEnd}
use Rattle.std.specs.List.{concat}
use Rattle.std.proofs.KnownBytes.{Consumes-nil}
use Rattle.bench_net.specs.Events.{Event, HasDeclined}
use Rattle.bench_net.specs.Pipes.{HandsOn, IsEmpty, IsHeld, loss_waiting, refusal_of, waiting}
use Rattle.bench_net.specs.Pumps.{IsHeard, IsHeldBy, IsLeft, code_by, is_ended, written_of}
use Rattle.bench_net.specs.Readings.{EndsBy, Hears}
use Rattle.bench_net.specs.Writings.{Sends}
use Rattle.bench_net.proofs.HearLemmas.{Hears-then}
use Rattle.bench_net.specs.declared.end.End.{End}
use Rattle.bench_net.specs.declared.end.End.TheVariants.{Blocked, Ended, Declined, Failed, Over, Held}
use Rattle.bench_net.specs.declared.fault.PumpFault.{PumpFault}
use Rattle.bench_net.specs.declared.fault.Pumped.{Pumped}
use Rattle.bench_net.specs.declared.pipe.Pipe.{Pipe}
use Rattle.bench_net.specs.declared.refusal.Refusal.{Refusal}
use Rattle.bench_net.specs.declared.settle.Stop.{Stop}
use Rattle.bench_net.specs.declared.settle.Stop.TheVariants as stops

module _ {P I : Type 0} (refuses : P → Event → Refusal → Type 0) (remaining : I → Option (List ℕ)) (reads failures blocked : I → ℕ)
    (port' : P) (pipe pipe' : Pipe) (source source' : I) (lost : Bool) where
  -- the ends, by these
  abbrev pub By : End → Type 0
  By end = EndsBy refuses remaining reads failures blocked port' pipe pipe' source source' lost end

  pub at_end : (end : End) (e : End) → end ≡ e → By end → By e
  at_end end e is h = subst (λ (x : End). By x) is h

  -- a loss that waits happened, or waited before
  pub losing_from : (end : End) → By end → pipe'.losing ≡ true → (lost ≡ true) ⊎ (pipe.losing ≡ true)
  losing_from Blocked h e = let n = h.1.1 in cc
  losing_from Ended h e = inl h.0
  losing_from Declined h e = let n = h.1.1 in cc
  losing_from Failed h e = let n = h.1.1 in cc
  losing_from Over h e = let n = h.1.1 in cc
  losing_from (Held stop) h e = h.3 e

  -- the input ended
  pub lost_at_end : (end : End) → By end → not (is_ended end) ≡ false → lost ≡ true
  lost_at_end Blocked h e = cc
  lost_at_end Ended h e = h.0
  lost_at_end Declined h e = cc
  lost_at_end Failed h e = cc
  lost_at_end Over h e = cc
  lost_at_end (Held stop) h e = cc

  not_lost : (losing : Bool) → (lost ≡ true → losing ≡ true) → not losing ≡ true → lost ≡ false
  not_lost losing h e = elim lost as (λ b. (b ≡ true → losing ≡ true) → b ≡ false) [ true ↦ (λ p. let q = p refl in let r : not true ≡ true = ap not (sym q) ∙ e in cc) | false ↦ (λ p. refl) ] h

  -- the loss happens once
  pub once : (end : End) → By end → (not (is_ended end) && not pipe'.losing) ≡ true → lost ≡ false
  once Blocked h e = h.0
  once Ended h e = cc
  once Declined h e = h.0
  once Failed h e = h.0
  once Over h e = h.0
  once (Held stop) h e = not_lost pipe'.losing (λ l. (h.2 l).0) e

  -- all was done
  pub done : (end : End) → By end → (end ≡ Failed → ⊥) → (end ≡ Over → ⊥) → ((stop : Stop) → end ≡ Held stop → ⊥)
      → IsEmpty pipe' × (((lost ≡ true) × IsAtEnd (remaining source')) ⊎ ((lost ≡ false) × ((blocked source' ≡ blocked source + 1) ⊎ HasDeclined refuses port')))
  done Blocked h f o s = (h.1, inr (h.0, inl h.3))
  done Ended h f o s = (h.1, inl (h.0, h.3))
  done Declined h f o s = (h.1, inr (h.0, inr h.3))
  done Failed h f o s = absurd (f refl)
  done Over h f o s = absurd (o refl)
  done (Held stop) h f o s = absurd (s stop refl)

-- the loss happened now, or before, or waited before
pub lost_after : (lost losing before b : Bool) → (losing ≡ true → (lost ≡ true) ⊎ (before ≡ true)) → (b ≡ false → lost ≡ true)
    → ((lost || (b && not losing)) ≡ true) ⊎ (before ≡ true)
lost_after true losing before b p q = inl refl
lost_after false losing before false p q = let e = q refl in cc
lost_after false true before true p q = elim (p refl) [ inl e ↦ cc | inr e ↦ inr e ]
lost_after false false before true p q = inl refl

pub lost_now : (lost losing : Bool) → losing ≡ false → (lost || not losing) ≡ true
lost_now true losing e = refl
lost_now false losing e = ap not e

-- a port that holds things up
pub held_left : {I : Type 0} (remaining : I → Option (List ℕ)) (pipe pipe' : Pipe) (source' : I) (pieces : List (List ℕ)) (lost : Bool) (stop : Stop)
    → (lost ≡ true → IsAtEnd (remaining source')) → IsLeft remaining pipe pipe' source' pieces lost (code_by stop)
held_left remaining pipe pipe' source' pieces lost stops.Full h = h
held_left remaining pipe pipe' source' pieces lost stops.NoMemory h = h

pub held_so : {P : Type 0} (refuses : P → Event → Refusal → Type 0) (port' : P) (pipe pipe' : Pipe) (stop : Stop)
    → waiting pipe' ≡ waiting pipe → IsHeld refuses port' pipe (refusal_of stop) → IsHeldBy refuses port' pipe' (code_by stop)
held_so refuses port' pipe pipe' stops.Full same h = (h.0, h.1, same ∙ h.2, h.3)
held_so refuses port' pipe pipe' stops.NoMemory same h = (h.0, h.1, same ∙ h.2, h.3)

-- what was heard where a call ended before all was done
pub heard_so : {P I : Type 0} (takes : P → Event → P → Type 0) (refuses : P → Event → Refusal → Type 0) (sent : P → Option (List ℕ)) (remaining : I → Option (List ℕ)) (blocked : I → ℕ)
    (a b : P) (p q : Pipe) (s t : I) (r : Result Pumped PumpFault) (fault : PumpFault) (pieces : List (List ℕ)) (lost : Bool)
    → r ≡ Err fault → length (concat pieces) ≡ fault.read → Hears takes refuses sent remaining a b (waiting p) (waiting q) s t pieces lost
    → IsLeft remaining p q t pieces lost fault.code → IsHeard takes refuses sent remaining blocked a b p q s t r
heard_so takes refuses sent remaining blocked a b p q s t r fault pieces lost is count hears left =
    subst (IsHeard takes refuses sent remaining blocked a b p q s t) (sym is) (pieces, lost, count, hears, left)

-- the loss comes behind what was heard, where the input didn't end, and behind what went out
pub lost_by : {P I : Type 0} (takes : P → Event → P → Type 0) (refuses : P → Event → Refusal → Type 0) (sent : P → Option (List ℕ)) (remaining : I → Option (List ℕ)) (reads failures blocked : I → ℕ)
    (a b d : P) (old mid told new : Pipe) (s t : I) (pieces : List (List ℕ)) (lost : Bool) (end : End)
    → Hears takes refuses sent remaining a b (waiting old) (waiting mid) s t pieces lost
    → EndsBy refuses remaining reads failures blocked b old mid s t lost end
    → waiting told ≡ waiting mid → told.losing ≡ mid.losing
    → HandsOn takes refuses sent b d (waiting told) (waiting new) (loss_waiting (not (is_ended end) && not told.losing))
    → Hears takes refuses sent remaining a d (waiting old) (waiting new) s t pieces (lost || (not (is_ended end) && not told.losing))
    × (((lost || (not (is_ended end) && not told.losing)) ≡ true) ⊎ (old.losing ≡ true))
lost_by takes refuses sent remaining reads failures blocked a b d old mid told new s t pieces lost end hears by same losing handed =
    let further : Hears takes refuses sent remaining a b (waiting old) (waiting told) s t pieces lost =
    subst (λ (l : List Event). Hears takes refuses sent remaining a b (waiting old) l s t pieces lost) (sym same) hears in (
      Hears-then takes refuses sent remaining a b d (waiting old) (waiting told) (waiting new) s t pieces lost (not (is_ended end) && not told.losing) further handed
          (λ e. once refuses remaining reads failures blocked b old mid s t lost end by (ap (λ (x : Bool). not (is_ended end) && not x) (sym losing) ∙ e)),
      lost_after lost told.losing old.losing (not (is_ended end))
          (λ e. losing_from refuses remaining reads failures blocked b old mid s t lost end by (sym losing ∙ e))
          (lost_at_end refuses remaining reads failures blocked b old mid s t lost end by),
    )

pub told_or_waiting : (losing : Bool) → (not losing ≡ true) ⊎ (losing ≡ true)
told_or_waiting true = inr refl
told_or_waiting false = inl refl

-- nothing was read, and the loss was handed on
pub only_lost : {P I : Type 0} (takes : P → Event → P → Type 0) (refuses : P → Event → Refusal → Type 0) (sent : P → Option (List ℕ)) (remaining : I → Option (List ℕ)) (a b : P) (p q : List Event) (s : I) (lost : Bool)
    → HandsOn takes refuses sent a b p q (loss_waiting lost) → Hears takes refuses sent remaining a b p q s s [] lost
only_lost takes refuses sent remaining a b p q s lost handed = record { read = Consumes-nil (remaining s); short = search rules; handed = handed }

-- what went out where a call ended before all was done
pub sent_so : {P O : Type 0} (sent : P → Option (List ℕ)) (contents : O → Option (List ℕ)) (port : P) (from to : ℕ) (s t : O) (r : Result Pumped PumpFault) (fault : PumpFault)
    → r ≡ Err fault → Sends sent contents port from to s t fault.written → Sends sent contents port from to s t (written_of r)
sent_so sent contents port from to s t r fault is sends =
    subst (λ (x : Result Pumped PumpFault). Sends sent contents port from to s t (written_of x)) (sym is) sends
