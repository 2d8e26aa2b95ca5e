-- Reading AVPs one after the other, as a loop does.
use Rattle.std.proofs.Common.{◌≡◌, ℕ, ◌+◌, ◌<◌, ◌≤◌, List, [], ◌∷◌, ◌++◌, length, Result, Ok, Err, subst, arith}
use Rattle.std.specs.Prelude.{IsErrOf, ◌↔◌}
use Rattle.std.proofs.lemmas.List.{length_push}
use Rattle.dia_avp.specs.declared.avp.Avp.{Avp}
use Rattle.dia_avp.specs.declared.fault.FaultCode.{FaultCode}
use Rattle.dia_avp.specs.declared.fault.AvpFault.{AvpFault}
use Rattle.dia_avp.specs.declared.fault.ReadError.{ReadError}
use Rattle.dia_avp.specs.declared.fault.ReadError.TheVariants as read_errors
use Rattle.dia_avp.specs.Avps.{AvpThen, AvpsThen, Avps, Broken, IsFault, IsReading, IsOnlyReading, UnlessNoMemory}
use Rattle.dia_avp.proofs.ListLaws.{AvpsThen-push, shorter, starts, same_first, same_lists, not_broken, listed, faulty, one_reading}

-- the AVPs that were counted, and what is left
pub record Counted (octets : List ℕ) (depth count : ℕ) (rest : List ℕ) : Type 0 where
  pub list : List Avp
  pub shallow : depth ≤ 4
  pub read : AvpsThen octets list rest
  pub counted : length list ≡ count
  pub few : count ≤ 128
  pub left : length rest ≤ length octets

pub Counted-more : (octets : List ℕ) (depth count : ℕ) (rest : List ℕ) (a : Avp) (next : List ℕ) → Counted octets depth count rest → count < 128 → AvpThen rest a next → Counted octets depth (count + 1) next
Counted-more octets depth count rest a next s lt t =
    record {
      list = s.list ++ a ∷ [];
      shallow = s.shallow;
      read = AvpsThen-push octets s.list rest a next s.read t;
      counted = omega (arith, length_push s.list a, s.counted);
      few = omega arith;
      left = omega (arith, s.left, shorter rest a next t);
    }

-- the AVPs that were read, and those to come
pub record Halfway (octets : List ℕ) (list : List Avp) (rest : List ℕ) : Type 0 where
  pub read : AvpsThen octets list rest
  pub next : List Avp
  pub whole : Avps rest next

rest_after : (list : List Avp) (rest : List ℕ) (a : Avp) (next : List ℕ) → Avps rest list → AvpThen rest a next → (left : List Avp) × Avps next left
rest_after [] rest a next h t = absurd (starts a next rest h t)
rest_after (b ∷ list) rest a next h t = (list, subst (λ (o : List ℕ). Avps o list) (same_first rest b a h.0 next h.1 t).1 h.2)

pub Halfway-more : (octets : List ℕ) (list : List Avp) (rest : List ℕ) (a : Avp) (next : List ℕ) → Halfway octets list rest → AvpThen rest a next → Halfway octets (list ++ a ∷ []) next
Halfway-more octets list rest a next h t =
    let left = rest_after h.next rest a next h.whole t in
    record { read = AvpsThen-push octets list rest a next h.read t; next = left.0; whole = left.1 }

ends : (octets : List ℕ) (list : List Avp) (rest : List ℕ) (next : List Avp) (code : FaultCode) → AvpsThen octets list rest → Avps rest next → Broken rest code → Avps octets list
ends octets list rest [] code h k w = subst (λ (o : List ℕ). AvpsThen octets list o) k h
ends octets list rest (b ∷ next) code h k w = absurd (not_broken rest b k.0 code k.1 w)

-- where no AVP is at the front, all were read
pub Halfway-end : (octets : List ℕ) (list : List Avp) (rest : List ℕ) (code : FaultCode) → Halfway octets list rest → Broken rest code → Avps octets list
Halfway-end octets list rest code h w = ends octets list rest h.next code h.read h.whole w

pub few_listed : (octets : List ℕ) (depth n : ℕ) (list : List Avp) → (whole : List Avp) × (length whole ≡ n) × IsReading octets depth (Ok whole) → Avps octets list → IsReading octets depth (Ok list)
few_listed octets depth n list w h = subst (λ (l : List Avp). IsReading octets depth (Ok l)) (same_lists w.0 list octets w.2.2 h) w.2

-- a fault that was found is the one, and the only one
pub exactly_fault : (octets : List ℕ) (depth : ℕ) (r : Result (List Avp) ReadError) (e : ReadError) (f g : AvpFault) → r ≡ Err e → e ≡ read_errors.Fault f → IsFault octets depth f
    → IsErrOf r (read_errors.Fault g) ↔ IsFault octets depth g
exactly_fault octets depth r e f g p q h = (
  λ o. let same : f ≡ g = cc in subst (λ (x : AvpFault). IsFault octets depth x) same h,
  λ k. let same : faulty g ≡ faulty f = one_reading octets depth (faulty f) (faulty g) h k in cc,
)

-- where there is a list there is no fault
pub exactly_none : (octets : List ℕ) (depth : ℕ) (r : Result (List Avp) ReadError) (list : List Avp) (g : AvpFault) → IsReading octets depth (Ok list) → (r ≡ Err (read_errors.Fault g) → ⊥)
    → IsErrOf r (read_errors.Fault g) ↔ IsFault octets depth g
exactly_none octets depth r list g h none = (
  λ o. absurd (none o),
  λ k. let same : faulty g ≡ listed list = one_reading octets depth (listed list) (faulty g) h k in absurd cc,
)

pub only_fault : (octets : List ℕ) (depth : ℕ) (r : Result (List Avp) ReadError) (e : ReadError) (f : AvpFault) → r ≡ Err e → e ≡ read_errors.Fault f → IsFault octets depth f
    → UnlessNoMemory r (IsOnlyReading octets depth)
only_fault octets depth r e f p q h = rw (p, q) (λ other k. one_reading octets depth (faulty f) other h k)
