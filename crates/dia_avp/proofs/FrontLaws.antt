-- What stands at the front of octets, and that nothing else does.
use Rattle.std.proofs.Common.{◌≡◌, ℕ, ◌<◌, List, [], ◌∷◌, length, Result, Ok, Err, sym, ◌∙◌, arith}
use Rattle.std.specs.Prelude.{IfOk, IfErr}
use Rattle.std.specs.Borrow.{Bor}
use Rattle.dia_avp.specs.declared.fault.FaultCode.{FaultCode}
use Rattle.dia_avp.specs.declared.avp.Avp.{Avp}
use Rattle.dia_avp.specs.declared.avp.AvpView.{AvpView}
use Rattle.dia_avp.specs.View.{seen, front}
use Rattle.dia_avp.specs.Avps.{AvpThen, Broken, IsFront, IsOnlyFront}
use Rattle.dia_avp.specs.Reading.{avp_at, avps_in}
use Rattle.dia_avp.proofs.Bytes.{IsBytes}
use Rattle.dia_avp.proofs.OneLaws.{avp_takes, avp_again}
use Rattle.dia_avp.proofs.ListLaws.{shorter, broken_takes, broken_again}
use Rattle.dia_avp.proofs.PartLaws.{avps_in-read, avps_in-refused}

abbrev pub Front : Type 0
Front = Result (AvpView × Bor (List ℕ)) FaultCode

pub front_avp : (octets : List ℕ) (r : Front) → IsBytes octets → front r ≡ avp_at octets → IfOk r (λ x. AvpThen octets (seen x.0) x.1.now)
front_avp octets (Ok x) fits e = (avp_takes octets (seen x.0, x.1.now) fits (sym e)).0
front_avp octets (Err code) fits e = tt

pub front_shorter : (octets : List ℕ) (r : Front) → IfOk r (λ x. AvpThen octets (seen x.0) x.1.now) → IfOk r (λ x. length x.1.now < length octets)
front_shorter octets (Ok x) t = omega (arith, shorter octets (seen x.0) x.1.now t)
front_shorter octets (Err code) t = tt

pub front_broken : (octets : List ℕ) (r : Front) → front r ≡ avp_at octets → IfErr r (Broken octets)
front_broken octets (Ok x) e = tt
front_broken octets (Err code) e = broken_takes octets code (sym e)

read_again : (octets : List ℕ) (other : Result (Avp × List ℕ) FaultCode) → IsFront octets other → avp_at octets ≡ other
read_again octets (Ok x) t = avp_again octets x.0 x.1 t
read_again octets (Err code) w = broken_again octets code w

pub only_front : (octets : List ℕ) (r : Front) → front r ≡ avp_at octets → IsOnlyFront octets (front r)
only_front octets r e other h = sym (e ∙ read_again octets other h)

-- the AVPs of octets are the one at the front and those of the rest
pub front_parts : (octets : List ℕ) (r : Front) → front r ≡ avp_at octets → IfOk r (λ x. avps_in octets ≡ (seen x.0 ∷ (avps_in x.1.now).0, (avps_in x.1.now).1))
front_parts octets (Ok x) e = avps_in-read octets (seen x.0) x.1.now (sym e)
front_parts octets (Err code) e = tt

pub front_left : (octets : List ℕ) (r : Front) → front r ≡ avp_at octets → IfErr r (λ _. avps_in octets ≡ ([], octets))
front_left octets (Ok x) e = tt
front_left octets (Err code) e = avps_in-refused octets code (sym e)
