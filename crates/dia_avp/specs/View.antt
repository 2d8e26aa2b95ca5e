-- What an AVP is that lies in octets.
use Rattle.std.specs.Prelude.{ℕ, List, Result, Ok, Err}
use Rattle.std.specs.Borrow.{Bor}
use Rattle.dia_avp.specs.declared.fault.FaultCode.{FaultCode}
use Rattle.dia_avp.specs.declared.avp.Avp.{Avp}
use Rattle.dia_avp.specs.declared.avp.AvpView.{AvpView}

-- the AVP as a value
abbrev pub seen : AvpView → Avp
seen v = record {
  code = v.code;
  vendor = v.vendor;
  mandatory = v.mandatory;
  protected = v.protected;
  octets = v.octets.now;
}

-- the AVP and the rest as values, or the fault
abbrev pub front : Result (AvpView × Bor (List ℕ)) FaultCode → Result (Avp × List ℕ) FaultCode
front (Ok x) = Ok (seen x.0, x.1.now)
front (Err code) = Err code
