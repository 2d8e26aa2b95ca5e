-- A message that 24 bits hold has its encoding as octets, any other has none.
use Rattle.std.proofs.Common.{◌≡◌, ◌↔◌, ◌^◌, [], Result, Ok, Err, refl, inl, inr}
use Rattle.std.specs.Prelude.{IsErrOf}
use Rattle.std.proofs.lemmas.Bool.{cases_lt, lt-ltb, le-ltb}
use Rattle.dia_avp.specs.declared.fault.WriteError.{WriteError}
use Rattle.dia_avp.specs.declared.fault.WriteError.TheVariants.{LengthOver24Bits}
use Rattle.dia_command.specs.declared.command.Command.{Command}
use Rattle.dia_write.specs.Encoding.{encode, message_len, IsTooLong}
use Rattle.line_message.specs.Sent.{octets_of}

pub octets-fit : (command : Command) → (IsTooLong command → ⊥) → encode command ≡ octets_of command
unfolding octets_of
octets-fit command fits = elim (cases_lt (message_len command) (2 ^ 24)) [
  | inl less ↦ rw (lt-ltb (message_len command) (2 ^ 24) less) refl
  | inr long ↦ absurd (fits long)
]

pub octets-long : (command : Command) → IsTooLong command → [] ≡ octets_of command
unfolding octets_of
octets-long command long = rw (le-ltb (message_len command) (2 ^ 24) long) refl

not_both : (r : Result (Unit {0}) WriteError) (u : Unit {0}) (e : WriteError) → r ≡ Ok u → r ≡ Err e → ⊥
not_both r u e is other = cc

-- what a call wrote, and what it refused
pub octets-written : (command : Command) (r : Result (Unit {0}) WriteError) (u : Unit {0}) → IsErrOf r LengthOver24Bits ↔ IsTooLong command → r ≡ Ok u → encode command ≡ octets_of command
octets-written command r u h is = octets-fit command (λ long. not_both r u LengthOver24Bits is (h.1 long))

pub octets-refused : (command : Command) (r : Result (Unit {0}) WriteError) (e : WriteError) → IsErrOf r LengthOver24Bits ↔ IsTooLong command → r ≡ Err e → e ≡ LengthOver24Bits → [] ≡ octets_of command
octets-refused command r e h is long = let told : IsErrOf r LengthOver24Bits = rw (is, long) refl in octets-long command (h.0 told)
