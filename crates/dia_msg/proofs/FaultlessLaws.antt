-- When a message's header has no fault, part by part.
use Rattle.std.proofs.Common.{◌≡◌, ℕ, ◌%◌, ◌≤◌, Bool, true, false, not, ◌||◌, eqb, List, [], ◌∷◌, ◌++◌, length, Some, refl}
use Rattle.std.specs.Prelude.{slice_index, is_none, nat_lt}
use Rattle.std.proofs.lemmas.Bool.{le-ltb, ltb-false, eq-eqb, eqb-true}
use Rattle.dia_tree.specs.declared.fault.MsgFault.{MsgFault}
use Rattle.base_codes.specs.declared.result_code.ResultCode.{ResultCode}
use Rattle.base_codes.specs.declared.result_code.ResultCode.TheVariants.{InvalidMessageLength, UnsupportedVersion, CommandUnsupported, ApplicationUnsupported}
use Rattle.dia_command.specs.declared.kind.CommandKind.{CommandKind}
use Rattle.dia_command.specs.declared.header.Header.{Header}
use Rattle.dia_command.specs.Header.{header_in}
use Rattle.dia_command.specs.Format.{kind_coded, application_of}
use Rattle.dia_msg.specs.Faults.{fault_if, is_bad_length, is_bad_application, kind_in, header_faults}

pub none_both : (xs ys : List MsgFault) → xs ++ ys ≡ [] → (xs ≡ []) × (ys ≡ [])
none_both [] ys e = (refl, e)
none_both (x ∷ xs) ys e = absurd cc

none_if : (b : Bool) (code : ResultCode) → fault_if b code ≡ [] → b ≡ false
none_if true code e = absurd cc
none_if false code e = refl

-- a header without a fault
pub record SoundHeader (octets : List ℕ) : Type 0 where
  pub length_good : is_bad_length octets ≡ false
  pub application_good : is_bad_application octets ≡ false

pub sound_header : (octets : List ℕ) → header_faults octets ≡ [] → SoundHeader octets
sound_header octets e =
    let a = none_both (fault_if (is_bad_length octets) InvalidMessageLength) _ e in
    let b = none_both (fault_if (not (eqb (slice_index octets 0) 1)) UnsupportedVersion) _ a.1 in
    let c = none_both (fault_if (is_none (kind_in octets)) CommandUnsupported) (fault_if (is_bad_application octets) ApplicationUnsupported) b.1 in
    record { length_good = none_if _ InvalidMessageLength a.0; application_good = none_if _ ApplicationUnsupported c.1 }

both_false : (a b : Bool) → (a || b) ≡ false → (a ≡ false) × (b ≡ false)
both_false true b e = absurd cc
both_false false b e = (refl, e)

not_false : (b : Bool) → not b ≡ false → b ≡ true
not_false true e = refl
not_false false e = absurd cc

-- a length without a fault
pub record SoundLength (octets : List ℕ) : Type 0 where
  pub has_header : 20 ≤ length octets
  pub own : (header_in octets).length ≡ length octets
  pub aligned : length octets % 4 ≡ 0

pub sound_length : (octets : List ℕ) → is_bad_length octets ≡ false → SoundLength octets
sound_length octets e =
    let a = both_false (nat_lt (length octets) 20) _ e in
    let b = both_false (not (eqb (header_in octets).length (length octets))) (not (eqb (length octets % 4) 0)) a.1 in
    record {
      has_header = ltb-false _ _ a.0;
      own = eqb-true _ _ (not_false _ b.0);
      aligned = eqb-true _ _ (not_false _ b.1);
    }

pub length-good : (octets : List ℕ) → 20 ≤ length octets → (header_in octets).length ≡ length octets → length octets % 4 ≡ 0 → is_bad_length octets ≡ false
length-good octets le own fours = rw (le-ltb (length octets) 20 le, eq-eqb (header_in octets).length (length octets) own, eq-eqb (length octets % 4) 0 fours) refl

pub header-faultless : (octets : List ℕ) (kind : CommandKind) → is_bad_length octets ≡ false → slice_index octets 0 ≡ 1 → kind_in octets ≡ Some kind → is_bad_application octets ≡ false → header_faults octets ≡ []
header-faultless octets kind good version known application = rw (good, version, known, application) refl

-- a header in which nothing wrong was found
pub header-good : (octets : List ℕ) (header : Header) (kind : CommandKind) → header ≡ header_in octets → 20 ≤ length octets → header.length ≡ length octets → length octets % 4 ≡ 0 → slice_index octets 0 ≡ 1
    → kind_coded header.command header.flags.request ≡ Some kind → header.application ≡ application_of header.command → header_faults octets ≡ []
header-good octets header kind is le own fours version known application =
    header-faultless octets kind (length-good octets le (rw is at own) fours) version (rw is at known) (rw (eq-eqb (header_in octets).application (application_of (header_in octets).command) (rw is at application)) refl)
