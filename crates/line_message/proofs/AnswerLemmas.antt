-- Which octets are a Session-Id, and which answers are sent.
use Rattle.std.proofs.Common.{◌↔◌, Result, Ok, Err, inl, inr, [], ◌≡◌, ◌==◌, ◌&&◌, ◌≤◌, ◌<◌, not, Bool, true, false, ℕ, List, length, Option, Some, None, refl, ◌^◌, nat_le}
use Rattle.std.specs.Option.{option_map, option_map_or}
use Rattle.std.specs.Prelude.{find, IsErrOf, if◌then◌else◌, IsSomeAnd}
use Rattle.std.specs.Str.{IsUtf8, is_utf8}
use Rattle.std.proofs.lemmas.Bool.{cases_lt, le-leb, lt-leb}
use Rattle.std.proofs.lemmas.Str.{IsUtf8-from_is_utf8, is_utf8-from_IsUtf8}
use Rattle.base_codes.specs.declared.avp_code.TheConstants.{SESSION_ID}
use Rattle.dia_avp.specs.Encoding.{length_of}
use Rattle.dia_avp.specs.View.{seen}
use Rattle.dia_avp.specs.declared.avp.Avp.{Avp}
use Rattle.dia_avp.specs.declared.avp.AvpView.{AvpView}
use Rattle.dia_avp.specs.declared.fault.WriteError.{WriteError}
use Rattle.dia_avp.specs.declared.fault.WriteError.TheVariants.{LengthOver24Bits}
use Rattle.dia_avp.specs.Look.{is_coded}
use Rattle.dia_command.specs.Header.{header_in}
use Rattle.dia_command.specs.declared.command.Command.{Command}
use Rattle.dia_msg.specs.Walk.{whole_avps}
use Rattle.dia_tree.specs.declared.fault.MsgFault.{MsgFault}
use Rattle.dia_write.specs.Answer.{answer_to}
use Rattle.dia_write.specs.declared.answer.Identity.{Identity}
use Rattle.line_message.specs.Answers.{is_session_id, session_of, session_in, is_long, answer_octets}
use Rattle.line_message.specs.Sent.{octets_of}

-- UTF-8 of 1 to 255 octets
pub session-is : (octets text : List ℕ) → (length octets == 0) ≡ false → length octets ≤ 255 → text ≡ octets → IsUtf8 octets → Some text ≡ session_of octets
unfolding is_session_id
session-is octets text some few is utf8 = rw (is, is_utf8-from_IsUtf8 octets utf8, some, le-leb (length octets) 255 few) refl

unnamed_by : (octets : List ℕ) (b c : Bool) → is_utf8 octets ≡ b → (IsUtf8 octets → ⊥) → (of_it : Option (List ℕ)) → of_it ≡ None → of_it ≡ (if b && c then Some octets else None)
unnamed_by octets true c e not_it of_it is = absurd (not_it (IsUtf8-from_is_utf8 octets e))
unnamed_by octets false c e not_it of_it is = is

-- no UTF-8
pub session-other : (octets : List ℕ) → (IsUtf8 octets → ⊥) → None ≡ session_of octets
unfolding is_session_id
session-other octets not_it = unnamed_by octets (is_utf8 octets) _ refl not_it None refl

-- none, and too many
none_by : (a b c : Bool) (of_it : Option (List ℕ)) → (b && c) ≡ false → None ≡ (if a && (b && c) then of_it else None)
none_by true b c of_it e = rw e refl
none_by false b c of_it e = refl

second_false : (b : Bool) → (b && false) ≡ false
second_false true = refl
second_false false = refl

pub session-empty : (octets : List ℕ) → (length octets == 0) ≡ true → None ≡ session_of octets
unfolding is_session_id
session-empty octets none = none_by (is_utf8 octets) (not (length octets == 0)) (nat_le (length octets) 255) (Some octets) (rw none refl)

pub session-long : (octets : List ℕ) → 255 < length octets → None ≡ session_of octets
unfolding is_session_id
session-long octets long = none_by (is_utf8 octets) (not (length octets == 0)) (nat_le (length octets) 255) (Some octets) (rw (lt-leb (length octets) 255 long) (second_false (not (length octets == 0))))

-- the session of the first AVP of its code
pub session-found : (octets : List ℕ) (first : Option AvpView) (view : AvpView) → option_map seen first ≡ find (is_coded SESSION_ID) (whole_avps octets) → first ≡ Some view → session_of view.octets.now ≡ session_in octets
session-found octets first view found is = rw (← found, is) refl

abbrev IsLong : MsgFault → Type 0
IsLong f = IsSomeAnd f.failed (λ a. 2 ^ 24 ≤ length_of a)

short_by : (failed : Option Avp) → (IsSomeAnd failed (λ a. 2 ^ 24 ≤ length_of a) → ⊥) → option_map_or (λ a. nat_le (2 ^ 24) (length_of a)) failed false ≡ false
short_by None fits = refl
short_by (Some a) fits = elim (cases_lt (length_of a) (2 ^ 24)) [
  | inl less ↦ lt-leb (2 ^ 24) (length_of a) less
  | inr long ↦ absurd (fits long)
]

long_by : (failed : Option Avp) → IsSomeAnd failed (λ a. 2 ^ 24 ≤ length_of a) → option_map_or (λ a. nat_le (2 ^ 24) (length_of a)) failed false ≡ true
long_by None h = absurd h
long_by (Some a) long = le-leb (2 ^ 24) (length_of a) long

not_both : (r : Result Command WriteError) (c : Command) (e : WriteError) → r ≡ Ok c → r ≡ Err e → ⊥
not_both r c e is other = cc

-- what a call made is the answer
pub answer-made : (me : Identity) (octets : List ℕ) (f : MsgFault) (session : Option (List ℕ)) (r : Result Command WriteError) (c : Command)
    → IsErrOf r LengthOver24Bits ↔ IsLong f → r ≡ Ok c → c ≡ answer_to me (header_in octets) session f → session ≡ session_in octets → octets_of c ≡ answer_octets me octets f
unfolding answer_octets is_long
answer-made me octets f session r c h is made named =
    rw (short_by f.failed (λ long. not_both r c LengthOver24Bits is (h.1 long)), made, named) refl

pub answer-refused : (me : Identity) (octets : List ℕ) (f : MsgFault) (r : Result Command WriteError) (e : WriteError) → IsErrOf r LengthOver24Bits ↔ IsLong f → r ≡ Err e → e ≡ LengthOver24Bits → [] ≡ answer_octets me octets f
unfolding answer_octets is_long
answer-refused me octets f r e h is long =
    let told : IsErrOf r LengthOver24Bits = rw (is, long) refl in
    rw (long_by f.failed (h.0 told)) refl
