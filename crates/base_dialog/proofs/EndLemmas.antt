-- How a run ends whose input is answered.
use Rattle.std.proofs.Common.{◌≡◌, ◌+◌, ◌∙◌, ◌++◌, ℕ, List, Option, Err, arith, inl, inr, refl, sym}
use Rattle.std.specs.Prelude.{codes}
use Rattle.std.proofs.KnownBytes.{Appends-trans}
use Rattle.std.specs.Io.KnownBytes.{Appends}
use Rattle.base_device.specs.Devices.{HasReadCause, HasWriteCause, IsRun, Tells}
use Rattle.base_device.specs.Inputs.{IsToldUnread, IsUnread}
use Rattle.base_device.specs.declared.status.Status.{Status}
use Rattle.base_device.specs.declared.status.Status.TheVariants as statuses
use Rattle.base_device.specs.declared.whole.InputError.{InputError}
use Rattle.base_device.specs.declared.whole.InputError.TheVariants as input
use Rattle.base_dialog.specs.Poured.{IsPoured, PouredAll}
use Rattle.base_dialog.specs.Told.{IsAnsweredFrom}
use Rattle.base_dialog.proofs.PourLemmas.{later_cause}

-- a text that is told behind another that was taken
pub Tells-after : {O : Type 0} (contents : O → Option (List ℕ)) (failures idle : O → ℕ) (sink between sink' : O) (said more : List ℕ) (status answer : Status)
    → failures between ≡ failures sink → Appends (contents sink) (contents between) said
    → Tells contents failures idle between sink' more status answer → Tells contents failures idle sink sink' (said ++ more) status answer
Tells-after contents failures idle sink between sink' said more status answer same wrote (inl (whole, is)) =
    inl (record { appended = Appends-trans _ _ _ said more wrote whole.appended; sound = whole.sound ∙ same; busy = whole.busy }, is)
Tells-after contents failures idle sink between sink' said more status answer same wrote (inr (cause, is)) =
    inr (later_cause failures idle sink between sink' same cause, is)

-- all was taken, and no read failed
pub sound_run : {I O : Type 0} (reads read_failures : I → ℕ) (write_failures idle : O → ℕ) (source source' : I) (sink sink' : O) (answer : Status)
    → read_failures source' ≡ read_failures source → write_failures sink' ≡ write_failures sink → (answer ≡ statuses.Fault → ⊥)
    → IsRun reads read_failures write_failures idle source source' sink sink' answer
sound_run reads read_failures write_failures idle source source' sink sink' answer read wrote unlike = record {
  cause = λ fault. absurd (unlike fault);
  told = λ failed. elim failed [ inl r ↦ absurd (omega (arith, read, r)) | inr w ↦ absurd (omega (arith, wrote, w)) ];
  read_once = omega (arith, read);
  write_once = omega (arith, wrote);
}

-- a write fault came, and no read failed
pub wrong_run : {I O : Type 0} (reads read_failures : I → ℕ) (write_failures idle : O → ℕ) (source source' : I) (sink sink' : O) (answer : Status)
    → read_failures source' ≡ read_failures source → HasWriteCause write_failures idle sink sink' → answer ≡ statuses.Fault
    → IsRun reads read_failures write_failures idle source source' sink sink' answer
wrong_run reads read_failures write_failures idle source source' sink sink' answer read cause is = record {
  cause = λ fault. inr cause;
  told = λ failed. is;
  read_once = omega (arith, read);
  write_once = elim cause [ inl one ↦ omega (arith, one) | inr none ↦ omega (arith, none.0) ];
}

-- a read fault was told
faulted_run : {I O : Type 0} (reads read_failures : I → ℕ) (contents : O → Option (List ℕ)) (write_failures idle : O → ℕ) (source source' : I) (sink between sink' : O) (text : List ℕ) (answer : Status)
    → write_failures between ≡ write_failures sink
    → Tells contents write_failures idle between sink' text statuses.Fault answer → HasReadCause reads read_failures source source'
    → IsRun reads read_failures write_failures idle source source' sink sink' answer
faulted_run reads read_failures contents write_failures idle source source' sink between sink' text answer same (inl (whole, is)) cause = record {
  cause = λ fault. inl cause;
  told = λ failed. is;
  read_once = elim cause [ inl one ↦ omega (arith, one) | inr none ↦ omega (arith, none.0) ];
  write_once = omega (arith, same, whole.sound);
}
faulted_run reads read_failures contents write_failures idle source source' sink between sink' text answer same (inr (wrote, is)) cause = record {
  cause = λ fault. inl cause;
  told = λ failed. is;
  read_once = elim cause [ inl one ↦ omega (arith, one) | inr none ↦ omega (arith, none.0) ];
  write_once = elim wrote [ inl one ↦ omega (arith, same, one) | inr none ↦ omega (arith, same, none.0) ];
}

-- that memory ran out was told
short_run : {I O : Type 0} (reads read_failures : I → ℕ) (contents : O → Option (List ℕ)) (write_failures idle : O → ℕ) (source source' : I) (sink between sink' : O) (text : List ℕ) (answer : Status)
    → write_failures between ≡ write_failures sink → read_failures source' ≡ read_failures source
    → Tells contents write_failures idle between sink' text statuses.NoMemory answer
    → IsRun reads read_failures write_failures idle source source' sink sink' answer
short_run reads read_failures contents write_failures idle source source' sink between sink' text answer same sound (inl (whole, is)) =
    sound_run reads read_failures write_failures idle source source' sink sink' answer sound (whole.sound ∙ same)
    (λ fault. let other : statuses.NoMemory ≡ statuses.Fault = sym is ∙ fault in cc)
short_run reads read_failures contents write_failures idle source source' sink between sink' text answer same sound (inr (cause, is)) =
    wrong_run reads read_failures write_failures idle source source' sink sink' answer sound (later_cause write_failures idle sink between sink' same cause) is

-- why an input was not read whole was told
pub unread_run : {I O : Type 0} (reads read_failures : I → ℕ) (contents : O → Option (List ℕ)) (write_failures idle : O → ℕ) (source source' : I) (sink between sink' : O) (why : InputError) (answer : Status)
    → write_failures between ≡ write_failures sink
    → IsToldUnread contents write_failures idle between sink' why answer → IsUnread reads read_failures source source' why
    → IsRun reads read_failures write_failures idle source source' sink sink' answer
unread_run reads read_failures contents write_failures idle source source' sink between sink' (input.NotOpened opened) answer same told is =
    faulted_run reads read_failures contents write_failures idle source source' sink between sink' told.0 answer same told.1 (inl is)
unread_run reads read_failures contents write_failures idle source source' sink between sink' input.Failed answer same told is =
    faulted_run reads read_failures contents write_failures idle source source' sink between sink' told.0 answer same told.1 (inl is)
unread_run reads read_failures contents write_failures idle source source' sink between sink' input.NoEnd answer same told is =
    faulted_run reads read_failures contents write_failures idle source source' sink between sink' told.0 answer same told.1 (inr is)
unread_run reads read_failures contents write_failures idle source source' sink between sink' input.NoMemory answer same told is =
    short_run reads read_failures contents write_failures idle source source' sink between sink' (codes "no memory\n") answer same is told

-- the cause of an end that is not the input's
pub unread_of : {T I O : Type 0} (has_answered : T → T → List (List ℕ) → List ℕ → Type 0) (start : T) (remaining : I → Option (List ℕ)) (reads failures : I → ℕ) (contents : O → Option (List ℕ)) (source source' : I) (sink sink' : O) (why : InputError)
    → IsPoured has_answered start remaining reads failures contents source source' sink sink' (Err why) → IsUnread reads failures source source' why
unread_of has_answered start remaining reads failures contents source source' sink sink' (input.NotOpened opened) poured = poured
unread_of has_answered start remaining reads failures contents source source' sink sink' input.Failed poured = poured
unread_of has_answered start remaining reads failures contents source source' sink sink' input.NoEnd poured = poured
unread_of has_answered start remaining reads failures contents source source' sink sink' input.NoMemory poured = poured.0

-- a text that is told with a fault is one
fault_told : {O : Type 0} (contents : O → Option (List ℕ)) (failures idle : O → ℕ) (sink sink' : O) (text : List ℕ) (answer : Status)
    → Tells contents failures idle sink sink' text statuses.Fault answer → answer ≡ statuses.Fault
fault_told contents failures idle sink sink' text answer (inl (whole, is)) = is
fault_told contents failures idle sink sink' text answer (inr (cause, is)) = is

-- where that is no fault, memory ran out
pub unread_met : {T I O : Type 0} (has_answered : T → T → List (List ℕ) → List ℕ → Type 0) (start : T) (remaining : I → Option (List ℕ)) (reads failures : I → ℕ) (contents : O → Option (List ℕ)) (write_failures idle : O → ℕ) (source source' : I) (sink between sink' : O) (why : InputError) (answer : Status)
    → IsPoured has_answered start remaining reads failures contents source source' sink between (Err why) → write_failures between ≡ write_failures sink
    → IsToldUnread contents write_failures idle between sink' why answer → (answer ≡ statuses.Fault → ⊥)
    → IsAnsweredFrom has_answered start remaining failures contents write_failures idle source source' sink sink' answer
unread_met has_answered start remaining reads failures contents write_failures idle source source' sink between sink' (input.NotOpened opened) answer poured same told unlike =
    absurd (unlike (fault_told contents write_failures idle between sink' told.0 answer told.1))
unread_met has_answered start remaining reads failures contents write_failures idle source source' sink between sink' input.Failed answer poured same told unlike =
    absurd (unlike (fault_told contents write_failures idle between sink' told.0 answer told.1))
unread_met has_answered start remaining reads failures contents write_failures idle source source' sink between sink' input.NoEnd answer poured same told unlike =
    absurd (unlike (fault_told contents write_failures idle between sink' told.0 answer told.1))
unread_met has_answered start remaining reads failures contents write_failures idle source source' sink between sink' input.NoMemory answer poured same told unlike =
    inr (record {
      text = poured.1.text;
      said = poured.1.said;
      read = poured.1.read;
      answered = poured.1.answered;
      told = Tells-after contents write_failures idle sink between sink' poured.1.said (codes "no memory\n") statuses.NoMemory answer same poured.1.wrote told;
    })

-- what is told asks for no other words
told_words : {O : Type 0} (contents : O → Option (List ℕ)) (failures idle : O → ℕ) (sink sink' : O) (text : List ℕ) (status answer : Status)
    → Tells contents failures idle sink sink' text status answer → (status ≡ statuses.Usage → ⊥) → answer ≡ statuses.Usage → ⊥
told_words contents failures idle sink sink' text status answer (inl (whole, is)) unlike usage = unlike (sym is ∙ usage)
told_words contents failures idle sink sink' text status answer (inr (cause, is)) unlike usage = let faulted : statuses.Fault ≡ statuses.Usage = sym is ∙ usage in cc

pub unread_words : {O : Type 0} (contents : O → Option (List ℕ)) (failures idle : O → ℕ) (sink sink' : O) (why : InputError) (answer : Status)
    → IsToldUnread contents failures idle sink sink' why answer → answer ≡ statuses.Usage → ⊥
unread_words contents failures idle sink sink' (input.NotOpened opened) answer told = told_words contents failures idle sink sink' told.0 statuses.Fault answer told.1 (λ h. cc)
unread_words contents failures idle sink sink' input.Failed answer told = told_words contents failures idle sink sink' told.0 statuses.Fault answer told.1 (λ h. cc)
unread_words contents failures idle sink sink' input.NoEnd answer told = told_words contents failures idle sink sink' told.0 statuses.Fault answer told.1 (λ h. cc)
unread_words contents failures idle sink sink' input.NoMemory answer told = told_words contents failures idle sink sink' (codes "no memory\n") statuses.NoMemory answer told (λ h. cc)

-- the input was read to its end
pub done_met : {T I O : Type 0} (has_answered : T → T → List (List ℕ) → List ℕ → Type 0) (start : T) (remaining : I → Option (List ℕ)) (failures : I → ℕ) (contents : O → Option (List ℕ)) (write_failures idle : O → ℕ) (source source' : I) (sink sink' : O)
    → PouredAll has_answered start remaining failures contents source source' sink sink' → write_failures sink' ≡ write_failures sink → idle sink' ≡ 0
    → IsAnsweredFrom has_answered start remaining failures contents write_failures idle source source' sink sink' statuses.Done
done_met has_answered start remaining failures contents write_failures idle source source' sink sink' poured sound busy = inl (record {
  text = poured.text;
  said = poured.said;
  read = poured.read;
  answered = poured.answered;
  told = inl (record { appended = poured.wrote; sound = sound; busy = busy }, refl);
})
