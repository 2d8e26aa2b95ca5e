-- How a run ends, by what was told.
use Rattle.std.proofs.Common.{◌≡◌, ◌∙◌, ◌⊎◌, ℕ, Bool, true, false, List, Option, arith, inl, inr, sym}
use Rattle.std.specs.Prelude.{codes}
use Rattle.base_device.specs.Devices.{HasReadCause, IsRun, Tells}
use Rattle.base_device.specs.Inputs.{IsToldUnread, IsUnread}
use Rattle.base_device.specs.Tellings.{told_status}
use Rattle.base_device.specs.declared.status.Status.{Status}
use Rattle.base_device.specs.declared.status.Status.TheVariants as statuses
use Rattle.base_device.specs.declared.whole.InputError.{InputError}
use Rattle.base_device.specs.declared.whole.InputError.TheVariants as input
use Rattle.bench_setup.specs.Halts.{IsHalt, IsToldHalt}
use Rattle.bench_setup.specs.declared.halt.Halt.{Halt}
use Rattle.bench_setup.specs.declared.halt.Halt.TheVariants as halts
use Rattle.bench_spec.specs.Opening.{Config}
use Rattle.cmd_bench.specs.Met.{IsRunMet, TellsRefused}
use Rattle.cmd_bench.specs.Told.{IsRunOn}
use Rattle.cmd_bench.specs.declared.shown.Shown.{Shown}

-- a text was told with a status that is no fault, and no read failed
pub told_run : {I O : Type 0} (reads read_failures : I → ℕ) (contents : O → Option (List ℕ)) (write_failures idle : O → ℕ) (source source' : I) (sink sink' : O) (text : List ℕ) (status answer : Status)
    → Tells contents write_failures idle sink sink' text status answer → (status ≡ statuses.Fault → ⊥) → read_failures source' ≡ read_failures source
    → IsRun reads read_failures write_failures idle source source' sink sink' answer
told_run reads read_failures contents write_failures idle source source' sink sink' text status answer (inl (whole, is)) unlike same = record {
  cause = λ fault. absurd (unlike (sym is ∙ fault));
  told = λ failed. elim failed [ inl read ↦ absurd (omega (arith, same, read)) | inr write ↦ absurd (omega (arith, whole.sound, write)) ];
  read_once = omega (arith, same);
  write_once = omega (arith, whole.sound);
}
told_run reads read_failures contents write_failures idle source source' sink sink' text status answer (inr (cause, is)) unlike same = record {
  cause = λ fault. inr cause;
  told = λ failed. is;
  read_once = omega (arith, same);
  write_once = elim cause [ inl one ↦ omega (arith, one) | inr none ↦ omega (arith, none.0) ];
}

-- a read fault was told
faulted_run : {I O : Type 0} (reads read_failures : I → ℕ) (contents : O → Option (List ℕ)) (write_failures idle : O → ℕ) (source source' : I) (sink sink' : O) (text : List ℕ) (answer : Status)
    → Tells contents write_failures idle sink sink' text statuses.Fault answer → HasReadCause reads read_failures source source'
    → IsRun reads read_failures write_failures idle source source' sink sink' answer
faulted_run reads read_failures contents write_failures idle source source' sink sink' text answer (inl (whole, is)) cause = record {
  cause = λ fault. inl cause;
  told = λ failed. is;
  read_once = elim cause [ inl one ↦ omega (arith, one) | inr none ↦ omega (arith, none.0) ];
  write_once = omega (arith, whole.sound);
}
faulted_run reads read_failures contents write_failures idle source source' sink sink' text answer (inr (wrote, is)) cause = record {
  cause = λ fault. inl cause;
  told = λ failed. is;
  read_once = elim cause [ inl one ↦ omega (arith, one) | inr none ↦ omega (arith, none.0) ];
  write_once = elim wrote [ inl one ↦ omega (arith, one) | inr none ↦ omega (arith, none.0) ];
}

unread_run : {I O : Type 0} (reads read_failures : I → ℕ) (contents : O → Option (List ℕ)) (write_failures idle : O → ℕ) (source source' : I) (sink sink' : O) (why : InputError) (answer : Status)
    → IsToldUnread contents write_failures idle sink sink' why answer → IsUnread reads read_failures source source' why
    → IsRun reads read_failures write_failures idle source source' sink sink' answer
unread_run reads read_failures contents write_failures idle source source' sink sink' (input.NotOpened opened) answer told is =
    faulted_run reads read_failures contents write_failures idle source source' sink sink' told.0 answer told.1 (inl is)
unread_run reads read_failures contents write_failures idle source source' sink sink' input.Failed answer told is =
    faulted_run reads read_failures contents write_failures idle source source' sink sink' told.0 answer told.1 (inl is)
unread_run reads read_failures contents write_failures idle source source' sink sink' input.NoEnd answer told is =
    faulted_run reads read_failures contents write_failures idle source source' sink sink' told.0 answer told.1 (inr is)
unread_run reads read_failures contents write_failures idle source source' sink sink' input.NoMemory answer told is =
    told_run reads read_failures contents write_failures idle source source' sink sink' (codes "no memory\n") statuses.NoMemory answer told (λ h. cc) is

-- what stood in the way was told
pub halt_run : {I O : Type 0} (remaining : I → Option (List ℕ)) (reads read_failures : I → ℕ) (contents : O → Option (List ℕ)) (write_failures idle : O → ℕ) (source source' : I) (sink sink' : O) (halt : Halt) (answer : Status)
    → IsToldHalt contents write_failures idle sink sink' halt answer → IsHalt remaining reads read_failures source source' halt
    → IsRun reads read_failures write_failures idle source source' sink sink' answer
halt_run remaining reads read_failures contents write_failures idle source source' sink sink' (halts.Unread name why) answer told is =
    unread_run reads read_failures contents write_failures idle source source' sink sink' why answer told is
halt_run remaining reads read_failures contents write_failures idle source source' sink sink' (halts.Refused text) answer told is =
    told_run reads read_failures contents write_failures idle source source' sink sink' text.items statuses.Refused answer told (λ h. cc) is.0
halt_run remaining reads read_failures contents write_failures idle source source' sink sink' halts.NoMemory answer told is =
    told_run reads read_failures contents write_failures idle source source' sink sink' (codes "no memory\n") statuses.NoMemory answer told (λ h. cc) is

-- where that is no fault, a text is refused, or memory ran out
unread_met : {I O : Type 0} (remaining : I → Option (List ℕ)) (reads read_failures : I → ℕ) (contents : O → Option (List ℕ)) (write_failures idle : O → ℕ) (shown : Shown) (source source' : I) (sink sink' : O) (why : InputError) (answer : Status)
    → IsToldUnread contents write_failures idle sink sink' why answer → (answer ≡ statuses.Fault → ⊥)
    → IsRunMet remaining reads read_failures contents write_failures idle shown source source' sink sink' answer
unread_met remaining reads read_failures contents write_failures idle shown source source' sink sink' (input.NotOpened opened) answer told unlike =
    absurd (elim told.1 [ inl whole ↦ unlike whole.1 | inr fault ↦ unlike fault.1 ])
unread_met remaining reads read_failures contents write_failures idle shown source source' sink sink' input.Failed answer told unlike =
    absurd (elim told.1 [ inl whole ↦ unlike whole.1 | inr fault ↦ unlike fault.1 ])
unread_met remaining reads read_failures contents write_failures idle shown source source' sink sink' input.NoEnd answer told unlike =
    absurd (elim told.1 [ inl whole ↦ unlike whole.1 | inr fault ↦ unlike fault.1 ])
unread_met remaining reads read_failures contents write_failures idle shown source source' sink sink' input.NoMemory answer told unlike = inr (inr told)

pub halt_met : {I O : Type 0} (remaining : I → Option (List ℕ)) (reads read_failures : I → ℕ) (contents : O → Option (List ℕ)) (write_failures idle : O → ℕ) (shown : Shown) (source source' : I) (sink sink' : O) (halt : Halt) (answer : Status)
    → IsToldHalt contents write_failures idle sink sink' halt answer → IsHalt remaining reads read_failures source source' halt → (answer ≡ statuses.Fault → ⊥)
    → IsRunMet remaining reads read_failures contents write_failures idle shown source source' sink sink' answer
halt_met remaining reads read_failures contents write_failures idle shown source source' sink sink' (halts.Unread name why) answer told is unlike =
    unread_met remaining reads read_failures contents write_failures idle shown source source' sink sink' why answer told unlike
halt_met remaining reads read_failures contents write_failures idle shown source source' sink sink' (halts.Refused text) answer told is unlike =
    inr (inl (record { text = text.items; refused = is.1; told = told }))
halt_met remaining reads read_failures contents write_failures idle shown source source' sink sink' halts.NoMemory answer told is unlike = inr (inr told)

-- and so it is whatever would be done else
unread_ends : {O : Type 0} (contents : O → Option (List ℕ)) (write_failures idle : O → ℕ) (sink sink' : O) (why : InputError) (answer : Status)
    → IsToldUnread contents write_failures idle sink sink' why answer → (answer ≡ statuses.Fault → ⊥)
    → Tells contents write_failures idle sink sink' (codes "no memory\n") statuses.NoMemory answer
unread_ends contents write_failures idle sink sink' (input.NotOpened opened) answer told unlike =
    absurd (elim told.1 [ inl whole ↦ unlike whole.1 | inr fault ↦ unlike fault.1 ])
unread_ends contents write_failures idle sink sink' input.Failed answer told unlike =
    absurd (elim told.1 [ inl whole ↦ unlike whole.1 | inr fault ↦ unlike fault.1 ])
unread_ends contents write_failures idle sink sink' input.NoEnd answer told unlike =
    absurd (elim told.1 [ inl whole ↦ unlike whole.1 | inr fault ↦ unlike fault.1 ])
unread_ends contents write_failures idle sink sink' input.NoMemory answer told unlike = told

pub halt_ends : {I O : Type 0} (remaining : I → Option (List ℕ)) (reads read_failures : I → ℕ) (contents : O → Option (List ℕ)) (write_failures idle : O → ℕ) (source source' : I) (sink sink' : O) (halt : Halt) (answer : Status)
    → IsToldHalt contents write_failures idle sink sink' halt answer → IsHalt remaining reads read_failures source source' halt → (answer ≡ statuses.Fault → ⊥)
    → TellsRefused remaining reads read_failures contents write_failures idle source' sink sink' answer
    ⊎ Tells contents write_failures idle sink sink' (codes "no memory\n") statuses.NoMemory answer
halt_ends remaining reads read_failures contents write_failures idle source source' sink sink' (halts.Unread name why) answer told is unlike =
    inr (unread_ends contents write_failures idle sink sink' why answer told unlike)
halt_ends remaining reads read_failures contents write_failures idle source source' sink sink' (halts.Refused text) answer told is unlike =
    inl (record { text = text.items; refused = is.1; told = told })
halt_ends remaining reads read_failures contents write_failures idle source source' sink sink' halts.NoMemory answer told is unlike = inr told

-- what is told with a status that asks for no other words
pub told_words : {O : Type 0} (contents : O → Option (List ℕ)) (write_failures idle : O → ℕ) (sink sink' : O) (text : List ℕ) (status answer : Status)
    → Tells contents write_failures idle sink sink' text status answer → (status ≡ statuses.Usage → ⊥) → answer ≡ statuses.Usage → ⊥
told_words contents write_failures idle sink sink' text status answer (inl (whole, is)) unlike usage = unlike (sym is ∙ usage)
told_words contents write_failures idle sink sink' text status answer (inr (cause, is)) unlike usage = let faulted : statuses.Fault ≡ statuses.Usage = sym is ∙ usage in cc

unread_words : {O : Type 0} (contents : O → Option (List ℕ)) (write_failures idle : O → ℕ) (sink sink' : O) (why : InputError) (answer : Status)
    → IsToldUnread contents write_failures idle sink sink' why answer → answer ≡ statuses.Usage → ⊥
unread_words contents write_failures idle sink sink' (input.NotOpened opened) answer told = told_words contents write_failures idle sink sink' told.0 statuses.Fault answer told.1 (λ h. cc)
unread_words contents write_failures idle sink sink' input.Failed answer told = told_words contents write_failures idle sink sink' told.0 statuses.Fault answer told.1 (λ h. cc)
unread_words contents write_failures idle sink sink' input.NoEnd answer told = told_words contents write_failures idle sink sink' told.0 statuses.Fault answer told.1 (λ h. cc)
unread_words contents write_failures idle sink sink' input.NoMemory answer told =
    told_words contents write_failures idle sink sink' (codes "no memory\n") statuses.NoMemory answer told (λ h. cc)

pub halt_words : {O : Type 0} (contents : O → Option (List ℕ)) (write_failures idle : O → ℕ) (sink sink' : O) (halt : Halt) (answer : Status)
    → IsToldHalt contents write_failures idle sink sink' halt answer → answer ≡ statuses.Usage → ⊥
halt_words contents write_failures idle sink sink' (halts.Unread name why) answer told = unread_words contents write_failures idle sink sink' why answer told
halt_words contents write_failures idle sink sink' (halts.Refused text) answer told = told_words contents write_failures idle sink sink' text.items statuses.Refused answer told (λ h. cc)
halt_words contents write_failures idle sink sink' halts.NoMemory answer told =
    told_words contents write_failures idle sink sink' (codes "no memory\n") statuses.NoMemory answer told (λ h. cc)

-- a run is done or refused, which is neither a fault nor asks for other words
pub status_is : (refused : Bool) → (told_status refused ≡ statuses.Fault → ⊥) × (told_status refused ≡ statuses.Usage → ⊥)
status_is true = (λ h. cc, λ h. cc)
status_is false = (λ h. cc, λ h. cc)

pub run_run : {I O : Type 0} (reads read_failures : I → ℕ) (contents : O → Option (List ℕ)) (write_failures idle : O → ℕ) (config : Config) (script : List ℕ) (shown : Shown) (source source' : I) (sink sink' : O) (answer : Status)
    → IsRunOn contents write_failures idle config script shown sink sink' answer → read_failures source' ≡ read_failures source
    → IsRun reads read_failures write_failures idle source source' sink sink' answer
run_run reads read_failures contents write_failures idle config script shown source source' sink sink' answer (inl run) same =
    told_run reads read_failures contents write_failures idle source source' sink sink' run.text (told_status run.refused) answer run.told (status_is run.refused).0 same
run_run reads read_failures contents write_failures idle config script shown source source' sink sink' answer (inr told) same =
    told_run reads read_failures contents write_failures idle source source' sink sink' (codes "no memory\n") statuses.NoMemory answer told (λ h. cc) same

pub run_words : {O : Type 0} (contents : O → Option (List ℕ)) (write_failures idle : O → ℕ) (config : Config) (script : List ℕ) (shown : Shown) (sink sink' : O) (answer : Status)
    → IsRunOn contents write_failures idle config script shown sink sink' answer → answer ≡ statuses.Usage → ⊥
run_words contents write_failures idle config script shown sink sink' answer (inl run) =
    told_words contents write_failures idle sink sink' run.text (told_status run.refused) answer run.told (status_is run.refused).1
run_words contents write_failures idle config script shown sink sink' answer (inr told) =
    told_words contents write_failures idle sink sink' (codes "no memory\n") statuses.NoMemory answer told (λ h. cc)
