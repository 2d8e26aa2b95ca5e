-- How a run of `debug` ends, by what was told.
use Rattle.std.proofs.Common.{◌≡◌, ◌≤◌, ◌+◌, ◌∙◌, ℕ, List, Option, ap, arith, inl, inr}
use Rattle.base_device.specs.Devices.{HasReadCause, IsRun}
use Rattle.base_device.specs.Inputs.{IsToldUnread}
use Rattle.base_device.specs.declared.status.Status.{Status}
use Rattle.base_device.specs.declared.status.Status.TheVariants as statuses
use Rattle.base_device.specs.declared.whole.InputError.{InputError}
use Rattle.base_device.specs.declared.whole.InputError.TheVariants as input
use Rattle.bench_setup.specs.Halts.{IsHalt, IsToldHalt}
use Rattle.bench_setup.specs.declared.halt.Halt.{Halt}
use Rattle.bench_setup.specs.declared.halt.Halt.TheVariants as halts
use Rattle.cmd_debug.specs.Met.{IsDebugMet}

-- a read's cause behind what was read without a failure
cause_later : {I : Type 0} (reads failures : I → ℕ) (old mid new : I) → reads old ≤ reads mid → failures mid ≡ failures old
    → HasReadCause reads failures mid new → HasReadCause reads failures old new
cause_later reads failures old mid new before same (inl failed) = inl (failed ∙ ap (λ n. n + 1) same)
cause_later reads failures old mid new before same (inr most) = inr (most.0 ∙ same, omega (arith, before, most.1))

-- a run behind what was read without a failure
pub run_later : {I O : Type 0} (reads read_failures : I → ℕ) (write_failures idle : O → ℕ) (old mid new : I) (sink sink' : O) (answer : Status)
    → reads old ≤ reads mid → read_failures mid ≡ read_failures old
    → IsRun reads read_failures write_failures idle mid new sink sink' answer → IsRun reads read_failures write_failures idle old new sink sink' answer
run_later reads read_failures write_failures idle old mid new sink sink' answer before same run = record {
  cause = λ fault. elim (run.cause fault) [ inl read ↦ inl (cause_later reads read_failures old mid new before same read) | inr wrote ↦ inr wrote ];
  told = λ failed. run.told (elim failed [ inl read ↦ inl (omega (arith, same, read)) | inr wrote ↦ inr wrote ]);
  read_once = omega (arith, same, run.read_once);
  write_once = run.write_once;
}

-- where that is no fault, a text is refused, or memory ran out
unread_met : {I O : Type 0} (remaining : I → Option (List ℕ)) (reads read_failures : I → ℕ) (contents : O → Option (List ℕ)) (write_failures idle : O → ℕ) (name : Option (List ℕ)) (source source' : I) (sink sink' : O) (why : InputError) (answer : Status)
    → IsToldUnread contents write_failures idle sink sink' why answer → (answer ≡ statuses.Fault → ⊥)
    → IsDebugMet remaining reads read_failures contents write_failures idle name source source' sink sink' answer
unread_met remaining reads read_failures contents write_failures idle name source source' sink sink' (input.NotOpened opened) answer told unlike =
    absurd (elim told.1 [ inl whole ↦ unlike whole.1 | inr fault ↦ unlike fault.1 ])
unread_met remaining reads read_failures contents write_failures idle name source source' sink sink' input.Failed answer told unlike =
    absurd (elim told.1 [ inl whole ↦ unlike whole.1 | inr fault ↦ unlike fault.1 ])
unread_met remaining reads read_failures contents write_failures idle name source source' sink sink' input.NoEnd answer told unlike =
    absurd (elim told.1 [ inl whole ↦ unlike whole.1 | inr fault ↦ unlike fault.1 ])
unread_met remaining reads read_failures contents write_failures idle name source source' sink sink' input.NoMemory answer told unlike = inr (inr told)

pub halt_met : {I O : Type 0} (remaining : I → Option (List ℕ)) (reads read_failures : I → ℕ) (contents : O → Option (List ℕ)) (write_failures idle : O → ℕ) (name : Option (List ℕ)) (source source' : I) (sink sink' : O) (halt : Halt) (answer : Status)
    → IsToldHalt contents write_failures idle sink sink' halt answer → IsHalt remaining reads read_failures source source' halt → (answer ≡ statuses.Fault → ⊥)
    → IsDebugMet remaining reads read_failures contents write_failures idle name source source' sink sink' answer
halt_met remaining reads read_failures contents write_failures idle name source source' sink sink' (halts.Unread file why) answer told is unlike =
    unread_met remaining reads read_failures contents write_failures idle name source source' sink sink' why answer told unlike
halt_met remaining reads read_failures contents write_failures idle name source source' sink sink' (halts.Refused text) answer told is unlike =
    inr (inl (record { text = text.items; refused = is.1; told = told }))
halt_met remaining reads read_failures contents write_failures idle name source source' sink sink' halts.NoMemory answer told is unlike = inr (inr told)
