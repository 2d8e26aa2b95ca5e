-- Why a run is one: by how reading ended, and how the last texts were taken.
use Rattle.std.proofs.Common.{◌≡◌, ◌≤◌, ℕ, ◌+◌, inl, inr, Bool, true, false, List, Option, sym, ap, ◌∙◌, arith}
use Rattle.std.specs.Io.KnownBytes.{IsAtEnd}
use Rattle.base_device.specs.Devices.{HasReadCause, HasWriteCause, IsRun, Tells}
use Rattle.msg_input.specs.Ends.{EndsBy, end_status}
use Rattle.msg_input.specs.declared.ends.End.{End}
use Rattle.msg_input.specs.declared.ends.End.TheVariants.{Whole, Refused, ReadFailed, TooManyReads}
use Rattle.msg_input.specs.declared.ends.Refusal.TheVariants as refusals
use Rattle.base_device.specs.declared.status.Status.{Status}
use Rattle.base_device.specs.declared.status.Status.TheVariants.{Fault}
use Rattle.base_device.specs.declared.status.Status.TheVariants as statuses

-- a write fault is the status where no read failed
pub IsRun-write : {I O : Type 0} (reads read_failures : I → ℕ) (write_failures idle : O → ℕ) (source source' : I) (sink sink' : O) (status : Status)
    → read_failures source' ≤ read_failures source + 1 → HasWriteCause write_failures idle sink sink' → status ≡ Fault
    → IsRun reads read_failures write_failures idle source source' sink sink' status
IsRun-write reads read_failures write_failures idle source source' sink sink' status once cause fault = record {
  cause = λ _. inr cause;
  told = λ _. fault;
  read_once = once;
  write_once = elim cause [ inl failed ↦ omega arith | inr idle ↦ let same = idle.0 in omega arith ];
}

-- no device failed, and the status is no fault
pub IsRun-sound : {I O : Type 0} (reads read_failures : I → ℕ) (write_failures idle : O → ℕ) (source source' : I) (sink sink' : O) (status : Status)
    → read_failures source' ≡ read_failures source → write_failures sink' ≡ write_failures sink → (status ≡ Fault → ⊥)
    → IsRun reads read_failures write_failures idle source source' sink sink' status
IsRun-sound reads read_failures write_failures idle source source' sink sink' status read written no_fault = record {
  cause = λ fault. absurd (no_fault fault);
  told = λ failed. absurd (elim failed [ inl r ↦ (let h = r in omega arith) | inr w ↦ (let h = w in omega arith) ]);
  read_once = omega arith;
  write_once = omega arith;
}

-- the status is a fault that the source's end gave
pub IsRun-read : {I O : Type 0} (reads read_failures : I → ℕ) (write_failures idle : O → ℕ) (source source' : I) (sink sink' : O) (status : Status)
    → HasReadCause reads read_failures source source' → write_failures sink' ≡ write_failures sink → status ≡ Fault
    → IsRun reads read_failures write_failures idle source source' sink sink' status
IsRun-read reads read_failures write_failures idle source source' sink sink' status cause written fault = record {
  cause = λ _. inl cause;
  told = λ _. fault;
  read_once = elim cause [ inl failed ↦ omega arith | inr most ↦ let same = most.0 in omega arith ];
  write_once = omega arith;
}

-- reading ended so, and the last texts were taken
taken_after : {I O : Type 0} (remaining : I → Option (List ℕ)) (reads read_failures : I → ℕ) (write_failures idle : O → ℕ) (source source' : I) (sink sink' : O) (end : End) (refused : Bool) (status : Status)
    → EndsBy remaining reads read_failures source source' end → write_failures sink' ≡ write_failures sink → status ≡ end_status end refused
    → IsRun reads read_failures write_failures idle source source' sink sink' status
taken_after remaining reads read_failures write_failures idle source source' sink sink' Whole false status ends written is =
    IsRun-sound _ _ _ _ _ _ _ _ _ ends.1 written (λ fault. cc)
taken_after remaining reads read_failures write_failures idle source source' sink sink' Whole true status ends written is =
    IsRun-sound _ _ _ _ _ _ _ _ _ ends.1 written (λ fault. cc)
taken_after remaining reads read_failures write_failures idle source source' sink sink' (Refused refusals.BadHex) refused status ends written is =
    IsRun-sound _ _ _ _ _ _ _ _ _ ends written (λ fault. cc)
taken_after remaining reads read_failures write_failures idle source source' sink sink' (Refused (refusals.Frame why)) refused status ends written is =
    IsRun-sound _ _ _ _ _ _ _ _ _ ends written (λ fault. cc)
taken_after remaining reads read_failures write_failures idle source source' sink sink' (Refused refusals.NoMemory) refused status ends written is =
    IsRun-sound _ _ _ _ _ _ _ _ _ ends written (λ fault. cc)
taken_after remaining reads read_failures write_failures idle source source' sink sink' ReadFailed refused status ends written is =
    IsRun-read _ _ _ _ _ _ _ _ _ (inl ends) written is
taken_after remaining reads read_failures write_failures idle source source' sink sink' TooManyReads refused status ends written is =
    let made = ends.1 in
    IsRun-read _ _ _ _ _ _ _ _ _ (inr (ends.0, omega arith)) written is

-- a source's end has one failure at most
read_once : {I : Type 0} (remaining : I → Option (List ℕ)) (reads failures : I → ℕ) (source source' : I) (end : End)
    → EndsBy remaining reads failures source source' end → failures source' ≤ failures source + 1
read_once remaining reads failures source source' Whole ends = let same = ends.1 in omega arith
read_once remaining reads failures source source' (Refused why) ends = omega arith
read_once remaining reads failures source source' ReadFailed ends = omega arith
read_once remaining reads failures source source' TooManyReads ends = let same = ends.0 in omega arith

-- a write fault after texts that were taken
pub later_cause : {O : Type 0} (failures idle : O → ℕ) (sink between sink' : O) → failures between ≡ failures sink
    → HasWriteCause failures idle between sink' → HasWriteCause failures idle sink sink'
later_cause failures idle sink between sink' same (inl failed) = inl (failed ∙ ap (λ n. n + 1) same)
later_cause failures idle sink between sink' same (inr row) = inr (row.0 ∙ same, row.1)

-- reading ended so, and the last texts were taken or not
pub IsRun-closed : {I O : Type 0} (remaining : I → Option (List ℕ)) (reads read_failures : I → ℕ) (contents : O → Option (List ℕ)) (write_failures idle : O → ℕ) (source source' : I) (sink between sink' : O) (text : List ℕ) (end : End) (refused : Bool) (status : Status)
    → EndsBy remaining reads read_failures source source' end → write_failures between ≡ write_failures sink
    → Tells contents write_failures idle between sink' text (end_status end refused) status
    → IsRun reads read_failures write_failures idle source source' sink sink' status
IsRun-closed remaining reads read_failures contents write_failures idle source source' sink between sink' text end refused status ends same (inl taken) =
    taken_after remaining reads read_failures write_failures idle source source' sink sink' end refused status ends (taken.0.sound ∙ same) taken.1
IsRun-closed remaining reads read_failures contents write_failures idle source source' sink between sink' text end refused status ends same (inr fault) =
    IsRun-write reads read_failures write_failures idle source source' sink sink' status
    (read_once remaining reads read_failures source source' end ends) (later_cause write_failures idle sink between sink' same fault.0) fault.1

-- a text was told, and no read failed
pub IsRun-told : {I O : Type 0} (reads read_failures : I → ℕ) (contents : O → Option (List ℕ)) (write_failures idle : O → ℕ) (source source' : I) (sink sink' : O) (text : List ℕ) (status answer : Status)
    → read_failures source' ≡ read_failures source → (status ≡ Fault → ⊥)
    → Tells contents write_failures idle sink sink' text status answer
    → IsRun reads read_failures write_failures idle source source' sink sink' answer
IsRun-told reads read_failures contents write_failures idle source source' sink sink' text status answer same no_fault (inl taken) =
    IsRun-sound reads read_failures write_failures idle source source' sink sink' answer same taken.0.sound (λ fault. no_fault (sym taken.1 ∙ fault))
IsRun-told reads read_failures contents write_failures idle source source' sink sink' text status answer same no_fault (inr fault) =
    IsRun-write reads read_failures write_failures idle source source' sink sink' answer (omega arith) fault.0 fault.1

-- a failed call was told, or its text was not taken
pub IsRun-failed : {I O : Type 0} (reads read_failures : I → ℕ) (contents : O → Option (List ℕ)) (write_failures idle : O → ℕ) (source source' : I) (sink sink' : O) (text : List ℕ) (answer : Status)
    → read_failures source' ≡ read_failures source + 1
    → Tells contents write_failures idle sink sink' text Fault answer
    → IsRun reads read_failures write_failures idle source source' sink sink' answer
IsRun-failed reads read_failures contents write_failures idle source source' sink sink' text answer failed (inl taken) =
    IsRun-read reads read_failures write_failures idle source source' sink sink' answer (inl failed) taken.0.sound taken.1
IsRun-failed reads read_failures contents write_failures idle source source' sink sink' text answer failed (inr fault) =
    IsRun-write reads read_failures write_failures idle source source' sink sink' answer (omega arith) fault.0 fault.1

-- a run is done only where the input was read whole
done_whole : {I : Type 0} (remaining : I → Option (List ℕ)) (reads failures : I → ℕ) (source source' : I) (end : End) (refused : Bool)
    → EndsBy remaining reads failures source source' end → end_status end refused ≡ statuses.Done → IsAtEnd (remaining source')
done_whole remaining reads failures source source' Whole refused ends is = ends.0
done_whole remaining reads failures source source' (Refused refusals.BadHex) refused ends is = absurd (cc)
done_whole remaining reads failures source source' (Refused (refusals.Frame why)) refused ends is = absurd (cc)
done_whole remaining reads failures source source' (Refused refusals.NoMemory) refused ends is = absurd (cc)
done_whole remaining reads failures source source' ReadFailed refused ends is = absurd (cc)
done_whole remaining reads failures source source' TooManyReads refused ends is = absurd (cc)

pub done-closed : {I O : Type 0} (remaining : I → Option (List ℕ)) (reads read_failures : I → ℕ) (contents : O → Option (List ℕ)) (write_failures idle : O → ℕ) (source source' : I) (between sink' : O) (text : List ℕ) (end : End) (refused : Bool) (status : Status)
    → EndsBy remaining reads read_failures source source' end → Tells contents write_failures idle between sink' text (end_status end refused) status
    → status ≡ statuses.Done → IsAtEnd (remaining source')
done-closed remaining reads read_failures contents write_failures idle source source' between sink' text end refused status ends (inl taken) done =
    done_whole remaining reads read_failures source source' end refused ends (sym taken.1 ∙ done)
done-closed remaining reads read_failures contents write_failures idle source source' between sink' text end refused status ends (inr fault) done = let is = fault.1 in absurd (cc)

-- the status of an end is never that of words
not_usage : (end : End) (refused : Bool) → end_status end refused ≡ statuses.Usage → ⊥
not_usage Whole false is = cc
not_usage Whole true is = cc
not_usage (Refused refusals.BadHex) refused is = cc
not_usage (Refused (refusals.Frame why)) refused is = cc
not_usage (Refused refusals.NoMemory) refused is = cc
not_usage ReadFailed refused is = cc
not_usage TooManyReads refused is = cc

pub usage-closed : {O : Type 0} (contents : O → Option (List ℕ)) (write_failures idle : O → ℕ) (between sink' : O) (text : List ℕ) (end : End) (refused : Bool) (status : Status)
    → Tells contents write_failures idle between sink' text (end_status end refused) status → status ≡ statuses.Usage → ⊥
usage-closed contents write_failures idle between sink' text end refused status (inl taken) usage = not_usage end refused (sym taken.1 ∙ usage)
usage-closed contents write_failures idle between sink' text end refused status (inr fault) usage = let is = fault.1 in cc
