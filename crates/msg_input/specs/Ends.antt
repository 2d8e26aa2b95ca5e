-- How reading ends, and what the source did then.
use Rattle.std.specs.Prelude.{◌≡◌, ℕ, ◌+◌, ◌++◌, Bool, true, false, List, [], Option, Some, None, codes, decimal}
use Rattle.std.specs.Io.KnownBytes.{IsAtEnd}
use Rattle.dia_frame.specs.declared.fault.FrameFault.{FrameFault}
use Rattle.dia_frame.specs.declared.fault.FrameFault.TheVariants.{Version, Length, Broken}
use Rattle.dia_frame.specs.declared.fault.FeedError.{FeedError}
use Rattle.dia_frame.specs.declared.fault.FeedError.TheVariants as feeding
use Rattle.msg_input.specs.declared.ends.Refusal.{Refusal}
use Rattle.msg_input.specs.declared.ends.Refusal.TheVariants as refusals
use Rattle.base_device.specs.declared.status.Status.{Status}
use Rattle.base_device.specs.declared.status.Status.TheVariants as statuses
use Rattle.msg_input.specs.declared.ends.End.{End}
use Rattle.msg_input.specs.declared.ends.EndWords.{EndWords}
use Rattle.msg_input.specs.declared.ends.End.TheVariants.{Whole, Refused, ReadFailed, TooManyReads}

-- Whole: nothing is left. Read failed: one read failed. Too many: 1,048,576 were made, and none failed.
abbrev pub EndsBy : {I : Type 0} → (remaining : I → Option (List ℕ))
    → (reads failures : I → ℕ) → (old new : I) → End → Type 0
EndsBy remaining reads failures old new Whole = IsAtEnd (remaining new) × (failures new ≡ failures old)
EndsBy remaining reads failures old new (Refused why) = failures new ≡ failures old
EndsBy remaining reads failures old new ReadFailed = failures new ≡ failures old + 1
EndsBy remaining reads failures old new TooManyReads = (failures new ≡ failures old) × (reads new ≡ reads old + 1048576)

-- what a feed's error refuses
abbrev pub refusal_of : FeedError → Refusal
refusal_of feeding.NoMemory = refusals.NoMemory
refusal_of (feeding.Fault fault) = refusals.Frame fault

-- what is printed of a frame fault, by its number
abbrev pub frame_text : FrameFault → List ℕ
frame_text Version = codes "frame fault 1\n"
frame_text Length = codes "frame fault 2\n"
frame_text Broken = codes "frame fault 3\n"

-- what is printed at the end
abbrev pub end_text : End → List ℕ
end_text Whole = []
end_text (Refused refusals.BadHex) = codes "bad hex\n"
end_text (Refused (refusals.Frame fault)) = frame_text fault
end_text (Refused refusals.NoMemory) = codes "no memory\n"
end_text ReadFailed = codes "read fault\n"
end_text TooManyReads = codes "read fault: no end of input after 1048576 reads\n"

-- a number, where there is one
abbrev pub place_text : Option ℕ → List ℕ
place_text None = []
place_text (Some place) = decimal place

-- the text of words with a number in them, or without
abbrev pub words_of : EndWords → List ℕ
words_of w = w.before.now ++ place_text w.place ++ w.after.now

-- the status; `refused` is whether a fault was printed
abbrev pub end_status : End → Bool → Status
end_status Whole false = statuses.Done
end_status Whole true = statuses.Refused
end_status (Refused refusals.BadHex) refused = statuses.Refused
end_status (Refused (refusals.Frame fault)) refused = statuses.Refused
end_status (Refused refusals.NoMemory) refused = statuses.NoMemory
end_status ReadFailed refused = statuses.Fault
end_status TooManyReads refused = statuses.Fault

-- an end that comes with the end of the input: all is read, or what came is refused
abbrev pub IsLast : End → Type 0
IsLast Whole = Unit {0}
IsLast (Refused why) = Unit {0}
IsLast ReadFailed = ⊥
IsLast TooManyReads = ⊥
