-- What was read and written out, by how that ended.
use Rattle.std.proofs.Common.{◌≡◌, ◌<◌, ◌+◌, ◌∙◌, ℕ, List, [], ◌++◌, ap, inl, inr, length, take, Option, Some, None, Result, Ok, Err, subst, sym}
use Rattle.std.specs.Prelude.{IfOk}
use Rattle.std.proofs.lemmas.List.{append-nil}
use Rattle.std.proofs.KnownBytes.{Appends-trans}
use Rattle.std.specs.Io.KnownBytes.{Appends, Consumes, IsAtEnd}
use Rattle.base_device.specs.Devices.{Gives, HasWriteCause}
use Rattle.base_device.specs.declared.whole.InputError.{InputError}
use Rattle.base_device.specs.declared.whole.InputError.TheVariants.{NotOpened, Failed, NoEnd, NoMemory}
use Rattle.base_dialog.specs.Dialogs.{HasAnswered}
use Rattle.base_dialog.specs.Poured.{Closes, IsPoured, PouredFront}
use Rattle.base_dialog.specs.declared.dialog.Dialog.{Dialog}
use Rattle.base_dialog.proofs.LineLemmas.{HasAnsweredFront-so_far}

-- a read of no octets into a buffer with room found the end
pub IsAtEnd-given : (E : Type 0) (old new : Option (List ℕ)) (given : Option ℕ) (count : ℕ) (buffer : List ℕ)
    → given ≡ Some count → count ≡ 0 → 0 < length buffer → Gives {E = E} old new (Ok given) buffer → IsAtEnd new
IsAtEnd-given E old new (Some n) count buffer is none room gives = let same : n ≡ 0 = cc in gives.1 same room
IsAtEnd-given E old new None count buffer is none room gives = absurd (cc)

-- a read of some octets took these
pub Consumes-given : (E : Type 0) (old new : Option (List ℕ)) (given : Option ℕ) (count : ℕ) (buffer : List ℕ)
    → given ≡ Some count → Gives {E = E} old new (Ok given) buffer → Consumes old new (take count buffer)
Consumes-given E old new (Some n) count buffer is gives = let same : n ≡ count = cc in rw same at gives.0
Consumes-given E old new None count buffer is gives = absurd (cc)

-- a read of no octets took none
pub Consumes-none : (E : Type 0) (old new : Option (List ℕ)) (given : Option ℕ) (count : ℕ) (buffer : List ℕ)
    → given ≡ Some count → count ≡ 0 → Gives {E = E} old new (Ok given) buffer → Consumes old new []
Consumes-none E old new given count buffer is none gives = rw none at (Consumes-given E old new given count buffer is gives)

-- memory ran out behind what was answered so far
pub PouredFront-so_far : {T I O : Type 0} (has_answered : T → T → List (List ℕ) → List ℕ → Type 0) (start : T) (dialog : Dialog T) (remaining : I → Option (List ℕ)) (contents : O → Option (List ℕ)) (source source' : I) (sink sink' : O) (read more written : List ℕ)
    → Consumes (remaining source) (remaining source') (read ++ more) → Appends (contents sink) (contents sink') written → HasAnswered has_answered start dialog read written
    → PouredFront has_answered start remaining contents source source' sink sink'
PouredFront-so_far has_answered start dialog remaining contents source source' sink sink' read more written consumed wrote so_far = record {
  text = read ++ more;
  said = written;
  read = consumed;
  answered = HasAnsweredFront-so_far has_answered start dialog read more written so_far;
  wrote = wrote;
}

-- the input ended
pub IsPoured-closed : {T I O : Type 0} (has_answered : T → T → List (List ℕ) → List ℕ → Type 0) (start : T) (dialog : Dialog T) (remaining : I → Option (List ℕ)) (reads failures : I → ℕ) (contents : O → Option (List ℕ)) (source source' : I) (sink between sink' : O) (read written : List ℕ) (end : Result (Unit {0}) InputError)
    → Consumes (remaining source) (remaining source') read → IsAtEnd (remaining source') → failures source' ≡ failures source
    → Appends (contents sink) (contents between) written → HasAnswered has_answered start dialog read written
    → Closes has_answered dialog contents between sink' end → IsPoured has_answered start remaining reads failures contents source source' sink sink' end
IsPoured-closed has_answered start dialog remaining reads failures contents source source' sink between sink' read written (Ok done) consumed whole sound wrote so_far closed = record {
  text = read;
  said = written ++ closed.0;
  read = record { read = consumed; whole = whole; sound = sound };
  answered = closed.2 start read written so_far;
  wrote = Appends-trans _ _ _ written closed.0 wrote closed.1;
}
IsPoured-closed has_answered start dialog remaining reads failures contents source source' sink between sink' read written (Err NoMemory) consumed whole sound wrote so_far closed =
    let same : Appends (contents sink) (contents sink') written = subst (λ (o : _). Appends (contents sink) (contents o) written) (sym closed) wrote in (
      sound,
      PouredFront-so_far has_answered start dialog remaining contents source source' sink sink' read [] written
          (subst (λ (xs : List ℕ). Consumes (remaining source) (remaining source') xs) (sym (append-nil read)) consumed) same so_far,
    )
IsPoured-closed has_answered start dialog remaining reads failures contents source source' sink between sink' read written (Err (NotOpened why)) consumed whole sound wrote so_far closed = absurd closed
IsPoured-closed has_answered start dialog remaining reads failures contents source source' sink between sink' read written (Err Failed) consumed whole sound wrote so_far closed = absurd closed
IsPoured-closed has_answered start dialog remaining reads failures contents source source' sink between sink' read written (Err NoEnd) consumed whole sound wrote so_far closed = absurd closed

-- the same, unless a write fault came
pub poured_closed : {T I O E : Type 0} (has_answered : T → T → List (List ℕ) → List ℕ → Type 0) (start : T) (dialog : Dialog T) (remaining : I → Option (List ℕ)) (reads failures : I → ℕ) (contents : O → Option (List ℕ)) (source source' : I) (sink between sink' : O) (read written : List ℕ) (result : Result (Result (Unit {0}) InputError) E)
    → Consumes (remaining source) (remaining source') read → IsAtEnd (remaining source') → failures source' ≡ failures source
    → Appends (contents sink) (contents between) written → HasAnswered has_answered start dialog read written
    → IfOk result (Closes has_answered dialog contents between sink') → IfOk result (IsPoured has_answered start remaining reads failures contents source source' sink sink')
poured_closed has_answered start dialog remaining reads failures contents source source' sink between sink' read written (Ok end) consumed whole sound wrote so_far closed =
    IsPoured-closed has_answered start dialog remaining reads failures contents source source' sink between sink' read written end consumed whole sound wrote so_far closed
poured_closed has_answered start dialog remaining reads failures contents source source' sink between sink' read written (Err e) consumed whole sound wrote so_far closed = tt

-- a write fault after texts that were taken
pub later_cause : {O : Type 0} (failures idle : O → ℕ) (sink between sink' : O) → failures between ≡ failures sink
    → HasWriteCause failures idle between sink' → HasWriteCause failures idle sink sink'
later_cause failures idle sink between sink' same (inl failed) = inl (failed ∙ ap (λ n. n + 1) same)
later_cause failures idle sink between sink' same (inr row) = inr (row.0 ∙ same, row.1)

-- an end that is another one
pub poured_as : {T I O : Type 0} (has_answered : T → T → List (List ℕ) → List ℕ → Type 0) (start : T) (remaining : I → Option (List ℕ)) (reads failures : I → ℕ) (contents : O → Option (List ℕ)) (source source' : I) (sink sink' : O) (end other : Result (Unit {0}) InputError)
    → end ≡ other → IsPoured has_answered start remaining reads failures contents source source' sink sink' end → IsPoured has_answered start remaining reads failures contents source source' sink sink' other
poured_as has_answered start remaining reads failures contents source source' sink sink' end other same poured =
    subst (λ (e : Result (Unit {0}) InputError). IsPoured has_answered start remaining reads failures contents source source' sink sink' e) same poured
