-- Why a bench is not started, once nothing is in the way of its opening.
use Rattle.std.proofs.Common.{◌≡◌, ◌∙◌, ℕ, List, None, Option, ap, length, map, subst, sym}
use Rattle.std.specs.List.{range_with_len}
use Rattle.std.proofs.lemmas.List.{length-map}
use Rattle.std.proofs.lemmas.List.FromFn.{length-range_with_len}
use Rattle.acct_book.specs.Book.{Paged}
use Rattle.bench_desk.specs.Desks.{DeskView}
use Rattle.bench_desk.specs.Parts.{PartView}
use Rattle.bench_open.specs.Faults.{IsErrorFor, MayLackMemory}
use Rattle.bench_spec.specs.Opening.{Config, opening_refusal}
use Rattle.bench_spec.specs.Settings.{Settings}
use Rattle.live_open.specs.Opening.{AreOpened}
use Rattle.live_parts.specs.Clocks.{ClockView}
use Rattle.live_parts.specs.LineParts.{LinesPartView}
use Rattle.tab_law.specs.Books.{Laws}
use Rattle.bench_spec.specs.declared.opening.OpeningError.{OpeningError}
use Rattle.bench_spec.specs.declared.opening.OpeningError.TheVariants as errors
use Rattle.bench_live.specs.Started.{IsStartFault, IsThreadFault, desk_at_start, desks_at_start}
use Rattle.bench_live.specs.declared.fault.StartFault.{StartFault}
use Rattle.bench_live.specs.declared.fault.StartFault.TheVariants as faults

-- memory may be wanting
may-lack : (refusal : Option OpeningError) (error : OpeningError) → refusal ≡ None → error ≡ errors.NoMemory → IsErrorFor refusal error
may-lack refusal error none is =
    subst (λ (e : OpeningError). IsErrorFor refusal e) (sym is) (subst MayLackMemory (sym none) tt)

-- and a thread could not be made
pub thread-is-start : (config : Config) (fault : StartFault) → opening_refusal config ≡ None → IsThreadFault fault → IsStartFault config fault
thread-is-start config (faults.Opening error) none is = may-lack (opening_refusal config) error none is
thread-is-start config faults.NoThread none is = none

-- what is said of the laws of some registries is said of those of the same
pub of-same : {R : Type 0} (book : R → Laws) (rs ss : List R) (P : List Laws → Type 0) → rs ≡ ss → P (map book rs) → P (map book ss)
of-same book rs ss P same p = subst P (ap (map book) same) p

-- so many pages are opened as were asked for
length-mapped : {A : Type 0} (f : ℕ → A) (xs : List A) (n : ℕ) → xs ≡ map f (range_with_len 0 n) → length xs ≡ n
length-mapped f xs n is = ap length is ∙ length-map (range_with_len 0 n) f ∙ length-range_with_len 0 n

pub pages-opened : (s : Settings) (shards : List PartView) (pages : List Paged) (lines : LinesPartView) (clock : ClockView) (desks : ℕ)
    → AreOpened s shards pages lines clock desks → length pages ≡ s.pages
pages-opened s shards pages lines clock desks o = length-mapped _ pages s.pages o.pages_are

-- and so many desks
pub desks-counted : {D : Type 0} (view : D → DeskView) (desks : List D) (count shards : ℕ) → map view desks ≡ desks_at_start count shards
    → length desks ≡ count
desks-counted view desks count shards are =
    sym (length-map desks view) ∙ length-mapped (desk_at_start shards) (map view desks) count are
