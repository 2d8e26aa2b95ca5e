-- What comes of a worker's turn.
use Rattle.std.specs.Prelude.{◌≡◌, ℕ, true, false, is_none}
use Rattle.acct_book.specs.Book.{Paged}
use Rattle.bench_desk.specs.Parts.{PartView}
use Rattle.bench_desk.specs.Working.{IsWorked, work_refusal}
use Rattle.live_slot.specs.declared.turn.Turn.{Turn}
use Rattle.live_slot.specs.declared.turn.Turn.TheVariants as turns

-- a part handled its oldest item, with a page and a stamp that was drawn
pub record HasWorked (v w : PartView) : Type 0 where
  pub before : Paged
  pub after : Paged
  pub stamp : ℕ
  pub worked : IsWorked v w before after stamp

-- it handled its oldest item; or it may not, and is as it was; or memory was refused, and it is as it was
abbrev pub Works : Turn → PartView → PartView → Type 0
Works turns.Done v w = HasWorked v w
Works turns.Idle v w = (is_none (work_refusal v) ≡ false) × (w ≡ v)
Works turns.NoMemory v w = (is_none (work_refusal v) ≡ true) × (w ≡ v)
