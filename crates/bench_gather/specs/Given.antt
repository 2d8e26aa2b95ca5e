-- The parts of a bench as they are handed over, and when they give one log.
use Rattle.std.specs.Prelude.{◌≡◌, ◌≤◌, ℕ, true, List, [], filter, length, map, slice_index_or}
use Rattle.acct_book.specs.Book.{Paged}
use Rattle.acct_totals.specs.declared.op.Booked.{Booked}
use Rattle.bench_item.specs.declared.source.Source.TheVariants.{Desk}
use Rattle.bench_item.specs.declared.step.Step.{Step}
use Rattle.bench_looks.specs.Parts.{AreRight, parts_by}
use Rattle.bench_merge.specs.declared.merging.Placed.{Placed}
use Rattle.bench_spec.specs.Booked.{booked}
use Rattle.bench_spec.specs.Items.{hand, outbox}
use Rattle.bench_spec.specs.Merged.{AreTells, Kept, OfDesk, Parts, entries_of, is_fed}
use Rattle.bench_spec.specs.Settings.{Settings}
use Rattle.bench_gather.specs.Ordered.{are_own, entries_by}
use Rattle.bench_gather.specs.Checks.{is_on_page, journal_of, looks_stand}

-- what is handed over: what each part kept, the list of the steps that were fed, and the journal of each page
pub record Handed : Type 0 where
  pub kept : List (List Kept)
  pub fed : List Step
  pub journals : List (List Booked)

abbrev pub handed_over : List (List Kept) → List Step → List Paged → Handed
handed_over kept fed pages = record { kept = kept; fed = fed; journals = map journal_of pages }

-- the same by their names
abbrev pub parts_of : ℕ → Handed → Parts
parts_of shards handed = parts_by shards handed.kept handed.fed (λ page. slice_index_or handed.journals page [])

-- The parts give the log of this order: each entry stands in its own part and looks in those of desks alone, where each
-- is right at its stamp; there are no more desks than the bench has, each Told has its Lift, and nothing that one told
-- is still on its way; what was fed is in the log once, in its order; and each page has what the log booked on its
-- accounts.
pub record Gives (settings : Settings) (handed : Handed) (order : List Placed) : Type 0 where
  pub own : are_own settings.node.shards handed.kept order ≡ true
  pub looks : looks_stand settings.node.shards handed.kept ≡ true
  pub right : AreRight settings handed.kept
  pub few_desks : length (parts_of settings.node.shards handed).desks ≤ settings.desks
  pub desks_tell : (desk : ℕ)
      → AreTells desk (map (λ s. s.entry) (entries_of (parts_of settings.node.shards handed) (OfDesk desk)))
  pub desks_done : (desk : ℕ)
      → (outbox settings (entries_by handed.kept order) (Desk desk) ≡ [])
      × (hand (entries_by handed.kept order) (Desk desk) ≡ [])
  pub fed : filter is_fed (map (λ e. e.step) (entries_by handed.kept order)) ≡ handed.fed
  pub pages : (page : ℕ)
      → filter (is_on_page settings.pages page) (booked settings.node.laws (entries_by handed.kept order))
      ≡ slice_index_or handed.journals page []
