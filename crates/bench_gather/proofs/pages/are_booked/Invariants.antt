use Rattle.std.proofs.Common.{◌≡◌, ◌<◌, ℕ, [], length, map}
use Rattle.std.specs.Prelude.{filter, slice_index_or}
use Rattle.bench_parts.specs.Views.{kept_in}
use Rattle.bench_spec.specs.Booked.{booked}
use Rattle.bench_gather.specs.Checks.{is_on_page, journal_of}
use Rattle.bench_gather.specs.Ordered.{entries_by}
use Rattle.bench_gather.proofs.pages.are_booked.Given as goal

-- each page so far has what the log booked on it
abbrev pub invariant-loop-page : goal.invariant-loop-page
invariant-loop-page l =
    (page : ℕ) → page < l.page
    → filter (is_on_page (length l.pages) page) (booked l.laws (entries_by (map kept_in l.parts) l.order))
    ≡ slice_index_or (map journal_of l.pages) page []
