use Rattle.std.proofs.Common.{◌≤◌, length, subst, sym}
use Rattle.bench_looks.proofs.BeforeLemmas.{logged-few}
use Rattle.bench_parts.specs.Views.{kept_in}
use Rattle.bench_parts.specs.declared.view.Lent.{Lent}
use Rattle.bench_looks.proofs.before.places.Goals as goal

pub returns-in-Entries : goal.returns-in-Entries
returns-in-Entries c =
    subst (λ (p : Lent). length (kept_in p) ≤ length c.in-Entries.stamps.now) (sym c.in-Entries.is)
    (logged-few c.in-Entries.stamps.now c.in-Entries.log.now.entries)
