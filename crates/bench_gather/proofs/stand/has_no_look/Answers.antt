use Rattle.std.proofs.Common.{◌∙◌, ap, sym}
use Rattle.std.specs.List.{list_all}
use Rattle.bench_parts.specs.Views.{kept_in, stamped_of}
use Rattle.bench_parts.specs.declared.view.Lent.{Lent}
use Rattle.bench_gather.specs.Checks.{is_did}
use Rattle.bench_gather.proofs.DeskLemmas.{all-did}
use Rattle.bench_gather.proofs.stand.has_no_look.Goals as goal

pub returns-in-Entries : goal.returns-in-Entries
returns-in-Entries c =
    all-did (stamped_of c.in-Entries.stamps.now c.in-Entries.log.now.entries)
    ∙ ap (λ (p : Lent). list_all is_did (kept_in p)) (sym c.in-Entries.is)
