use Rattle.std.proofs.Common.{◌∙◌, ap, length, sym}
use Rattle.std.proofs.lemmas.List.Folds.{flat_map-map}
use Rattle.bench_spec.specs.Merged.{entries_kept}
use Rattle.bench_parts.specs.Views.{entries_in, kept_of, stamped_of}
use Rattle.bench_parts.specs.declared.view.Lent.{Lent}
use Rattle.bench_parts.proofs.ViewLemmas.{count_is}
use Rattle.bench_parts.proofs.count.count_in.Goals as goal

pub returns-in-Entries : goal.returns-in-Entries
returns-in-Entries c =
    c.stamped_len.ensures ∙ count_is (stamped_of c.in-Entries.stamps.now c.in-Entries.log.now.entries)
    ∙ ap (λ (p : Lent). length (entries_in p)) (sym c.in-Entries.is)

pub returns-in-Notes : goal.returns-in-Notes
returns-in-Notes c =
    c.count_kept.ensures ∙ ap length (sym (flat_map-map entries_kept kept_of c.in-Notes.notes.now))
    ∙ ap (λ (p : Lent). length (entries_in p)) (sym c.in-Notes.is)
