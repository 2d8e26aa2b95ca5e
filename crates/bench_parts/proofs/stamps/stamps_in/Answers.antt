use Rattle.std.proofs.Common.{◌∙◌, ◌≤◌, ap, length, subst, sym, take}
use Rattle.std.proofs.lemmas.List.{length-take-le}
use Rattle.bench_parts.specs.Views.{stamps_in}
use Rattle.bench_parts.proofs.ViewLemmas.{count_within, stamps_are, stamps_kept_are}
use Rattle.bench_parts.proofs.stamps.stamps_in.Goals as goal

pub slice_bounds-from_slice-end : goal.slice_bounds-from_slice-end
slice_bounds-from_slice-end c =
    sym (
    length-take-le c.stamped_len-count.result c.in-Entries.stamps.now
    (subst (λ n. n ≤ length c.in-Entries.stamps.now) (sym c.stamped_len-count.ensures)
    (count_within c.in-Entries.stamps.now c.in-Entries.log.now.entries))
    )

pub returns-in_ok-from_slice-in-Entries : goal.returns-in_ok-from_slice-in-Entries
returns-in_ok-from_slice-in-Entries c =
    c.new.ensures ∙ c.in_ok-from_slice-in-Entries.ensures.items
    ∙ ap (λ n. take n c.in-Entries.stamps.now) c.stamped_len-count.ensures
    ∙ stamps_are c.in-Entries.stamps.now c.in-Entries.log.now.entries
    ∙ ap stamps_in (sym c.in-Entries.is)

pub returns-in_ok-stamps_kept-in-Notes : goal.returns-in_ok-stamps_kept-in-Notes
returns-in_ok-stamps_kept-in-Notes c =
    c.new-in-Notes.ensures ∙ c.in_ok-stamps_kept-in-Notes.ensures ∙ stamps_kept_are c.in-Notes.notes.now
    ∙ ap stamps_in (sym c.in-Notes.is)
