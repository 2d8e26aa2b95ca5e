use Rattle.std.proofs.Common.{◌≡◌, ◌∙◌, ◌+◌, ◌<◌, ℕ, true, [], ap, length, map, subst, sym}
use Rattle.std.specs.Bool.{Decides}
use Rattle.std.specs.Prelude.{filter, nat_le, slice_index_or}
use Rattle.std.proofs.lemmas.List.{length-map}
use Rattle.bench_parts.specs.Views.{kept_in}
use Rattle.bench_spec.specs.Booked.{booked}
use Rattle.bench_gather.specs.Checks.{are_tells, desk_steps, is_done, is_on_page, journal_of, looks_stand}
use Rattle.bench_gather.specs.Given.{Gives, handed_over}
use Rattle.bench_gather.specs.Ordered.{are_own, entries_by}
use Rattle.bench_gather.proofs.GivenLemmas.{EachIsBooked, EachIsDone, EachTells, gives-decides}
use Rattle.bench_gather.proofs.gives.gives.Goals as goal

pub returns : goal.returns
returns c =
    let settings = c.args.core.now.settings in
    let kept = map kept_in c.args.parts.now in
    let handed = handed_over kept c.args.fed.now c.args.pages.now in
    let order = c.args.order.now in
    let shards = c.shards-shards.ensures.count in
    let desks = c.desks-desks.ensures in
    let tell : Decides c.in_ok-tell.tell (EachTells settings handed order) =
    subst
    (λ n. Decides c.in_ok-tell.tell
    ((desk : ℕ) → desk < settings.desks → are_tells desk (desk_steps kept (n + 2 + desk) order) ≡ true)) shards
    (subst
    (λ d. Decides c.in_ok-tell.tell
    ((desk : ℕ) → desk < d → are_tells desk (desk_steps kept (c.shards-shards.result + 2 + desk) order) ≡ true))
    desks c.in_ok-tell.ensures) in
    let done : Decides c.in_ok-done.done (EachIsDone settings handed order) =
    subst
    (λ d. Decides c.in_ok-done.done ((desk : ℕ) → desk < d → is_done desk (entries_by kept order) ≡ true)) desks
    c.in_ok-done.ensures in
    let journals : Decides c.in_ok-booked.booked (EachIsBooked settings handed order) =
    subst
    (λ n. Decides c.in_ok-booked.booked
    ((page : ℕ) → page < n
    → filter (is_on_page n page) (booked settings.node.laws (entries_by kept order))
    ≡ slice_index_or handed.journals page [])) c.requires.paged
    (subst
    (λ laws. Decides c.in_ok-booked.booked
    ((page : ℕ) → page < length c.args.pages.now
    → filter (is_on_page (length c.args.pages.now) page) (booked laws (entries_by kept order))
    ≡ slice_index_or handed.journals page [])) c.laws.ensures c.in_ok-booked.ensures) in
    subst (λ b. Decides b (Gives settings handed order)) (sym c.are_all.ensures)
    (gives-decides settings handed order c.looks_stand-looks.result c.are_few-few.result c.in_ok-own.own
    c.in_ok-tell.tell c.in_ok-done.done c.in_ok-same.same c.in_ok-booked.booked c.in_ok-right.right
    c.requires.ordered (length-map c.args.pages.now journal_of ∙ c.requires.paged) c.requires.some_pages
    (record {
      looks_is = c.looks_stand-looks.ensures ∙ ap (λ n. looks_stand n kept) shards;
      few_is =
          c.are_few-few.ensures
          ∙ ap (λ k. nat_le k (c.shards-shards.result + 2 + c.desks-desks.result))
          (sym (length-map c.args.parts.now kept_in))
          ∙ ap (λ n. nat_le (length kept) (n + 2 + c.desks-desks.result)) shards
          ∙ ap (λ d. nat_le (length kept) (settings.node.shards + 2 + d)) desks;
      own_is = c.in_ok-own.ensures ∙ ap (λ n. are_own n kept order) shards;
      tell_is = tell;
      done_is = done;
      fed_is = c.in_ok-same.ensures;
      booked_is = journals;
      right_is = c.in_ok-right.ensures;
    }))
