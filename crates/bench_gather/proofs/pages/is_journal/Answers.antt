use Rattle.std.proofs.Common.{◌≡◌, ◌∙◌, length, get_or, ap, arith, refl, sym, inl, inr}
use Rattle.std.proofs.lemmas.Bool.{cases_lt}
use Rattle.std.proofs.lemmas.List.{same_lists}
use Rattle.bench_gather.proofs.BookLemmas.{same-at}
use Rattle.bench_gather.proofs.pages.is_journal.Goals as goal

pub loop-place-preserved : goal.loop-place-preserved
loop-place-preserved c =
    let xs = c.args.booked.now in
    let ys = c.args.journal.now in
    let long : length xs ≡ length ys = omega arith in
    λ k d l.
    elim (cases_lt k c.loop-place.place) [
      | inl before ↦ c.loop-place.invariant k d before
      | inr past ↦
          let here : k ≡ c.loop-place.place = omega (arith, past, l) in
          ap (λ n. get_or xs n d) here
          ∙ same-at xs ys c.loop-place.place d _ c.loop-place-test.true long
          (sym c.is_same.ensures ∙ c.if-not-is_same.false)
          ∙ ap (λ n. get_or ys n d) (sym here)
    ]

pub returns : goal.returns
returns c =
    let long : length c.args.booked.now ≡ length c.args.journal.now = omega arith in
    let over = c.loop-place-test.false in (
      λ yes.
          same_lists c.args.booked.now c.args.journal.now long
          (λ k d l. c.loop-place.invariant k d (omega (arith, l, over))),
      λ same. refl,
    )
