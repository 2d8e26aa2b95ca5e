use Rattle.std.proofs.Common.{◌≡◌, ◌∙◌, ◌++◌, ◌∷◌, [], List, ap, arith, fold, refl, sym}
use Rattle.acct_book.specs.Book.{Book, Paged, after, outcome_of}
use Rattle.acct_totals.specs.declared.op.Outcome.{Outcome}
use Rattle.bench_spec.specs.Booked.{outcomes_of}
use Rattle.bench_move.proofs.BookLemmas.{length-after, after-taken_back, outcomes_of-more}
use Rattle.bench_move.proofs.booking.outcomes_with.Goals as goal

pub take_back-requires : goal.take_back-requires
take_back-requires c =
    let more = length-after c.make_room.new.page.book c.args.earlier.now in
    rw (c.apply_all.ensures.page) (omega arith)

pub returns-in_err-push-clause-page : goal.returns-in_err-push-clause-page
returns-in_err-push-clause-page c =
    rw (c.take_back.ensures, c.apply_all.ensures.page, after-taken_back c.make_room.new.page.book c.args.earlier.now, c.in_ok-make_room.ensures.ok) refl

pub returns-clause-outcomes : goal.returns-clause-outcomes
returns-clause-outcomes c =
    let book : c.make_room.new.page.book ≡ c.args.page.now.book = ap (λ (p : Paged). p.book) c.in_ok-make_room.ensures.ok in
    let after_is : c.apply_all.new.page.book ≡ fold after c.args.page.now.book c.args.earlier.now =
    ap (λ (p : Paged). p.book) c.apply_all.ensures.page ∙ ap (λ (b : Book). fold after b c.args.earlier.now) book in
    let outcome_is : c.outcome-outcome.result ≡ outcome_of (fold after c.args.page.now.book c.args.earlier.now) c.args.last =
    c.outcome-outcome.ensures ∙ ap (λ (b : Book). outcome_of b c.args.last) after_is in
    let earlier_are : c.apply_all.new.outcomes.items ≡ outcomes_of c.args.page.now.book c.args.earlier.now =
    rw (c.apply_all.ensures.outcomes, c.in_ok-outcomes.ensures.items, book) refl in
    c.in_ok-push.ensures.items
    ∙ ap (λ (os : List Outcome). os ++ c.outcome-outcome.result ∷ []) earlier_are
    ∙ ap (λ (o : Outcome). outcomes_of c.args.page.now.book c.args.earlier.now ++ o ∷ []) outcome_is
    ∙ sym (outcomes_of-more c.args.page.now.book c.args.earlier.now c.args.last)

pub returns-clause-page : goal.returns-clause-page
returns-clause-page c =
    rw (c.take_back.ensures, c.apply_all.ensures.page, after-taken_back c.make_room.new.page.book c.args.earlier.now, c.in_ok-make_room.ensures.ok) refl
