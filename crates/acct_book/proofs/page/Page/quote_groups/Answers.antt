use Rattle.std.proofs.Common.{◌≡◌, ◌∙◌, sym, ap, List, [], ◌∷◌, map, Option, None, Some, nat_eq, true≢false}
use Rattle.std.specs.Prelude.{slice_index_or, is_some}
use Rattle.indexmap.specs.IndexMap.{get}
use Rattle.acct_totals.specs.declared.slot.Slot.{Slot}
use Rattle.acct_book.specs.Book.{Paged}
use Rattle.acct_book.specs.Stored.{stored_of}
use Rattle.acct_book.specs.Slots.{after_slot, quotes_of}
use Rattle.acct_book.specs.Served.{unknown_in, left_of}
use Rattle.acct_book.specs.Ledger.{book_of}
use Rattle.acct_book.proofs.LedgerLemmas.{zero-kept}
use Rattle.acct_book.proofs.SlotLemmas.{IsLeftOf-start, IsLeftOf-next, quotes_of-unknown, absent-kept, funds-left, quote_in-left, small-kept, four}
use Rattle.acct_book.proofs.page.Page.quote_groups.Goals as goal

pub returns-in_default-clause-value : goal.returns-in_default-clause-value
returns-in_default-clause-value c =
    let l = c.self.inside.ledger in
    let k = c.args.account in
    let n = c.args.session in
    (λ i. c.unknown_in.ensures i ∷ c.unknown_in-in_default.ensures i ∷ c.unknown_in-in_default-2.ensures i ∷ c.unknown_in-in_default-3.ensures i ∷ [])
    ∙ ap (λ (xs : List (Option Slot)). map unknown_in xs) (four c.args.slots.now None c.told-slots)
    ∙ sym (ap (λ (p : Paged). quotes_of k n p.book c.args.slots.now) (sym c.self.view_is)
    ∙ quotes_of-unknown k n (book_of l) (absent-kept l k (sym c.totals.ensures ∙ c.in_default.is)) c.args.slots.now)

pub returns-in_default-clause-zero : goal.returns-in_default-clause-zero
returns-in_default-clause-zero c = λ _.
    (λ i. c.unknown_in.ensures i ∷ c.unknown_in-in_default.ensures i ∷ c.unknown_in-in_default-2.ensures i ∷ c.unknown_in-in_default-3.ensures i ∷ [])
    ∙ ap (λ (xs : List (Option Slot)). map unknown_in xs) (four c.args.slots.now None c.told-slots)

pub returns-clause-zero : goal.returns-clause-zero
returns-clause-zero c = λ e.
    absurd (true≢false (ap is_some (sym c.in-Some.is ∙ c.totals.ensures ∙ ap (get nat_eq c.self.inside.ledger.accounts) e ∙ zero-kept c.self.inside.ledger c.self.invariant)))

pub quote_slot-first-requires : goal.quote_slot-first-requires
quote_slot-first-requires c =
    let l = c.self.inside.ledger in
    let t = c.in-Some.totals in
    let k = c.args.account in
    let n = c.args.session in
    let is : get nat_eq l.accounts k ≡ Some t = sym c.totals.ensures ∙ c.in-Some.is in
    let small = small-kept l c.self.invariant k t is in
    let w0 = IsLeftOf-start l c.self.invariant k n c.free-free.result t is c.free-free.ensures in
    funds-left k t.given n (left_of (stored_of l.holds) k n c.free-free.result ([])) (book_of l) w0 small (slice_index_or c.args.slots.now 0 None)

pub quote_slot-second-requires : goal.quote_slot-second-requires
quote_slot-second-requires c =
    let l = c.self.inside.ledger in
    let t = c.in-Some.totals in
    let k = c.args.account in
    let n = c.args.session in
    let is : get nat_eq l.accounts k ≡ Some t = sym c.totals.ensures ∙ c.in-Some.is in
    let small = small-kept l c.self.invariant k t is in
    let w0 = IsLeftOf-start l c.self.invariant k n c.free-free.result t is c.free-free.ensures in
    let w1 = IsLeftOf-next (stored_of l.holds) k t.given n c.free-free.result ([]) (book_of l) w0 (slice_index_or c.args.slots.now 0 None) c.quote_slot-first.result.0 c.quote_slot-first.result.1 c.quote_slot-first.ensures.quote c.quote_slot-first.ensures.free in
    funds-left k t.given n (left_of (stored_of l.holds) k n c.quote_slot-first.result.1 (((slice_index_or c.args.slots.now 0 None), c.quote_slot-first.result.0) ∷ [])) (after_slot k n (book_of l) (slice_index_or c.args.slots.now 0 None)) w1 small (slice_index_or c.args.slots.now 1 None)

pub quote_slot-third-requires : goal.quote_slot-third-requires
quote_slot-third-requires c =
    let l = c.self.inside.ledger in
    let t = c.in-Some.totals in
    let k = c.args.account in
    let n = c.args.session in
    let is : get nat_eq l.accounts k ≡ Some t = sym c.totals.ensures ∙ c.in-Some.is in
    let small = small-kept l c.self.invariant k t is in
    let w0 = IsLeftOf-start l c.self.invariant k n c.free-free.result t is c.free-free.ensures in
    let w1 = IsLeftOf-next (stored_of l.holds) k t.given n c.free-free.result ([]) (book_of l) w0 (slice_index_or c.args.slots.now 0 None) c.quote_slot-first.result.0 c.quote_slot-first.result.1 c.quote_slot-first.ensures.quote c.quote_slot-first.ensures.free in
    let w2 = IsLeftOf-next (stored_of l.holds) k t.given n c.quote_slot-first.result.1 (((slice_index_or c.args.slots.now 0 None), c.quote_slot-first.result.0) ∷ []) (after_slot k n (book_of l) (slice_index_or c.args.slots.now 0 None)) w1 (slice_index_or c.args.slots.now 1 None) c.quote_slot-second.result.0 c.quote_slot-second.result.1 c.quote_slot-second.ensures.quote c.quote_slot-second.ensures.free in
    funds-left k t.given n (left_of (stored_of l.holds) k n c.quote_slot-second.result.1 (((slice_index_or c.args.slots.now 0 None), c.quote_slot-first.result.0) ∷ ((slice_index_or c.args.slots.now 1 None), c.quote_slot-second.result.0) ∷ [])) (after_slot k n (after_slot k n (book_of l) (slice_index_or c.args.slots.now 0 None)) (slice_index_or c.args.slots.now 1 None)) w2 small (slice_index_or c.args.slots.now 2 None)

pub quote_slot-fourth-requires : goal.quote_slot-fourth-requires
quote_slot-fourth-requires c =
    let l = c.self.inside.ledger in
    let t = c.in-Some.totals in
    let k = c.args.account in
    let n = c.args.session in
    let is : get nat_eq l.accounts k ≡ Some t = sym c.totals.ensures ∙ c.in-Some.is in
    let small = small-kept l c.self.invariant k t is in
    let w0 = IsLeftOf-start l c.self.invariant k n c.free-free.result t is c.free-free.ensures in
    let w1 = IsLeftOf-next (stored_of l.holds) k t.given n c.free-free.result ([]) (book_of l) w0 (slice_index_or c.args.slots.now 0 None) c.quote_slot-first.result.0 c.quote_slot-first.result.1 c.quote_slot-first.ensures.quote c.quote_slot-first.ensures.free in
    let w2 = IsLeftOf-next (stored_of l.holds) k t.given n c.quote_slot-first.result.1 (((slice_index_or c.args.slots.now 0 None), c.quote_slot-first.result.0) ∷ []) (after_slot k n (book_of l) (slice_index_or c.args.slots.now 0 None)) w1 (slice_index_or c.args.slots.now 1 None) c.quote_slot-second.result.0 c.quote_slot-second.result.1 c.quote_slot-second.ensures.quote c.quote_slot-second.ensures.free in
    let w3 = IsLeftOf-next (stored_of l.holds) k t.given n c.quote_slot-second.result.1 (((slice_index_or c.args.slots.now 0 None), c.quote_slot-first.result.0) ∷ ((slice_index_or c.args.slots.now 1 None), c.quote_slot-second.result.0) ∷ []) (after_slot k n (after_slot k n (book_of l) (slice_index_or c.args.slots.now 0 None)) (slice_index_or c.args.slots.now 1 None)) w2 (slice_index_or c.args.slots.now 2 None) c.quote_slot-third.result.0 c.quote_slot-third.result.1 c.quote_slot-third.ensures.quote c.quote_slot-third.ensures.free in
    funds-left k t.given n (left_of (stored_of l.holds) k n c.quote_slot-third.result.1 (((slice_index_or c.args.slots.now 0 None), c.quote_slot-first.result.0) ∷ ((slice_index_or c.args.slots.now 1 None), c.quote_slot-second.result.0) ∷ ((slice_index_or c.args.slots.now 2 None), c.quote_slot-third.result.0) ∷ [])) (after_slot k n (after_slot k n (after_slot k n (book_of l) (slice_index_or c.args.slots.now 0 None)) (slice_index_or c.args.slots.now 1 None)) (slice_index_or c.args.slots.now 2 None)) w3 small (slice_index_or c.args.slots.now 3 None)

pub returns-clause-value : goal.returns-clause-value
returns-clause-value c =
    let l = c.self.inside.ledger in
    let t = c.in-Some.totals in
    let k = c.args.account in
    let n = c.args.session in
    let is : get nat_eq l.accounts k ≡ Some t = sym c.totals.ensures ∙ c.in-Some.is in
    let small = small-kept l c.self.invariant k t is in
    let w0 = IsLeftOf-start l c.self.invariant k n c.free-free.result t is c.free-free.ensures in
    let w1 = IsLeftOf-next (stored_of l.holds) k t.given n c.free-free.result ([]) (book_of l) w0 (slice_index_or c.args.slots.now 0 None) c.quote_slot-first.result.0 c.quote_slot-first.result.1 c.quote_slot-first.ensures.quote c.quote_slot-first.ensures.free in
    let w2 = IsLeftOf-next (stored_of l.holds) k t.given n c.quote_slot-first.result.1 (((slice_index_or c.args.slots.now 0 None), c.quote_slot-first.result.0) ∷ []) (after_slot k n (book_of l) (slice_index_or c.args.slots.now 0 None)) w1 (slice_index_or c.args.slots.now 1 None) c.quote_slot-second.result.0 c.quote_slot-second.result.1 c.quote_slot-second.ensures.quote c.quote_slot-second.ensures.free in
    let w3 = IsLeftOf-next (stored_of l.holds) k t.given n c.quote_slot-second.result.1 (((slice_index_or c.args.slots.now 0 None), c.quote_slot-first.result.0) ∷ ((slice_index_or c.args.slots.now 1 None), c.quote_slot-second.result.0) ∷ []) (after_slot k n (after_slot k n (book_of l) (slice_index_or c.args.slots.now 0 None)) (slice_index_or c.args.slots.now 1 None)) w2 (slice_index_or c.args.slots.now 2 None) c.quote_slot-third.result.0 c.quote_slot-third.result.1 c.quote_slot-third.ensures.quote c.quote_slot-third.ensures.free in
    let q0 = c.quote_slot-first.ensures.quote ∙ quote_in-left k t.given n (left_of (stored_of l.holds) k n c.free-free.result ([])) (book_of l) w0 (slice_index_or c.args.slots.now 0 None) in
    let q1 = c.quote_slot-second.ensures.quote ∙ quote_in-left k t.given n (left_of (stored_of l.holds) k n c.quote_slot-first.result.1 (((slice_index_or c.args.slots.now 0 None), c.quote_slot-first.result.0) ∷ [])) (after_slot k n (book_of l) (slice_index_or c.args.slots.now 0 None)) w1 (slice_index_or c.args.slots.now 1 None) in
    let q2 = c.quote_slot-third.ensures.quote ∙ quote_in-left k t.given n (left_of (stored_of l.holds) k n c.quote_slot-second.result.1 (((slice_index_or c.args.slots.now 0 None), c.quote_slot-first.result.0) ∷ ((slice_index_or c.args.slots.now 1 None), c.quote_slot-second.result.0) ∷ [])) (after_slot k n (after_slot k n (book_of l) (slice_index_or c.args.slots.now 0 None)) (slice_index_or c.args.slots.now 1 None)) w2 (slice_index_or c.args.slots.now 2 None) in
    let q3 = c.quote_slot-fourth.ensures.quote ∙ quote_in-left k t.given n (left_of (stored_of l.holds) k n c.quote_slot-third.result.1 (((slice_index_or c.args.slots.now 0 None), c.quote_slot-first.result.0) ∷ ((slice_index_or c.args.slots.now 1 None), c.quote_slot-second.result.0) ∷ ((slice_index_or c.args.slots.now 2 None), c.quote_slot-third.result.0) ∷ [])) (after_slot k n (after_slot k n (after_slot k n (book_of l) (slice_index_or c.args.slots.now 0 None)) (slice_index_or c.args.slots.now 1 None)) (slice_index_or c.args.slots.now 2 None)) w3 (slice_index_or c.args.slots.now 3 None) in
    (λ i. q0 i ∷ q1 i ∷ q2 i ∷ q3 i ∷ [])
    ∙ ap (quotes_of k n (book_of l)) (four c.args.slots.now None c.told-slots)
    ∙ sym (ap (λ (p : Paged). quotes_of k n p.book c.args.slots.now) (sym c.self.view_is))
