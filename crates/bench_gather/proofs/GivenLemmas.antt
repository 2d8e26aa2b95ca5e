-- Parts give the log of an order where all that is looked at says so.
use Rattle.std.proofs.Common.{◌≡◌, ◌∙◌, ◌+◌, ◌-◌, ◌%◌, ◌<◌, ◌≤◌, ℕ, List, [], ◌∷◌, Bool, true, length, map}
use Rattle.std.proofs.Common.{refl, ap, sym, subst, arith, inl, inr, mod-lt}
use Rattle.std.specs.Prelude.{◌&&◌, filter, flat_map, nat_eq, nat_le, nat_lt, slice_index_or}
use Rattle.std.specs.Bool.{Decides}
use Rattle.std.proofs.lemmas.Bool.{and_from, and_parts, cases_lt, cond-false, le-leb, le-ltb, leb-true, ne_eqb}
use Rattle.std.proofs.lemmas.List.{get_or-drop, get_or_past, length-drop}
use Rattle.bench_item.specs.declared.entry.Entry.{Entry}
use Rattle.bench_item.specs.declared.source.Source.TheVariants.{Desk}
use Rattle.bench_looks.specs.Parts.{AreRight}
use Rattle.bench_merge.specs.Order.{IsOrder}
use Rattle.bench_merge.specs.declared.merging.Placed.{Placed}
use Rattle.bench_parts.specs.Own.{is_of, part_at}
use Rattle.acct_totals.specs.Amounts.{account_of}
use Rattle.acct_totals.specs.declared.op.Booked.{Booked}
use Rattle.bench_spec.specs.Booked.{booked}
use Rattle.bench_spec.specs.Items.{hand, outbox}
use Rattle.bench_spec.specs.Merged.{AreTells, OfClock, OfDesk, OfLines, OfShard, Stamped, entries_kept}
use Rattle.bench_spec.specs.Merged.{entries_of, is_same_part, part_of}
use Rattle.bench_spec.specs.Settings.{Settings}
use Rattle.bench_gather.specs.Checks.{are_fed, are_tells, desk_steps, is_done, is_on_page, looks_stand, steps_of}
use Rattle.bench_gather.specs.Given.{Gives, Handed, parts_of}
use Rattle.bench_gather.specs.Ordered.{are_own, entries_by, stamped_by, stamps_of}
use Rattle.bench_gather.proofs.CheckLemmas.{are_tells-are, are_tells-from, is_done-done, is_done-from}
use Rattle.bench_gather.proofs.DeskLemmas.{desk-none}
use Rattle.bench_gather.proofs.FedLemmas.{are_fed-are, are_fed-from}
use Rattle.bench_gather.proofs.LogLemmas.{each-part, entries-alone, entries-of_part}

-- where a desk's part stands
pub desk-at : (shards : ℕ) (handed : Handed) (desk : ℕ)
    → slice_index_or (parts_of shards handed).desks desk [] ≡ slice_index_or handed.kept (shards + 2 + desk) []
desk-at shards handed desk = get_or-drop (shards + 2) handed.kept desk []

pub part-of_desk : (shards desk : ℕ) → part_at shards (shards + 2 + desk) ≡ OfDesk desk
part-of_desk shards desk =
    let place = shards + 2 + desk in
    let number : place - shards - 2 ≡ desk = omega arith in
    cond-false (nat_lt place shards) (OfShard place) _ (le-ltb place shards (omega arith))
    ∙ cond-false (nat_eq place shards) OfLines _ (ne_eqb place shards (λ e. omega (arith, e)))
    ∙ cond-false (nat_eq place (shards + 1)) OfClock _ (ne_eqb place (shards + 1) (λ e. omega (arith, e)))
    ∙ ap OfDesk number

-- the steps of a desk's part
desk-steps : (shards : ℕ) (handed : Handed) (order : List Placed) (desk : ℕ) → IsOrder (stamps_of handed.kept) order
    → desk_steps handed.kept (shards + 2 + desk) order
    ≡ steps_of (map (λ s. s.entry) (entries_of (parts_of shards handed) (OfDesk desk)))
desk-steps shards handed order desk ordered =
    ap steps_of (entries-of_part handed.kept order (shards + 2 + desk) ordered)
    ∙ ap (λ kept. steps_of (map (λ (s : Stamped). s.entry) (flat_map entries_kept kept)))
    (sym (desk-at shards handed desk))

-- a desk that there is none of has told nothing, and nothing of it is in the log
no-part : (shards : ℕ) (handed : Handed) (desks desk : ℕ) → length (parts_of shards handed).desks ≤ desks
    → desks ≤ desk → slice_index_or (parts_of shards handed).desks desk [] ≡ []
no-part shards handed desks desk few past =
    get_or_past (parts_of shards handed).desks desk [] (omega (arith, few, past))

no-tells : (shards : ℕ) (handed : Handed) (desks desk : ℕ) → length (parts_of shards handed).desks ≤ desks
    → desks ≤ desk → AreTells desk (map (λ s. s.entry) (entries_of (parts_of shards handed) (OfDesk desk)))
no-tells shards handed desks desk few past =
    subst (λ kept. AreTells desk (map (λ (s : Stamped). s.entry) (flat_map entries_kept kept)))
    (sym (no-part shards handed desks desk few past)) (record { told = []; steps = refl })

none-done : (settings : Settings) (handed : Handed) (order : List Placed) (desk : ℕ)
    → IsOrder (stamps_of handed.kept) order → are_own settings.node.shards handed.kept order ≡ true
    → length (parts_of settings.node.shards handed).desks ≤ settings.desks → settings.desks ≤ desk
    → (outbox settings (entries_by handed.kept order) (Desk desk) ≡ [])
    × (hand (entries_by handed.kept order) (Desk desk) ≡ [])
none-done settings handed order desk ordered own few past =
    let shards = settings.node.shards in
    let place = shards + 2 + desk in
    let none : slice_index_or handed.kept place [] ≡ [] =
    sym (desk-at shards handed desk) ∙ no-part shards handed settings.desks desk few past in
    let here : filter (λ (s : Stamped). is_of shards place s.entry) (stamped_by handed.kept order) ≡ [] =
    each-part shards handed.kept order ordered own place ∙ ap (flat_map entries_kept) none in
    subst
    (λ (es : List Entry). (outbox settings es (Desk desk) ≡ []) × (hand es (Desk desk) ≡ []))
    (entries-alone handed.kept order)
    (desk-none settings shards desk (stamped_by handed.kept order)
    (subst (λ part. filter (λ (s : Stamped). is_same_part part (part_of shards s.entry))
    (stamped_by handed.kept order) ≡ [])
    (part-of_desk shards desk) here))

-- all that is looked at
abbrev pub EachTells : Settings → Handed → List Placed → Type 0
EachTells settings handed order =
    (desk : ℕ) → desk < settings.desks
    → are_tells desk (desk_steps handed.kept (settings.node.shards + 2 + desk) order) ≡ true

abbrev pub EachIsDone : Settings → Handed → List Placed → Type 0
EachIsDone settings handed order =
    (desk : ℕ) → desk < settings.desks → is_done desk (entries_by handed.kept order) ≡ true

abbrev pub EachIsBooked : Settings → Handed → List Placed → Type 0
EachIsBooked settings handed order =
    (page : ℕ) → page < settings.pages
    → filter (is_on_page settings.pages page) (booked settings.node.laws (entries_by handed.kept order))
    ≡ slice_index_or handed.journals page []

-- nothing is on a page behind the last
none-booked : (pages page : ℕ) (bs : List Booked) → 0 < pages → pages ≤ page → filter (is_on_page pages page) bs ≡ []
none-booked pages page [] some past = refl
none-booked pages page (b ∷ bs) some past =
    let p = is_on_page pages page in
    let below : account_of b.op % pages < pages = mod-lt (account_of b.op) some in
    cond-false (p b) (b ∷ filter p bs) (filter p bs)
    (ne_eqb (account_of b.op % pages) page (λ e. omega (arith, e, below, past)))
    ∙ none-booked pages page bs some past

all-booked : (settings : Settings) (handed : Handed) (order : List Placed) → length handed.journals ≡ settings.pages
    → 0 < settings.pages → EachIsBooked settings handed order → (page : ℕ)
    → filter (is_on_page settings.pages page) (booked settings.node.laws (entries_by handed.kept order))
    ≡ slice_index_or handed.journals page []
all-booked settings handed order paged some each page =
    elim (cases_lt page settings.pages) [
      | inl l ↦ each page l
      | inr past ↦
          none-booked settings.pages page (booked settings.node.laws (entries_by handed.kept order)) some past
          ∙ sym (get_or_past handed.journals page [] (omega (arith, paged, past)))
    ]

abbrev are_few : Settings → Handed → Bool
are_few settings handed = nat_le (length handed.kept) (settings.node.shards + 2 + settings.desks)

few-desks : (settings : Settings) (handed : Handed) → are_few settings handed ≡ true
    → length (parts_of settings.node.shards handed).desks ≤ settings.desks
few-desks settings handed few =
    let l = leb-true (length handed.kept) (settings.node.shards + 2 + settings.desks) few in
    let count = length-drop (settings.node.shards + 2) handed.kept in
    omega (arith, l, count)

few-from : (settings : Settings) (handed : Handed)
    → length (parts_of settings.node.shards handed).desks ≤ settings.desks → are_few settings handed ≡ true
few-from settings handed l =
    let count = length-drop (settings.node.shards + 2) handed.kept in
    le-leb (length handed.kept) (settings.node.shards + 2 + settings.desks) (omega (arith, l, count))

all-tell : (settings : Settings) (handed : Handed) (order : List Placed) → IsOrder (stamps_of handed.kept) order
    → length (parts_of settings.node.shards handed).desks ≤ settings.desks → EachTells settings handed order
    → (desk : ℕ)
    → AreTells desk (map (λ s. s.entry) (entries_of (parts_of settings.node.shards handed) (OfDesk desk)))
all-tell settings handed order ordered few each desk =
    elim (cases_lt desk settings.desks) [
      | inl l ↦
          are_tells-are desk
          (map (λ (s : Stamped). s.entry) (entries_of (parts_of settings.node.shards handed) (OfDesk desk)))
          (subst (λ steps. are_tells desk steps ≡ true) (desk-steps settings.node.shards handed order desk ordered)
          (each desk l))
      | inr past ↦ no-tells settings.node.shards handed settings.desks desk few past
    ]

all-done : (settings : Settings) (handed : Handed) (order : List Placed) → IsOrder (stamps_of handed.kept) order
    → are_own settings.node.shards handed.kept order ≡ true
    → length (parts_of settings.node.shards handed).desks ≤ settings.desks → EachIsDone settings handed order
    → (desk : ℕ)
    → (outbox settings (entries_by handed.kept order) (Desk desk) ≡ [])
    × (hand (entries_by handed.kept order) (Desk desk) ≡ [])
all-done settings handed order ordered own few each desk =
    elim (cases_lt desk settings.desks) [
      | inl l ↦ is_done-done settings desk (entries_by handed.kept order) (each desk l)
      | inr past ↦ none-done settings handed order desk ordered own few past
    ]

-- what was found of each
pub record Found (settings : Settings) (handed : Handed) (order : List Placed)
    (looks few own tell done fed booked right : Bool) : Type 0 where
  pub looks_is : looks ≡ looks_stand settings.node.shards handed.kept
  pub few_is : few ≡ nat_le (length handed.kept) (settings.node.shards + 2 + settings.desks)
  pub own_is : own ≡ are_own settings.node.shards handed.kept order
  pub tell_is : Decides tell (EachTells settings handed order)
  pub done_is : Decides done (EachIsDone settings handed order)
  pub fed_is : fed ≡ are_fed handed.fed (steps_of (entries_by handed.kept order))
  pub booked_is : Decides booked (EachIsBooked settings handed order)
  pub right_is : Decides right (AreRight settings handed.kept)

pub gives-decides : (settings : Settings) (handed : Handed) (order : List Placed)
    (looks few own tell done fed booked right : Bool)
    → IsOrder (stamps_of handed.kept) order → length handed.journals ≡ settings.pages → 0 < settings.pages
    → Found settings handed order looks few own tell done fed booked right
    → Decides (((((((looks && few) && own) && tell) && done) && fed) && booked) && right) (Gives settings handed order)
gives-decides settings handed order looks few own tell done fed booked right ordered paged some f = (
  λ all.
      let n = and_parts ((((((looks && few) && own) && tell) && done) && fed) && booked) right all in
      let o = and_parts (((((looks && few) && own) && tell) && done) && fed) booked n.0 in
      let p = and_parts ((((looks && few) && own) && tell) && done) fed o.0 in
      let q = and_parts (((looks && few) && own) && tell) done p.0 in
      let r = and_parts ((looks && few) && own) tell q.0 in
      let s = and_parts (looks && few) own r.0 in
      let t = and_parts looks few s.0 in
      let count = few-desks settings handed (sym f.few_is ∙ t.1) in
      let mine = sym f.own_is ∙ s.1 in
      record {
        own = mine;
        looks = sym f.looks_is ∙ t.0;
        right = f.right_is.0 n.1;
        few_desks = count;
        desks_tell = all-tell settings handed order ordered count (f.tell_is.0 r.1);
        desks_done = all-done settings handed order ordered mine count (f.done_is.0 q.1);
        fed = are_fed-are handed.fed (steps_of (entries_by handed.kept order)) (sym f.fed_is ∙ p.1);
        pages = all-booked settings handed order paged some (f.booked_is.0 o.1);
      },
  λ g.
      let es = entries_by handed.kept order in
      let shards = settings.node.shards in
      let each_tells : EachTells settings handed order =
      λ desk l.
      subst (λ steps. are_tells desk steps ≡ true) (sym (desk-steps shards handed order desk ordered))
      (are_tells-from desk (map (λ (s : Stamped). s.entry) (entries_of (parts_of shards handed) (OfDesk desk)))
      (g.desks_tell desk)) in
      let each_done : EachIsDone settings handed order =
      λ desk l. is_done-from settings desk es (g.desks_done desk).0 (g.desks_done desk).1 in
      and_from ((((((looks && few) && own) && tell) && done) && fed) && booked) right
      (and_from (((((looks && few) && own) && tell) && done) && fed) booked
      (and_from ((((looks && few) && own) && tell) && done) fed
      (and_from (((looks && few) && own) && tell) done
      (and_from ((looks && few) && own) tell
      (and_from (looks && few) own
      (and_from looks few (f.looks_is ∙ g.looks) (f.few_is ∙ few-from settings handed g.few_desks))
      (f.own_is ∙ g.own))
      (f.tell_is.1 each_tells))
      (f.done_is.1 each_done))
      (f.fed_is ∙ are_fed-from handed.fed (steps_of es) g.fed))
      (f.booked_is.1 (λ page l. g.pages page)))
      (f.right_is.1 g.right),
)
