-- The shards and the registries of a bench that is opened have the same laws.
use Rattle.std.proofs.Common.{◌≡◌, ◌∙◌, ◌+◌, ◌<◌, ℕ, true, List, [], ◌∷◌, None, length, map, ap, arith, refl, subst, sym}
use Rattle.std.specs.Prelude.{◌==◌, not, remove, slice_index_or}
use Rattle.std.specs.List.{AllByRecursion, list_all, range_with_len}
use Rattle.std.proofs.lemmas.Bool.{and_parts, eqb-true, not-false, or_parts}
use Rattle.std.proofs.lemmas.List.{length-map}
use Rattle.std.proofs.lemmas.List.FromFn.{length-range_with_len}
use Rattle.bench_start.specs.Starting.{page_at_start, pages_at_start}
use Rattle.bench_desk.specs.Parts.{PartView}
use Rattle.bench_item.specs.Keys.{Configured}
use Rattle.bench_item.specs.Past.{any_after}
use Rattle.bench_move.specs.Tables.{Tables}
use Rattle.bench_open.specs.Given.{config_of, first_of, opened_as}
use Rattle.bench_open.specs.declared.config.Config.{Config}
use Rattle.bench_open.proofs.OpenableLemmas.{can-open}
use Rattle.bench_open.proofs.ReasonLemmas.{HoldsNone, holds-none}
use Rattle.bench_spec.specs.Opening.{has_bad_laws, has_bad_names, is_bad_account, is_past_limits, opening_refusal, unbound}
use Rattle.bench_spec.specs.SameLaws.{is_same_book}
use Rattle.bench_spec.proofs.SameLemmas.{is_same_book-Decides}
use Rattle.tab_law.specs.Books.{Laws}
use Rattle.live_open.specs.Opening.{AreFew, Agree, shard_at_start, shards_at_start}

-- all have the laws of the first
each-same : (first : Laws) (books : List Laws) → list_all (is_same_book first) books ≡ true → AllByRecursion (λ book. book ≡ first) books
each-same first [] all = tt
each-same first (book ∷ books) all =
    let both = and_parts (is_same_book first book) (list_all (is_same_book first) books) all in
    (sym ((is_same_book-Decides first book).0 both.0), each-same first books both.1)

made : (tables : Tables) (peers : Configured) (numbers : List ℕ)
    → AllByRecursion (λ (p : PartView). p.tables.laws ≡ tables.laws) (map (shard_at_start tables peers) numbers)
made tables peers [] = tt
made tables peers (n ∷ ns) = (refl, made tables peers ns)

pub count-made : (tables : Tables) (peers : Configured) (count : ℕ) → length (shards_at_start tables peers count) ≡ count
count-made tables peers count =
    length-map (range_with_len 0 count) (shard_at_start tables peers) ∙ length-range_with_len 0 count

-- what stands in the way of an opening does not
free : (config : Config) (books : List Laws) → opening_refusal (config_of config books) ≡ None
    → HoldsNone (is_past_limits (config_of config books)) (has_bad_names (config_of config books)) (has_bad_laws (config_of config books))
    (unbound (config_of config books)) (any_after (is_bad_account config.pages) [] (map opened_as config.accounts.items))
free config books none = holds-none _ _ _ _ _ none

pub agree : (config : Config) (books : List Laws) (tables : Tables) (peers : Configured) → opening_refusal (config_of config books) ≡ None
    → tables.laws ≡ first_of books → Agree (shards_at_start tables peers config.shards) books
agree config books tables peers none laws_are =
    let past = or_parts _ (not (length books == config.shards)) (free config books none).lawful.limits in
    let bad = or_parts (not (list_all (is_same_book (first_of books)) books)) _ (free config books none).lawful.laws in
    record {
      laws = tables.laws;
      of_shards = made tables peers (range_with_len 0 config.shards);
      of_books =
          subst (λ laws. AllByRecursion (λ book. book ≡ laws) books) (sym laws_are)
          (each-same (first_of books) books (not-false (list_all (is_same_book (first_of books)) books) bad.0));
      each =
          eqb-true (length books) config.shards (not-false (length books == config.shards) past.1)
          ∙ sym (count-made tables peers config.shards);
    }

pub few : (config : Config) (books : List Laws) (tables : Tables) (peers : Configured) → opening_refusal (config_of config books) ≡ None
    → AreFew (shards_at_start tables peers config.shards)
few config books tables peers none =
    let open' = can-open config books none in
    let count = count-made tables peers config.shards in
    (omega (arith, open'.some_shard, count), omega (arith, open'.few_shards, count))

pub some-page : (config : Config) (books : List Laws) → opening_refusal (config_of config books) ≡ None
    → 0 < length (pages_at_start config.pages (map opened_as config.accounts.items))
some-page config books none =
    let open' = can-open config books none in
    let accounts = map opened_as config.accounts.items in
    let count = length-map (range_with_len 0 config.pages) (page_at_start config.pages accounts) in
    let numbers = length-range_with_len 0 config.pages in
    omega (arith, open'.some_page, count, numbers)

-- the first of each, and the others
first-of : {X : Type 0} (P : X → Type 0) (xs ys : List X) (x : X) → 0 < length xs → x ≡ slice_index_or xs 0 x → ys ≡ remove xs 0
    → AllByRecursion P xs → P x × AllByRecursion P ys
first-of P [] ys x some is rest all = absurd (omega (arith, some))
first-of P (z ∷ zs) ys x some is rest all = (subst P (sym is) all.0, subst (AllByRecursion P) (sym rest) all.1)

of-map : {R : Type 0} (book : R → Laws) (laws : Laws) (rs : List R) → AllByRecursion (λ b. b ≡ laws) (map book rs)
    → AllByRecursion (λ r. book r ≡ laws) rs
of-map book laws [] all = tt
of-map book laws (r ∷ rs) all = (all.0, of-map book laws rs all.1)

to-map : {R : Type 0} (book : R → Laws) (laws : Laws) (rs : List R) → AllByRecursion (λ r. book r ≡ laws) rs
    → AllByRecursion (λ b. b ≡ laws) (map book rs)
to-map book laws [] all = tt
to-map book laws (r ∷ rs) all = (all.0, to-map book laws rs all.1)

less-one : {X : Type 0} (xs ys : List X) → 0 < length xs → ys ≡ remove xs 0 → length xs ≡ length ys + 1
less-one [] ys some rest = absurd (omega (arith, some))
less-one (x ∷ xs) ys some rest = let same = ap length rest in omega (arith, same)

-- a shard and a registry are taken, the first of each: they have the same laws, and so have the others
pub agree-next : {R : Type 0} (book : R → Laws) (ps qs : List PartView) (rs ss : List R) (p : PartView) (r : R) → 0 < length ps → 0 < length rs
    → p ≡ slice_index_or ps 0 p → qs ≡ remove ps 0 → r ≡ slice_index_or rs 0 r → ss ≡ remove rs 0 → Agree ps (map book rs)
    → (book r ≡ p.tables.laws) × Agree qs (map book ss)
agree-next book ps qs rs ss p r some_part some_book part_is parts_are book_is books_are a =
    let here = first-of (λ (x : PartView). x.tables.laws ≡ a.laws) ps qs p some_part part_is parts_are a.of_shards in
    let there = first-of (λ x. book x ≡ a.laws) rs ss r some_book book_is books_are (of-map book a.laws rs a.of_books) in
    let same = sym (length-map rs book) ∙ a.each in
    let count = length-map ss book in
    let fewer = less-one ps qs some_part parts_are in
    let fewer' = less-one rs ss some_book books_are in (
      there.0 ∙ sym here.0,
      record {
        laws = a.laws;
        of_shards = here.1;
        of_books = to-map book a.laws ss there.1;
        each = omega (arith, same, count, fewer, fewer');
      },
    )
