-- Books of laws that are the first of them.
use Rattle.std.proofs.Common.{◌≡◌, ◌<◌, ℕ, suc, zero, Bool, true, false, List, [], ◌∷◌, ap, arith, get_or, length, map, refl, sym, take, ◌∙◌}
use Rattle.std.specs.Prelude.{◌||◌, not}
use Rattle.std.specs.List.{list_all}
use Rattle.std.proofs.lemmas.Bool.{and_parts, and_right, or_left}
use Rattle.tab_law.specs.Books.{Laws}
use Rattle.bench_spec.specs.Opening.{Config, has_bad_laws, laws_of}
use Rattle.bench_spec.specs.SameLaws.{is_same_book}
use Rattle.bench_open.specs.Given.{first_of}
use Rattle.bench_open.specs.Kinds.{lacks_role_kind}

-- the first of those that are there
pub first-book : {R : Type 0} (book : R → Laws) (rs : List R) (d : R) → 0 < length rs → first_of (map book rs) ≡ book (get_or rs 0 d)
first-book book [] d some = absurd (omega arith)
first-book book (r ∷ rs) d some = refl

-- one that fails, and one more that passes
pub all-fails : {R : Type 0} (test : Laws → Bool) (book : R → Laws) (rs : List R) (i : ℕ) (d : R) → i < length rs → test (book (get_or rs i d)) ≡ false
    → false ≡ list_all test (map book rs)
all-fails test book [] i d within is = absurd (omega arith)
all-fails test book (r ∷ rs) zero d within is = rw is refl
all-fails test book (r ∷ rs) (suc i) d within is =
    sym (and_right (test (book r)) (list_all test (map book rs)) (sym (all-fails test book rs i d (omega arith) is)))

pub all-more : {R : Type 0} (test : Laws → Bool) (book : R → Laws) (rs : List R) (i : ℕ) (d : R) → i < length rs → list_all test (map book (take i rs)) ≡ true
    → test (book (get_or rs i d)) ≡ true → list_all test (map book (take (suc i) rs)) ≡ true
all-more test book [] i d within so_far is = absurd (omega arith)
all-more test book (r ∷ rs) zero d within so_far is = rw is refl
all-more test book (r ∷ rs) (suc i) d within so_far is =
    let parts = and_parts (test (book r)) (list_all test (map book (take i rs))) so_far in
    rw (parts.0) (all-more test book rs i d (omega arith) parts.1 is)

-- the laws of an item differ from those of the first
pub fails-first : {R : Type 0} (book : R → Laws) (rs : List R) (i : ℕ) (head item : R) (first laws : Laws) → 0 < length rs → i < length rs → head ≡ get_or rs 0 head
    → item ≡ get_or rs i item → first ≡ book head → laws ≡ book item → is_same_book first laws ≡ false → false ≡ list_all (is_same_book (first_of (map book rs))) (map book rs)
fails-first book rs i head item first laws some within at_head at_item first_is laws_is differ =
    let same : first ≡ first_of (map book rs) = first_is ∙ ap book at_head ∙ sym (first-book book rs head some) in
    all-fails (is_same_book (first_of (map book rs))) book rs i item within
    (ap (λ r. is_same_book (first_of (map book rs)) (book r)) (sym at_item) ∙ ap (is_same_book (first_of (map book rs))) (sym laws_is) ∙ ap (λ f. is_same_book f laws) (sym same) ∙ differ)

alone : (a b : Bool) → a ≡ false → b ≡ (a || b)
alone a b n = rw n refl

by-kinds : (config : Config) → (not (list_all (is_same_book (laws_of config)) config.registries) || lacks_role_kind (laws_of config)) ≡ has_bad_laws config
unfolding lacks_role_kind
by-kinds config = refl

-- the laws of registries are those of a configuration, and they differ, or are the same and lack a kind or not
pub laws-differ : {R : Type 0} (book : R → Laws) (rs : List R) (config : Config) → config.registries ≡ map book rs
    → list_all (is_same_book (first_of (map book rs))) (map book rs) ≡ false → true ≡ has_bad_laws config
laws-differ book rs config are differ =
    sym (or_left (not (list_all (is_same_book (laws_of config)) config.registries)) (lacks_role_kind (laws_of config))
    (ap not (ap (λ (books : List Laws). list_all (is_same_book (first_of books)) books) are ∙ differ))) ∙ by-kinds config

pub laws-kind : {R : Type 0} (book : R → Laws) (rs : List R) (config : Config) (d : R) → 0 < length rs → config.registries ≡ map book rs
    → list_all (is_same_book (first_of (map book rs))) (map book rs) ≡ true → lacks_role_kind (book (get_or rs 0 d)) ≡ has_bad_laws config
laws-kind book rs config d some are same =
    ap lacks_role_kind (sym (ap first_of are ∙ first-book book rs d some))
    ∙ alone (not (list_all (is_same_book (laws_of config)) config.registries)) (lacks_role_kind (laws_of config))
    (ap not (ap (λ (books : List Laws). list_all (is_same_book (first_of books)) books) are ∙ same))
    ∙ by-kinds config
