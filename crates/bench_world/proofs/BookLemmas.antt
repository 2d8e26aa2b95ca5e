-- The registries of a world have its laws, one for each shard.
use Rattle.std.proofs.Common.{◌≡◌, ℕ, zero, suc, true, List, [], ◌∷◌, None, length, map, refl, sym, ◌∙◌, ap, subst}
use Rattle.std.specs.Prelude.{◌==◌, ◌&&◌, ◌||◌, nat_lt, not, replicate}
use Rattle.std.specs.List.{AllByRecursion as Each, list_all}
use Rattle.std.proofs.lemmas.Bool.{and_parts, eqb-true, not-false, or_parts}
use Rattle.std.proofs.lemmas.List.{length-map, length-replicate}
use Rattle.tab_law.specs.Books.{Laws}
use Rattle.tab_step.specs.Bind.{lacking}
use Rattle.bench_item.specs.Past.{any_after}
use Rattle.bench_item.specs.declared.limit.TheConstants.{MAX_DESKS, MAX_PAGES, MAX_PEERS, MAX_SHARDS}
use Rattle.bench_spec.specs.Opening.{has_bad_laws, has_bad_names, is_bad_account, is_past_limits, is_within, laws_of, opening_refusal, role_kinds, settings_of, unbound}
use Rattle.bench_spec.specs.SameLaws.{is_same_book}
use Rattle.bench_spec.proofs.SameLemmas.{is_same_book-Decides}
use Rattle.bench_spec.specs.Taken.{Run, opened}
use Rattle.bench_spec.specs.declared.opening.OpeningError.{OpeningError}
use Rattle.bench_spec.specs.declared.opening.OpeningError.TheVariants as errors
use Rattle.bench_open.specs.Faults.{IsOpeningError, MayLackMemory}
use Rattle.bench_open.specs.Given.{config_of, opened_as}
use Rattle.bench_open.specs.declared.config.Config.{Config}
use Rattle.bench_open.proofs.ReasonLemmas.{holds-none}

-- books that are all the same as one
all-same : (first : Laws) (books : List Laws) → list_all (is_same_book first) books ≡ true → books ≡ replicate (length books) first
all-same first [] same = refl
all-same first (book ∷ books) same =
    let parts = and_parts (is_same_book first book) (list_all (is_same_book first) books) same in
    ap (λ b. b ∷ books) (sym ((is_same_book-Decides first book).0 parts.0)) ∙ ap (λ bs. first ∷ bs) (all-same first books parts.1)

-- a world that is opened has a registry for each shard, all of the same laws
pub same-books : (config : Config) (books : List Laws) → opening_refusal (config_of config books) ≡ None
    → books ≡ replicate config.shards (laws_of (config_of config books))
same-books config books none =
    let handed = config_of config books in
    let free = holds-none (is_past_limits handed) (has_bad_names handed) (has_bad_laws handed) (unbound handed) (any_after (is_bad_account config.pages) [] (map opened_as config.accounts.items)) none in
    let limits =
    or_parts ((not (is_within MAX_SHARDS config.shards && is_within MAX_PAGES config.pages) || nat_lt MAX_DESKS config.desks) || nat_lt MAX_PEERS (length config.peers.items))
    (not (length books == config.shards)) free.lawful.limits in
    let count : length books ≡ config.shards = eqb-true (length books) config.shards (not-false (length books == config.shards) limits.1) in
    let laws = or_parts (not (list_all (is_same_book (laws_of handed)) books)) (not (length (lacking (laws_of handed).kinds role_kinds) == 0)) free.lawful.laws in
    all-same (laws_of handed) books (not-false (list_all (is_same_book (laws_of handed)) books) laws.0) ∙ ap (λ n. replicate n (laws_of handed)) count

-- of each registry, where they have the laws
pub each-has : {R : Type 0} (book : R → Laws) (rs : List R) (count : ℕ) (laws : Laws) → map book rs ≡ replicate count laws → Each (λ r. book r ≡ laws) rs
each-has book [] count laws same = tt
each-has book (r ∷ rs) zero laws same = absurd cc
each-has book (r ∷ rs) (suc count) laws same = (cc, each-has book rs count laws cc)

pub count-is : {R : Type 0} (book : R → Laws) (rs : List R) (count : ℕ) (laws : Laws) → map book rs ≡ replicate count laws → length rs ≡ count
count-is book rs count laws same = sym (length-map rs book) ∙ ap length same ∙ length-replicate count laws

-- what is said of the books of one list of registries is said of those of a list that is the same
pub opens : {R : Type 0} (book : R → Laws) (xs ys : List R) (config : Config) (core : Run) → xs ≡ ys → opening_refusal (config_of config (map book xs)) ≡ None
    → core ≡ opened (settings_of (config_of config (map book xs)))
    → (opening_refusal (config_of config (map book ys)) ≡ None) × (core ≡ opened (settings_of (config_of config (map book ys))))
opens book xs ys config core same none is = (
  subst (λ rs. opening_refusal (config_of config (map book rs)) ≡ None) same none,
  subst (λ rs. core ≡ opened (settings_of (config_of config (map book rs)))) same is,
)

pub fails : {R : Type 0} (book : R → Laws) (xs ys : List R) (config : Config) (error : OpeningError) → xs ≡ ys
    → IsOpeningError (config_of config (map book xs)) error → IsOpeningError (config_of config (map book ys)) error
fails book xs ys config error same fault = subst (λ rs. IsOpeningError (config_of config (map book rs)) error) same fault

pub may-lack : {R : Type 0} (book : R → Laws) (xs ys : List R) (config : Config) → xs ≡ ys → opening_refusal (config_of config (map book xs)) ≡ None
    → IsOpeningError (config_of config (map book ys)) errors.NoMemory
may-lack book xs ys config same none = subst MayLackMemory (sym (subst (λ rs. opening_refusal (config_of config (map book rs)) ≡ None) same none)) tt
