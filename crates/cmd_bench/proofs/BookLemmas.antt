-- The registries of a bench that was opened have its laws, one for each shard.
use Rattle.std.proofs.Common.{◌≡◌, true, List, [], ◌∷◌, None, ap, length, map, refl, subst, sym, ◌∙◌}
use Rattle.std.specs.Prelude.{◌==◌, ◌&&◌, ◌||◌, nat_lt, not, replicate}
use Rattle.std.specs.List.{list_all}
use Rattle.std.proofs.lemmas.Bool.{and_parts, eqb-true, not-false, or_parts}
use Rattle.tab_law.specs.Books.{Laws}
use Rattle.tab_step.specs.Bind.{lacking}
use Rattle.bench_item.specs.Past.{any_after}
use Rattle.bench_item.specs.declared.limit.TheConstants.{MAX_DESKS, MAX_PAGES, MAX_PEERS, MAX_SHARDS}
use Rattle.bench_open.proofs.ReasonLemmas.{holds-none}
use Rattle.bench_open.specs.Given.{config_of, opened_as}
use Rattle.bench_open.specs.declared.account.Account.{Account}
use Rattle.bench_open.specs.declared.config.Config.{Config}
use Rattle.bench_script.specs.Ran.{IsRunBy}
use Rattle.bench_spec.proofs.SameLemmas.{is_same_book-Decides}
use Rattle.bench_spec.specs.Opening.{has_bad_laws, has_bad_names, is_bad_account, is_past_limits, is_within, laws_of, opening_refusal, role_kinds, settings_of, unbound}
use Rattle.bench_spec.specs.SameLaws.{is_same_book}
use Rattle.bench_spec.specs.Taken.{Run, opened}

-- books that are all the same as one
all_same : (first : Laws) (books : List Laws) → list_all (is_same_book first) books ≡ true → books ≡ replicate (length books) first
all_same first [] same = refl
all_same first (book ∷ books) same =
    let parts = and_parts (is_same_book first book) (list_all (is_same_book first) books) same in
    ap (λ b. b ∷ books) (sym ((is_same_book-Decides first book).0 parts.0)) ∙ ap (λ bs. first ∷ bs) (all_same first books parts.1)

-- where nothing is in the way there is a book for each shard, all of the same laws
pub same_books : (config : Config) (books : List Laws) → opening_refusal (config_of config books) ≡ None
    → books ≡ replicate config.shards (laws_of (config_of config books))
same_books config books none =
    let handed = config_of config books in
    let free = holds-none (is_past_limits handed) (has_bad_names handed) (has_bad_laws handed) (unbound handed) (any_after (is_bad_account config.pages) [] (map opened_as config.accounts.items)) none in
    let limits =
    or_parts ((not (is_within MAX_SHARDS config.shards && is_within MAX_PAGES config.pages) || nat_lt MAX_DESKS config.desks) || nat_lt MAX_PEERS (length config.peers.items))
    (not (length books == config.shards)) free.lawful.limits in
    let count : length books ≡ config.shards = eqb-true (length books) config.shards (not-false (length books == config.shards) limits.1) in
    let laws = or_parts (not (list_all (is_same_book (laws_of handed)) books)) (not (length (lacking (laws_of handed).kinds role_kinds) == 0)) free.lawful.laws in
    all_same (laws_of handed) books (not-false (list_all (is_same_book (laws_of handed)) books) laws.0) ∙ ap (λ n. replicate n (laws_of handed)) count

-- so they are those that it is run by
pub run_by : (config : Config) (books : List Laws) (core : Run) → opening_refusal (config_of config books) ≡ None
    → core ≡ opened (settings_of (config_of config books)) → IsRunBy core books
run_by config books core none is =
    subst (λ (r : Run). IsRunBy r books) (sym is) (let open_one : IsRunBy (opened (settings_of (config_of config books))) books = record { same = same_books config books none } in open_one)

-- the numbers of accounts as they are handed in
pub ids_same : (accounts : List Account) → map (λ account. account.id) accounts ≡ map (λ account. account.id) (map opened_as accounts)
ids_same [] = refl
ids_same (account ∷ accounts) = ap (λ ids. account.id ∷ ids) (ids_same accounts)
