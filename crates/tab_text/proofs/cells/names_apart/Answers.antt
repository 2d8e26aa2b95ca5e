use Rattle.std.proofs.Common.{◌≡◌, ℕ, List, [], ◌++◌, Option, None, Some, option_map, true, refl, rules}
use Rattle.std.specs.Str.{bytes_eq}
use Rattle.tab_text.specs.Cells.{names_apart}
use Rattle.tab_text.specs.Reading.{cell_words}
use Rattle.tab_text.proofs.CellsLemmas.{names-last, names-more}
use Rattle.tab_text.proofs.cells.names_apart.Goals as goal

map-nothing : (found : Option (List (List ℕ))) → found ≡ option_map (λ more. [] ++ more) found
map-nothing None = refl
map-nothing (Some names) = refl

pub loop-name-init : goal.loop-name-init
loop-name-init c = ([], c.new-names.ensures, map-nothing (names_apart c.args.between.now (cell_words c.args.words.now)))

pub returns-in-None : goal.returns-in-None
returns-in-None c =
    let so_far = c.loop-name.invariant in
    names-last c.args.between.now _ _ _ so_far.0 c.in_ok-name.name.now c.name_of.result _ _ so_far.2 c.in_ok-name.ensures c.in-None.ensures c.if-not-is_name.ensures c.name_of.ensures c.push.ensures so_far.1

pub loop-name-preserved : goal.loop-name-preserved
loop-name-preserved c =
    let so_far = c.loop-name.invariant in
    let same : bytes_eq c.in-Some.word.now c.args.between.now ≡ true = search rules in
    names-more c.args.between.now _ _ _ _ so_far.0 c.in_ok-name.name.now c.in-Some.word.now c.name_of.result _ _ so_far.2 c.in_ok-name.ensures c.in-Some.ensures c.if-not-is_name.ensures same c.name_of.ensures c.push.ensures so_far.1
