use Rattle.std.proofs.Common.{◌≡◌, Some, ap, get_or, is_none, not, sym, true, ◌∙◌}
use Rattle.base_list.specs.Named.{place_of}
use Rattle.tab_step.specs.Moves.{name_at}
use Rattle.tab_step.proofs.BindLemmas.{first-filter, name-is}
use Rattle.bench_open.proofs.unbound.first_lacking.Goals as goal

pub returns-then-is_none : goal.returns-then-is_none
returns-then-is_none g c =
    let names = c.args.names.now in
    let number = get_or c.args.numbers.now c.loop-number.number-index 0 in
    let named : c.as_slice-name.result.now ≡ name_at names number =
    name-is names c.as_slice.result.now number c.index-as_slice-number.result c.as_slice-name.result.now c.as_slice.ensures c.index-as_slice-number.is c.as_slice-name.ensures (c.requires c.loop-number.number-index 0 c.loop-number-test.true) in
    let none : is_none (place_of (name_at names number) c.args.entries.now) ≡ true =
    ap (λ n. is_none (place_of n c.args.entries.now)) (sym named) ∙ ap is_none (sym c.find.ensures.place) ∙ ap not (c.is_none.ensures ∙ ap not c.if-is_none.true) in
    ap Some named
    ∙ sym (first-filter (λ name. is_none (place_of name c.args.entries.now)) (name_at names) c.args.numbers.now c.loop-number.number-index 0 c.loop-number-test.true c.loop-number.invariant none)
