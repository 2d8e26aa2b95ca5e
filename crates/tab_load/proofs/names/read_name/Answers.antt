use Rattle.std.proofs.Common.{drop, sym, ◌∙◌}
use Rattle.std.proofs.lemmas.List.{take_rest}
use Rattle.tab_load.proofs.NameLemmas.{name-stands, name-wrong}
use Rattle.tab_load.proofs.names.read_name.Goals as goal

pub returns-in-None-clause-stands : goal.returns-in-None-clause-stands
returns-in-None-clause-stands g c =
    let rest = take_rest c.args.octets.now c.args.at in
    rw rest (name-stands (drop c.args.at c.args.octets.now) c.first_number-size.result (rw rest at c.first_number-size.ensures) (rw rest at c.if-rest-size.false))

pub returns-in-Some-clause-err : goal.returns-in-Some-clause-err
returns-in-Some-clause-err g c =
    let rest = take_rest c.args.octets.now c.args.at in
    name-wrong c.args.bound c.args.entries.now c.args.before.now (drop c.args.at c.args.octets.now) c.first_number-size.result c.in-Some.fault (rw rest at c.first_number-size.ensures) (rw rest at c.if-rest-size.false) (rw rest at (sym c.name_fault.ensures ∙ c.in-Some.is))
