use Rattle.std.proofs.Common.{sym, ◌∙◌}
use Rattle.dia_dict.proofs.PlaceLemmas.{found_at}
use Rattle.dia_dict.proofs.table.Table.find.Goals as goal

pub returns-in-Some : goal.returns-in-Some
returns-in-Some c =
    sym (found_at c.args.self.now _ c.args.code c.args.vendor c.in-Some.definition.now c.in-Some.ensures.once (sym c.in-Some.ensures.place) (sym c.is_of.ensures ∙ c.if-is_of.true))
