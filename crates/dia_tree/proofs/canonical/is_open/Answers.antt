use Rattle.std.proofs.Common.{arith, sym, ◌∙◌}
use Rattle.dia_avp.specs.View.{seen}
use Rattle.dia_dict.specs.Dictionary.{known}
use Rattle.dia_tree.proofs.CanonicalLaws.{canonical-plain}
use Rattle.dia_tree.proofs.CanonicalLemmas.{none_below}
use Rattle.dia_tree.proofs.canonical.is_open.Goals as goal

pub returns-then-room-gt0-clause-shut : goal.returns-then-room-gt0-clause-shut
returns-then-room-gt0-clause-shut c = λ shut. canonical-plain (known c.args.dictionary.now) c.args.room (seen c.args.avp.now) (sym c.is_grouped.ensures ∙ shut)

pub returns-else-room-gt0-clause-shut : goal.returns-else-room-gt0-clause-shut
returns-else-room-gt0-clause-shut c = λ shut. none_below (known c.args.dictionary.now) c.args.room (seen c.args.avp.now) (omega arith)
