use Rattle.std.proofs.Common.{◌∙◌, sym}
use Rattle.std.proofs.lemmas.Slice.Eq.{bytes_eq-Decides}
use Rattle.log_text.specs.DeedLines.{deed_line}
use Rattle.log_text.proofs.DeedLemmas.{no_guess, other_guess}
use Rattle.log_text.proofs.TellLemmas.{deed_is}
use Rattle.log_text.proofs.deed_line.find_deed.Goals as goal

pub returns-in_err-deed-clause-none : goal.returns-in_err-deed-clause-none
returns-in_err-deed-clause-none c = rw c.from_residual.ensures (no_guess c.args.line.now (sym c.in_err-deed.ensures))

pub returns-then-has_deed_line-clause-deed : goal.returns-then-has_deed_line-clause-deed
returns-then-has_deed_line-clause-deed c = record {
  is = deed_is c.args.line.now c.in_ok-deed.deed (sym c.in_ok-deed.ensures);
  has = (bytes_eq-Decides (deed_line c.in_ok-deed.deed) c.args.line.now).0 (sym c.has_deed_line.ensures ∙ c.if-has_deed_line.true);
}

pub returns-else-has_deed_line-clause-none : goal.returns-else-has_deed_line-clause-none
returns-else-has_deed_line-clause-none c =
    other_guess c.args.line.now c.in_ok-deed.deed (sym c.in_ok-deed.ensures) (sym c.has_deed_line.ensures ∙ c.if-has_deed_line.false)
