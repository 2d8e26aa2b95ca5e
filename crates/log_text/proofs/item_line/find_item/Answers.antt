use Rattle.std.proofs.Common.{◌∙◌, sym}
use Rattle.std.proofs.lemmas.Slice.Eq.{bytes_eq-Decides}
use Rattle.step_text.proofs.StepLemmas.{IsBytes-fits}
use Rattle.log_text.specs.Books.{named}
use Rattle.log_text.specs.ItemLines.{item_line}
use Rattle.log_text.specs.Shown.{item_shown}
use Rattle.log_text.proofs.ItemLemmas.{no_guess, other_guess}
use Rattle.log_text.proofs.TellLemmas.{item_is}
use Rattle.log_text.proofs.item_line.find_item.Goals as goal

pub returns-in_err-item-clause-none : goal.returns-in_err-item-clause-none
returns-in_err-item-clause-none c = rw c.from_residual.ensures (no_guess (named c.args.names.now) c.args.line.now (sym c.in_err-item.ensures))

pub returns-then-has_item_line-clause-item : goal.returns-then-has_item_line-clause-item
returns-then-has_item_line-clause-item c =
    let item = item_shown c.in_ok-item.item in
    record {
      is = item_is (named c.args.names.now) c.args.line.now item (IsBytes-fits c.args.line.now c.type_inv.line) (sym c.in_ok-item.ensures);
      has = (bytes_eq-Decides (item_line (named c.args.names.now) item) c.args.line.now).0 (sym c.has_item_line.ensures ∙ c.if-has_item_line.true);
    }

pub returns-else-has_item_line-clause-none : goal.returns-else-has_item_line-clause-none
returns-else-has_item_line-clause-none c =
    other_guess (named c.args.names.now) c.args.line.now (item_shown c.in_ok-item.item) (sym c.in_ok-item.ensures) (sym c.has_item_line.ensures ∙ c.if-has_item_line.false)
