use Rattle.std.proofs.Common.{◌<◌, ◌≤◌, get_or, arith}
use Rattle.std.proofs.lemmas.Bool.Decides.{nat_tests}
use Rattle.base_text.specs.declared.digits.TheConstants.{VALUES}
use Rattle.base_text.proofs.DigitLemmas.{value_read, value_refused}
use Rattle.base_text.proofs.digits.digit_value.Goals as goal

pub returns-then-value-lt16 : goal.returns-then-value-lt16
returns-then-value-lt16 c =
    let small : get_or VALUES c.from.result 0 < 16 = grind (arith, nat_tests) in
    rw (← c.from.ensures) (value_read c.from.result (omega arith) small)

pub returns-else-value-lt16 : goal.returns-else-value-lt16
returns-else-value-lt16 c =
    let large : 16 ≤ get_or VALUES c.from.result 0 = grind (arith, nat_tests) in
    rw (← c.from.ensures) (value_refused c.from.result (omega arith) large)
