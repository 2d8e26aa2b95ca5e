use Rattle.base_text.proofs.HexText.{low_digit, high_digit}
use Rattle.base_text.proofs.text.digit.Goals as goal

pub returns-then-value-lt10 : goal.returns-then-value-lt10
returns-then-value-lt10 c = low_digit c.args.value c.if-value-lt10.true

pub returns-else-value-lt10 : goal.returns-else-value-lt10
returns-else-value-lt10 c = high_digit c.args.value c.requires c.if-value-lt10.false
