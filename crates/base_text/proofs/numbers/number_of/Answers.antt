use Rattle.std.proofs.Common.{◌≡◌, ◌+◌, ◌*◌, ◌-◌, take, get_or, arith, sym, ◌∙◌}
use Rattle.std.proofs.lemmas.List.{take_all}
use Rattle.std.proofs.lemmas.List.Sums.{fold_more}
use Rattle.base_text.specs.Numbers.{decimal_value}
use Rattle.base_text.proofs.NumberLemmas.{number_of-digits, number_of-empty, number_of-large, number_of-other}
use Rattle.base_text.proofs.numbers.number_of.Goals as goal

pub returns-then-is_empty : goal.returns-then-is_empty
returns-then-is_empty c = number_of-empty c.args.word.now (sym c.is_empty.ensures ∙ c.if-is_empty.true)

-- a character that is no digit
pub returns-then-not-is_digit : goal.returns-then-not-is_digit
returns-then-not-is_digit c = number_of-other c.args.word.now c.loop-c.c-index c.loop-c-test.true (sym c.is_digit.ensures ∙ c.if-not-is_digit.true)

-- the number is too large with this digit
pub returns-then-value-digit : goal.returns-then-value-digit
returns-then-value-digit c =
    let word = c.args.word.now in
    let i = c.loop-c.c-index in
    let step : decimal_value (take (i + 1) word) ≡ decimal_value (take i word) * 10 + (get_or word i 0 - 48) =
    fold_more (λ value digit. value * 10 + (digit - 48)) 0 word i 0 c.loop-c-test.true in
    number_of-large word (i + 1) (omega (arith, step, c.loop-c.invariant.0, c.from-digit.ensures, c.if-value-digit.true))

-- all characters are digits
pub returns : goal.returns
returns c =
    let word = c.args.word.now in
    let all : take c.loop-c.c-index word ≡ word = take_all c.loop-c.c-index word (omega arith) in
    number_of-digits word c.loop-c.value (sym c.is_empty.ensures ∙ c.if-is_empty.false) (rw all at c.loop-c.invariant.1) (rw all at c.loop-c.invariant.0) c.loop-c.invariant.2
