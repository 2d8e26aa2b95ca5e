use Rattle.dict_text.proofs.NameLemmas.{name-bad, name-good}
use Rattle.dict_text.proofs.entries.text_of.Goals as goal

-- plain text is a name
pub returns-in-Ok : goal.returns-in-Ok
returns-in-Ok c =
    (c.in-Ok.ensures.cases.0, name-good c.args.word.now c.is_plain.result c.is_plain.ensures c.if-not-is_plain.false c.in-Ok.ensures.cases.1)

-- what is no text is none
pub returns-in-Err : goal.returns-in-Err
returns-in-Err c = name-bad c.args.word.now c.is_plain.result c.is_plain.ensures c.if-not-is_plain.false c.in-Err.ensures.cases.0
