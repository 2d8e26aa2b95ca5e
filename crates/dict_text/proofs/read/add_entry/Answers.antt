use Rattle.dict_text.specs.Read.{refusal_of}
use Rattle.dict_text.specs.Seen.{seen_entry}
use Rattle.dict_text.specs.Wrong.{seen_mistake}
use Rattle.dict_text.proofs.NameLemmas.{added-refused}
use Rattle.dict_text.proofs.read.add_entry.Goals as goal

-- the AVP is refused, and the glossary is as it was
pub returns-clause-err : goal.returns-clause-err
returns-clause-err c =
    let e = seen_entry c.args.entry in
    added-refused c.args.glossary.now _ e (refusal_of c.args.glossary.now e) c.in-Err-Fault.field-0 c.in-Err-Fault.fault c.refused_want-want.result
    (seen_mistake c.at_word.result) c.in-Err-Fault.ensures.fault c.in-Err-Fault.field-0-is c.in-Err-Fault.ensures.err c.refused_want-want.ensures c.at_word.ensures
