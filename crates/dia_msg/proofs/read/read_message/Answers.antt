use Rattle.std.proofs.Common.{None, Err}
use Rattle.std.proofs.lemmas.List.{take_rest}
use Rattle.dia_avp.proofs.Bytes.{IsBytes-fits}
use Rattle.dia_dict.specs.Dictionary.{known}
use Rattle.dia_tree.specs.Faults.{fault}
use Rattle.dia_msg.proofs.ReadingLaws.{header_first, fault_reading, only_reading}
use Rattle.dia_msg.proofs.AgainLaws.{read_again}
use Rattle.dia_msg.proofs.read.read_message.Goals as goal

pub returns-in-Err-clause-reading : goal.returns-in-Err-clause-reading
returns-in-Err-clause-reading c =
    fault_reading (known c.args.dictionary.now) c.args.octets.now (fault c.in-Err.result None) c.fault_of.result c.fault_of.ensures
    (header_first (known c.args.dictionary.now) c.args.octets.now (fault c.in-Err.result None) (IsBytes-fits _ c.type_inv.octets) c.in-Err.ensures.first)

pub returns-in-Err-clause-only : goal.returns-in-Err-clause-only
returns-in-Err-clause-only c =
    only_reading (known c.args.dictionary.now) c.args.octets.now (Err c.fault_of.result)
    (fault_reading (known c.args.dictionary.now) c.args.octets.now (fault c.in-Err.result None) c.fault_of.result c.fault_of.ensures
    (header_first (known c.args.dictionary.now) c.args.octets.now (fault c.in-Err.result None) (IsBytes-fits _ c.type_inv.octets) c.in-Err.ensures.first))

pub concluded-requires-clause-first : goal.concluded-requires-clause-first
concluded-requires-clause-first c =
    let h = c.in-Ok-survey.ensures.fault in (h.0, rw (c.is_credit.ensures, c.in-Ok.ensures.header, take_rest) at h.1, h.2)

pub concluded-requires-clause-avps : goal.concluded-requires-clause-avps
concluded-requires-clause-avps c = λ none. rw c.as_slice.ensures.value (rw take_rest at (c.in-Ok-survey.ensures.avps none))

pub returns-clause-only : goal.returns-clause-only
returns-clause-only c = only_reading (known c.args.dictionary.now) c.args.octets.now c.concluded.result c.concluded.ensures.reading

pub returns-clause-again : goal.returns-clause-again
returns-clause-again c = read_again c.args.dictionary.now c.args.octets.now c.concluded.result (IsBytes-fits _ c.type_inv.octets) c.concluded.ensures.reading

pub returns-in-Err-survey-clause-only : goal.returns-in-Err-survey-clause-only
returns-in-Err-survey-clause-only c = only_reading (known c.args.dictionary.now) c.args.octets.now c.reading_of_many.result c.reading_of_many.ensures.reading

pub returns-in-Err-survey-clause-again : goal.returns-in-Err-survey-clause-again
returns-in-Err-survey-clause-again c = read_again c.args.dictionary.now c.args.octets.now c.reading_of_many.result (IsBytes-fits _ c.type_inv.octets) c.reading_of_many.ensures.reading
