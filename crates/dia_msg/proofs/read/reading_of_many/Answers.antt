use Rattle.std.proofs.lemmas.List.{take_rest}
use Rattle.dia_msg.proofs.read.reading_of_many.Goals as goal

pub concluded-requires-clause-first : goal.concluded-requires-clause-first
concluded-requires-clause-first c =
    let h = c.in-Ok.ensures.fault in (h.0, rw (c.is_credit-is_credit.ensures, c.header_of.ensures, take_rest) at h.1, h.2)

pub concluded-requires-clause-avps : goal.concluded-requires-clause-avps
concluded-requires-clause-avps c = λ none. rw c.as_slice.ensures.value (rw take_rest at (c.in-Ok.ensures.avps none))
