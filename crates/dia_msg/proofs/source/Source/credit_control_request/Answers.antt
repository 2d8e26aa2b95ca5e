use Rattle.std.proofs.Common.{refl}
use Rattle.dia_msg.proofs.source.Source.credit_control_request.Goals as goal

pub returns : goal.returns
returns c = λ end.
    let rest = c.rest.ensures end in
    let all3 = c.all-3.ensures rest.0 in
    let all2 = c.all-2.ensures all3.0 in
    let perhaps = c.perhaps.ensures all2.0 in
    let all = c.all.ensures perhaps.0 in
    let one5 = c.one-5.ensures all.0 in
    let one4 = c.one-4.ensures one5.0 in
    let one3 = c.one-3.ensures one4.0 in
    let one2 = c.one-2.ensures one3.0 in
    let one = c.one.ensures one2.0 in (
      one.0,
      record {
        kind_is = refl;
        header_is = refl;
        fields_are = (rw c.requires.format at one.1, (rw c.requires.format at one2.1, (rw c.requires.format at one3.1, (rw c.requires.format at one4.1, (rw c.requires.format at c.number.ensures, (rw c.requires.format at one5.1, (rw c.requires.format at c.number-2.ensures, (rw c.requires.format at c.number-3.ensures, (rw c.requires.format at all.1, (rw c.requires.format at c.perhaps_number.ensures, (rw c.requires.format at perhaps.1, (rw c.requires.format at all2.1, (rw c.requires.format at c.perhaps_number-2.ensures, (rw c.requires.format at all3.1, tt))))))))))))));
        rest_is = rw c.requires.format at rest.1;
      },
    )
