use Rattle.std.proofs.Common.{refl}
use Rattle.dia_msg.proofs.source.Source.re_auth_answer.Goals as goal

pub returns : goal.returns
returns c = λ end.
    let rest = c.rest.ensures end in
    let one3 = c.one-3.ensures rest.0 in
    let one2 = c.one-2.ensures one3.0 in
    let one = c.one.ensures one2.0 in (
      one.0,
      record {
        kind_is = refl;
        header_is = refl;
        fields_are = (rw c.requires.format at one.1, (rw c.requires.format at c.number.ensures, (rw c.requires.format at one2.1, (rw c.requires.format at one3.1, tt))));
        rest_is = rw c.requires.format at rest.1;
      },
    )
