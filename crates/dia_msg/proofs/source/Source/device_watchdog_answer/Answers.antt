use Rattle.std.proofs.Common.{refl}
use Rattle.dia_msg.proofs.source.Source.device_watchdog_answer.Goals as goal

pub returns : goal.returns
returns c = λ end.
    let rest = c.rest.ensures end in
    let one2 = c.one-2.ensures rest.0 in
    let one = c.one.ensures one2.0 in (
      one.0,
      record {
        kind_is = refl;
        header_is = refl;
        fields_are = (rw c.requires.format at c.number.ensures, (rw c.requires.format at one.1, (rw c.requires.format at one2.1, tt)));
        rest_is = rw c.requires.format at rest.1;
      },
    )
