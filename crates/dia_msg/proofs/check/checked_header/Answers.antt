use Rattle.std.proofs.Common.{sym, ◌∙◌}
use Rattle.dia_msg.proofs.FaultlessLaws.{header-good}
use Rattle.dia_msg.proofs.check.checked_header.Goals as goal

pub returns : goal.returns
returns c =
    let is = c.header_of-header.ensures in
    let known = sym c.coded.ensures ∙ c.in-Some.is in
    let le = c.if-octets-lt-HEADER_LEN.false in
    record {
      header = is;
      kind = rw is at known;
      whole = le;
      none =
          header-good c.args.octets.now c.header_of-header.result c.in-Some.kind is le c.if-header-octets.false c.if-octets-ne0.false c.if-octets-ne-VERSION.false known
          (c.if-header-application_of.false ∙ c.application_of.ensures);
      first = tt;
    }
