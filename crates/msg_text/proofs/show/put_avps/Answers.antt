use Rattle.std.proofs.Common.{◌++◌, [], ◌∷◌, refl}
use Rattle.std.specs.List.{flat_map}
use Rattle.dia_avp.specs.View.{seen}
use Rattle.dia_avp.proofs.ListLaws.{AvpsThen-push, not_broken}
use Rattle.msg_text.specs.Lines.{avp_line, AvpLines}
use Rattle.msg_text.proofs.Puts.{one_line_more}
use Rattle.msg_text.proofs.show.put_avps.Goals as goal

-- one AVP more, and its line
pub avps-preserved : goal.avps-preserved
avps-preserved c =
    let avps = c.avps.invariant.0 in
    let a = seen c.in-Ok.avp in (
      avps ++ a ∷ [],
      AvpsThen-push _ avps _ a _ c.avps.invariant.1 c.in-Ok.ensures.avp,
      one_line_more c.args.out.now.items _ _ avps a c.avps.invariant.2 c.in_ok-put_avp.ensures,
    )

-- what is left begins with no AVP
pub returns : goal.returns
returns c =
    let avps = c.avps.invariant.0 in
    let lines = flat_map avp_line avps in
    let printed : AvpLines c.args.octets.now lines = record {
      avps = avps;
      rest = c.avps.rest.now;
      whole = c.avps.invariant.1;
      no_more = λ a rest one. not_broken c.avps.rest.now a rest _ one c.in_default.ensures.broken;
      printed = refl;
    } in
    (lines, printed, c.avps.invariant.2)
