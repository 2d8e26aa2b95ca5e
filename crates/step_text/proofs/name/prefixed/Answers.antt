use Rattle.std.proofs.Common.{◌≡◌, ◌++◌, subst, sym, arith}
use Rattle.std.proofs.lemmas.Grind.{common_steps}
use Rattle.hex.specs.Hex.{IsBytes}
use Rattle.step_text.specs.Names.{prefix_of}
use Rattle.step_text.proofs.StepLemmas.{IsBytes-fits}
use Rattle.step_text.proofs.ShownLemmas.{key_name-bytes}
use Rattle.step_text.proofs.name.prefixed.Goals as goal

pub returns-clause-octets : goal.returns-clause-octets
returns-clause-octets c =
    let is : c.extend_from_slice-2.new.self.items ≡ prefix_of c.args.role ++ c.args.name.now = grind (arith, common_steps) in
    subst IsBytes (sym is) (key_name-bytes (record { role = c.args.role; name = c.args.name.now }) (IsBytes-fits c.args.name.now c.type_inv.name))
