use Rattle.std.proofs.Common.{◌∙◌, List, Option, ap, false}
use Rattle.std.specs.Option.{option_map_or}
use Rattle.base_list.specs.declared.named.Named.{Named}
use Rattle.tab_law.specs.Guards.{says_yes}
use Rattle.tab_law.specs.declared.law.Test.{Test}
use Rattle.bench_show.proofs.why.says_yes.Goals as goal

-- by the guard's law
pub returns-in-Some : goal.returns-in-Some
returns-in-Some c =
    c.holds.ensures ∙ ap (λ (o : Option (Named (List Test))). option_map_or (λ entry. says_yes entry.value c.args.scene.now) o false) c.in-Some.ensures

-- there is none
pub returns-in-None : goal.returns-in-None
returns-in-None c =
    ap (λ (o : Option (Named (List Test))). option_map_or (λ entry. says_yes entry.value c.args.scene.now) o false) c.in-None.ensures
