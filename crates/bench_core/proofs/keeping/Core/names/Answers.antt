use Rattle.std.proofs.Common.{◌≡◌, ◌∙◌, ap, map, refl, subst}
use Rattle.bench_item.specs.declared.key.Role.{Role}
use Rattle.bench_move.specs.Tables as move
use Rattle.bench_spec.specs.World.{names_of}
use Rattle.bench_core.specs.Naming.{all_named}
use Rattle.bench_core.proofs.NameLemmas.{named-log, table-same}
use Rattle.bench_core.proofs.keeping.Core.names.Goals as goal

pub returns-clause-kinds : goal.returns-clause-kinds
returns-clause-kinds c =
    subst (λ run. map (λ kind. kind.name) c.self.inside.roles.laws.kinds ≡ (names_of run.settings run.log).kinds) c.self.view_is refl

pub returns-clause-states : goal.returns-clause-states
returns-clause-states c =
    subst (λ run. (role : Role) → (move.table_of c.self.inside.roles role).states ≡ (names_of run.settings run.log).states role) c.self.view_is
    (λ role. ap (λ t. t.states) (table-same c.self.inside role))

pub returns-clause-machines : goal.returns-clause-machines
returns-clause-machines c =
    subst (λ run. all_named c.deref.result.now ≡ (names_of run.settings run.log).machines) c.self.view_is
    (ap all_named c.deref.ensures.value ∙ named-log c.self.inside c.self.invariant)
