-- Whether laws have the kinds of all roles.
use Rattle.std.specs.Prelude.{◌==◌, Bool, length, not}
use Rattle.tab_law.specs.Books.{Laws}
use Rattle.tab_step.specs.Bind.{lacking}
use Rattle.bench_spec.specs.Opening.{role_kinds}

-- whether they lack a kind of a role's events
unfoldable pub lacks_role_kind : Laws → Bool
lacks_role_kind laws = not (length (lacking laws.kinds role_kinds) == 0)
