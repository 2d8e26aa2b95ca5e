-- A desk that stays where it is.
use Rattle.std.proofs.Common.{None, inl, refl}
use Rattle.bench_spec.specs.Settings.{Settings}
use Rattle.live_desk.specs.declared.desk.Desk.{Desk}
use Rattle.thread_node.specs.Told.{Stayed}

-- it was not looked
pub stays : (settings : Settings) (desk : Desk) → Stayed settings desk desk
stays settings desk = record {
  seen = record { settings = settings; machine_of = λ key. None };
  of_bench = refl;
  stayed = inl refl;
}

pub ruleset staying = (stays)
