use Rattle.std.proofs.Common.{◌≡◌, ◌∙◌, ap, subst}
use Rattle.std.specs.Prelude.{IfOk}
use Rattle.bench_spec.specs.Settings.{Settings}
use Rattle.live_threads.proofs.threads.live_with.Goals as goal

-- the world is that of the node that its sockets had
pub returns-in-Ok : goal.returns-in-Ok
returns-in-Ok g c =
    subst (λ (s : Settings). IfOk c.start_and_live.result (λ lived. lived.core.settings ≡ s))
    (ap (λ run. run.settings) (c.into_parts-core.ensures.core ∙ c.into_node.ensures ∙ ap (λ port. port.node) c.apart-port.ensures.node))
    c.start_and_live.ensures
