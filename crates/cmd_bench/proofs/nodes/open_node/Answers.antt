use Rattle.std.proofs.Common.{◌∙◌, List, ap, map}
use Rattle.bench_open.specs.declared.account.Account.{Account}
use Rattle.cmd_bench.proofs.OpenLemmas.{open_is, refused_is}
use Rattle.cmd_bench.proofs.nodes.open_node.Goals as goal

-- the bench was opened with the node's own registries
pub returns-in-Ok : goal.returns-in-Ok
returns-in-Ok g c =
    open_is _ _ c.args.setup _ c.own_registries-own.ensures c.in-Ok.ensures.ok.0 c.in_ok-host.ensures.copy c.is_some-listens.ensures
    (c.in_ok-accounts.ensures ∙ ap (λ (accounts : List Account). map (λ account. account.id) accounts) c.deref.ensures.value) c.in-Ok.ensures.ok.1

-- or the opening is refused
pub returns : goal.returns
returns g c =
    refused_is _ _ c.args.setup _ c.in-Err.error _ c.own_registries-own.ensures c.unbound_at-place.ensures c.in-Err.ensures.fault c.in_ok-opening_text_at-in-Err.ensures
