use Rattle.std.proofs.Common.{◌∙◌, List, Some, ap, map, sym}
use Rattle.base_device.specs.declared.told.Told.{Told}
use Rattle.bench_open.specs.declared.account.Account.{Account}
use Rattle.cmd_bench.proofs.BookLemmas.{ids_same, run_by}
use Rattle.cmd_bench.proofs.RunLemmas.{refused_outcome, runs_of}
use Rattle.cmd_bench.proofs.opening.run_with.Goals as goal

-- the registries are those that it was opened with
pub run_in-requires : goal.run_in-requires
run_in-requires g c = run_by c.args.config _ c.in-Ok.core c.in-Ok.ensures.ok.0 c.in-Ok.ensures.ok.1

-- a script is run on the bench that was opened
pub returns-in-Ok : goal.returns-in-Ok
returns-in-Ok g c =
    runs_of _ c.args.script.now c.args.shown c.in-Ok.core c.deref-in-Ok.result.now c.run_in.result c.in-Ok.ensures.ok.0 c.in-Ok.ensures.ok.1
    (c.deref-in-Ok.ensures.value
    ∙ (c.in_ok-accounts.ensures
    ∙ (ap (λ (accounts : List Account). map (λ account. account.id) accounts) c.deref.ensures.value ∙ ids_same c.args.config.accounts.items)))
    c.run_in.ensures

-- or the opening is refused
pub returns : goal.returns
returns g c =
    refused_outcome _ c.args.script.now c.args.shown c.unbound_at-place.result c.in-Err.error c.refusal.result c.unbound_at-place.ensures c.in-Err.ensures.fault
    (c.in_ok-opening_text_at-in-Err.ensures ∙ ap (λ (o : Told). Some o.text.items) (sym c.refusal.ensures))
    (ap (λ (o : Told). o.refused) c.refusal.ensures)
