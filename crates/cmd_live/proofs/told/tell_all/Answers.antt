use Rattle.std.proofs.Common.{◌<◌, List, [], ℕ, Option, arith, length, rules, subst, sym, take}
use Rattle.std.proofs.lemmas.List.{take_all}
use Rattle.base_device.specs.declared.status.Status.TheVariants as statuses
use Rattle.cmd_live.specs.Told.{AreTold, nothing}
use Rattle.cmd_live.proofs.ToldLemmas.{told_next}
use Rattle.cmd_live.proofs.told.tell_all.Goals as goal
use Rattle.config_text.specs.declared.node.NodeConfig.{NodeConfig}
use Rattle.live_turns.specs.declared.turns.Lived.{Lived}

-- none is
pub nodes-init : goal.nodes-init
nodes-init g c =
    let written = g.W.FileSink.files c.args.files.now in
    let failed = g.W.FileSink.failed c.args.files.now in
    subst (λ (text : List ℕ). AreTold c.args.is_logged written failed [] [] text statuses.Done written failed) (sym c.new.ensures.items) nothing

-- one more is
pub nodes-preserved : goal.nodes-preserved
nodes-preserved g c =
    let within : c.nodes.place < length c.args.nodes.now = search rules in
    told_next c.args.is_logged (g.W.FileSink.files c.args.files.now) _ _ (g.W.FileSink.failed c.args.files.now) _ _ c.args.nodes.now c.args.lived.now c.nodes.place _ _ _ _ _ _ _ within
    (omega (arith, within, c.requires)) c.index-nodes-place.is c.in-Some.ensures c.nodes.invariant c.in_ok-tell_node.ensures

-- all are
pub returns : goal.returns
returns g c =
    subst (λ (lived : List (Option Lived)). AreTold c.args.is_logged (g.W.FileSink.files c.args.files.now) (g.W.FileSink.failed c.args.files.now) c.args.nodes.now lived c.nodes.told.text.items c.nodes.told.status
    (g.W.FileSink.files c.nodes.files) (g.W.FileSink.failed c.nodes.files)) (take_all c.nodes.place c.args.lived.now (omega (arith, c.requires)))
    (subst (λ (nodes : List NodeConfig). AreTold c.args.is_logged (g.W.FileSink.files c.args.files.now) (g.W.FileSink.failed c.args.files.now) nodes (take c.nodes.place c.args.lived.now) c.nodes.told.text.items c.nodes.told.status
    (g.W.FileSink.files c.nodes.files) (g.W.FileSink.failed c.nodes.files)) (take_all c.nodes.place c.args.nodes.now (omega arith)) c.nodes.invariant)
