use Rattle.std.proofs.Common.{◌<◌, ◌∙◌, List, length, subst}
use Rattle.std.proofs.lemmas.Result.{err_from_is_err_and}
use Rattle.std.specs.Prelude.{is_some, option_map}
use Rattle.config_text.specs.declared.node.NodeConfig.{NodeConfig}
use Rattle.cmd_live.specs.Met.{AreCopiedWhere}
use Rattle.cmd_live.specs.Nodes.{AreApartWhere}
use Rattle.cmd_live.proofs.LivesLemmas.{some_mapped}
use Rattle.cmd_live.proofs.RefusalLemmas.{twice_err}
use Rattle.cmd_live.proofs.run.live_setups.Goals as goal

-- two nodes would have one log
pub returns-in_err-check_hosts-clause-stopped : goal.returns-in_err-check_hosts-clause-stopped
returns-in_err-check_hosts-clause-stopped g c =
    let end = c.from_residual-in_err-check_hosts in
    let p = err_from_is_err_and end.result end.ensures.1 in
    twice_err g.I.ByteSource.remaining g.I.ByteSource.reads g.I.ByteSource.failures (option_map (λ host. host.now) c.args.words.node) (option_map (λ folder. folder.now) c.args.words.log)
    c.args.setups.items c.args.source.now (g.W.FileSink.failed c.args.files.now) _ _ p.0 end.result p.1 p.2 (c.deref.ensures.value ∙ c.in_ok-nodes.ensures.nodes) c.in_err-check_hosts.ensures.refused

-- nodes lived, each as it was read
pub returns-clause-lived : goal.returns-clause-lived
returns-clause-lived g c =
    let is_logged = is_some (option_map (λ folder. folder.now) c.args.words.log) in
    let nodes = c.in_ok-nodes.ensures.nodes in record {
      some = subst (λ (ns : List NodeConfig). 0 < length ns) nodes c.in_ok-nodes.ensures.some;
      apart = subst (AreApartWhere is_logged) (c.deref.ensures.value ∙ nodes) c.in_ok-check_hosts.ensures.apart;
      livings = c.in_ok-nodes.nodes.livings;
      as_read = c.in_ok-nodes.ensures.livings;
      with_copies = g.W.FileSink.files c.copy_where.new.files;
      copied =
          subst (λ (ns : List NodeConfig). AreCopiedWhere g.I.ByteSource.remaining g.I.ByteSource.reads g.I.ByteSource.failures is_logged ns c.args.source.now
          c.copy_where.new.source (g.W.FileSink.files c.args.files.now) (g.W.FileSink.files c.copy_where.new.files)) (c.deref-2.ensures.value ∙ nodes) c.in_ok-copy_where.ensures.copied;
      ended = rw (c.is_some.ensures ∙ some_mapped (λ folder. folder.now) c.args.words.log, nodes, c.in_ok-copy_where.ensures.kept) at c.in_ok-live_all.ensures;
    }
