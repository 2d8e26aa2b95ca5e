use Rattle.std.proofs.Common.{◌∙◌, inl, inr, refl, sym}
use Rattle.std.specs.Prelude.{is_some, option_map}
use Rattle.cmd_live.specs.Nodes.{nodes_of}
use Rattle.cmd_live.proofs.ToldLemmas.{tells_nodes}
use Rattle.cmd_live.proofs.run.live.Goals as goal

-- the seconds are no number
pub returns-in_default-clause-as_asked : goal.returns-in_default-clause-as_asked
returns-in_default-clause-as_asked g c = inl (record {
  wrong = sym c.seconds_of.ensures ∙ c.in_default.is;
  unread = refl;
  unwritten = refl;
  told = rw c.as_bytes.ensures.value at c.tell.ensures.told;
})

-- the nodes lived
pub returns-in-Ok-live_setups-clause-as_asked : goal.returns-in-Ok-live_setups-clause-as_asked
returns-in-Ok-live_setups-clause-as_asked g c = inr (inr (inr (record {
  count = c.in-Some.seconds;
  counted = sym c.seconds_of.ensures ∙ c.in-Some.is;
  setups = c.in-Ok.setups.items;
  mid = c.read_nodes.new.source;
  read = c.in-Ok.ensures.setups;
  text = c.in-Ok-live_setups.told.text.items;
  status = c.in-Ok-live_setups.told.status;
  lived = c.in-Ok-live_setups.ensures.lived;
  told = rw c.deref.ensures.value at c.tell-in-Ok-live_setups.ensures.told;
})))

-- something stood in their way
pub returns-in-Err-live_setups-clause-as_asked : goal.returns-in-Err-live_setups-clause-as_asked
returns-in-Err-live_setups-clause-as_asked g c = inr (inr (inl (record {
  setups = c.in-Ok.setups.items;
  mid = c.read_nodes.new.source;
  read = c.in-Ok.ensures.setups;
  stop = c.in-Err-live_setups.stop;
  cause = c.in-Err-live_setups.ensures.stopped;
  told = c.tell_stop.ensures.told;
})))

-- nodes that lived ask for no other words
pub returns-in-Ok-live_setups-clause-usage : goal.returns-in-Ok-live_setups-clause-usage
returns-in-Ok-live_setups-clause-usage g c = λ usage. absurd
    (tells_nodes g.O.ByteSink.contents g.O.ByteSink.failures g.O.ByteSink.idle c.args.sink.now c.tell-in-Ok-live_setups.new.sink (is_some (option_map (λ folder. folder.now) c.args.words.log))
    _ (g.W.FileSink.files c.live_setups.new.files) (g.W.FileSink.failed c.args.files.now) (g.W.FileSink.failed c.live_setups.new.files)
    (nodes_of (option_map (λ host. host.now) c.args.words.node) c.in-Ok.setups.items)
    _ c.in-Ok-live_setups.told.text.items c.in-Ok-live_setups.told.status
    c.tell-in-Ok-live_setups.result c.in-Ok-live_setups.ensures.lived.ended.told (rw c.deref.ensures.value at c.tell-in-Ok-live_setups.ensures.told) usage)
