use Rattle.std.proofs.Common.{◌∙◌}
use Rattle.thread_node.proofs.TextLemmas.{all_push, drawn_push}
use Rattle.thread_node.proofs.texts.reach.Goals as goal

pub missing-preserved : goal.missing-preserved
missing-preserved c = (
  all_push (λ text. text.items) _ c.missing.texts.items c.push.new.self.items c.new.result c.in_ok-push.ensures.items
      c.missing.invariant.0,
  drawn_push (λ text. text.items) c.missing.texts.items c.push.new.self.items c.new.result
      c.in_ok-push.ensures.items c.new.ensures.items ∙ c.missing.invariant.1,
)
