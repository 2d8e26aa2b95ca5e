use Rattle.std.proofs.Common.{◌∙◌, ap, subst, sym}
use Rattle.bench_spec.specs.Taken.{Run}
use Rattle.thread_node.specs.Ended.{HasGatheredOn}
use Rattle.thread_node.specs.Nodes.{NodeView, fed_of}
use Rattle.thread_node.proofs.EndLemmas.{ends_by}
use Rattle.thread_node.proofs.node.ThreadNode.end.Goals as goal

-- all that was fed was handed over, and gathered
pub returns-in-Some-end-clause-ends : goal.returns-in-Some-end-clause-ends
returns-in-Some-end-clause-ends g c =
    let there = sym c.take.ensures.value ∙ c.in-Some.is in
    let fed = c.in-Some-end.ensures.fed ∙ sym (ap (fed_of g.B.InThreads.fed) there) ∙ ap (λ (v : NodeView). v.fed) c.self.view_is in
    let gathers = subst (λ (run : Run). HasGatheredOn run c.gathered.new.core c.in-Some-end.logged c.gathered.result)
    (ap (λ (v : NodeView). v.run) c.self.view_is) c.gathered.ensures in
    ends_by c.args.self.now c.gathered.new.core c.in-Some-end.logged c.gathered.result fed gathers
