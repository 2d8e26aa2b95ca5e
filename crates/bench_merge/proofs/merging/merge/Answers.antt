use Rattle.std.proofs.Common.{◌∙◌, ◌+◌, List, ℕ, length, set, subst, sym}
use Rattle.std.specs.Prelude.{Some}
use Rattle.bench_merge.specs.declared.merging.Placed.{Placed}
use Rattle.bench_merge.specs.Heads.{Merging, UpTo}
use Rattle.bench_merge.proofs.StepLemmas.{Merging-more}
use Rattle.bench_merge.proofs.merging.merge.Goals as goal

pub loop-next-preserved : goal.loop-next-preserved
loop-next-preserved c =
    let heads = c.loop-next.heads.items in
    let next = c.in-Some.next in
    let least : UpTo c.args.parts.now heads (length c.args.parts.now) (Some next) =
    subst (λ (hs : List ℕ). UpTo c.args.parts.now hs (length c.args.parts.now) (Some next)) c.deref.ensures.value c.in-Some.ensures in
    subst (λ (o : List Placed). Merging c.args.parts.now (set heads next.part (next.place + 1)) o (Some next))
    (sym c.in_ok-push.ensures.items)
    (Merging-more c.args.parts.now heads c.loop-next.order.items c.loop-next.last next c.loop-next.invariant least
    (sym c.is_late.ensures ∙ c.if-is_late.false))
