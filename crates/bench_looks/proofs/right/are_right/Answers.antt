use Rattle.std.proofs.Common.{◌≡◌, ◌∙◌, ◌+◌, ◌≤◌, arith, inl, inr, length, map, refl, subst, sym}
use Rattle.std.proofs.lemmas.Bool.{cases_lt, false≢true}
use Rattle.std.proofs.lemmas.List.{length-map}
use Rattle.bench_looks.specs.Parts.{DeskIsRight}
use Rattle.bench_looks.proofs.RightLemmas.{are-right, desk-right}
use Rattle.bench_parts.specs.Views.{kept_in}
use Rattle.bench_looks.proofs.right.are_right.Goals as goal

pub returns-then-not-branch : goal.returns-then-not-branch
returns-then-not-branch c = (
  λ yes. absurd (false≢true yes),
  λ right.
      absurd
      (false≢true (sym c.if-not-branch.true
      ∙ c.in_ok-is_right_desk.ensures.1
      (desk-right c.args.core.now.settings (map kept_in c.args.parts.now) c.loop-desk.desk c.requires.some right))),
)

pub loop-desk-preserved : goal.loop-desk-preserved
loop-desk-preserved c = λ desk l.
    elim (cases_lt desk c.loop-desk.desk) [
      | inl before ↦ c.loop-desk.invariant desk before
      | inr past ↦
          let here : c.loop-desk.desk ≡ desk = omega (arith, l, past) in
          subst (DeskIsRight c.args.core.now.settings (map kept_in c.args.parts.now)) here
          (c.in_ok-is_right_desk.ensures.0 c.if-not-branch.false)
    ]

pub returns : goal.returns
returns c =
    let kept = map kept_in c.args.parts.now in
    let settings = c.args.core.now.settings in
    let over = c.loop-desk-test.false in
    let less = c.saturating_sub-desks.ensures in
    let first = c.shards-first.ensures.count in
    let long = length-map c.args.parts.now kept_in in
    let few : length kept ≤ settings.node.shards + 2 + c.loop-desk.desk = omega (arith, over, less, first, long) in (
      λ yes. are-right settings kept c.loop-desk.desk c.requires.some few c.loop-desk.invariant,
      λ right. refl,
    )
