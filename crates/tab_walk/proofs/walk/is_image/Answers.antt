use Rattle.std.proofs.Common.{sym, ◌∙◌}
use Rattle.tab_walk.proofs.WalkLemmas.{is_image-blank, is_image-first, is_image-none}
use Rattle.tab_walk.proofs.walk.is_image.Goals as goal

pub returns-then-not-is_blank : goal.returns-then-not-is_blank
returns-then-not-is_blank c =
    let other = sym c.is_blank.ensures ∙ c.if-not-is_blank.true in
    c.is_hex_digit.ensures ∙ sym (c.loop-c.invariant ∙ is_image-first c.args.text.now c.loop-c.c-index c.loop-c-test.true other)

pub loop-c-preserved : goal.loop-c-preserved
loop-c-preserved c =
    let blank = sym c.is_blank.ensures ∙ c.if-not-is_blank.false in
    c.loop-c.invariant ∙ is_image-blank c.args.text.now c.loop-c.c-index c.loop-c-test.true blank

pub returns : goal.returns
returns c = sym (c.loop-c.invariant ∙ is_image-none c.args.text.now c.loop-c.c-index c.loop-c-test.false)
