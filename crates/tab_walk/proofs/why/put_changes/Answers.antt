use Rattle.std.proofs.Common.{◌++◌, ◌∙◌, ap, sym, append-nil, append_assoc, List, ℕ}
use Rattle.tab_walk.specs.Whys.{change_line, changes_below}
use Rattle.tab_walk.proofs.WhyLemmas.{changes_below-more, changes_below-none}
use Rattle.tab_walk.proofs.why.put_changes.Goals as goal

-- no register is put
pub loop-place-init : goal.loop-place-init
loop-place-init c = rw (changes_below-none c.args.old.now c.args.new.now) (sym (append-nil c.args.out.now.items))

-- one register more
pub loop-place-preserved : goal.loop-place-preserved
loop-place-preserved c =
    let one = change_line c.args.old.now c.args.new.now c.loop-place.place in
    let before = changes_below c.args.old.now c.args.new.now c.loop-place.place in
    c.in_ok-put_change.ensures ∙ ap (λ (l : List ℕ). l ++ one) c.loop-place.invariant ∙ append_assoc c.args.out.now.items before one
    ∙ ap (λ (l : List ℕ). c.args.out.now.items ++ l) (sym (changes_below-more c.args.old.now c.args.new.now c.loop-place.place))
