use Rattle.std.proofs.Common.{◌++◌, ◌∙◌, List, ℕ, ap, sym}
use Rattle.std.specs.Option.{option_map}
use Rattle.script_text.specs.Keys.{name_of}
use Rattle.script_text.proofs.NameLemmas.{before_behind, none_by, nothing_before}
use Rattle.script_text.proofs.keys.name_of.Goals as goal

-- an octet more stands in front
pub loop-left-preserved : goal.loop-left-preserved
loop-left-preserved c =
    let behind = name_of c.in-Some.taken.behind.now in
    c.loop-left.invariant
    ∙ ap (option_map (λ others. c.loop-left.octets.items ++ others)) c.in-Some.ensures.some
    ∙ before_behind c.loop-left.octets.items c.in-Some.taken.octet behind
    ∙ ap (λ (front : List ℕ). option_map (λ others. front ++ others) behind) (sym c.in_ok-push.ensures.items)

-- before the loop no octet stands in front
pub loop-left-init : goal.loop-left-init
loop-left-init c = rw c.new-octets.ensures.items (nothing_before (name_of c.args.text.now))

-- the text is no name
pub returns-then-not-is_name-clause-name : goal.returns-then-not-is_name-clause-name
returns-then-not-is_name-clause-name c = sym (none_by (name_of c.args.text.now) (sym c.is_name.ensures ∙ c.if-not-is_name.true))
