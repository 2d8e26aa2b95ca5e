use Rattle.std.proofs.Common.{◌≡◌, map}
use Rattle.thread_node.specs.Nodes.{AllGrow, drawn_in}
use Rattle.thread_node.proofs.texts.reach.Given as goal

-- no text changed so far, and nothing was drawn
abbrev pub invariant-missing : goal.invariant-missing
invariant-missing l =
    AllGrow (map (λ text. text.items) l.initial.texts.items) (map (λ text. text.items) l.texts.items)
    × (drawn_in (map (λ text. text.items) l.texts.items) ≡ drawn_in (map (λ text. text.items) l.initial.texts.items))
