use Rattle.std.proofs.Common.{inl, inr}
use Rattle.tab_walk.specs.Walks.{is_image}
use Rattle.tab_walk.proofs.WalkLemmas.{IsWalkedOf-ends}
use Rattle.tab_walk.proofs.walk.walk_on.Goals as goal

pub returns-clause-words : goal.returns-clause-words
returns-clause-words g c =
    elim c.walk_either.ensures.walk [
      | inl told ↦ (IsWalkedOf-ends (is_image c.args.table.now) c.args.registry.now.book c.args.options c.args.table.now c.args.events.now told.text c.walk_either.result told.is).0
      | inr fault ↦ λ usage. let e = fault.1 in absurd (cc)
    ]

pub returns-clause-cause : goal.returns-clause-cause
returns-clause-cause g c = λ is.
    elim c.walk_either.ensures.walk [
      | inl told ↦ absurd ((IsWalkedOf-ends (is_image c.args.table.now) c.args.registry.now.book c.args.options c.args.table.now c.args.events.now told.text c.walk_either.result told.is).1 is)
      | inr fault ↦ fault.0
    ]
