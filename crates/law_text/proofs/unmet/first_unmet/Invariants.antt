use Rattle.std.proofs.Common.{◌≡◌, drop}
use Rattle.law_text.specs.Unmet.{first_unmet}
use Rattle.law_text.proofs.unmet.first_unmet.Given as goal

-- the tests so far are met
abbrev pub invariant-loop-test : goal.invariant-loop-test
invariant-loop-test l = first_unmet l.scene (drop l.test-index l.law) ≡ first_unmet l.scene l.law
