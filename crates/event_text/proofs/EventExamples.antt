-- Short texts, and the facts that their words are.
use Rattle.std.proofs.Common.{◌≡◌, ◌∷◌, ◌++◌, replicate, Some, None, codes, refl}
use Rattle.text_parts.specs.Words.{words}
use Rattle.base_text.specs.Numbers.{number_of}
use Rattle.event_text.specs.Events.{fact_of, facts_by, facts_of}

pub facts_of-two : facts_of (words (codes "12=5 3=7")) ≡ Some (0 ∷ 0 ∷ 0 ∷ 7 ∷ replicate 8 0 ++ 5 ∷ replicate 51 0)
unfolding words number_of fact_of facts_by facts_of
facts_of-two = refl

-- a fact stands twice
pub facts_of-twice : facts_of (words (codes "1=2 1=3")) ≡ None
unfolding words number_of fact_of facts_by facts_of
facts_of-twice = refl

-- a number is past the last place
pub facts_of-past : facts_of (words (codes "3=7 64=1")) ≡ None
unfolding words number_of fact_of facts_by facts_of
facts_of-past = refl
