use Rattle.std.proofs.Common.{◌≡◌, length}
use Rattle.tab_law.specs.declared.limits.TheConstants.{PLACES}
use Rattle.text_parts.specs.Pieces.{words_left}
use Rattle.event_text.specs.Events.{facts_by}
use Rattle.event_text.proofs.FactsLemmas.{AreZeroes, goes_on}
use Rattle.event_text.proofs.events.facts_by.Given as goal

-- the facts so far and the words that are left make the facts of all words
abbrev pub invariant-loop-word : goal.invariant-loop-word
invariant-loop-word l = record {
  same : facts_by l.letter (words_left l.initial.words) ≡ goes_on l.letter l.facts l.given (words_left l.words);
  all_facts : length l.facts ≡ PLACES;
  all_given : length l.given ≡ PLACES;
  zeroes : AreZeroes l.facts l.given;
}

-- each turn takes a word
abbrev pub decreases-loop-word : goal.decreases-loop-word
decreases-loop-word l = length (words_left l.words)
