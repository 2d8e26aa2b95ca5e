use Rattle.std.proofs.Common.{◌<◌, ◌∙◌, ℕ, Bool, length, length-set, sym, arith, rules}
use Rattle.text_parts.specs.Pieces.{words_left}
use Rattle.event_text.proofs.FactsLemmas.{AreZeroes-more, AreZeroes-start, facts_by-start, goes_on-end, goes_on-more}
use Rattle.event_text.proofs.events.facts_by.Goals as goal

-- no word was read
pub loop-word-init : goal.loop-word-init
loop-word-init c = record {
  same = facts_by-start c.args.letter (words_left c.args.words.now);
  all_facts = search rules;
  all_given = search rules;
  zeroes = AreZeroes-start;
}

-- a word is one fact more
pub loop-word-preserved : goal.loop-word-preserved
loop-word-preserved c =
    let before = c.loop-word.invariant in
    let number = c.in_ok-number.number in
    let in_facts : number < length c.loop-word.facts = omega (arith, c.in_ok-number.ensures.place, before.all_facts) in
    let in_given : number < length c.loop-word.given = omega (arith, c.in_ok-number.ensures.place, before.all_given) in
    record {
      same =
          before.same
          ∙ goes_on-more c.args.letter c.loop-word.facts c.loop-word.given _ _ _ number c.in_ok-number.value c.in-Some.ensures c.in_ok-number.ensures.fact in_facts in_given c.if-given-number.false;
      all_facts = omega (arith, length-set {A = ℕ}, before.all_facts);
      all_given = omega (arith, length-set {A = Bool}, before.all_given);
      zeroes = AreZeroes-more c.loop-word.facts c.loop-word.given number c.in_ok-number.value in_given before.zeroes;
    }

-- no word is left
pub returns : goal.returns
returns c =
    let before = c.loop-word.invariant in
    goes_on-end c.args.letter c.loop-word.facts c.loop-word.given _ c.in_default.ensures before.all_facts before.zeroes ∙ sym before.same
