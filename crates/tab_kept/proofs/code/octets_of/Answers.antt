use Rattle.std.proofs.Common.{◌++◌, ◌<◌, ◌^◌, ℕ, List, length, get_or, take, refl, ap, sym, ◌∙◌, arith}
use Rattle.std.proofs.lemmas.List.{take_more}
use Rattle.std.proofs.lemmas.List.Elements.{All-push}
use Rattle.tab_kept.specs.Coded.{code}
use Rattle.tab_kept.proofs.CodedLemmas.{code-short, coded-more}
use Rattle.tab_kept.proofs.code.octets_of.Goals as goal

pub loop-number-preserved : goal.loop-number-preserved
loop-number-preserved c =
    let i = c.loop-number.number-index in
    let within : c.loop-number.number-index < length c.args.numbers.now = c.loop-number-test.true in
    record {
      octets = c.put_number-at.ensures.put ∙ ap (λ (xs : List ℕ). xs ++ code (get_or c.args.numbers.now i 0)) c.loop-number.invariant.octets ∙ sym (coded-more c.args.numbers.now i _ within refl);
      few = rw (c.put_number-at.ensures.behind) (omega (arith, code-short (get_or c.args.numbers.now i 0), c.loop-number.invariant.few));
      fit = rw (take_more c.args.numbers.now i 0 within) (All-push (λ (n : ℕ). n < 2 ^ 64) (take i c.args.numbers.now) _ c.loop-number.invariant.fit c.put_number-at.ensures.fits);
    }
