-- Values that are compared one after another.
use Rattle.std.proofs.Common.{◌≡◌, ◌<◌, ◌≤◌, ◌+◌, ◌++◌, ◌∙◌, ℕ, List, [], ◌∷◌, Option, length, get_or, drop, suc, sym, ap, arith}
use Rattle.std.specs.Prelude.{codes, decimal}
use Rattle.std.specs.List.{flat_map}
use Rattle.std.proofs.Math.ListN.{drop_of_length-le}
use Rattle.std.proofs.Math.Seq.{drop-cons}
use Rattle.step_text.specs.Matching.{without}
use Rattle.step_text.proofs.MatchingLemmas.{without-append, without-nil}

-- each behind a blank
abbrev value_words : List ℕ → List ℕ
value_words values = flat_map (λ value. codes " " ++ decimal value) values

pub value-compared : (values : List ℕ) (at : ℕ) (start next whole : Option (List ℕ)) → at < length values → next ≡ without (codes " " ++ decimal (get_or values at 0)) start
    → without (value_words (drop at values)) start ≡ whole → without (value_words (drop (at + 1) values)) next ≡ whole
value-compared values at start next whole within one so_far =
    let cut : drop at values ≡ get_or values at 0 ∷ drop (suc at) values = drop-cons values at 0 within in
    let more : at + 1 ≡ suc at = omega arith in
    rw more (
    ap (without (value_words (drop (suc at) values))) one ∙ sym (without-append (codes " " ++ decimal (get_or values at 0)) (value_words (drop (suc at) values)) start)
    ∙ ap (λ values. without (value_words values) start) (sym cut) ∙ so_far
    )

pub values-done : (values : List ℕ) (at : ℕ) (text whole : Option (List ℕ)) → length values ≤ at → without (value_words (drop at values)) text ≡ whole → text ≡ whole
values-done values at text whole past so_far =
    let none : drop at values ≡ [] = drop_of_length-le values past in
    sym (without-nil text) ∙ ap (λ values. without (value_words values) text) (sym none) ∙ so_far
