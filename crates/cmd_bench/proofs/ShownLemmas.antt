-- What is printed of lines that were run one after the other.
use Rattle.std.proofs.Common.{◌≡◌, ◌++◌, ◌∷◌, ◌∙◌, Bool, true, false, List, [], ℕ, ap, refl, sym}
use Rattle.bench_script.specs.Ran.{Does, Prints, nothing, one_more}
use Rattle.bench_spec.specs.Taken.{Run}
use Rattle.script_text.specs.declared.run_line.RunLine.{RunLine}
use Rattle.cmd_bench.specs.Told.{RunShown, if_shown}

-- more behind what was kept
shown_more : (shown : Bool) (text more : List ℕ) → if_shown shown (if_shown shown text ++ more) ≡ if_shown shown (text ++ more)
shown_more true text more = refl
shown_more false text more = refl

-- nothing, kept or not
shown_none : (shown : Bool) → if_shown shown [] ≡ []
shown_none true = refl
shown_none false = refl

-- no line was run
pub runs_none : (run : Run) (shown : Bool) (text : List ℕ) → text ≡ [] → RunShown run [] shown run text
runs_none run shown text none = record { steps = []; ran = nothing; put = none ∙ sym (shown_none shown) }

-- one line more was
pub runs_more : (old mid new : Run) (done : List RunLine) (line : RunLine) (shown : Bool) (before after kept : List ℕ)
    → RunShown old done shown mid before → Prints (Does mid line new) before after → kept ≡ if_shown shown after
    → RunShown old (done ++ line ∷ []) shown new kept
runs_more old mid new done line shown before after kept ran printed is = record {
  steps = ran.steps ++ printed.text;
  ran = one_more mid new done line ran.steps printed.text ran.ran printed.does;
  put =
      is ∙ ap (if_shown shown) (printed.put ∙ ap (λ (t : List ℕ). t ++ printed.text) ran.put)
      ∙ shown_more shown ran.steps printed.text;
}
