-- Lines behind lines.
use Rattle.std.proofs.Common.{ℕ, List, [], ◌∷◌, ◌++◌, append_assoc, ap, refl, sym, ◌∙◌}
use Rattle.std.proofs.lemmas.List.Elements.{All-append}
use Rattle.std.proofs.lemmas.Grind.{flat_map-append}
use Rattle.base_dialog.specs.Dialogs.{HasAnswered, HasAnsweredFront}
use Rattle.base_dialog.specs.Lines.{IsCut, IsLine, ended}
use Rattle.base_dialog.specs.declared.dialog.Dialog.{Dialog}

-- a text behind the line that is begun
pub IsCut-append : (text more : List ℕ) (lines others : List (List ℕ)) (begun next : List ℕ)
    → IsCut text lines begun → IsCut (begun ++ more) others next → IsCut (text ++ more) (lines ++ others) next
IsCut-append text more lines others begun next first second = record {
  joined =
      ap (λ (xs : List ℕ). xs ++ more) first.joined ∙ append_assoc (ended lines) begun more
      ∙ ap (λ (xs : List ℕ). ended lines ++ xs) second.joined
      ∙ sym (append_assoc (ended lines) (ended others) next)
      ∙ ap (λ (xs : List ℕ). xs ++ next) (sym (flat_map-append (λ (l : List ℕ). l ++ 10 ∷ []) lines others));
  each = All-append IsLine lines others first.each second.each;
  line = second.line;
}

-- more lines are answered
pub HasAnswered-more : {T : Type 0} (has_answered : T → T → List (List ℕ) → List ℕ → Type 0) (start : T) (old new : Dialog T) (text piece said more : List ℕ) (lines : List (List ℕ))
    → IsCut (old.begun.items ++ piece) lines new.begun.items
    → ((before : List (List ℕ)) (told : List ℕ) → has_answered start old.answerer before told → has_answered start new.answerer (before ++ lines) (told ++ more))
    → HasAnswered has_answered start old text said → HasAnswered has_answered start new (text ++ piece) (said ++ more)
HasAnswered-more has_answered start old new text piece said more lines cut answers so_far = record {
  lines = so_far.lines ++ lines;
  cut = IsCut-append text piece so_far.lines lines old.begun.items new.begun.items so_far.cut cut;
  answered = answers so_far.lines said so_far.answered;
}

-- what was answered so far are the lines of a front
pub HasAnsweredFront-so_far : {T : Type 0} (has_answered : T → T → List (List ℕ) → List ℕ → Type 0) (start : T) (dialog : Dialog T) (text more said : List ℕ)
    → HasAnswered has_answered start dialog text said → HasAnsweredFront has_answered start (text ++ more) said
HasAnsweredFront-so_far has_answered start dialog text more said so_far = record {
  front = text;
  back = more;
  split = refl;
  lines = so_far.lines;
  begun = dialog.begun.items;
  cut = so_far.cut;
  now = dialog.answerer;
  answered = so_far.answered;
}
