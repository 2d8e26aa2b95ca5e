-- What is wrong in a line of a dictionary, as a value.
use Rattle.std.specs.Prelude.{ℕ, List, Result, Err, ◌≡◌}
use Rattle.dict_text.specs.declared.wrong.Want.{Want}
use Rattle.dict_text.specs.declared.wrong.Mistake.{Mistake}
use Rattle.dict_text.specs.declared.wrong.WrongLine.{WrongLine}
use Rattle.dict_text.specs.declared.wrong.LineError.{LineError}
use Rattle.dict_text.specs.declared.wrong.LineError.TheVariants as line_errors

-- what was wanted, and the word that stands there, empty where it is none by itself
pub record Wrong : Type 0 where
  pub want : Want
  pub word : List ℕ

-- the same of a numbered line
pub record WrongAt : Type 0 where
  pub number : ℕ
  pub want : Want
  pub word : List ℕ

abbrev pub seen_mistake : Mistake → Wrong
seen_mistake m = record { want = m.want; word = m.word.now }

abbrev pub seen_line : WrongLine → WrongAt
seen_line w = record { number = w.number; want = w.want; word = w.word.now }

-- memory ran out, or this is what the line is read as
abbrev pub IsWrong : {X : Type 0} → Result X Wrong → LineError → Type 0
IsWrong answer line_errors.NoMemory = Unit {0}
IsWrong answer (line_errors.Mistake m) = answer ≡ Err (seen_mistake m)
