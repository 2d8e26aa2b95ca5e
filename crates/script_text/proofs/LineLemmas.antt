-- What a line asks for where one of its parts is there, or isn't.
use Rattle.std.proofs.Common.{◌≡◌, ℕ, List, true, Option, Some, None, refl}
use Rattle.std.specs.Prelude.{is_some}
use Rattle.bench_item.specs.declared.key.Key.{Key}
use Rattle.script_text.specs.Scripts.{fired_with, told_with}

pub no_generation : (key : Option Key) → fired_with key None ≡ None
no_generation None = refl
no_generation (Some key) = refl

pub some_fired : (key : Option Key) (generation : ℕ) → is_some key ≡ true → is_some (fired_with key (Some generation)) ≡ true
some_fired None generation e = e
some_fired (Some key) generation e = refl

pub no_facts : (desk : Option ℕ) (key : Option Key) (kind : ℕ) → told_with desk key kind None ≡ None
no_facts None key kind = refl
no_facts (Some desk) None kind = refl
no_facts (Some desk) (Some key) kind = refl

pub some_told : (desk : ℕ) (key : Option Key) (kind : ℕ) (facts : List ℕ) → is_some key ≡ true → is_some (told_with (Some desk) key kind (Some facts)) ≡ true
some_told desk None kind facts e = e
some_told desk (Some key) kind facts e = refl

pub ruleset lines = (no_generation, some_fired, no_facts, some_told)
