use Rattle.std.proofs.Common.{◌∙◌, ◌++◌, ◌∷◌, ℕ, List, [], ap, sym}
use Rattle.std.specs.Prelude.{option_copied}
use Rattle.dia_dict.specs.Base.{base}
use Rattle.dia_dict.specs.Dictionary.{known}
use Rattle.bench_copy.proofs.CopyLemmas.{front_all, grows_by, place_within, stays_by}
use Rattle.bench_copy.proofs.config.add_at.Goals as goal

-- there is none: the front is all
pub returns-in_default : goal.returns-in_default
returns-in_default c =
    c.requires
    ∙ front_all base c.args.dictionary.now c.args.place (sym c.at.ensures.place ∙ ap option_copied c.in_default.is)

-- it has one there: one of those that every dictionary has
pub returns-then-is_some : goal.returns-then-is_some
returns-then-is_some c = record {
  front = stays_by base c.args.dictionary.now c.args.copy.now c.args.place c.at-2.result c.requires c.at-2.ensures.place
      (sym c.is_some.ensures ∙ c.if-is_some.true);
  within = place_within (known c.args.dictionary.now) c.args.place c.in-Some.own.now
      (sym c.at.ensures.place ∙ ap option_copied c.in-Some.is);
}

-- it has none there, and it is put there
pub returns-in-Ok-add : goal.returns-in-Ok-add
returns-in-Ok-add c = record {
  front = grows_by base c.args.dictionary.now c.args.copy.now c.add.new.self c.args.place c.in-Some.own.now c.at-2.result c.requires
      (sym c.at.ensures.place ∙ ap option_copied c.in-Some.is) c.at-2.ensures.place (sym c.is_some.ensures ∙ c.if-is_some.false)
      (c.in-Ok-add.ensures.ok
      ∙ ap (λ (name : List ℕ). c.args.copy.now ++ record c.in-Some.own.now { name = name } ∷ [])
      (c.in-Ok.ensures.cases.0 ∙ c.as_slice.ensures));
  within = place_within (known c.args.dictionary.now) c.args.place c.in-Some.own.now
      (sym c.at.ensures.place ∙ ap option_copied c.in-Some.is);
}
