use Rattle.std.proofs.Common.{◌≡◌, ◌++◌, ◌∙◌, List, Some, ap, subst, sym, false}
use Rattle.std.specs.Prelude.{is_some, slice_get}
use Rattle.dia_dict.specs.Base.{base}
use Rattle.dia_dict.specs.declared.definition.Definition.{Definition}
use Rattle.bench_setup.proofs.DefinitionLemmas.{all_are_added, next_is_added, there_stays}
use Rattle.bench_setup.proofs.definitions.definitions_of.Goals as goal
use Rattle.bench_setup.proofs.definitions.definitions_of.Goals.{in-None+in_ok-add-in-None, in-Some-at}

-- nothing is left
pub returns-in_default : goal.returns-in_default
returns-in_default c =
    let P : List Definition → Type 0 = λ all. is_some (slice_get (base ++ all) c.places.place) ≡ false in
    all_are_added base c.args.glossary.now.definitions c.places.dictionary c.places.place c.places.invariant
    (subst P c.definitions-all.ensures (ap is_some (sym c.in_default.ensures.place)))

-- a definition is there, or added
pub places-preserved : goal.places-preserved
places-preserved c =
    let P : List Definition → Type 0 = λ all. slice_get (base ++ all) c.places.place ≡ Some c.in-Some.definition.now in
    elim c.match-at-2.branch [
      | in-None+in_ok-add-in-None w ↦
          w.dictionary-is
          ∙ (w.in_ok-add-in-None.ensures
          ∙ next_is_added base c.args.glossary.now.definitions c.places.dictionary c.places.place c.in-Some.definition.now c.places.invariant
          (subst P c.definitions-all.ensures (sym c.in-Some.ensures.place)) (ap is_some (sym w.in-None.ensures.place)))
      | in-Some-at w ↦
          w.dictionary-is
          ∙ there_stays base c.args.glossary.now.definitions c.places.dictionary c.places.place c.places.invariant (ap is_some (sym w.in-Some-at.ensures.place))
    ]
