use Rattle.std.proofs.Common.{◌≡◌, ◌∷◌, [], ◌++◌, ◌∙◌, None, ap, subst, sym}
use Rattle.bench_item.specs.declared.step.Step.TheVariants as steps
use Rattle.bench_spec.specs.Refusal.{refusal}
use Rattle.bench_spec.specs.Taken.{Takes}
use Rattle.bench_spec.proofs.BookLemmas.{entry_of}
use Rattle.bench_undo.specs.declared.undo.Undo.TheVariants as undos
use Rattle.bench_core.specs.Inside.{run_in}
use Rattle.bench_core.proofs.LineLemmas.{GoesOn, line-takes, lines-sound, lost-goes_on}
use Rattle.bench_core.proofs.keeping.Core.lost.Goals as goal

-- the log has the entry
is_after : (c : goal.After-put-2) → c.put.new.self.entries ≡ c.self.inside.log.entries ++ entry_of (steps.Lost c.args.line) None None ∷ []
is_after c =
    ap (λ l. l.entries) c.put.ensures.added
    ∙ ap (λ es. es ++ c.in_ok-entry.entry ∷ []) c.make_room.ensures.entries
    ∙ ap (λ e. c.self.inside.log.entries ++ e ∷ []) c.in_ok-entry.ensures

-- the step goes on
goes : (c : goal.After-put-2) → GoesOn c.self.inside (steps.Lost c.args.line) c.lost.new.self.lines c.self.inside.carried.items
goes c =
    let w = c.self.inside in
    lost-goes_on w c.args.line c.lost.new.self.lines c.self.invariant
    (subst (λ run. refusal run.settings run.log run.paused (steps.Lost c.args.line) ≡ None) (sym c.self.view_is) c.requires)
    (record { stands = c.in-Ok.ensures.stands; counts = c.in-Ok.ensures.lifted })

pub invariant_of-self-2 : goal.invariant_of-self-2
invariant_of-self-2 c =
    let w = c.self.inside in
    lines-sound w (steps.Lost c.args.line) c.lost.new.self c.put.new.self c.put-2.new.self c.in-Ok.posted.change c.self.invariant (goes c) c.lost.ensures.rules
    c.in-Ok.ensures.undone (is_after c)
    (ap (λ l. l.records) c.put-2.ensures ∙ ap (λ rs. rs ++ undos.Lines c.in-Ok.posted.change ∷ []) c.make_room.ensures.records)

pub returns-clause-ok : goal.returns-clause-ok
returns-clause-ok c =
    let w = c.self.inside in
    subst (λ run. Takes run (run_in (record w { lines = c.lost.new.self; log = c.put.new.self; undo = c.put-2.new.self })) (steps.Lost c.args.line)) c.self.view_is
    (line-takes w (steps.Lost c.args.line) c.lost.new.self w.carried c.put.new.self c.put-2.new.self (goes c) c.lost.ensures.rules (is_after c))
