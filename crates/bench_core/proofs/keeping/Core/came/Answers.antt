use Rattle.std.proofs.Common.{◌≡◌, ◌∷◌, [], ◌++◌, ◌∙◌, None, ap, subst, sym}
use Rattle.bench_item.specs.declared.step.Step.TheVariants as steps
use Rattle.bench_spec.specs.Refusal.{refusal}
use Rattle.bench_spec.specs.Taken.{Takes}
use Rattle.bench_spec.proofs.BookLemmas.{entry_of}
use Rattle.bench_undo.specs.declared.undo.Undo.TheVariants as undos
use Rattle.bench_core.specs.Inside.{run_in}
use Rattle.bench_item.specs.Lines.{Received}
use Rattle.bench_line.specs.Lines.{with_step}
use Rattle.bench_carry.specs.Dropped.{LinesGoOn, meaning_to}
use Rattle.bench_core.proofs.LineLemmas.{GoesOn, line-takes, lines-sound, came-goes_on}
use Rattle.bench_core.proofs.keeping.Core.came.Goals as goal

-- the log has the entry
is_after : (c : goal.After-put-2) → c.put.new.self.entries ≡ c.self.inside.log.entries ++ entry_of (steps.Came c.args.line c.args.piece) None None ∷ []
is_after c =
    ap (λ l. l.entries) c.put.ensures.added
    ∙ ap (λ es. es ++ c.of_came-entry.result ∷ []) c.make_room.ensures.entries
    ∙ ap (λ e. c.self.inside.log.entries ++ e ∷ []) c.of_came-entry.ensures

-- the octets that are heard are those of the entry
heard : (c : goal.After-put-2) → c.as_slice.result.now ≡ c.args.piece
heard c = c.as_slice.ensures

-- the step goes on
goes : (c : goal.After-put-2) → GoesOn c.self.inside (steps.Came c.args.line c.args.piece) c.came.new.self.lines c.self.inside.carried.items
goes c =
    let w = c.self.inside in
    came-goes_on w c.args.line c.args.piece c.came.new.self.lines c.self.invariant
    (subst (λ run. refusal run.settings run.log run.paused (steps.Came c.args.line c.args.piece) ≡ None) (sym c.self.view_is) c.requires)
    (subst (λ octets. LinesGoOn (meaning_to w.lines.rules) w.lines.lines c.came.new.self.lines (with_step c.args.line (Received octets))) (heard c)
    (record { stands = c.in-Ok.ensures.stands; counts = c.in-Ok.ensures.lifted }))

pub invariant_of-self-2 : goal.invariant_of-self-2
invariant_of-self-2 c =
    let w = c.self.inside in
    lines-sound w (steps.Came c.args.line c.args.piece) c.came.new.self c.put.new.self c.put-2.new.self c.in-Ok.came.change c.self.invariant (goes c) c.came.ensures.rules
    c.in-Ok.ensures.undone (is_after c)
    (ap (λ l. l.records) c.put-2.ensures ∙ ap (λ rs. rs ++ undos.Lines c.in-Ok.came.change ∷ []) c.make_room.ensures.records)

pub returns-clause-ok : goal.returns-clause-ok
returns-clause-ok c =
    let w = c.self.inside in
    subst (λ run. Takes run (run_in (record w { lines = c.came.new.self; log = c.put.new.self; undo = c.put-2.new.self })) (steps.Came c.args.line c.args.piece)) c.self.view_is
    (line-takes w (steps.Came c.args.line c.args.piece) c.came.new.self w.carried c.put.new.self c.put-2.new.self (goes c) c.came.ensures.rules (is_after c))
