use Rattle.std.proofs.Common.{◌≡◌, ◌∷◌, [], ◌++◌, ◌∙◌, None, ap, subst, sym}
use Rattle.bench_item.specs.declared.step.Step.TheVariants as steps
use Rattle.bench_spec.specs.Refusal.{refusal}
use Rattle.bench_spec.specs.Taken.{Takes}
use Rattle.bench_spec.proofs.BookLemmas.{entry_of}
use Rattle.bench_undo.specs.declared.undo.Undo.TheVariants as undos
use Rattle.bench_core.specs.Inside.{run_in}
use Rattle.bench_core.proofs.JoinLemmas.{joined-goes_on, joined-sound}
use Rattle.bench_core.proofs.LineLemmas.{GoesOn, line-takes}
use Rattle.bench_core.proofs.keeping.Core.joined.Goals as goal

-- the log has the entry
is_after : (c : goal.After-put-2) → c.put.new.self.entries ≡ c.self.inside.log.entries ++ entry_of steps.Joined None None ∷ []
is_after c =
    ap (λ l. l.entries) c.put.ensures.added
    ∙ ap (λ es. es ++ c.in_ok-entry.entry ∷ []) c.make_room.ensures.entries
    ∙ ap (λ e. c.self.inside.log.entries ++ e ∷ []) c.in_ok-entry.ensures

-- of the new connection no item was dropped
is_counted : (c : goal.After-put-2) → c.push_reserved.new.self.items ≡ c.self.inside.carried.items ++ 0 ∷ []
is_counted c = c.push_reserved.ensures.items ∙ ap (λ counts. counts ++ 0 ∷ []) c.reserve.ensures.items

-- the step goes on
goes : (c : goal.After-put-2) → GoesOn c.self.inside steps.Joined c.joined.new.self.lines (c.self.inside.carried.items ++ 0 ∷ [])
goes c =
    let w = c.self.inside in
    joined-goes_on w c.joined.new.self.lines c.self.invariant
    (subst (λ run. refusal run.settings run.log run.paused steps.Joined ≡ None) (sym c.self.view_is) c.requires)
    c.in-Ok.ensures.stands c.in-Ok.ensures.lifted

pub invariant_of-self-2 : goal.invariant_of-self-2
invariant_of-self-2 c =
    let w = c.self.inside in
    joined-sound w c.joined.new.self c.push_reserved.new.self c.put.new.self c.put-2.new.self c.self.invariant (goes c) c.joined.ensures.rules
    c.in-Ok.ensures.undone (is_counted c) (is_after c)
    (ap (λ l. l.records) c.put-2.ensures ∙ ap (λ rs. rs ++ undos.Opened ∷ []) c.make_room.ensures.records)

pub returns-clause-ok : goal.returns-clause-ok
returns-clause-ok c =
    let w = c.self.inside in
    subst
    (λ run. Takes run (run_in (record w { lines = c.joined.new.self; carried = c.push_reserved.new.self; log = c.put.new.self; undo = c.put-2.new.self })) steps.Joined)
    c.self.view_is
    (line-takes w steps.Joined c.joined.new.self c.push_reserved.new.self c.put.new.self c.put-2.new.self
    (subst (GoesOn w steps.Joined c.joined.new.self.lines) (sym (is_counted c)) (goes c)) c.joined.ensures.rules (is_after c))
