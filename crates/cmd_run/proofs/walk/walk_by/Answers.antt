use Rattle.std.proofs.Common.{◌≡◌, ◌∙◌, false, ap, sym}
use Rattle.std.specs.Prelude.{OnOk, Result, Ok, Err, is_err}
use Rattle.tab_role.specs.Roles.{joined}
use Rattle.cmd_run.proofs.WalkRuns.{IsWalkedOn-by}
use Rattle.cmd_run.proofs.walk.walk_by.Goals as goal
use Rattle.cmd_run.proofs.walk.walk_by.Given.{Over}

-- where a call didn't fail it did what it is to do
done : {X E : Type 0} (P : Type 0) (r : Result X E) → is_err r ≡ false → OnOk r P → P
done P (Ok x) ok does = does
done P (Err e) ok does = absurd cc

same : (g : Over) (c : goal.After-drop-registry-2 g) → c.register.new.self.book ≡ c.args.laws.now
same g c =
    done (c.register.new.self.book ≡ joined c.args.laws.now c.new-registry.result.book) c.register.result (sym c.is_err.ensures.value ∙ c.if-is_err.false) c.register.ensures.ok
    ∙ ap (joined c.args.laws.now) c.new-registry.ensures

pub returns-clause-walk : goal.returns-clause-walk
returns-clause-walk g c =
    IsWalkedOn-by g.O.ByteSink.contents g.O.ByteSink.failures g.O.ByteSink.idle c.register.new.self.book c.args.laws.now c.args.options c.args.table.now c.args.events.now c.args.sink.now
    c.walk_on.new.sink c.walk_on.result (same g c) c.walk_on.ensures.walk
