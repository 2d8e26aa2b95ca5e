-- What nodes were opened with stays where they settle and where lines are done.
use Rattle.std.proofs.Common.{◌≡◌, ◌≤◌, ◌∙◌, ℕ, Option, Some, None, ap, length, refl, subst, sym}
use Rattle.std.specs.Prelude.{slice_get}
use Rattle.std.proofs.lemmas.Option.{slice_get_past}
use Rattle.bench_script.specs.Ran.{Does}
use Rattle.bench_script.proofs.RanLemmas.{same_settings}
use Rattle.script_text.specs.declared.run_line.RunLine.{RunLine}
use Rattle.script_text.specs.declared.run_line.RunLine.TheVariants as runs
use Rattle.bench_nodes.specs.Acts.{ActsAt, settings_of}
use Rattle.bench_nodes.specs.Scripts.{DoesLine, DoesThere}
use Rattle.bench_nodes.specs.Settled.{Crosses, Net, Rounds, SettledTo, first, further, none, one_more}
use Rattle.bench_nodes.specs.declared.node.Crossing.{Crossing}
use Rattle.bench_nodes.specs.declared.node.Node.{Node}
use Rattle.bench_nodes.specs.declared.script.NodeLine.{NodeLine}
use Rattle.bench_nodes.specs.declared.script.NodeLine.TheVariants as of
use Rattle.bench_nodes.proofs.ActLemmas.{does_keeps, set_same}

-- nodes that settle, each by itself
pub settled_keeps : (old new : Net) (count : ℕ) → SettledTo old count new → settings_of new.nodes ≡ settings_of old.nodes
settled_keeps old new count none = refl
settled_keeps old new count (one_more mid last at before acts) =
    does_keeps at mid.nodes mid.out last.nodes last.out runs.Settle acts.acts ∙ settled_keeps old mid at before

-- what crosses
pub crossed_keeps : (old new : Net) (crossing : Crossing) → Crosses old new crossing → settings_of new.nodes ≡ settings_of old.nodes
crossed_keeps old new crossing crosses =
    let act = crosses.acts in
    ap settings_of act.is
    ∙ set_same old.nodes crossing.node act.before act.behind act.was
    (ap (λ (n : Node). n.core.settings) act.acts.is ∙ same_settings act.before.core act.acts.core crossing.step act.acts.does.takes)

-- rounds
pub rounds_keep : (cut : ℕ) (old new : Net) → Rounds cut old new → settings_of new.nodes ≡ settings_of old.nodes
rounds_keep cut old new (first last each) = settled_keeps old last (length old.nodes) each
rounds_keep cut old new (further mid crossed last crossing before next crosses each) =
    settled_keeps crossed last (length crossed.nodes) each ∙ (crossed_keeps mid crossed crossing crosses ∙ rounds_keep cut old mid before)

-- a line at a node
there_keeps : (o : Option Node) (old new : Net) (at : ℕ) (line : RunLine) → DoesThere o old at line new → settings_of new.nodes ≡ settings_of old.nodes
there_keeps None old new at line does = ap (λ (n : Net). settings_of n.nodes) does
there_keeps (Some node) old new at line does = does_keeps at old.nodes old.out new.nodes new.out line does.0

pub line_keeps : (cut : ℕ) (old : Net) (line : NodeLine) (new : Net) → DoesLine cut old line new → settings_of new.nodes ≡ settings_of old.nodes
line_keeps cut old (of.At at line) new does = there_keeps (slice_get old.nodes at) old new at line does
line_keeps cut old of.Settle new does = rounds_keep cut old new does.rounds

-- a line that was done at a node that is there, and one that is for none
pub does_there : (cut : ℕ) (old new : Net) (at : ℕ) (line : RunLine) → ActsAt (λ run run' text. Does run line run' text) at old.nodes old.out new.nodes new.out
    → new.links ≡ old.links → DoesLine cut old (of.At at line) new
does_there cut old new at line act kept = subst (λ (o : Option Node). DoesThere o old at line new) (sym act.was) (act, kept)

pub passed_over : (cut : ℕ) (old : Net) (at : ℕ) (line : RunLine) → length old.nodes ≤ at → DoesLine cut old (of.At at line) old
passed_over cut old at line past = subst (λ (o : Option Node). DoesThere o old at line old) (sym (slice_get_past old.nodes at past)) refl
