-- A node keeps what its bench was opened with.
use Rattle.std.proofs.Common.{◌≡◌, Result, Ok, Err, ap, inl, inr}
use Rattle.bench_gather.specs.Gathered.{Gathers}
use Rattle.bench_gather.specs.Given.{Handed}
use Rattle.bench_gather.specs.declared.fault.GatherFault.{GatherFault}
use Rattle.bench_gather.specs.declared.fault.GatherFault.TheVariants.{Disagree, Full, NoMemory}
use Rattle.bench_spec.specs.Taken.{Run}
use Rattle.net_sockets.specs.Turns.{Turned}
use Rattle.thread_node.specs.Ended.{Ends, handed_by}
use Rattle.thread_node.specs.Nodes.{Moves, NodeView, TakesOn}
use Rattle.thread_node.proofs.MovingLemmas.{turned_moves}

-- its sockets leave its world
pub same_turned : (old new : NodeView) → Turned TakesOn Moves old new → new.run ≡ old.run
same_turned old new turned = ap (λ (node : NodeView). node.run) (turned_moves old new turned).fed

-- what is gathered is of the same bench
same_gathered : (old new : Run) (handed : Handed) (r : Result (Unit {0}) GatherFault) → Gathers old new handed r
    → new.settings ≡ old.settings
same_gathered old new handed (Ok done) gathers = ap (λ (run : Run). run.settings) gathers.4
same_gathered old new handed (Err Full) gathers = ap (λ (run : Run). run.settings) gathers.1
same_gathered old new handed (Err (Disagree at)) gathers = ap (λ (run : Run). run.settings) gathers.1
same_gathered old new handed (Err NoMemory) gathers = ap (λ (run : Run). run.settings) gathers

-- and so is what becomes of it at its end
pub same_ended : (old : NodeView) (run : Run) (r : Result (Unit {0}) GatherFault) → Ends old run r
    → run.settings ≡ old.run.settings
same_ended old run (Ok done) (inl kept) = ap (λ (run : Run). run.settings) kept.1
same_ended old run (Ok done) (inr has) = same_gathered old.run run (handed_by has.logged) (Ok done) has.gathers
same_ended old run (Err Full) has = same_gathered old.run run (handed_by has.logged) (Err Full) has.gathers
same_ended old run (Err (Disagree at)) (inl has) = same_gathered old.run run (handed_by has.logged) (Err (Disagree at)) has.gathers
same_ended old run (Err (Disagree at)) (inr has) = ap (λ (run : Run). run.settings) has.1.kept
same_ended old run (Err NoMemory) kept = ap (λ (run : Run). run.settings) kept

pub ruleset living = (same_turned, same_ended)
