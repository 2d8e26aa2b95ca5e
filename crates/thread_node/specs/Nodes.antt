-- A node whose shards run in threads, as a contract sees it, and what becomes of it.
use Rattle.std.specs.Prelude.{◌≡◌, ◌<◌, ◌≤◌, ◌+◌, ◌-◌, ◌==◌, ◌++◌, ◌∷◌, ℕ, Bool, false, true, List, [], Option}
use Rattle.std.specs.Prelude.{None, Some, if◌then◌else◌, length, nat_lt, slice_index_or, sum_by}
use Rattle.std.specs.List.{list_all}
use Rattle.bench_item.specs.declared.limit.TheConstants.{MAX_LINES}
use Rattle.bench_item.specs.declared.source.Source.TheVariants as sources
use Rattle.bench_item.specs.declared.step.Step.{Step}
use Rattle.bench_item.specs.declared.step.Step.TheVariants as steps
use Rattle.bench_net.specs.Events.{Event}
use Rattle.bench_net.specs.Texts.{Grows}
use Rattle.bench_net.specs.declared.refusal.Refusal.{Refusal}
use Rattle.bench_net.specs.declared.refusal.Refusal.TheVariants.{Unknown}
use Rattle.bench_spec.specs.Taken.{Run}
use Rattle.node_port.specs.Happened.{is_number, step_on}

-- the world, which stands at its opening until the parts of its bench were gathered; whether the bench was started and
-- has not ended; how many texts its desks passed; the steps that were fed to it and taken, in order; and what each
-- connection sent, as far as it was drawn, from connection 1 on
pub record NodeView : Type 0 where
  pub run : Run
  pub started : Bool
  pub told : ℕ
  pub fed : List Step
  pub sent : List (List ℕ)

-- the steps that were fed to a bench, if there is one
abbrev pub fed_of : {B : Type 0} → (B → List Step) → Option B → List Step
fed_of fed None = []
fed_of fed (Some bench) = fed bench

abbrev pub is_started : {B : Type 0} → Option B → Bool
is_started None = false
is_started (Some bench) = true

-- while a bench runs its world stands at its opening
abbrev pub IsNode : {B : Type 0} → Run → Option B → Type 0
IsNode run None = Unit {0}
IsNode run (Some bench) = run.log ≡ []

-- what a connection sent, as far as it was drawn: nothing, where nothing was
abbrev pub text_at : List (List ℕ) → ℕ → List ℕ
text_at sent line = if line == 0 then [] else slice_index_or sent (line - 1) []

abbrev pub sent_on : NodeView → ℕ → Option (List ℕ)
sent_on node line = Some (text_at node.sent line)

-- each text stays at the front of what it is now; there may be more texts
abbrev pub AllGrow : List (List ℕ) → List (List ℕ) → Type 0
AllGrow [] new = Unit {0}
AllGrow (text ∷ texts) [] = ⊥
AllGrow (text ∷ texts) (text' ∷ texts') = Grows (Some text) (Some text') × AllGrow texts texts'

-- an item of a connection is carried: lifted or dropped
abbrev pub is_carry : Step → Bool
is_carry (steps.Lift (sources.Line line)) = true
is_carry (steps.Drop (sources.Line line)) = true
is_carry step = false

-- one step was fed, and nothing else changed
abbrev pub Feeds : NodeView → Step → NodeView → Type 0
Feeds old step new = (old.started ≡ true) × (new ≡ record old { fed = old.fed ++ step ∷ [] })

-- steps were fed, and nothing else changed
pub record Moves (old new : NodeView) : Type 0 where
  pub steps : List Step
  pub fed : new ≡ record old { fed = old.fed ++ steps }

-- connections that can be dialled nowhere were lost, and nothing else changed
abbrev pub is_loss : Step → Bool
is_loss (steps.Lost line) = true
is_loss step = false

pub record Loses (old new : NodeView) : Type 0 where
  pub steps : List Step
  pub lost : list_all is_loss steps ≡ true
  pub fed : new ≡ record old { fed = old.fed ++ steps }

-- a dial that is told is one of a connection; before it no more than that was done
abbrev pub DialsAs : NodeView → (line : ℕ) → NodeView → Type 0
DialsAs old line new = (0 < line) × Loses old new

-- what a connection takes is fed
abbrev pub TakesOn : NodeView → ℕ → Event → NodeView → Type 0
TakesOn old line event new = (is_number line ≡ true) × Feeds old (step_on line event) new

-- a connection is accepted, and its line has one of the numbers
abbrev pub JoinsAs : NodeView → (line : ℕ) → NodeView → Type 0
JoinsAs old line new = Feeds old steps.Joined new × (0 < line) × (line ≤ MAX_LINES)

-- a connection without a number, and one of a node that is not started, is Unknown
abbrev pub RefusesLine : NodeView → ℕ → Refusal → Type 0
RefusesLine node line why = (is_number line ≡ false → why ≡ Unknown) × (node.started ≡ false → why ≡ Unknown)

abbrev pub RefusesOn : NodeView → ℕ → Event → Refusal → Type 0
RefusesOn node line event why = RefusesLine node line why

-- desks passed texts, items of connections were carried, and more was drawn of what they sent: nothing else was fed
pub record Goes (old new : NodeView) : Type 0 where
  pub same : new.run ≡ old.run
  pub started : new.started ≡ old.started
  pub told : old.told ≤ new.told
  pub steps : List Step
  pub carried : list_all is_carry steps ≡ true
  pub fed : new.fed ≡ old.fed ++ steps
  pub sent : AllGrow old.sent new.sent

-- how many octets were drawn
abbrev pub drawn_in : List (List ℕ) → ℕ
drawn_in sent = sum_by length sent

-- how much was done in a node: texts passed, steps fed, octets drawn
abbrev pub done_in : NodeView → ℕ
done_in node = node.told + length node.fed + drawn_in node.sent

-- it went on so, and says whether something was done
pub record Does (old new : NodeView) (done : Bool) : Type 0 where
  pub goes : Goes old new
  pub more : done ≡ nat_lt (done_in old) (done_in new)
