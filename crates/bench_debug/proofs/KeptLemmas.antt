-- A command leaves what the bench was opened with.
use Rattle.std.proofs.Common.{◌≡◌, ℕ, List, refl, sym, ◌∙◌, ap, inl, inr}
use Rattle.std.specs.Prelude.{Bool, true, false, MatchBool, nat_le, Result, Ok, Err}
use Rattle.bench_item.specs.declared.entry.Entry.{Entry}
use Rattle.bench_item.specs.declared.key.Key.{Key}
use Rattle.bench_script.specs.Ran.{IsRunBy}
use Rattle.bench_script.proofs.RanLemmas.{run_by_same}
use Rattle.bench_spec.specs.Taken.{Run}
use Rattle.debug_text.specs.Commands.{command_of}
use Rattle.debug_text.specs.declared.command.Command.{Command}
use Rattle.debug_text.specs.declared.command.Command.TheVariants as commands
use Rattle.debug_text.specs.declared.command.CommandFault.{CommandFault}
use Rattle.debug_text.specs.declared.command.CommandFault.TheVariants.{AtStart, NoMemory, NoSuchMachine, StepRefused}
use Rattle.debug_text.specs.declared.reply.Reply.{Reply}
use Rattle.debug_text.specs.declared.reply.Reply.TheVariants.{Text, End, At, StoppedAt, EndAt, WasSet, WasCleared, Stands, AreTotals, IsAt, Help}
use Rattle.tab_law.specs.Books.{Laws}
use Rattle.bench_debug.specs.Debug.{Answers, Commands, Debugging, Does, DoesRead, GoesBackMet, GoesOn, Goes, Refuses, Replies, Steps, StepsTo, Whys, gone_back, place_of, refused_at}
use Rattle.bench_debug.specs.Tables.{tables_in}
use Rattle.bench_debug.proofs.GoingLemmas.{forward_same}

same_as : (old new : Debugging) → new ≡ old → new.world.settings ≡ old.world.settings
same_as old new is = ap (λ (d : Debugging). d.world.settings) is

pub stepped_same : (old new : Debugging) (e : Entry) → StepsTo old new e → new.world.settings ≡ old.world.settings
stepped_same old new e s = ap (λ (r : Run). r.settings) s.taken.takes.grown

refused_same : (d : Debugging) (fault : CommandFault) → (refused_at d fault).world.settings ≡ d.world.settings
refused_same d (StepRefused reason) = refl
refused_same d fault = refl

refuses_same : (old new : Debugging) (fault : CommandFault) → Refuses old new fault → new.world.settings ≡ old.world.settings
refuses_same old new fault h = same_as (refused_at old fault) new h.1 ∙ refused_same old fault

steps_same : (old new : Debugging) (result : Result Reply CommandFault) → Steps old new result → new.world.settings ≡ old.world.settings
steps_same old new (Ok (Text text)) h = stepped_same old new h.0 h.1
steps_same old new (Ok End) h = same_as old new h.1
steps_same old new (Ok reply) h = absurd h
steps_same old new (Err fault) h = refuses_same old new fault h

goes_same : (old new : Debugging) (result : Result Reply CommandFault) → Goes old new result → new.world.settings ≡ old.world.settings
goes_same old new (Ok (StoppedAt place number)) h = sym (forward_same old new h.count h.forward)
goes_same old new (Ok (EndAt place)) h = sym (forward_same old new h.0.count h.0.forward)
goes_same old new (Ok reply) h = absurd h
goes_same old new (Err fault) h =
    refuses_same h.mid new fault h.refuses ∙ sym (forward_same old h.mid h.passed.count h.passed.forward)

goes_on_same : (old new : Debugging) (place : ℕ) (result : Result Reply CommandFault) → GoesOn old new place result
    → new.world.settings ≡ old.world.settings
goes_on_same old new place (Ok (At n)) h = sym (forward_same old new _ h.2)
goes_on_same old new place (Ok (EndAt n)) h = sym (forward_same old new _ h.2)
goes_on_same old new place (Ok reply) h = absurd h
goes_on_same old new place (Err fault) h = refuses_same h.0 new fault h.3 ∙ sym (forward_same old h.0 _ h.2)

goes_to_same : (old new : Debugging) (place : ℕ) (result : Result Reply CommandFault) (b : Bool)
    → MatchBool b ((result ≡ Ok (At place)) × (new ≡ gone_back old place)) (GoesOn old new place result)
    → new.world.settings ≡ old.world.settings
goes_to_same old new place result true h = same_as (gone_back old place) new h.1
goes_to_same old new place result false h = goes_on_same old new place result h

goes_back_same : (old new : Debugging) (result : Result Reply CommandFault) → GoesBackMet old new result → new.world.settings ≡ old.world.settings
goes_back_same old new (Ok (StoppedAt place number)) h = same_as (gone_back old place) new h.1
goes_back_same old new (Ok (At place)) h = same_as (gone_back old 0) new h.3
goes_back_same old new (Ok reply) h = absurd h
goes_back_same old new (Err AtStart) h = same_as old new h.1
goes_back_same old new (Err NoMemory) h = same_as old new h.1
goes_back_same old new (Err fault) h = absurd h

replies_same : (old new : Debugging) (command : Command) (reply : Reply) → Replies old new command reply → new.world.settings ≡ old.world.settings
replies_same old new commands.Back (At place) h = sym (ap (λ (r : Run). r.settings) h.0.grown)
replies_same old new (commands.Break breakpoint) (WasSet number) h = ap (λ (d : Debugging). d.world.settings) h.1
replies_same old new (commands.Clear number) (WasCleared n) h = ap (λ (d : Debugging). d.world.settings) h.1
replies_same old new (commands.Show key) (Stands k state) h = same_as old new h.2
replies_same old new (commands.History key) (Text text) h = same_as old new h.1
replies_same old new commands.Queues (Text text) h = same_as old new h.1
replies_same old new commands.Timers (Text text) h = same_as old new h.1
replies_same old new commands.Lines (Text text) h = same_as old new h.1
replies_same old new (commands.Sent line) (Text text) h = same_as old new h.1
replies_same old new (commands.ListRow role row) (Text text) h = same_as old new h.1
replies_same old new (commands.TotalsOf account) (AreTotals totals) h = same_as old new h.1
replies_same old new commands.Accounts (Text text) h = same_as old new h.1
replies_same old new commands.Where (IsAt place next last) h = same_as old new h.3
replies_same old new commands.Help Help h = same_as old new h
replies_same old new command reply h = absurd h

whys_same : (old new : Debugging) (key : Key) (result : Result Reply CommandFault) → Whys old new key result → new.world.settings ≡ old.world.settings
whys_same old new key (Ok (Text text)) h = same_as old new h.1
whys_same old new key (Ok reply) h = absurd h
whys_same old new key (Err NoSuchMachine) h = same_as old new h.1
whys_same old new key (Err NoMemory) h = same_as old new h
whys_same old new key (Err fault) h = absurd h

answers_same : (old new : Debugging) (command : Command) (result : Result Reply CommandFault) → Answers old new command result
    → new.world.settings ≡ old.world.settings
answers_same old new command (Ok reply) h = replies_same old new command reply h.1
answers_same old new command (Err fault) h = same_as old new h.1

commands_same : (old new : Debugging) (command : Command) (result : Result Reply CommandFault) → Commands old new command result
    → new.world.settings ≡ old.world.settings
commands_same old new commands.Step result h = steps_same old new result h
commands_same old new commands.Go result h = goes_same old new result h
commands_same old new commands.ReverseGo result h = goes_back_same old new result h
commands_same old new (commands.Goto place) result h = goes_to_same old new place result (nat_le place (place_of old)) h
commands_same old new (commands.Why key) result h = whys_same old new key result h
commands_same old new command result h = answers_same old new command result h

does_same : (old new : Debugging) (read : Result Command CommandFault) (result : Result Reply CommandFault) → DoesRead old new read result
    → new.world.settings ≡ old.world.settings
does_same old new (Err fault) result h = same_as old new h.1
does_same old new (Ok command) result (inl done) = commands_same old new command result done
does_same old new (Ok command) result (inr short) = same_as old new short.1

-- so that the registries are still those of the bench
pub done_by : (old new : Debugging) (line : List ℕ) (result : Result Reply CommandFault) (books : List Laws) → Does old new line result
    → IsRunBy old.world books → IsRunBy new.world books
done_by old new line result books does by =
    run_by_same old.world new.world books by (sym (does_same old new (command_of (tables_in old.world.settings) line) result does))
