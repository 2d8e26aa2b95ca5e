-- Commands of a debugger on the session's log, and what desks are answered, computed.
use Rattle.std.specs.Prelude.{◌≡◌, ℕ, true, false, [], ◌∷◌, codes, map, replicate, take, Some, None, Ok, Err}
use Rattle.std.specs.Prelude.{refl}
use Rattle.std.specs.List.{enumerate_from}
use Rattle.bench_item.specs.declared.item.MachineItem.{MachineItem}
use Rattle.bench_item.specs.declared.key.Role.TheVariants.{Client, Peer, Server}
use Rattle.bench_item.specs.declared.step.Step.TheVariants.{Work}
use Rattle.bench_item.specs.declared.step.StepFault.TheVariants.{Nothing}
use Rattle.bench_item.specs.Keys.{key_of}
use Rattle.bench_spec.specs.ChargeLog as charge
use Rattle.bench_spec.specs.SessionLog as session
use Rattle.bench_spec.specs.Debug.{AtStart, Back, Break, Clear, Commands, Debugging, End, Go, ListRow, NoSuchAccount}
use Rattle.bench_spec.specs.Debug.{Next}
use Rattle.bench_spec.specs.Debug.{NoSuchBreakpoint, NoSuchMachine, NoSuchRow, Show, Stands, StepRefused}
use Rattle.bench_spec.specs.Debug.{TooManyBreakpoints, TotalsOf, WasCleared, WasSet, Where, IsAt, command_refusal}
use Rattle.bench_spec.specs.Debug.{debugging}
use Rattle.bench_spec.specs.Debug.{with_passed, with_set, without}
use Rattle.bench_spec.specs.Desks.{Unknown, agrees, tell_fault, told_count}
use Rattle.bench_spec.specs.MergedLog.{desk_0, look_0}
use Rattle.bench_spec.specs.Taken.{opened, with_log}
use Rattle.bench_spec.specs.World.{AtKind}

-- a debugger of the world of that log with a script of one step, whose shard has nothing to work
abbrev one : Debugging
one = debugging (with_log (opened session.settings) session.log) (Work 0 ∷ [])

abbrev fresh : Debugging
fresh = debugging (opened session.settings) []

abbrev with_many : Debugging
with_many = record one { set = map (λ n. (n.0, AtKind 0)) (enumerate_from 1 (replicate {A = ℕ} 32 0)); count = 32 }

-- what is refused, and what is not
pub at_start : command_refusal fresh Back ≡ Some AtStart
at_start = refl

pub not_at_start : command_refusal one Back ≡ None
not_at_start = refl

pub no_machine : command_refusal one (Show (key_of Server (codes "x"))) ≡ Some NoSuchMachine
no_machine = refl

pub no_breakpoint : command_refusal one (Clear 1) ≡ Some NoSuchBreakpoint
no_breakpoint = refl

pub many_breakpoints : command_refusal with_many (Break (AtKind 1)) ≡ Some TooManyBreakpoints
many_breakpoints = refl

pub no_account : command_refusal one (TotalsOf 100) ≡ Some NoSuchAccount
no_account = refl

pub no_row : command_refusal one (ListRow Client 3) ≡ Some NoSuchRow
no_row = refl

pub last_row : command_refusal one (ListRow Client 2) ≡ None
last_row = refl

-- replies: where the session stands, the place, breakpoints by number; numbers are not used again
pub shows : Commands one one (Show session.session) (Ok (Stands session.session (session.at 0 2)))
shows = (refl, (refl, refl, refl))

pub says_where : Commands one one Where (Ok (IsAt 20 0 1))
says_where = (refl, (refl, refl, refl, refl))

pub sets_first : Commands one (with_set one (AtKind 2)) (Break (AtKind 2)) (Ok (WasSet 1))
sets_first = (refl, (refl, refl))

pub clears : Commands (with_set one (AtKind 2)) (without (with_set one (AtKind 2)) 1) (Clear 1) (Ok (WasCleared 1))
clears = (refl, (refl, refl))

pub sets_second : Commands (without (with_set one (AtKind 2)) 1)
    (with_set (without (with_set one (AtKind 2)) 1) (AtKind 2)) (Break (AtKind 2)) (Ok (WasSet 2))
sets_second = (refl, (refl, refl))

-- a step that is refused is passed over, and behind it the script ends; a run stops behind it too
pub refused : Commands one (with_passed one) Next (Err (StepRefused Nothing))
refused = (refl, refl)

pub ended : Commands (with_passed one) (with_passed one) Next (Ok End)
ended = refl

pub stops_behind : Commands one (with_passed one) Go (Err (StepRefused Nothing))
stops_behind = ([], one, refl, (refl, refl))

-- tells: of a peer that is none, and to an inbox that is full; and the look of the first desk of two shards
abbrev waiting : MachineItem
waiting = record { key = session.session; event = session.event 0; condition = None; session = [] }

pub unknown_peer : tell_fault charge.settings [] (key_of Peer (codes "b")) 0 ≡ Unknown
unknown_peer = refl

pub told_once : told_count charge.settings 0 (take 2 desk_0) 0 ≡ 1
told_once = refl

pub look_agrees : agrees charge.settings 0 (take 2 desk_0) look_0 ≡ true
look_agrees = refl

pub lost_item : agrees charge.settings 0 (take 2 desk_0) (record look_0 { handled = 0 }) ≡ false
lost_item = refl

pub fewer_handled : agrees charge.settings 0 desk_0 (record look_0 { waiting = 1; handled = 0 }) ≡ false
fewer_handled = refl
