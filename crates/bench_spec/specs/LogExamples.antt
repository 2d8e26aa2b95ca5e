-- What the logs of sessions say, computed: own events, staleness, timers, totals, numbers, looks, and where breakpoints
-- are met.
use Rattle.std.specs.Prelude.{◌≡◌, true, false, List, [], ◌∷◌, length, map, Some, None, codes, take, refl}
use Rattle.base_codes.specs.DeedCodes.{coded}
use Rattle.acct_book.specs.Sums.{debited, left_where, own, unpaid}
use Rattle.bench_item.specs.declared.entry.Handled.TheVariants.{Move, Stale}
use Rattle.bench_item.specs.declared.key.Role.TheVariants.{Client, Peer, Server}
use Rattle.bench_item.specs.declared.source.Source.TheVariants.{Clock}
use Rattle.bench_item.specs.declared.step.Step.{Step}
use Rattle.bench_item.specs.declared.step.Step.TheVariants.{Drop}
use Rattle.bench_item.specs.Keys.{key_of}
use Rattle.bench_spec.specs.ExampleLog.{carried}
use Rattle.bench_spec.specs.ChargeLog as charge
use Rattle.bench_spec.specs.SessionLog as session
use Rattle.bench_spec.specs.Items.{armed, hand, inbox}
use Rattle.bench_spec.specs.Machines.{directory, number_of}
use Rattle.bench_spec.specs.Own.{own_events}
use Rattle.bench_spec.specs.Played.{play}
use Rattle.bench_spec.specs.World.{AtKind, AtMachine, AtRow, AtState, first_met, meets, names_of, world_at, world_of}

-- the session's own events are Begin, More and the second Tx: the first was stale
pub own_of_session : own_events session.settings session.log session.session
    ≡ session.event 0 ∷ session.event 1 ∷ session.event 2 ∷ []
own_of_session = refl

-- a server's session has its event with what the book offered
pub own_of_x : own_events charge.settings charge.log (key_of Server (codes "x")) ≡ charge.reserved_x.event ∷ []
unfolding coded own left_where debited unpaid
own_of_x = refl

pub own_of_peer : map (λ e. e.kind) (own_events charge.settings charge.log (key_of Peer (codes "a"))) ≡ 1 ∷ 1 ∷ []
own_of_peer = refl

-- the timer: armed, armed anew behind the first firing, and not any more once it fired
pub armed_1 : armed (take 6 session.log) 0 ≡ Some 1
armed_1 = refl

pub fired_1 : armed (take 14 session.log) 0 ≡ None
fired_1 = refl

pub armed_2 : armed (take 16 session.log) 0 ≡ Some 2
armed_2 = refl

pub fired_2 : armed session.log 0 ≡ None
fired_2 = refl

-- what waits, and what is on its way, at place 12
pub inbox_12 : length (inbox session.settings.node (take 12 session.log) 0) ≡ 2
inbox_12 = refl

pub clock_11 : hand (take 11 session.log) Clock ≡ session.fired_with 1 ∷ []
clock_11 = refl

-- directories of two shards, and numbers
pub shard_0 : directory charge.settings.node 0 charge.log ≡ key_of Client (codes "x") ∷ key_of Server (codes "x") ∷ []
shard_0 = refl

pub shard_1 : directory charge.settings.node 1 charge.log
    ≡ key_of Peer (codes "a") ∷ key_of Client (codes "y") ∷ key_of Server (codes "y") ∷ []
shard_1 = refl

pub number_of_y : number_of charge.settings.node charge.log (key_of Server (codes "y")) ≡ Some 4098
number_of_y = refl

pub named_machines : map (λ m. m.1) (names_of charge.settings charge.log).machines ≡ 0 ∷ 1 ∷ 4096 ∷ 4097 ∷ 4098 ∷ []
named_machines = refl

-- totals: at the end, and where the second request was refused
pub totals_100 : (world_of charge.settings charge.log).totals_at 100
    ≡ Some (record { given = 100; reserved = 60; debited = 0; unpaid = 0 })
unfolding coded own left_where debited unpaid
totals_100 = refl

pub totals_101 : (world_of charge.settings charge.log).totals_at 101
    ≡ Some (record { given = 100; reserved = 30; debited = 0; unpaid = 0 })
unfolding coded own left_where debited unpaid
totals_101 = refl

pub totals_before : (world_at charge.settings charge.log 9).totals_at 100
    ≡ Some (record { given = 100; reserved = 0; debited = 0; unpaid = 0 })
unfolding coded own left_where debited unpaid
totals_before = refl

pub totals_refused : (world_of charge.settings charge.log_z).totals_at 100
    ≡ Some (record { given = 100; reserved = 60; debited = 0; unpaid = 0 })
unfolding coded own left_where debited unpaid
totals_refused = refl

-- breakpoints at a move: its row and its role, the state in which it leaves its machine, its kind, its machine; and
-- others
pub at_row : meets (charge.works 0 (charge.begin charge.of_x) (charge.asked 0 charge.of_x)) (AtRow Client 0) ≡ true
at_row = refl

pub at_other_row : meets (charge.works 0 (charge.begin charge.of_x) (charge.asked 0 charge.of_x)) (AtRow Client 1)
    ≡ false
at_other_row = refl

pub at_other_role : meets (charge.works 0 (charge.begin charge.of_x) (charge.asked 0 charge.of_x)) (AtRow Server 0)
    ≡ false
at_other_role = refl

pub at_state : meets (session.works (session.told 0) (Move (session.arming 0 0 0))) (AtState session.session 1) ≡ true
at_state = refl

pub at_other_state : meets (session.works (session.told 0) (Move (session.arming 0 0 0))) (AtState session.session 0)
    ≡ false
at_other_state = refl

-- a stale entry meets a kind and a machine, and neither a state nor a row
pub stale_kind : meets (session.works (session.fired_with 1) (Stale 1)) (AtKind 2) ≡ true
stale_kind = refl

pub stale_other_kind : meets (session.works (session.fired_with 1) (Stale 1)) (AtKind 1) ≡ false
stale_other_kind = refl

pub stale_machine : meets (session.works (session.fired_with 1) (Stale 1)) (AtMachine session.session) ≡ true
stale_machine = refl

pub stale_other_machine : meets (session.works (session.fired_with 1) (Stale 1)) (AtMachine (key_of Server (codes "x")))
    ≡ false
stale_other_machine = refl

pub stale_state : meets (session.works (session.fired_with 1) (Stale 1)) (AtState session.session 1) ≡ false
stale_state = refl

pub stale_row : meets (session.works (session.fired_with 1) (Stale 1)) (AtRow Client 2) ≡ false
stale_row = refl

-- carrying an item meets nothing; of several that are met the least number counts, in any order
pub carried_kind : meets (carried (Drop Clock) (Some (session.fired_with 1))) (AtKind 2) ≡ false
carried_kind = refl

pub least_met : first_met ((7, AtKind 2) ∷ (5, AtKind 1) ∷ (3, AtMachine session.session) ∷ (4, AtKind 2) ∷ [])
    (session.works (session.fired_with 1) (Stale 1)) ≡ Some 3
least_met = refl

pub none_met : first_met ((7, AtKind 0) ∷ []) (session.works (session.fired_with 1) (Stale 1)) ≡ None
none_met = refl

-- a log played from its steps, where each action picks the greatest number that its law allows
abbrev session_steps : List Step
session_steps = map (λ e. e.step) session.log

pub session_played : play session.settings [] session_steps ≡ session.log
unfolding coded
session_played = refl

pub charge_played : play charge.settings [] (map (λ e. e.step) charge.log_z) ≡ charge.log_z
unfolding coded own left_where debited unpaid
charge_played = refl
