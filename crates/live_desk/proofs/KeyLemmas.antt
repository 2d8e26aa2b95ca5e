-- A desk's keys decide whether the time of its next text has come.
use Rattle.std.proofs.Common.{◌≡◌, ℕ, ◌-◌, Bool, true, false, not, ◌&&◌, ◌||◌, List, [], ◌∷◌, ◌++◌, Option, Some}
use Rattle.std.proofs.Common.{filter_map, if◌then◌else◌, nat_lt, refl, subst, sym}
use Rattle.std.specs.List.{AllByRecursion as Each, list_all}
use Rattle.std.specs.Option.{option_map_or}
use Rattle.bench_item.specs.declared.key.Key.{Key}
use Rattle.bench_item.specs.declared.key.Role.{Role}
use Rattle.bench_item.specs.declared.key.Role.TheVariants.{Peer, Client, Server}
use Rattle.bench_item.specs.declared.step.Step.{Step}
use Rattle.bench_item.specs.declared.step.Step.TheVariants.{Told}
use Rattle.bench_spec.specs.Settings.{Settings}
use Rattle.live_desk.specs.declared.desk.Desk.{Desk}
use Rattle.live_desk.specs.Desks.{IsDue, LooksInVain, are_answered, is_answered, is_pending, is_ready, is_time, next_step}
use Rattle.live_desk.specs.Desks.{told_earlier, told_now, told_of}
use Rattle.live_desk.specs.Keys.{DecidesTime, StandAlike, keys_by, keys_of, machine_of_text, started, starts_of}
use Rattle.live_desk.specs.Keys.{told_machines}
use Rattle.live_desk.specs.Standing.{Standing}
use Rattle.live_desk.specs.Texts.{is_start}
use Rattle.live_desk.proofs.AlikeLemmas.{Each-parts, is_answered-alike, is_pending-alike, is_ready-alike, list_all-alike}
use Rattle.live_desk.proofs.AlikeLemmas.{standing}
use Rattle.tab_law.specs.Books.{Laws}
use Rattle.tab_step.specs.declared.machine.Event.{Event}
use Rattle.tab_step.specs.declared.machine.MachineState.{MachineState}

-- what is asked only where a test is met, and only where it isn't
where_met : (test : Bool) (P : Key → Type 0) (keys : List Key) (x y : Bool) → (Each P keys → x ≡ y) → Each P (if test then keys else []) → (not test || x) ≡ (not test || y)
where_met true P keys x y alike each = alike each
where_met false P keys x y alike each = refl

where_unmet : (test : Bool) (P : Key → Type 0) (keys : List Key) (x y : Bool) → (Each P keys → x ≡ y) → Each P (if test then [] else keys) → (test || x) ≡ (test || y)
where_unmet true P keys x y alike each = refl
where_unmet false P keys x y alike each = alike each

are_answered-alike : (settings : Settings) (f g : Key → Option MachineState) (desk : Desk) → Each (λ key. f key ≡ g key) (told_machines settings.node.laws desk) → are_answered (standing settings f) desk ≡ are_answered (standing settings g) desk
are_answered-alike settings f g desk each =
    let same : Key → Type 0 = λ key. f key ≡ g key in
    let laws = settings.node.laws in
    let earlier = filter_map (machine_of_text laws desk.number (desk.round - 1)) (told_earlier desk) in
    let parts =
    Each-parts same (filter_map (machine_of_text laws desk.number desk.round) (told_now desk)) (if nat_lt 1 desk.round then earlier else []) each in
    let all = λ (round : ℕ).
    list_all-alike same (is_answered (standing settings f) desk.number round) (is_answered (standing settings g) desk.number round) (machine_of_text laws desk.number round) (is_answered-alike settings f g desk.number round) in
    let now = all desk.round (told_now desk) parts.0 in
    let before =
    where_met (nat_lt 1 desk.round) same earlier _ _ (all (desk.round - 1) (told_earlier desk)) parts.1 in
    cc (now, before)

-- of a session's event
session-alike : (settings : Settings) (f g : Key → Option MachineState) (desk : Desk) (key : Key) → Each (λ key. f key ≡ g key) (started desk ++ key ∷ []) → (list_all (is_ready (standing settings f)) (told_of desk) && not (is_pending (standing settings f) key)) ≡ (list_all (is_ready (standing settings g)) (told_of desk) && not (is_pending (standing settings g) key))
session-alike settings f g desk key each =
    let same : Key → Type 0 = λ key. f key ≡ g key in
    let parts = Each-parts same (started desk) (key ∷ []) each in
    let ready =
    list_all-alike same (is_ready (standing settings f)) (is_ready (standing settings g)) starts_of (is_ready-alike settings f g) (told_of desk) parts.0 in
    let pending = is_pending-alike settings f g key parts.1.0 in
    cc (ready, pending)

is_time-by : (settings : Settings) (f g : Key → Option MachineState) (desk : Desk) (number : ℕ) (role : Role) (name : List ℕ) (event : Event) → Each (λ key. f key ≡ g key) (keys_by settings.node.laws desk (Told number (record { role = role; name = name }) event)) → is_time (standing settings f) desk (Told number (record { role = role; name = name }) event) ≡ is_time (standing settings g) desk (Told number (record { role = role; name = name }) event)
is_time-by settings f g desk number Peer name event each =
    where_unmet (is_start settings.node.laws event.kind) (λ key. f key ≡ g key) (told_machines settings.node.laws desk) _ _ (are_answered-alike settings f g desk) each
is_time-by settings f g desk number Client name event each =
    session-alike settings f g desk (record { role = Client; name = name }) each
is_time-by settings f g desk number Server name event each =
    session-alike settings f g desk (record { role = Server; name = name }) each

is_time-of : (settings : Settings) (f g : Key → Option MachineState) (desk : Desk) (step : Step) → Each (λ key. f key ≡ g key) (keys_by settings.node.laws desk step) → is_time (standing settings f) desk step ≡ is_time (standing settings g) desk step
is_time-of settings f g desk (Told number key event) each =
    is_time-by settings f g desk number key.role key.name event each
is_time-of settings f g desk step each = refl

-- where the machines by which the time of a step is known stand alike in two benches, it has come in both or in none
pub is_time-alike : (laws : Laws) (desk : Desk) (step : Step) (a b : Standing) → a.settings.node.laws ≡ laws → StandAlike (keys_by laws desk step) a b → is_time a desk step ≡ is_time b desk step
is_time-alike laws desk step a b of_laws alike =
    let each : Each (λ key. a.machine_of key ≡ b.machine_of key) (keys_by a.settings.node.laws desk step) =
    subst (λ (l : Laws). Each (λ key. a.machine_of key ≡ b.machine_of key) (keys_by l desk step)) (sym of_laws) alike.machines in
    subst (λ (s : Settings). is_time a desk step ≡ is_time (standing s b.machine_of) desk step) alike.settings (is_time-of a.settings a.machine_of b.machine_of desk step each)

-- so a desk's keys decide it
pub keys_of-decide : (laws : Laws) (desk : Desk) (keys : List Key) → keys ≡ keys_of laws desk → DecidesTime laws desk keys
keys_of-decide laws desk keys are a b step of_laws alike next =
    let same : Key → Type 0 = λ key. a.machine_of key ≡ b.machine_of key in
    let each : Each same (keys_of laws desk) = subst (Each same) are alike.machines in
    let own : Each same (keys_by laws desk step) =
    subst (λ (o : Option Step). Each same (option_map_or (keys_by laws desk) o [])) next each in
    is_time-alike laws desk step a b of_laws (record { settings = alike.settings; machines = own })

-- and what is due in one bench is due in the other
pub IsDue-alike : (laws : Laws) (desk : Desk) (keys : List Key) (step : Step) (a b : Standing) → DecidesTime laws desk keys → a.settings.node.laws ≡ laws → StandAlike keys a b → IsDue a desk step → IsDue b desk step
IsDue-alike laws desk keys step a b decides of_laws alike due =
    let next : next_step laws desk ≡ Some step =
    subst (λ (l : Laws). next_step l desk ≡ Some step) of_laws due.next in
    let same : is_time a desk step ≡ is_time b desk step = decides a b step of_laws alike next in
    record {
      next = subst (λ (s : Settings). next_step s.node.laws desk ≡ Some step) alike.settings due.next;
      time = subst (λ (t : Bool). (nat_lt desk.looks desk.patience && not t) ≡ false) same due.time;
    }

-- and what is looked for in vain in one is in the other
pub LooksInVain-alike : (laws : Laws) (old new : Desk) (keys : List Key) (a b : Standing) → DecidesTime laws old keys → a.settings.node.laws ≡ laws → StandAlike keys a b → LooksInVain a old new → LooksInVain b old new
LooksInVain-alike laws old new keys a b decides of_laws alike vain =
    let next : next_step laws old ≡ Some vain.step =
    subst (λ (l : Laws). next_step l old ≡ Some vain.step) of_laws vain.next in
    let same : is_time a old vain.step ≡ is_time b old vain.step = decides a b vain.step of_laws alike next in
    record {
      step = vain.step;
      next = subst (λ (s : Settings). next_step s.node.laws old ≡ Some vain.step) alike.settings vain.next;
      early = subst (λ (t : Bool). t ≡ false) same vain.early;
      patient = vain.patient;
      counted = vain.counted;
    }
