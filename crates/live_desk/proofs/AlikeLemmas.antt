-- Machines that stand alike are open alike, and wait alike.
use Rattle.std.proofs.Common.{◌≡◌, ℕ, Bool, true, not, List, [], ◌∷◌, ◌++◌, Option, None, Some}
use Rattle.std.proofs.Common.{IfSome, filter_map, option_and_then, refl, ap}
use Rattle.std.specs.List.{AllByRecursion as Each, cons_option, list_all}
use Rattle.std.specs.Option.{option_map_or}
use Rattle.bench_item.specs.declared.key.Key.{Key}
use Rattle.bench_item.specs.declared.key.Role.{Role}
use Rattle.bench_item.specs.declared.key.Role.TheVariants.{Peer, Client, Server}
use Rattle.bench_item.specs.declared.step.Step.{Step}
use Rattle.bench_item.specs.declared.step.Step.TheVariants.{Told}
use Rattle.bench_spec.specs.Settings.{Settings}
use Rattle.live_desk.specs.declared.texts.DeskText.{DeskText}
use Rattle.live_desk.specs.Desks.{is_answered, is_open, is_pending, is_ready, waits}
use Rattle.live_desk.specs.Keys.{machine_of_text, starts_of, told_machine}
use Rattle.live_desk.specs.Standing.{Standing}
use Rattle.live_desk.specs.Texts.{told_step}
use Rattle.tab_step.specs.declared.machine.Event.{Event}
use Rattle.tab_step.specs.declared.machine.MachineState.{MachineState}

-- what holds of each of two lists holds of each of both
pub Each-parts : {X : Type 0} (P : X → Type 0) (xs ys : List X) → Each P (xs ++ ys) → Each P xs × Each P ys
Each-parts P [] ys each = (tt, each)
Each-parts P (x ∷ xs) ys each = let rest = Each-parts P xs ys each.1 in ((each.0, rest.0), rest.1)

Each-option : {X : Type 0} (P : X → Type 0) (o : Option X) (xs : List X) → Each P (cons_option o xs) → IfSome o P × Each P xs
Each-option P None xs each = (tt, each)
Each-option P (Some x) xs each = each

-- two tests agree on all, where they agree on what a list of theirs is about
pub list_all-alike : {X : Type 0} (P : Key → Type 0) (f g : X → Bool) (about : X → Option Key) → ((x : X) → IfSome (about x) P → f x ≡ g x) → (xs : List X) → Each P (filter_map about xs) → list_all f xs ≡ list_all g xs
list_all-alike P f g about alike [] each = refl
list_all-alike P f g about alike (x ∷ xs) each =
    let parts = Each-option P (about x) (filter_map about xs) each in
    let here : f x ≡ g x = alike x parts.0 in
    let rest : list_all f xs ≡ list_all g xs = list_all-alike P f g about alike xs parts.1 in
    rw (here, rest) refl

option_map_or-alike : {X : Type 0} (f g : X → Bool) (o : Option X) (d : Bool) → IfSome o (λ x. f x ≡ g x) → option_map_or f o d ≡ option_map_or g o d
option_map_or-alike f g None d alike = refl
option_map_or-alike f g (Some x) d alike = alike

-- a bench that was opened with this, and where its machines stand
abbrev pub standing : Settings → (Key → Option MachineState) → Standing
standing settings machine_of = record { settings = settings; machine_of = machine_of }

is_open-alike : (settings : Settings) (f g : Key → Option MachineState) (key : Key) → f key ≡ g key → is_open (standing settings f) key ≡ is_open (standing settings g) key
is_open-alike settings f g key same = rw same refl

pub is_pending-alike : (settings : Settings) (f g : Key → Option MachineState) (key : Key) → f key ≡ g key → is_pending (standing settings f) key ≡ is_pending (standing settings g) key
is_pending-alike settings f g key same = rw same refl

some_open-alike : (settings : Settings) (f g : Key → Option MachineState) (o : Option Key) → IfSome o (λ key. f key ≡ g key) → IfSome o (λ key. is_open (standing settings f) key ≡ is_open (standing settings g) key)
some_open-alike settings f g None same = tt
some_open-alike settings f g (Some key) same = is_open-alike settings f g key same

pub is_ready-alike : (settings : Settings) (f g : Key → Option MachineState) (text : DeskText) → IfSome (starts_of text) (λ key. f key ≡ g key) → is_ready (standing settings f) text ≡ is_ready (standing settings g) text
is_ready-alike settings f g text same =
    option_map_or-alike (is_open (standing settings f)) (is_open (standing settings g)) text.starts true (some_open-alike settings f g text.starts same)

waits-by : (settings : Settings) (f g : Key → Option MachineState) (number : ℕ) (role : Role) (name : List ℕ) (event : Event) → f (record { role = role; name = name }) ≡ g (record { role = role; name = name }) → waits (standing settings f) (Told number (record { role = role; name = name }) event) ≡ waits (standing settings g) (Told number (record { role = role; name = name }) event)
waits-by settings f g number Peer name event same = refl
waits-by settings f g number Client name event same = is_pending-alike settings f g (record { role = Client; name = name }) same
waits-by settings f g number Server name event same = is_pending-alike settings f g (record { role = Server; name = name }) same

waits-alike : (settings : Settings) (f g : Key → Option MachineState) (step : Step) → IfSome (told_machine step) (λ key. f key ≡ g key) → waits (standing settings f) step ≡ waits (standing settings g) step
waits-alike settings f g (Told number key event) same = waits-by settings f g number key.role key.name event same
waits-alike settings f g step same = refl

answered-by : (settings : Settings) (f g : Key → Option MachineState) (o : Option Step) → IfSome (option_and_then told_machine o) (λ key. f key ≡ g key) → option_map_or (λ step. not (waits (standing settings f) step)) o true ≡ option_map_or (λ step. not (waits (standing settings g) step)) o true
answered-by settings f g None same = refl
answered-by settings f g (Some step) same = ap not (waits-alike settings f g step same)

pub is_answered-alike : (settings : Settings) (f g : Key → Option MachineState) (desk round : ℕ) (text : DeskText) → IfSome (machine_of_text settings.node.laws desk round text) (λ key. f key ≡ g key) → is_answered (standing settings f) desk round text ≡ is_answered (standing settings g) desk round text
is_answered-alike settings f g desk round text same =
    answered-by settings f g (told_step settings.node.laws desk text.words round) same
