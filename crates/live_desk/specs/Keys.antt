-- By which machines it is known whether the time of a desk's next text has come.
use Rattle.std.specs.Prelude.{◌≡◌, ◌++◌, ◌-◌, ℕ, List, [], ◌∷◌, Option, None, Some, filter_map, nat_lt, if◌then◌else◌}
use Rattle.std.specs.List.{AllByRecursion as Each}
use Rattle.std.specs.Option.{option_and_then, option_map_or}
use Rattle.bench_item.specs.declared.key.Key.{Key}
use Rattle.bench_item.specs.declared.key.Role.{Role}
use Rattle.bench_item.specs.declared.key.Role.TheVariants.{Peer, Client, Server}
use Rattle.bench_item.specs.declared.step.Step.{Step}
use Rattle.bench_item.specs.declared.step.Step.TheVariants.{Told}
use Rattle.live_desk.specs.declared.desk.Desk.{Desk}
use Rattle.live_desk.specs.declared.texts.DeskText.{DeskText}
use Rattle.live_desk.specs.Desks.{is_time, next_step, told_earlier, told_now, told_of}
use Rattle.live_desk.specs.Standing.{Standing}
use Rattle.live_desk.specs.Texts.{is_start, told_step}
use Rattle.tab_law.specs.Books.{Laws}

-- the machine that a step tells something, if it does
abbrev pub told_machine : Step → Option Key
told_machine (Told number key event) = Some key
told_machine step = None

-- the machine that a text tells something in a round, if it does
abbrev pub machine_of_text : Laws → (desk round : ℕ) → DeskText → Option Key
machine_of_text laws desk round text = option_and_then told_machine (told_step laws desk text.words round)

-- the machines that a desk told something, by each text as it was told last
abbrev pub told_machines : Laws → Desk → List Key
told_machines laws desk =
    filter_map (machine_of_text laws desk.number desk.round) (told_now desk)
    ++ (if nat_lt 1 desk.round
    then filter_map (machine_of_text laws desk.number (desk.round - 1)) (told_earlier desk)
    else [])

-- the peer that a text told Start, if it did
abbrev pub starts_of : DeskText → Option Key
starts_of text = text.starts

-- the peers that a desk told Start
abbrev pub started : Desk → List Key
started desk = filter_map starts_of (told_of desk)

-- by which machines the time of a step is known: that of a session's event by the peers that were told Start and the
-- session, that of a peer's event by all that were told something, that of Start by none
abbrev pub keys_by : Laws → Desk → Step → List Key
keys_by laws desk (Told number key event) = by key.role
  where
    by : Role → List Key
    by Peer = if is_start laws event.kind then [] else told_machines laws desk
    by Client = started desk ++ key ∷ []
    by Server = started desk ++ key ∷ []
keys_by laws desk step = []

-- the same of what is told next
abbrev pub keys_of : Laws → Desk → List Key
keys_of laws desk = option_map_or (keys_by laws desk) (next_step laws desk) []

-- two benches were opened alike, and these machines stand alike in them
pub record StandAlike (keys : List Key) (a b : Standing) : Type 0 where
  pub settings : a.settings ≡ b.settings
  pub machines : Each (λ key. a.machine_of key ≡ b.machine_of key) keys

-- in two benches with these laws in which these machines stand alike, the time of a desk's next text has come in both
-- or in none
abbrev pub DecidesTime : Laws → Desk → List Key → Type 0
DecidesTime laws desk keys =
    (a b : Standing) (step : Step) → a.settings.node.laws ≡ laws → StandAlike keys a b
    → next_step laws desk ≡ Some step → is_time a desk step ≡ is_time b desk step
