-- Which text of a desk is the next, and when its time has come.
use Rattle.std.specs.Prelude.{◌≡◌, ◌<◌, ◌+◌, ◌-◌, ◌^◌, ◌==◌, ◌&&◌, ◌||◌, ℕ, Bool, true, false, not, nat_lt, List}
use Rattle.std.specs.Prelude.{Option, None, Some, codes, drop, length, min, nat_eq, take, slice_get, if◌then◌else◌}
use Rattle.std.specs.List.{list_all}
use Rattle.std.specs.Option.{option_and_then, option_map_or}
use Rattle.std.specs.Str.{bytes_eq}
use Rattle.std.specs.List.{starts_with}
use Rattle.bench_item.specs.declared.key.Key.{Key}
use Rattle.bench_item.specs.declared.key.Role.{Role}
use Rattle.bench_item.specs.declared.key.Role.TheVariants.{Peer, Client, Server}
use Rattle.bench_item.specs.declared.step.Step.{Step}
use Rattle.bench_item.specs.declared.step.Step.TheVariants.{Told}
use Rattle.live_desk.specs.declared.desk.Desk.{Desk}
use Rattle.live_desk.specs.declared.texts.DeskText.{DeskText}
use Rattle.live_desk.specs.Standing.{Standing}
use Rattle.live_desk.specs.Texts.{is_start, told_step}
use Rattle.bench_spec.specs.Settings.{table_of}
use Rattle.tab_law.specs.Books.{Laws}

-- the name of the state of a machine, if it is there
abbrev pub state_name : Standing → Key → Option (List ℕ)
state_name seen key =
    option_and_then (λ state. slice_get (table_of seen.settings key.role).states state.state)
    (seen.machine_of key)

-- the words of a text
abbrev pub words_of : DeskText → List ℕ
words_of text = text.words

-- a peer's machine stands where messages go through (RFC 6733 section 5.6)
abbrev pub is_open : Standing → Key → Bool
is_open seen key =
    option_map_or (λ name. bytes_eq name (codes "I-Open") || bytes_eq name (codes "R-Open")) (state_name seen key) false

-- a session's machine waits for an answer (RFC 8506 section 7)
abbrev pub is_pending : Standing → Key → Bool
is_pending seen key = option_map_or (λ name. starts_with nat_eq name (codes "Pending")) (state_name seen key) false

-- the peer that a text told Start, if it did, stands open
abbrev pub is_ready : Standing → DeskText → Bool
is_ready seen text = option_map_or (is_open seen) text.starts true

-- how many texts of its round a desk told
abbrev pub count_of : Desk → ℕ
count_of desk = min desk.place (length desk.texts.items)

-- those texts, and the others, which it told in the round before, if there was one
abbrev pub told_now : Desk → List DeskText
told_now desk = take (count_of desk) desk.texts.items

abbrev pub told_earlier : Desk → List DeskText
told_earlier desk = drop (count_of desk) desk.texts.items

-- the texts that were told before the next one
abbrev pub told_of : Desk → List DeskText
told_of desk = if nat_lt 1 desk.round then desk.texts.items else told_now desk

-- the session that a desk told an event waits for an answer to one
abbrev pub waits : Standing → Step → Bool
waits seen (Told number key event) = by key.role
  where
    by : Role → Bool
    by Peer = false
    by Client = is_pending seen key
    by Server = is_pending seen key
waits seen step = false

-- the session of a text, as it was told in that round, waits for no answer
abbrev pub is_answered : Standing → (desk round : ℕ) → DeskText → Bool
is_answered seen desk round text =
    option_map_or (λ step. not (waits seen step)) (told_step seen.settings.node.laws desk text.words round) true

-- no session waits for an answer, of those that a desk told something, by each text as it was told last
abbrev pub are_answered : Standing → Desk → Bool
are_answered seen desk =
    list_all (is_answered seen desk.number desk.round) (told_now desk)
    && (not (nat_lt 1 desk.round) || list_all (is_answered seen desk.number (desk.round - 1)) (told_earlier desk))

-- the time of what is told next has come: that of a session's event, once each peer that was told Start stands open
-- and the session waits for no answer; that of a peer's event, once no session waits for one, but that of Start at once
abbrev pub is_time : Standing → Desk → Step → Bool
is_time seen desk (Told number key event) = by key.role
  where
    by : Role → Bool
    by Peer = is_start seen.settings.node.laws event.kind || are_answered seen desk
    by Client = list_all (is_ready seen) (told_of desk) && not (is_pending seen key)
    by Server = list_all (is_ready seen) (told_of desk) && not (is_pending seen key)
is_time seen desk step = true

-- all rounds are told
abbrev pub is_over : Desk → Bool
is_over desk = (length desk.texts.items == 0) || nat_lt desk.rounds desk.round

-- what is told next, if something is: the text at its place, in its round
abbrev pub next_step : Laws → Desk → Option Step
next_step laws desk =
    if is_over desk then None
    else option_and_then (λ text. told_step laws desk.number text.words desk.round)
    (slice_get desk.texts.items desk.place)

-- it is the next, and its time has come, or it was looked for in vain as often as may be
pub record IsDue (seen : Standing) (desk : Desk) (step : Step) : Type 0 where
  pub next : next_step seen.settings.node.laws desk ≡ Some step
  pub time : (nat_lt desk.looks desk.patience && not (is_time seen desk step)) ≡ false

-- it was looked for in vain once more
pub record LooksInVain (seen : Standing) (old new : Desk) : Type 0 where
  pub step : Step
  pub next : next_step seen.settings.node.laws old ≡ Some step
  pub early : is_time seen old step ≡ false
  pub patient : old.looks < old.patience
  pub counted : new ≡ record old { looks = old.looks + 1 }

-- the next text, behind the last one the first of the next round
abbrev pub gone_on : Desk → Desk
gone_on desk =
    if nat_lt 1 (length desk.texts.items - desk.place)
    then record desk { looks = 0; place = desk.place + 1 }
    else record desk { looks = 0; place = 0; round = min (desk.round + 1) (2 ^ 64 - 1) }
