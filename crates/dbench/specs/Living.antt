-- Which words ask that nodes live.
use Rattle.std.specs.Prelude.{option_map}
use Rattle.cmd_live.specs.declared.words.LiveWords.{LiveWords}
use Rattle.cmd_words.specs.Words.{Wanted, Live}

-- what these words ask for
abbrev pub live_wanted_by : LiveWords → Wanted
live_wanted_by words =
    Live words.config.now (option_map (λ host. host.now) words.node) (option_map (λ text. text.now) words.seconds)
    (option_map (λ text. text.now) words.log) words.stats

-- this asks that nodes live
abbrev pub AskToLive : Wanted → Type 0
AskToLive (Live config host seconds log stats) = Unit {0}
AskToLive asked = ⊥
