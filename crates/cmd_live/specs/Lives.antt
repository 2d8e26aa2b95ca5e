-- How nodes are to live, each as it was read.
use Rattle.std.specs.Prelude.{◌≡◌, ◌++◌, ◌∷◌, ◌+◌, ◌-◌, ◌^◌, ◌&&◌, ℕ, Bool, false, true}
use Rattle.std.specs.Prelude.{not, List, [], Option, None, Some}
use Rattle.std.specs.Prelude.{codes, length, map, min, nat_lt}
use Rattle.bench_copy.specs.Copied.{IsCopied, IsUncopied}
use Rattle.bench_item.specs.declared.key.Role.TheVariants.{Peer}
use Rattle.bench_open.specs.declared.config.Config.{Config}
use Rattle.bench_setup.specs.declared.setups.Setup.{Setup}
use Rattle.bench_spec.specs.Settings.{table_of}
use Rattle.bench_spec.specs.Taken.{Run, opened}
use Rattle.cmd_live.specs.Nodes.{is_wanted, settings_at}
use Rattle.config_text.specs.declared.node.DeskConfig.{DeskConfig}
use Rattle.config_text.specs.declared.node.NodeConfig.{NodeConfig}
use Rattle.live_desk.specs.Desks.{words_of}
use Rattle.live_desk.specs.declared.desk.Desk.{Desk}
use Rattle.live_stats.specs.Tallies.{began_with}
use Rattle.live_turns.specs.declared.turns.Living.{Living}
use Rattle.live_turns.specs.declared.watch.Watch.{Watch}
use Rattle.step_text.specs.Names.{shown}

-- a desk at its start: it has the number of its place, and tells the texts that CONFIG has for it, so many rounds
pub record IsDeskOf (turns number : ℕ) (config : DeskConfig) (desk : Desk) : Type 0 where
  pub numbered : desk.number ≡ min number (2 ^ 32 - 1)
  pub texts : map words_of desk.texts.items ≡ config.lines
  pub rounds : desk.rounds ≡ config.repeat
  pub round : desk.round ≡ 1
  pub place : desk.place ≡ 0
  pub looks : desk.looks ≡ 0
  pub patience : desk.patience ≡ turns

-- one for each that CONFIG has, in their order, from a number on
abbrev pub AreDesksFrom : (turns number : ℕ) → List DeskConfig → List Desk → Type 0
AreDesksFrom turns number [] [] = Unit {0}
AreDesksFrom turns number [] (desk ∷ desks) = ⊥
AreDesksFrom turns number (config ∷ configs) [] = ⊥
AreDesksFrom turns number (config ∷ configs) (desk ∷ desks) =
    IsDeskOf turns number config desk × AreDesksFrom turns (number + 1) configs desks

-- nothing was counted yet of a node's log
pub record IsWatchOf (node : NodeConfig) (run : Run) (watch : Watch) : Type 0 where
  pub title : watch.title.items ≡ codes "stats " ++ shown node.identity.host ++ codes " "
  pub stats : watch.stats ≡ began_with (table_of run.settings Peer).states (length node.peers) 0
  pub seen : watch.seen ≡ 0
  pub second : watch.second ≡ 0

-- who looks each second, where that is wanted
abbrev pub IsWatchWhere : (is_watched : Bool) → NodeConfig → Run → Option Watch → Type 0
IsWatchWhere false node run watch = watch ≡ None
IsWatchWhere true node run None = ⊥
IsWatchWhere true node run (Some watch) = IsWatchOf node run watch

-- what a bench in threads is opened with, where shards run in threads: a copy, or none where there can be none
abbrev pub IsCopyWhere : (in_threads : Bool) → Config → Option Config → Type 0
IsCopyWhere false config copy = copy ≡ None
IsCopyWhere true config None = IsUncopied config
IsCopyWhere true config (Some copy) = IsCopied config copy

-- a node that is to live: its bench was just opened. Who looks each second looks at one log, so none of its shards
-- runs in a thread then
pub record IsLivingOf (seconds : ℕ) (is_watched : Bool) (setup : Setup) (living : Living) : Type 0 where
  pub bench : living.sockets.port.node.node ≡ opened (settings_at setup.bench)
  pub desks : AreDesksFrom setup.node.turns 0 setup.node.desks living.desks.items
  pub shards : living.shards ≡ setup.bench.shards
  pub turns : living.turns ≡ setup.node.turns
  pub lasts : living.seconds ≡ seconds
  pub watch : IsWatchWhere is_watched setup.node (opened (settings_at setup.bench)) living.watch
  pub copy : IsCopyWhere (nat_lt 1 setup.bench.shards && not is_watched) setup.bench living.config

-- those of CONFIG that are to live, in its order
pub data AreLivings (host : Option (List ℕ)) (seconds : ℕ) (is_watched : Bool) : List Setup → List Living → Type 0 where
  nothing : AreLivings host seconds is_watched [] []
  one_more : (setups : List Setup) (setup : Setup) (livings : List Living) (living : Living)
      → AreLivings host seconds is_watched setups livings
      → is_wanted host setup ≡ true → IsLivingOf seconds is_watched setup living
      → AreLivings host seconds is_watched (setups ++ setup ∷ []) (livings ++ living ∷ [])
  another : (setups : List Setup) (setup : Setup) (livings : List Living)
      → AreLivings host seconds is_watched setups livings
      → is_wanted host setup ≡ false → AreLivings host seconds is_watched (setups ++ setup ∷ []) livings
