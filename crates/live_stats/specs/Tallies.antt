-- All that is counted, entry by entry.
use Rattle.std.specs.Prelude.{ℕ, ◌+◌, ◌-◌, ◌==◌, ◌&&◌, not, List, fold, if◌then◌else◌, length, replicate}
use Rattle.std.specs.Prelude.{slice_index, slice_set}
use Rattle.base_times.specs.Counts.{more}
use Rattle.bench_item.specs.declared.entry.Entry.{Entry}
use Rattle.bench_item.specs.declared.key.Role.{Role}
use Rattle.bench_item.specs.declared.key.Role.TheVariants.{Peer, Client, Server}
use Rattle.bench_item.specs.declared.limit.TheConstants.{MAX_LINES}
use Rattle.live_stats.specs.declared.seen.Message.{Message}
use Rattle.live_stats.specs.declared.seen.Message.TheVariants.{Answer, Request}
use Rattle.live_stats.specs.declared.seen.Seen.{Seen}
use Rattle.live_stats.specs.declared.seen.Seen.TheVariants as seen
use Rattle.live_stats.specs.Exchanges.{Exchange, answered, at_rest, no_exchange, requested}
use Rattle.live_stats.specs.Seen.{seen_in}

-- the states of a peer's machine, and how many peers stand in each; how many sessions stand in another state than their
-- first; when octets last came on each connection; the requests that came with their answers, and those that went with
-- theirs; when it was begun
pub record Tally : Type 0 where
  pub states : List (List ℕ)
  pub peers : List ℕ
  pub sessions : ℕ
  pub came : List ℕ
  pub inward : Exchange
  pub outward : Exchange
  pub began : ℕ

-- nothing counted: all peers stand in the first state
unfoldable pub began_with : List (List ℕ) → (peers moment : ℕ) → Tally
began_with states peers moment = record {
  states = states;
  peers = slice_set (replicate (length states) 0) 0 peers;
  sessions = 0;
  came = replicate (MAX_LINES + 1) 0;
  inward = no_exchange;
  outward = no_exchange;
  began = moment;
}

-- how many machines stand in each state, once one of them moved
abbrev pub left_from : List ℕ → (before : ℕ) → List ℕ
left_from states before = slice_set states before (slice_index states before - 1)

abbrev pub states_after : List ℕ → (before after : ℕ) → List ℕ
states_after states before after =
    slice_set (left_from states before) after (more (slice_index (left_from states before) after))

-- how many sessions stand in another state than their first, once one of them moved
abbrev pub sessions_after : (sessions before after : ℕ) → ℕ
sessions_after sessions before after =
    if (before == 0) && not (after == 0) then more sessions
    else (if not (before == 0) && (after == 0) then sessions - 1 else sessions)

-- a message came on a connection, at the moment when octets last came there
abbrev pub noted_heard : Tally → ℕ → Message → Tally
noted_heard t line (Request key) = record t { inward = requested t.inward key (slice_index t.came line) }
noted_heard t line (Answer key code) = record t { outward = answered t.outward key code (slice_index t.came line) }

-- a message was handed to its connection
abbrev pub noted_sent : Tally → Message → (moment : ℕ) → Tally
noted_sent t (Request key) moment = record t { outward = requested t.outward key moment }
noted_sent t (Answer key code) moment = record t { inward = answered t.inward key code moment }

-- a machine moved
abbrev pub moved_by : Tally → Role → (before after : ℕ) → Tally
moved_by t Peer before after = record t { peers = states_after t.peers before after }
moved_by t Client before after = record t { sessions = sessions_after t.sessions before after }
moved_by t Server before after = record t { sessions = sessions_after t.sessions before after }

-- what is counted, with what an entry says
abbrev pub noted_by : Tally → Seen → (moment : ℕ) → Tally
noted_by t seen.Nothing moment = t
noted_by t (seen.Came line) moment = record t { came = slice_set t.came line moment }
noted_by t (seen.Heard line message) moment = noted_heard t line message
noted_by t (seen.Sent message) moment = noted_sent t message moment
noted_by t (seen.Moved role before after) moment = moved_by t role before after

-- what is counted, with an entry that was added to the log at a moment
abbrev pub noted : Tally → (moment : ℕ) → Entry → Tally
noted t moment entry = noted_by t (seen_in entry) moment

-- the same with entries, one after the other
abbrev pub noted_all : Tally → (moment : ℕ) → List Entry → Tally
noted_all t moment entries = fold (λ so_far entry. noted so_far moment entry) t entries

-- requests, answers and times are counted anew from a moment on
abbrev pub next_second : Tally → (moment : ℕ) → Tally
next_second t moment = record t { inward = at_rest t.inward; outward = at_rest t.outward; began = moment }
