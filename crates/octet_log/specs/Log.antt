-- A log from octets to a reservation, on one shard (RFC 6733 section 5.3, RFC 8506 section 5.2): a CER of the peer
-- `c.example` and the first request of the session `c1;1` come in one piece.
use Rattle.std.specs.Prelude.{ℕ, ◌++◌, List, [], ◌∷◌, codes, replicate, Some, None, false}
use Rattle.server_rules.specs.Kinds as server
use Rattle.server_rules.specs.Laws as server_laws
use Rattle.peer_rules.specs.Kinds as peer
use Rattle.peer_rules.specs.Laws as peer_laws
use Rattle.tab_law.specs.Books.{Laws}
use Rattle.tab_text.specs.Contents.{Contents}
use Rattle.bench_item.specs.declared.entry.Entry.{Entry}
use Rattle.bench_item.specs.declared.key.Key.{Key}
use Rattle.bench_item.specs.declared.key.Role.TheVariants.{Peer, Server}
use Rattle.bench_item.specs.declared.hears.Turn.{Turn}
use Rattle.bench_item.specs.declared.item.Item.{Item}
use Rattle.bench_item.specs.declared.item.Item.TheVariants.{ToMachine}
use Rattle.bench_item.specs.declared.item.MachineItem.{MachineItem}
use Rattle.bench_item.specs.declared.source.Source.TheVariants.{Line, Shard}
use Rattle.bench_item.specs.declared.step.Step.{Step}
use Rattle.bench_item.specs.declared.step.Step.TheVariants.{Came, Drop, Joined, Lift, Work}
use Rattle.bench_item.specs.Keys.{key_of}
use Rattle.bench_spec.specs.ExampleLog.{carried}
use Rattle.bench_spec.specs.Played.{play}
use Rattle.bench_spec.specs.Settings.{Settings}

-- the CER: Origin-Host c.example, Origin-Realm example, an address, a vendor, a product, and credit control
abbrev pub cer : List ℕ
cer =
    1 ∷ 0 ∷ 0 ∷ 108 ∷ 128 ∷ 0 ∷ 1 ∷ 1 ∷ 0 ∷ 0 ∷ 0 ∷ 0 ∷ 0 ∷ 0 ∷ 0 ∷ 1 ∷ 0 ∷ 0 ∷ 0 ∷ 1 ∷ 0 ∷ 0 ∷ 1 ∷
    8 ∷ 64 ∷ 0 ∷ 0 ∷ 17 ∷ 99 ∷ 46 ∷ 101 ∷ 120 ∷ 97 ∷ 109 ∷ 112 ∷ 108 ∷ 101 ∷ 0 ∷ 0 ∷ 0 ∷ 0 ∷ 0 ∷ 1 ∷
    40 ∷ 64 ∷ 0 ∷ 0 ∷ 15 ∷ 101 ∷ 120 ∷ 97 ∷ 109 ∷ 112 ∷ 108 ∷ 101 ∷ 0 ∷ 0 ∷ 0 ∷ 1 ∷ 1 ∷ 64 ∷ 0 ∷ 0 ∷
    14 ∷ 0 ∷ 1 ∷ 127 ∷ 0 ∷ 0 ∷ 1 ∷ 0 ∷ 0 ∷ 0 ∷ 0 ∷ 1 ∷ 10 ∷ 64 ∷ 0 ∷ 0 ∷ 12 ∷ 0 ∷ 0 ∷ 0 ∷ 0 ∷ 0 ∷ 0 ∷
    1 ∷ 13 ∷ 0 ∷ 0 ∷ 0 ∷ 9 ∷ 120 ∷ 0 ∷ 0 ∷ 0 ∷ 0 ∷ 0 ∷ 1 ∷ 2 ∷ 64 ∷ 0 ∷ 0 ∷ 12 ∷ 0 ∷ 0 ∷ 0 ∷ 4 ∷ []

-- the CCR: Session-Id c1;1, of type INITIAL_REQUEST and number 0, of account 100, for 60 octets
abbrev pub ccr : List ℕ
ccr =
    1 ∷ 0 ∷ 0 ∷ 188 ∷ 192 ∷ 0 ∷ 1 ∷ 16 ∷ 0 ∷ 0 ∷ 0 ∷ 4 ∷ 0 ∷ 0 ∷ 0 ∷ 7 ∷ 0 ∷ 0 ∷ 0 ∷ 7 ∷ 0 ∷ 0 ∷ 1 ∷
    7 ∷ 64 ∷ 0 ∷ 0 ∷ 12 ∷ 99 ∷ 49 ∷ 59 ∷ 49 ∷ 0 ∷ 0 ∷ 1 ∷ 8 ∷ 64 ∷ 0 ∷ 0 ∷ 17 ∷ 99 ∷ 46 ∷ 101 ∷ 120 ∷
    97 ∷ 109 ∷ 112 ∷ 108 ∷ 101 ∷ 0 ∷ 0 ∷ 0 ∷ 0 ∷ 0 ∷ 1 ∷ 40 ∷ 64 ∷ 0 ∷ 0 ∷ 15 ∷ 101 ∷ 120 ∷ 97 ∷ 109 ∷
    112 ∷ 108 ∷ 101 ∷ 0 ∷ 0 ∷ 0 ∷ 1 ∷ 27 ∷ 64 ∷ 0 ∷ 0 ∷ 15 ∷ 101 ∷ 120 ∷ 97 ∷ 109 ∷ 112 ∷ 108 ∷ 101 ∷
    0 ∷ 0 ∷ 0 ∷ 1 ∷ 2 ∷ 64 ∷ 0 ∷ 0 ∷ 12 ∷ 0 ∷ 0 ∷ 0 ∷ 4 ∷ 0 ∷ 0 ∷ 1 ∷ 205 ∷ 64 ∷ 0 ∷ 0 ∷ 11 ∷ 120 ∷
    64 ∷ 121 ∷ 0 ∷ 0 ∷ 0 ∷ 1 ∷ 160 ∷ 64 ∷ 0 ∷ 0 ∷ 12 ∷ 0 ∷ 0 ∷ 0 ∷ 1 ∷ 0 ∷ 0 ∷ 1 ∷ 159 ∷ 64 ∷ 0 ∷ 0 ∷
    12 ∷ 0 ∷ 0 ∷ 0 ∷ 0 ∷ 0 ∷ 0 ∷ 1 ∷ 187 ∷ 64 ∷ 0 ∷ 0 ∷ 32 ∷ 0 ∷ 0 ∷ 1 ∷ 194 ∷ 64 ∷ 0 ∷ 0 ∷ 12 ∷ 0 ∷
    0 ∷ 0 ∷ 0 ∷ 0 ∷ 0 ∷ 1 ∷ 188 ∷ 64 ∷ 0 ∷ 0 ∷ 11 ∷ 49 ∷ 48 ∷ 48 ∷ 0 ∷ 0 ∷ 0 ∷ 1 ∷ 181 ∷ 64 ∷ 0 ∷ 0 ∷
    24 ∷ 0 ∷ 0 ∷ 1 ∷ 161 ∷ 64 ∷ 0 ∷ 0 ∷ 16 ∷ 0 ∷ 0 ∷ 0 ∷ 0 ∷ 0 ∷ 0 ∷ 0 ∷ 60 ∷ []

-- the laws of the roles of peers and of servers
abbrev pub laws : Laws
laws = record {
  kinds = peer.kinds ++ server.kinds;
  guards = server_laws.guards;
  acts = peer_laws.acts ++ server_laws.acts;
}

-- the rows of the peers' table for a connection that is accepted: the first takes the CER, the second a message
abbrev pub peer_table : Contents
peer_table = record {
  states = codes "Closed" ∷ codes "R-Open" ∷ [];
  kinds = codes "R-Conn-CER" ∷ codes "R-Rcv-Message" ∷ [];
  guards = [];
  actions = codes "R-Accept" ∷ codes "Process-CER" ∷ codes "R-Snd-CEA" ∷ codes "Process" ∷ [];
  rows =
      record { state = 0; kind = 0; guards = []; actions = 0 ∷ 1 ∷ 2 ∷ []; next = 1 }
      ∷ record { state = 1; kind = 1; guards = []; actions = 3 ∷ []; next = 1 }
      ∷ [];
  lines = 2 ∷ 3 ∷ [];
}

-- the rows of the servers' table for the first request of a session
abbrev pub server_table : Contents
server_table = record {
  states = codes "Idle" ∷ codes "Open" ∷ [];
  kinds = codes "Initial" ∷ [];
  guards = codes "repeat" ∷ codes "old" ∷ codes "enough" ∷ [];
  actions =
      codes "Snd-CCA" ∷ codes "Snd-5012" ∷ codes "Open-Account" ∷ codes "Reserve" ∷ codes "Start-Tcc"
      ∷ codes "Keep-Refusal" ∷ [];
  rows =
      record { state = 0; kind = 0; guards = 0 ∷ []; actions = 0 ∷ []; next = 0 }
      ∷ record { state = 0; kind = 0; guards = 1 ∷ []; actions = 1 ∷ []; next = 0 }
      ∷ record { state = 0; kind = 0; guards = 2 ∷ []; actions = 2 ∷ 3 ∷ 0 ∷ 4 ∷ []; next = 1 }
      ∷ record { state = 0; kind = 0; guards = []; actions = 5 ∷ 0 ∷ []; next = 0 }
      ∷ [];
  lines = 2 ∷ 3 ∷ 4 ∷ 5 ∷ [];
}

-- the server s.example: one shard and page, the peer c.example, account 100 with 100 units
abbrev pub settings : Settings
settings = record {
  node = record { laws = laws; peers = codes "c.example" ∷ []; shards = 1 };
  peer = peer_table;
  client = peer_table;
  server = server_table;
  identity = record { host = codes "s.example"; realm = codes "example"; address = 127 ∷ 0 ∷ 0 ∷ 1 ∷ [] };
  dictionary = [];
  default_units = 0;
  accounts = record { id = 100; given = 100 } ∷ [];
  pages = 1;
  desks = 0;
}

abbrev pub peer_c : Key
peer_c = key_of Peer (codes "c.example")

abbrev pub session : Key
session = key_of Server (codes "c1;1")

-- what the line makes of the CER: R-Conn-CER for the peer's machine, as its first; and of the CCR: R-Rcv-Message
abbrev pub connection : MachineItem
connection = record {
  key = peer_c;
  event = record { kind = 1; facts = 0 ∷ 1 ∷ 1 ∷ 1 ∷ 0 ∷ 1 ∷ replicate 58 0 };
  condition = None;
  session = [];
}

abbrev pub connected : Item
connected = ToMachine connection

abbrev pub reception : MachineItem
reception = record {
  key = peer_c;
  event = record { kind = 11; facts = 0 ∷ 1 ∷ 7 ∷ 7 ∷ 1 ∷ 1 ∷ 1 ∷ 100 ∷ 0 ∷ 60 ∷ 3 ∷ replicate 53 0 };
  condition = Some (record { register = 1; value = 1 });
  session = codes "c1;1";
}

abbrev pub received : Item
received = ToMachine reception

-- the request for the session
abbrev pub initial : MachineItem
initial = record {
  key = session;
  event = record { kind = 22; facts = 0 ∷ 1 ∷ 7 ∷ 7 ∷ 1 ∷ 1 ∷ 1 ∷ 100 ∷ 0 ∷ 60 ∷ 3 ∷ replicate 53 0 };
  condition = None;
  session = codes "c1;1";
}

abbrev pub greets : Turn
greets = record { post = Some connected; answer = []; greeted = Some 0; closes = false }

abbrev pub asks : Turn
asks = record { post = Some received; answer = []; greeted = None; closes = false }

-- the line is accepted, both messages come in one piece, and the first item is carried to the peer's machine
abbrev pub before_cer : List Entry
before_cer =
    carried Joined None
    ∷ carried (Came 1 (cer ++ ccr)) None
    ∷ carried (Lift (Line 1)) (Some connected)
    ∷ carried (Drop (Line 1)) (Some connected)
    ∷ []

-- it is worked, and the second is carried there
abbrev pub before_ccr : List Entry
before_ccr =
    play settings before_cer (Work 0 ∷ [])
    ++ carried (Lift (Line 1)) (Some received)
    ∷ carried (Drop (Line 1)) (Some received)
    ∷ []

-- it is worked; what the machine's deeds put out is carried: a CEA, a timer that is stopped, and a request for the
-- session; that is worked
abbrev pub last_steps : List Step
last_steps =
    Work 0 ∷ Lift (Shard 0) ∷ Drop (Shard 0) ∷ Lift (Shard 0) ∷ Drop (Shard 0) ∷ Lift (Shard 0) ∷ Drop (Shard 0)
    ∷ Work 0 ∷ []

abbrev pub log : List Entry
log = play settings before_ccr last_steps
