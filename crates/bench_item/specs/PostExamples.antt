-- Posts with known values: a wrong definition doesn't pass these lines.
use Rattle.std.specs.Prelude.{◌≡◌, ℕ, List, [], ◌∷◌, ◌++◌, replicate, Some, None, codes, refl}
use Rattle.base_codes.specs.DeedCodes.{coded, number_of}
use Rattle.base_codes.specs.declared.deed_code.DeedCode.{DeedCode}
use Rattle.base_codes.specs.declared.deed_code.DeedCode.TheVariants as deeds
use Rattle.tab_law.specs.declared.scene.Deed.{Deed}
use Rattle.bench_item.specs.Keys.{Node, home, key_of, peer_numbered}
use Rattle.bench_item.specs.Posts.{Doer, busy_posts, keeps_line, machine_item, no_facts, posts_of}
use Rattle.bench_item.specs.declared.item.Item.{Item}
use Rattle.bench_item.specs.declared.item.MachineItem.{MachineItem}
use Rattle.bench_item.specs.declared.item.Item.TheVariants.{Arm, Dial, ToLine}
use Rattle.bench_item.specs.declared.key.Key.{Key}
use Rattle.bench_item.specs.declared.key.Role.TheVariants.{Client, Peer, Server}

-- `c.example` has the octet sum 893: of two shards it is in the second; the session `c1;1` is in the first
pub shard_of_peer : home 2 (codes "c.example") ≡ 1
shard_of_peer = refl

pub shard_of_session : home 2 (codes "c1;1") ≡ 0
shard_of_session = refl

-- two shards, and that one peer
abbrev node : Node
node = record {
  laws = record {
    kinds =
        record { name = codes "Send-Message"; value = tt } ∷ record { name = codes "Initial"; value = tt }
        ∷ record { name = codes "CCA-Fault"; value = tt } ∷ record { name = codes "Send-Fail"; value = tt }
        ∷ record { name = codes "Win-Election"; value = tt }
        ∷ [];
    guards = [];
    acts = [];
  };
  peers = codes "c.example" ∷ [];
  shards = 2;
}

-- its machine is the first of the second shard
pub number_of_peer : peer_numbered node 4096 ≡ Some (codes "c.example")
number_of_peer = refl

pub number_of_none : peer_numbered node 0 ≡ None
number_of_none = refl

-- a deed of that name with these first arguments and zeros behind them
abbrev deed_of : DeedCode → List ℕ → ℕ → Deed
deed_of code head zeros = record { code = number_of code; a = head ++ replicate zeros 0 }

-- the peer's machine at an event of that kind with the session `c1;1`, and the machine of that session at a server
abbrev peer_at : ℕ → Doer
peer_at kind = record { key = key_of Peer (codes "c.example"); machine = 4096; kind = kind; session = codes "c1;1" }

abbrev session : Doer
session = record { key = key_of Server (codes "c1;1"); machine = 0; kind = 1; session = [] }

-- an event for a machine, without a condition
abbrev event : Key → ℕ → List ℕ → List ℕ → Item
event key kind facts handed = machine_item key facts None handed kind

-- an answer of the session goes to the peer, with the session's own name; to a machine that is no peer's it doesn't go
pub to_peer : posts_of node session (deed_of deeds.ToPeer (4096 ∷ 1 ∷ []) 62)
    ≡ event (key_of Peer (codes "c.example")) 0 (4096 ∷ 1 ∷ replicate 62 0) (codes "c1;1") ∷ []
unfolding coded
to_peer = refl

pub to_no_peer : posts_of node session (deed_of deeds.ToPeer (1 ∷ 1 ∷ []) 62) ≡ []
unfolding coded
to_no_peer = refl

-- a request of class 1 and type 1 is an Initial for the server's session of that name, an answer of class 3 a fault for
-- the client's
pub request : posts_of node (peer_at 0) (deed_of deeds.ToSession (4096 ∷ 1 ∷ 0 ∷ 0 ∷ 1 ∷ 1 ∷ []) 58)
    ≡ event (key_of Server (codes "c1;1")) 1 (4096 ∷ 1 ∷ 0 ∷ 0 ∷ 1 ∷ 1 ∷ replicate 58 0) (codes "c1;1") ∷ []
unfolding coded
request = refl

pub fault : posts_of node (peer_at 0) (deed_of deeds.ToSession (4096 ∷ 1 ∷ 0 ∷ 0 ∷ 3 ∷ []) 59)
    ≡ event (key_of Client (codes "c1;1")) 2 (4096 ∷ 1 ∷ 0 ∷ 0 ∷ 3 ∷ replicate 59 0) (codes "c1;1") ∷ []
unfolding coded
fault = refl

-- a type 5 there isn't
pub no_type : posts_of node (peer_at 0) (deed_of deeds.ToSession (4096 ∷ 1 ∷ 0 ∷ 0 ∷ 1 ∷ 5 ∷ []) 58) ≡ []
unfolding coded
no_type = refl

-- a request that no row of the peer's table took: its session is told; at another kind of event nobody is
pub not_sent : posts_of node (peer_at 0) (deed_of deeds.Unlisted (4096 ∷ 0 ∷ 0 ∷ 0 ∷ 1 ∷ []) 59)
    ≡ event (key_of Client (codes "c1;1")) 3 (4096 ∷ 0 ∷ 0 ∷ 0 ∷ 1 ∷ replicate 59 0) (codes "c1;1") ∷ []
unfolding coded
not_sent = refl

pub not_told : posts_of node (peer_at 1) (deed_of deeds.Unlisted (4096 ∷ 0 ∷ 0 ∷ 0 ∷ 1 ∷ []) 59) ≡ []
unfolding coded
not_told = refl

-- an election that is won, for as long as register 1 is line 7, with the session of its event; one that is lost
pub won : posts_of node (peer_at 0) (deed_of deeds.Elect (1 ∷ 7 ∷ []) 62)
    ≡ machine_item (key_of Peer (codes "c.example")) no_facts (Some (keeps_line 7)) (codes "c1;1") 4 ∷ []
unfolding coded
won = refl

pub lost : posts_of node (peer_at 0) (deed_of deeds.Elect (0 ∷ 7 ∷ []) 62) ≡ []
unfolding coded
lost = refl

-- dials and timers
pub dials : posts_of node (peer_at 0) (deed_of deeds.Dial (4096 ∷ 3 ∷ []) 62) ≡ Dial 4096 3 ∷ []
unfolding coded
dials = refl

pub dials_no_peer : posts_of node (peer_at 0) (deed_of deeds.Dial (0 ∷ 3 ∷ []) 62) ≡ []
unfolding coded
dials_no_peer = refl

pub arms : posts_of node (peer_at 0) (deed_of deeds.Arm (2 ∷ 30 ∷ []) 62) ≡ Arm 4096 2 30 ∷ []
unfolding coded
arms = refl

-- a message for line 1; deeds of the book and codes without a name post nothing
pub sends : posts_of node (peer_at 0) (deed_of deeds.SndDwa (0 ∷ 1 ∷ []) 62)
    ≡ ToLine (record { line = 1; deed = deed_of deeds.SndDwa (0 ∷ 1 ∷ []) 62; session = codes "c1;1" }) ∷ []
unfolding coded
sends = refl

pub reserves : posts_of node session (deed_of deeds.Reserve (60 ∷ []) 63) ≡ []
unfolding coded
reserves = refl

pub unnamed : posts_of node session (record { code = 4; a = no_facts }) ≡ []
unfolding coded
unnamed = refl

-- an item for a session that finds no room
abbrev item_of : Key → ℕ → List ℕ → MachineItem
item_of key kind facts =
    record { key = key; event = record { kind = kind; facts = facts }; condition = None; session = [] }

-- a request is answered 3004: class 3, facts 1 to 3, 5 and 6 as in the request
pub busy : busy_posts node
    (item_of (key_of Server (codes "f;4095")) 1 (4096 ∷ 1 ∷ 7 ∷ 7 ∷ 1 ∷ 1 ∷ 1 ∷ 100 ∷ replicate 56 0))
    ≡ event (key_of Peer (codes "c.example")) 0
    (0 ∷ 1 ∷ 7 ∷ 7 ∷ 3 ∷ 1 ∷ 1 ∷ 0 ∷ 0 ∷ 0 ∷ 0 ∷ 0 ∷ 3004 ∷ replicate 51 0) (codes "f;4095")
    ∷ []
busy = refl

-- an answer is dropped
pub busy_client : busy_posts node
    (item_of (key_of Client (codes "f;4095")) 2 (4096 ∷ 1 ∷ 7 ∷ 7 ∷ 3 ∷ replicate 59 0))
    ≡ []
busy_client = refl
