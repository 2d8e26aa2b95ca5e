-- The kinds of events of a peer's machine (RFC 6733 section 5.6.2),
-- in the order of their first appearance in the table.
use Rattle.std.specs.Prelude.{ℕ, List, [], ◌∷◌, codes}
use Rattle.base_list.specs.declared.named.Named.{Named}
use Rattle.tab_role.specs.Entries.{kind}
use Rattle.peer_rules.specs.declared.kind.PeerKind.{PeerKind}
use Rattle.peer_rules.specs.declared.kind.PeerKind.TheVariants.{Start, RConnCer, IRcvConnAck, IRcvConnNack, Timeout}
use Rattle.peer_rules.specs.declared.kind.PeerKind.TheVariants.{IRcvCea, IPeerDisc, IRcvNonCea, RPeerDisc, WinElection}
use Rattle.peer_rules.specs.declared.kind.PeerKind.TheVariants.{SendMessage, RRcvMessage, RRcvDwr, RRcvDwa, Stop}
use Rattle.peer_rules.specs.declared.kind.PeerKind.TheVariants.{RRcvDpr, IRcvMessage, IRcvDwr, IRcvDwa}
use Rattle.peer_rules.specs.declared.kind.PeerKind.TheVariants.{IRcvDpr, IRcvDpa, RRcvDpa}

-- the name of each
abbrev pub name_of : PeerKind → List ℕ
name_of Start = codes "Start"
name_of RConnCer = codes "R-Conn-CER"
name_of IRcvConnAck = codes "I-Rcv-Conn-Ack"
name_of IRcvConnNack = codes "I-Rcv-Conn-Nack"
name_of Timeout = codes "Timeout"
name_of IRcvCea = codes "I-Rcv-CEA"
name_of IPeerDisc = codes "I-Peer-Disc"
name_of IRcvNonCea = codes "I-Rcv-Non-CEA"
name_of RPeerDisc = codes "R-Peer-Disc"
name_of WinElection = codes "Win-Election"
name_of SendMessage = codes "Send-Message"
name_of RRcvMessage = codes "R-Rcv-Message"
name_of RRcvDwr = codes "R-Rcv-DWR"
name_of RRcvDwa = codes "R-Rcv-DWA"
name_of Stop = codes "Stop"
name_of RRcvDpr = codes "R-Rcv-DPR"
name_of IRcvMessage = codes "I-Rcv-Message"
name_of IRcvDwr = codes "I-Rcv-DWR"
name_of IRcvDwa = codes "I-Rcv-DWA"
name_of IRcvDpr = codes "I-Rcv-DPR"
name_of IRcvDpa = codes "I-Rcv-DPA"
name_of RRcvDpa = codes "R-Rcv-DPA"

-- all of them
abbrev pub kinds : List (Named (Unit {0}))
kinds =
    kind (codes "Start")
    ∷ kind (codes "R-Conn-CER")
    ∷ kind (codes "I-Rcv-Conn-Ack")
    ∷ kind (codes "I-Rcv-Conn-Nack")
    ∷ kind (codes "Timeout")
    ∷ kind (codes "I-Rcv-CEA")
    ∷ kind (codes "I-Peer-Disc")
    ∷ kind (codes "I-Rcv-Non-CEA")
    ∷ kind (codes "R-Peer-Disc")
    ∷ kind (codes "Win-Election")
    ∷ kind (codes "Send-Message")
    ∷ kind (codes "R-Rcv-Message")
    ∷ kind (codes "R-Rcv-DWR")
    ∷ kind (codes "R-Rcv-DWA")
    ∷ kind (codes "Stop")
    ∷ kind (codes "R-Rcv-DPR")
    ∷ kind (codes "I-Rcv-Message")
    ∷ kind (codes "I-Rcv-DWR")
    ∷ kind (codes "I-Rcv-DWA")
    ∷ kind (codes "I-Rcv-DPR")
    ∷ kind (codes "I-Rcv-DPA")
    ∷ kind (codes "R-Rcv-DPA")
    ∷ []
