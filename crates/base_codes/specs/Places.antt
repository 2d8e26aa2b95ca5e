-- Facts of events and registers of machines: at which number each stands, by role. Two facts may share a number, each
-- in its own kinds of events.
use Rattle.std.specs.Prelude.{ℕ, List, [], ◌∷◌, map, codes}
use Rattle.std.specs.Borrow.{Bor}

-- numbers and names as the code has them
abbrev pub named : List (ℕ × Bor (List ℕ)) → List (ℕ × List ℕ)
named entries = map (λ entry. (entry.0, entry.1.now)) entries

-- the facts of a peer's events (RFC 6733 section 5.6)
abbrev pub peer_facts : List (ℕ × List ℕ)
peer_facts =
    (0, codes "peer")
    ∷ (1, codes "line")
    ∷ (2, codes "Hop-by-Hop Identifier")
    ∷ (3, codes "End-to-End Identifier")
    ∷ (5, codes "local host wins")
    ∷ []

-- the registers of a peer's machine
abbrev pub peer_registers : List (ℕ × List ℕ)
peer_registers =
    (0, codes "line that this node opened")
    ∷ (1, codes "line that the peer opened")
    ∷ (2, codes "generation of the dial")
    ∷ (3, codes "local host wins")
    ∷ (4, codes "Hop-by-Hop Identifier of the CER")
    ∷ (5, codes "End-to-End Identifier of the CER")
    ∷ (7, codes "count of requests")
    ∷ (14, codes "machine")
    ∷ (15, codes "generation of the timer")
    ∷ []

-- the facts of a session's events, at a client and at a server (RFC 8506 section 8)
abbrev pub session_facts : List (ℕ × List ℕ)
session_facts =
    (0, codes "peer")
    ∷ (1, codes "line")
    ∷ (2, codes "Hop-by-Hop Identifier")
    ∷ (3, codes "End-to-End Identifier")
    ∷ (4, codes "class")
    ∷ (5, codes "CC-Request-Type")
    ∷ (6, codes "CC-Request-Number + 1")
    ∷ (7, codes "account")
    ∷ (8, codes "used units")
    ∷ (9, codes "requested units")
    ∷ (10, codes "unit")
    ∷ (11, codes "Requested-Action + 1 or Check-Balance-Result + 1")
    ∷ (12, codes "Result-Code")
    ∷ (12, codes "failure handling")
    ∷ (13, codes "granted units")
    ∷ (14, codes "final")
    ∷ (15, codes "units that can be paid")
    ∷ (16, codes "count of services")
    ∷ []

-- the registers of a session's machine, at a client and at a server (RFC 8506 section 7)
abbrev pub session_registers : List (ℕ × List ℕ)
session_registers =
    (0, codes "account")
    ∷ (1, codes "CC-Request-Number + 1")
    ∷ (2, codes "Result-Code")
    ∷ (3, codes "granted units")
    ∷ (4, codes "unit")
    ∷ (5, codes "final")
    ∷ (6, codes "Check-Balance-Result + 1")
    ∷ (7, codes "failure handling")
    ∷ (8, codes "CC-Request-Type")
    ∷ (9, codes "peer")
    ∷ (10, codes "service")
    ∷ (14, codes "machine")
    ∷ (15, codes "generation of the timer")
    ∷ (16, codes "count of services")
    ∷ []

-- one service of several, in facts and in registers alike: counted from where its slot begins (RFC 8506 section 8.16)
abbrev pub slot_places : List (ℕ × List ℕ)
slot_places =
    (0, codes "Rating-Group + 2")
    ∷ (1, codes "used units")
    ∷ (2, codes "requested units")
    ∷ (3, codes "unit")
    ∷ (4, codes "Result-Code")
    ∷ (5, codes "granted units")
    ∷ (6, codes "final")
    ∷ (7, codes "units that can be paid")
    ∷ []

-- where each slot begins
abbrev pub slot_begins : List ℕ
slot_begins = 17 ∷ 25 ∷ 33 ∷ 41 ∷ []
