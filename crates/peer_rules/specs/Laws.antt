-- The laws of a peer's machine: its actions, a line each (RFC 6733 sections 5.6.1 and 5.6.3,
-- in this project's profile).
use Rattle.std.specs.Prelude.{ℕ, ◌+◌, ◌*◌, ◌==◌, if◌then◌else◌, List, [], ◌∷◌, map, codes}
use Rattle.std.specs.List.{range_with_len}
use Rattle.base_codes.specs.declared.deed_code.DeedCode.{DeedCode}
use Rattle.base_codes.specs.declared.deed_code.DeedCode.TheVariants.{ToSession, SndCer, SndCea, SndDwa}
use Rattle.base_codes.specs.declared.deed_code.DeedCode.TheVariants.{SndDpr, SndDpa, SndMsg}
use Rattle.base_codes.specs.declared.deed_code.DeedCode.TheVariants as deeds
use Rattle.base_codes.specs.declared.peer_register.TheConstants as r
use Rattle.base_codes.specs.declared.peer_fact.TheConstants as f
use Rattle.base_codes.specs.declared.slot.TheConstants.{FIRST, MAX_SLOTS, SIZE}
use Rattle.base_list.specs.declared.named.Named.{Named}
use Rattle.tab_law.specs.Books.{Laws}
use Rattle.tab_law.specs.declared.law.Atom.{Atom}
use Rattle.tab_law.specs.declared.law.Atom.TheVariants.{Constant, Register, Fact, NewRegister}
use Rattle.tab_law.specs.declared.law.Change.{Change}
use Rattle.tab_role.specs.Entries.{set, next, deed, act}
use Rattle.peer_rules.specs.Kinds.{kinds}

-- the timer fires after 30 ticks, or is stopped: either way with a new generation
abbrev pub arm : Change
arm = deed deeds.Arm (NewRegister r.TIMER ∷ Constant 30 ∷ [])

abbrev pub disarm : Change
disarm = deed deeds.Disarm []

-- a connection to the peer is opened, as the new dial, or that of the last one is closed
abbrev pub dial : Change
dial = deed deeds.Dial (Register r.MACHINE ∷ NewRegister r.DIAL ∷ [])

abbrev pub undial : Change
undial = deed deeds.Undial (Register r.MACHINE ∷ Register r.DIAL ∷ [])

-- who wins the election is told, and the line that the CER came on
abbrev pub elect : Change
elect = deed deeds.Elect (Register r.WIN ∷ Register r.R_LINE ∷ [])

-- a line is closed
abbrev pub close : Atom → Change
close line = deed deeds.Close (Constant 0 ∷ line ∷ [])

-- a request goes to a line, with identifiers of this machine and its count of requests
abbrev pub request : DeedCode → Atom → Change
request code line = deed code (Constant 0 ∷ line ∷ Register r.MACHINE ∷ NewRegister r.REQUESTS ∷ [])

-- an answer of success goes to a line, with the request's identifiers
abbrev pub answer : DeedCode → Atom → Atom → Atom → Change
answer code line hop_by_hop end_to_end = deed code (Constant 0 ∷ line ∷ hop_by_hop ∷ end_to_end ∷ Constant 2001 ∷ [])

-- a fact of an event, or this in place of the line
abbrev pub forwarded : Atom → ℕ → Atom
forwarded line n = if n == f.LINE then line else Fact n

-- an event's message goes on: all its facts, those of groups too, with this in place of the line
abbrev pub forward : DeedCode → Atom → Change
forward code line = deed code (map (forwarded line) (range_with_len 0 (FIRST + MAX_SLOTS * SIZE)))

-- the actions, in the order of their first appearance in the table
abbrev pub acts : List (Named (List Change))
acts =
    act (codes "I-Snd-Conn-Req") (next r.DIAL ∷ next r.TIMER ∷ dial ∷ arm ∷ [])
    ∷ act (codes "R-Accept") (set r.R_LINE (Fact f.LINE) ∷ [])
    ∷ act (codes "Process-CER") (set r.WIN (Fact f.LOCAL_WINS)
    ∷ set r.HOP_BY_HOP (Fact f.HOP_BY_HOP) ∷ set r.END_TO_END (Fact f.END_TO_END) ∷ [])
    ∷ act (codes "R-Snd-CEA") (next r.TIMER
    ∷ answer SndCea (Register r.R_LINE) (Register r.HOP_BY_HOP) (Register r.END_TO_END) ∷ disarm ∷ [])
    ∷ act (codes "I-Snd-CER") (set r.I_LINE (Fact f.LINE) ∷ next r.REQUESTS ∷ request SndCer (Fact f.LINE) ∷ [])
    ∷ act (codes "Cleanup") (set r.I_LINE (Constant 0) ∷ next r.TIMER ∷ disarm ∷ [])
    ∷ act (codes "Error") (set r.I_LINE (Constant 0) ∷ set r.R_LINE (Constant 0)
    ∷ next r.DIAL ∷ next r.TIMER ∷ close (Register r.I_LINE) ∷ close (Register r.R_LINE) ∷ undial ∷ disarm ∷ [])
    ∷ act (codes "Process-CEA") (next r.TIMER ∷ disarm ∷ [])
    ∷ act (codes "Elect") (elect ∷ [])
    ∷ act (codes "I-Disc") (set r.I_LINE (Constant 0) ∷ close (Register r.I_LINE) ∷ [])
    ∷ act (codes "R-Disc") (set r.R_LINE (Constant 0) ∷ close (Register r.R_LINE) ∷ [])
    ∷ act (codes "R-Reject") (close (Fact f.LINE) ∷ [])
    ∷ act (codes "R-Snd-Message") (forward SndMsg (Register r.R_LINE) ∷ [])
    ∷ act (codes "Process") (forward ToSession (Fact f.LINE) ∷ [])
    ∷ act (codes "Process-DWR") []
    ∷ act (codes "R-Snd-DWA") (answer SndDwa (Register r.R_LINE) (Fact f.HOP_BY_HOP) (Fact f.END_TO_END) ∷ [])
    ∷ act (codes "Process-DWA") []
    ∷ act (codes "R-Snd-DPR") (next r.REQUESTS ∷ next r.TIMER ∷ request SndDpr (Register r.R_LINE) ∷ arm ∷ [])
    ∷ act (codes "R-Snd-DPA") (next r.TIMER ∷ answer SndDpa (Register r.R_LINE) (Fact f.HOP_BY_HOP) (Fact f.END_TO_END)
    ∷ arm ∷ [])
    ∷ act (codes "I-Snd-Message") (forward SndMsg (Register r.I_LINE) ∷ [])
    ∷ act (codes "I-Snd-DWA") (answer SndDwa (Register r.I_LINE) (Fact f.HOP_BY_HOP) (Fact f.END_TO_END) ∷ [])
    ∷ act (codes "I-Snd-DPR") (next r.REQUESTS ∷ next r.TIMER ∷ request SndDpr (Register r.I_LINE) ∷ arm ∷ [])
    ∷ act (codes "I-Snd-DPA") (next r.TIMER ∷ answer SndDpa (Register r.I_LINE) (Fact f.HOP_BY_HOP) (Fact f.END_TO_END)
    ∷ arm ∷ [])
    ∷ []

-- the laws of a peer's machine
abbrev pub peer_laws : Laws
peer_laws = record { kinds = kinds; guards = []; acts = acts }
