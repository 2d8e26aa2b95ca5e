use Rattle.std.proofs.Common.{◌≡◌, length}
use Rattle.msg_input.proofs.ReadLemmas.{PrintsSome}
use Rattle.msg_input.proofs.reading.Reading.print_waiting.Given as goal

-- the messages that came so far are printed, and the digits are left alone
abbrev pub invariant-loop-frame : goal.invariant-loop-frame
invariant-loop-frame g l =
    (l.self.half ≡ l.initial.self.half) × (l.self.characters ≡ l.initial.self.characters)
    × PrintsSome (g.M.Printer.Says l.glossary l.line) l.initial.self.framer l.self.framer l.initial.self.report l.self.report

-- each turn takes a frame that waits
abbrev pub decreases-loop-frame : goal.decreases-loop-frame
decreases-loop-frame g l = length l.self.framer.waiting
