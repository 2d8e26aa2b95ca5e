use Rattle.std.proofs.Common.{◌≡◌, ◌++◌, replicate}
use Rattle.tab_print.proofs.printing.put_blanks.Given as goal

-- the blanks so far are put
abbrev pub invariant-loop-blank : goal.invariant-loop-blank
invariant-loop-blank l = l.out.items ≡ l.initial.out.items ++ replicate l._blank 32
