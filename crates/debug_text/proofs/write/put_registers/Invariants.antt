use Rattle.std.proofs.Common.{◌≡◌, ◌++◌, drop}
use Rattle.debug_text.specs.Replies.{registers_text}
use Rattle.debug_text.proofs.write.put_registers.Given as goal

-- the registers that are left are those that are still to be put
abbrev pub invariant-loop-register : goal.invariant-loop-register
invariant-loop-register l =
    l.out.items ++ registers_text l.register (drop l.register l.registers) ≡ l.initial.out.items ++ registers_text 0 l.registers
