use Rattle.std.proofs.Common.{◌≡◌, ◌++◌, take}
use Rattle.step_text.specs.Names.{shown}
use Rattle.live_report.proofs.report.put_host.Given as goal

-- the octets so far were put
abbrev pub invariant-loop-octet : goal.invariant-loop-octet
invariant-loop-octet l = l.out.items ≡ l.initial.out.items ++ shown (take l.octet-index l.host)
