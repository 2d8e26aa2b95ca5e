use Rattle.std.proofs.Common.{◌-◌, length}
use Rattle.tab_load.specs.Code.{IsScanned}
use Rattle.tab_load.proofs.scan.read_code.Given as goal

abbrev pub invariant-loop-scan : goal.invariant-loop-scan
invariant-loop-scan l = IsScanned l.format l.counts l.code l.scan

abbrev pub decreases-loop-scan : goal.decreases-loop-scan
decreases-loop-scan l = length l.code - l.scan.at
