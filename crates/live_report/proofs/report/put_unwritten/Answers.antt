use Rattle.std.proofs.Common.{◌≡◌, ◌++◌, Bool, OnOk, codes, subst, sym}
use Rattle.step_text.specs.Names.{shown}
use Rattle.live_report.specs.Reports.{unwritten_text}
use Rattle.live_report.proofs.LineLemmas.{line_ok}
use Rattle.live_report.proofs.report.put_unwritten.Goals as goal

-- the line of files that were not written
pub returns-in-true : goal.returns-in-true
returns-in-true c =
    subst (λ (u : Bool). OnOk c.put_line.result (c.put_line.new.out.items ≡ c.args.out.now.items ++ unwritten_text c.args.host.now u)) (sym c.in-true.is)
    (line_ok c.put_line.result c.args.out.now.items (codes "node ") (shown c.args.host.now) (codes ": its files can't be written\n") c.put_line.new.out.items c.put_line.ensures)
