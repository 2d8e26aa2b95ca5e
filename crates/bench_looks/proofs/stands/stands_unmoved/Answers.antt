use Rattle.std.proofs.Common.{◌≡◌, ◌∙◌, [], ap, sym}
use Rattle.std.specs.Prelude.{None, Some}
use Rattle.bench_looks.specs.Before.{before}
use Rattle.bench_looks.proofs.StandLemmas.{decides-same, none-stands, peer-number, standing, start-stands}
use Rattle.bench_looks.proofs.StandLemmas.{untaken-number}
use Rattle.bench_parts.specs.Views.{kept_in}
use Rattle.bench_spec.specs.Machines.{number_of, start}
use Rattle.bench_spec.specs.Merged.{not_there}
use Rattle.bench_looks.proofs.stands.stands_unmoved.Goals as goal

pub returns-in-Some : goal.returns-in-Some
returns-in-Some c =
    let node = c.args.core.now.settings.node in
    let es = before c.args.look.now.stamp (kept_in c.args.part.now) in
    let key = c.args.look.now.key in
    let n = c.in-Some.number in
    let some : number_of node [] key ≡ Some n =
    ap (λ log. number_of node log key) (sym c.requires.opening) ∙ sym c.number_of.ensures ∙ c.in-Some.is in
    decides-same c.is_start.result c.show.result (start n) c.args.look.now.stands (standing node es key)
    c.show.ensures (sym (start-stands node es key n (peer-number node es key n some) c.requires.unmoved))
    c.is_start.ensures

pub returns-else-there : goal.returns-else-there
returns-else-there c =
    let node = c.args.core.now.settings.node in
    let es = before c.args.look.now.stamp (kept_in c.args.part.now) in
    let key = c.args.look.now.key in
    let none : number_of node [] key ≡ None =
    ap (λ log. number_of node log key) (sym c.requires.opening) ∙ sym c.number_of.ensures ∙ c.in-None.is in
    decides-same c.is_nowhere.result c.show-else-there.result not_there c.args.look.now.stands (standing node es key)
    c.show-else-there.ensures
    (sym (none-stands node es key (untaken-number node es key none (sym c.requires.taken ∙ c.if-there.false))))
    c.is_nowhere.ensures
