use Rattle.std.proofs.Common.{refl, ◌∙◌}
use Rattle.tab_load.specs.Code.{instructions_of}
use Rattle.tab_load.proofs.ScanLemmas.{is-more, next-wrong, fits-more}
use Rattle.tab_load.proofs.scan.read_next.Goals as goal

pub returns-in-Err-clause-err : goal.returns-in-Err-clause-err
returns-in-Err-clause-err c =
    let before = c.requires.scanned in
    record {
      before = instructions_of c.args.scan.now.steps.items;
      fits = before.fits;
      fine = before.fine;
      part = c.args.scan.now.at;
      front = before.front;
      inside = c.requires.more;
      wrong = rw c.fault_at.ensures.code (next-wrong c.args.format c.args.counts.now c.args.code.now c.args.scan.now.at c.args.scan.now.steps.items c.args.scan.now.count _ before.front before.inside before.count c.in-Err.ensures.octets);
      place = c.fault_at.ensures.at ∙ rw c.fault_at.ensures.code refl;
    }

pub returns-clause-ok : goal.returns-clause-ok
returns-clause-ok c =
    let before = c.requires.scanned in
    let more = is-more c.args.format c.args.counts.now c.args.code.now c.args.scan.now.at c.size_of-size.result c.args.scan.now.steps.items c.in-Ok.step _ c.args.scan.now.count before.front before.inside before.fine before.count c.size_of-size.ensures.value c.in-Ok.ensures.stands (rw c.size_of-size.ensures.value c.in-Ok.ensures.fine) in
    record {
      front = rw c.in_ok-push.ensures.items more.front;
      inside = rw c.size_of-size.ensures.value c.in-Ok.ensures.whole;
      fits = rw c.in_ok-push.ensures.items (fits-more c.args.format c.args.scan.now.steps.items c.in-Ok.step before.fits c.in-Ok.ensures.fits);
      fine = rw c.in_ok-push.ensures.items more.fine;
      count = rw (c.in_ok-push.ensures.items, more.count, ← before.count) c.counted-scan.ensures;
      landings = c.in_ok-put_landings.ensures ∙ rw (c.in_ok-push.ensures.items, more.marks, before.landings) refl;
    }
