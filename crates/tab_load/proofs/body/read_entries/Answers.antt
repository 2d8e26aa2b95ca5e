use Rattle.std.proofs.Common.{refl, ◌∙◌, ◌∷◌, [], take, length-append}
use Rattle.std.proofs.lemmas.List.{flat_map_more}
use Rattle.std.proofs.lemmas.List.Elements.{All-append, All-cons, All-nil}
use Rattle.tab_asm.specs.Images.{offset_octets}
use Rattle.tab_load.specs.Faults.{format_of, width_of}
use Rattle.tab_load.specs.Loading.{IsOffset}
use Rattle.tab_load.proofs.BodyLemmas.{width-more, entry-length}
use Rattle.tab_load.proofs.ScanLemmas.{front-more}
use Rattle.tab_load.proofs.body.read_entries.Goals as goal

pub loop-preserved : goal.loop-preserved
loop-preserved c =
    let before = c.loop.invariant in
    record {
      many = rw c.in_ok-push.ensures.items (length-append c.loop.entries.items (c.read_entry.result ∷ []) ∙ rw before.many refl);
      fits =
          rw c.in_ok-push.ensures.items
          (All-append (IsOffset c.args.format) c.loop.entries.items (c.read_entry.result ∷ []) before.fits (All-cons (IsOffset c.args.format) c.read_entry.result [] c.read_entry.ensures.fits (All-nil (IsOffset c.args.format))));
      at = rw (c.width_of-at.ensures, before.at) (width-more c.args.format c.args.begin c.loop.counter);
      front =
          rw (c.width_of-at.ensures, c.in_ok-push.ensures.items)
          (front-more c.args.octets.now c.loop.at (width_of c.args.format) _ (offset_octets (format_of c.args.format) c.read_entry.result) _ before.front c.read_entry.ensures.stands (entry-length c.args.format c.read_entry.result)
          ∙ flat_map_more (offset_octets (format_of c.args.format)) (take c.args.begin c.args.octets.now) c.loop.entries.items c.read_entry.result);
    }
