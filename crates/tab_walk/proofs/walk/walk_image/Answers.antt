use Rattle.std.proofs.Common.{inl, inr}
use Rattle.image_text.specs.Images.{IsImageOf, IsNoImage}
use Rattle.tab_walk.proofs.PourLemmas.{IsToldWith-map}
use Rattle.tab_walk.proofs.walk.walk_image.Goals as goal

-- the image is loaded
pub returns-in-Ok-clause-told : goal.returns-in-Ok-clause-told
returns-in-Ok-clause-told g c =
    let loaded : IsImageOf c.args.registry.now.book c.args.image.now c.in-Ok.program = rw c.laws.ensures at c.in-Ok.ensures.ok in
    IsToldWith-map g.O.ByteSink.contents g.O.ByteSink.failures g.O.ByteSink.idle _ _ c.args.sink.now c.walk_by.new.sink c.walk_by.result
    (λ text status is. inr (c.in-Ok.program, loaded, is)) c.walk_by.ensures.told

-- the text gives no program
pub returns-in-Err-clause-told : goal.returns-in-Err-clause-told
returns-in-Err-clause-told g c =
    let no_image : IsNoImage c.args.registry.now.book c.args.image.now c.in-Err.error = rw c.laws.ensures at c.in-Err.ensures.err in
    IsToldWith-map g.O.ByteSink.contents g.O.ByteSink.failures g.O.ByteSink.idle _ _ c.args.sink.now c.unread.new.sink c.unread.result
    (λ text status is. inl (c.in-Err.error, no_image, is)) c.unread.ensures.told
