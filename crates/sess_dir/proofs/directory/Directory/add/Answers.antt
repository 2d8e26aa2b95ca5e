use Rattle.std.proofs.Common.{◌≡◌, ◌∙◌, ◌++◌, ◌∷◌, [], None, ap}
use Rattle.sess_dir.specs.Names.{octets_of, place_of}
use Rattle.sess_dir.proofs.Places.{octets_of-insert_key, place_of-append}
use Rattle.sess_dir.proofs.directory.Directory.add.Goals as goal

pub returns-clause-ok : goal.returns-clause-ok
returns-clause-ok c =
    let stored = c.self.inside.names.keys in
    let copy = c.in_ok-copy.copy in
    let same : copy.items ≡ c.args.name.now = c.in_ok-copy.ensures.items in
    let none : place_of (octets_of stored) copy.items ≡ None =
    (λ j. place_of (c.self.view_is j) (same j)) ∙ c.requires.new in
    ap octets_of c.in_ok-insert.ensures.keys ∙ octets_of-insert_key stored copy none ∙ (λ j. c.self.view_is j ++ same j ∷ [])

pub returns-clause-place : goal.returns-clause-place
returns-clause-place c =
    ap (λ names. place_of names c.args.name.now) (returns-clause-ok c) ∙ place_of-append c.args.self.now c.args.name.now c.requires.new
