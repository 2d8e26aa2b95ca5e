use Rattle.std.proofs.Common.{subst}
use Rattle.sess_dir.specs.Names.{NoNameTwice}
use Rattle.sess_dir.proofs.Places.{NoNameTwice-octets_of}
use Rattle.sess_dir.proofs.directory.Directory.len.Goals as goal

pub returns-clause-once : goal.returns-clause-once
returns-clause-once c =
    subst NoNameTwice c.self.view_is (NoNameTwice-octets_of c.self.inside.names.keys c.len.ensures.unique)
