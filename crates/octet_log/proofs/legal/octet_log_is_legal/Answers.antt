-- The example follows from the lemma that is cited.
use Rattle.octet_log.proofs.LegalLemmas.{is_legal}
use Rattle.octet_log.proofs.legal.octet_log_is_legal.Goals as goal

pub returns : goal.returns
returns c = is_legal
