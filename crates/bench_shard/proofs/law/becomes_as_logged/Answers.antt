use Rattle.bench_shard.proofs.LegalLemmas.{becomes-logged, posts-logged}
use Rattle.bench_shard.proofs.law.becomes_as_logged.Goals as goal

pub returns-clause-becomes : goal.returns-clause-becomes
returns-clause-becomes c = becomes-logged

pub returns-clause-posts : goal.returns-clause-posts
returns-clause-posts c = posts-logged
