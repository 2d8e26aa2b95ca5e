-- Keys that are lent.
use Rattle.bench_item.specs.declared.key.Key.{Key}
use Rattle.bench_shard.specs.declared.name.LentKey.{LentKey}

-- the key itself
abbrev pub key_lent : LentKey → Key
key_lent key = record { role = key.role; name = key.name.now }
