-- What the log from octets to a reservation says, computed: the peer's connection is open, and the session has its
-- units.
use Rattle.std.specs.Prelude.{◌≡◌, ◌∷◌, ◌++◌, length, replicate, Some, refl}
use Rattle.base_codes.specs.DeedCodes.{coded}
use Rattle.acct_book.specs.Sums.{debited, left_where, own, unpaid}
use Rattle.bench_item.specs.declared.source.Source.TheVariants.{Shard}
use Rattle.bench_spec.specs.Items.{lifted, outbox}
use Rattle.bench_spec.specs.Machines.{state_of}
use Rattle.octet_log.specs.Log.{log, peer_c, session, settings}
use Rattle.bench_spec.specs.World.{world_of}

-- registers of the session: account 100, number 0 and one more, result 2001, 60 units of unit 3, type 1, its own
-- number, timer 1
pub session_is : state_of settings.node log session ≡ Some (record {
  state = 1;
  regs = 100 ∷ 1 ∷ 2001 ∷ 60 ∷ 3 ∷ 0 ∷ 0 ∷ 0 ∷ 1 ∷ 0 ∷ 0 ∷ 0 ∷ 0 ∷ 0 ∷ 1 ∷ 1 ∷ replicate 48 0;
})
unfolding coded own left_where debited unpaid
session_is = refl

-- the peer's: the line, the election that it would win, the identifiers of the CER, its own number, timer 1
pub peer_is : state_of settings.node log peer_c
    ≡ Some (record { state = 1; regs = 0 ∷ 1 ∷ 0 ∷ 1 ∷ 1 ∷ 1 ∷ replicate 9 0 ++ 1 ∷ replicate 48 0 })
unfolding coded own left_where debited unpaid
peer_is = refl

-- what the shard put out: the CEA and the timer that is stopped were lifted, and the request
pub three_lifted : length (lifted log (Shard 0)) ≡ 3
unfolding coded own left_where debited unpaid
three_lifted = refl

-- the answer of the session for the peer waits, and its timer
pub two_wait : length (outbox settings log (Shard 0)) ≡ 2
unfolding coded own left_where debited unpaid
two_wait = refl

pub totals : (world_of settings log).totals_at 100
    ≡ Some (record { given = 100; reserved = 60; debited = 0; unpaid = 0 })
unfolding coded own left_where debited unpaid
totals = refl
