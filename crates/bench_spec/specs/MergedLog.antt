-- Parts of two shards and two desks, and the log as which they are merged: the one of two requests. Each desk looked
-- once at the session that it had told: the first when its item was handled, the second while it waited.
use Rattle.std.specs.Prelude.{ℕ, ◌+◌, ◌%◌, ◌==◌, List, [], ◌∷◌, Some, None, filter, map}
use Rattle.std.specs.List.{enumerate_from}
use Rattle.acct_totals.specs.Amounts.{account_of}
use Rattle.bench_item.specs.declared.entry.Entry.{Entry}
use Rattle.bench_item.specs.declared.key.Role.TheVariants.{Client}
use Rattle.bench_item.specs.declared.source.Source.TheVariants.{Desk}
use Rattle.bench_item.specs.declared.step.Step.TheVariants.{Lift}
use Rattle.bench_item.specs.Keys.{key_of}
use Rattle.bench_spec.specs.Booked.{booked}
use Rattle.bench_spec.specs.ChargeLog.{at, begin, log, of_x, of_y, settings, tells}
use Rattle.bench_spec.specs.ExampleLog.{carried}
use Rattle.bench_spec.specs.Merged.{Did, Kept, Look, OfShard, Parts, Saw, Stamped, is_same_part, not_there, part_of}

-- the entries with stamps that rise by 2
abbrev pub stamped : List Stamped
stamped = map (λ placed. record { stamp = placed.0 + placed.0; entry = placed.1 }) (enumerate_from 1 log)

abbrev stamp : ℕ → Entry → Stamped
stamp n e = record { stamp = n; entry = e }

-- the part of a shard: its entries, in the order of their stamps
abbrev pub shard_part : ℕ → List Stamped
shard_part shard = filter (λ s. is_same_part (OfShard shard) (part_of 2 s.entry)) stamped

-- desk 0 told `x` Begin, and looked when it was handled
abbrev pub look_0 : Look
look_0 = record { stamp = 21; key = key_of Client of_x.name; stands = at 1 0; waiting = 0; handled = 1 }

abbrev pub desk_0 : List Kept
desk_0 =
    Did (stamp 2 (carried (tells 0 of_x) None)) ∷ Did (stamp 4 (carried (Lift (Desk 0)) (Some (begin of_x))))
    ∷ Saw look_0
    ∷ []

-- desk 1 told `y` Begin, and looked before it was handled
abbrev pub look_1 : Look
look_1 = record { stamp = 27; key = key_of Client of_y.name; stands = not_there; waiting = 1; handled = 0 }

abbrev pub desk_1 : List Kept
desk_1 =
    Did (stamp 22 (carried (tells 1 of_y) None)) ∷ Did (stamp 24 (carried (Lift (Desk 1)) (Some (begin of_y))))
    ∷ Saw look_1
    ∷ []

abbrev pub parts : Parts
parts = record {
  shards = shard_part;
  lines = [];
  clock = [];
  desks = desk_0 ∷ desk_1 ∷ [];
  fed = [];
  journal = λ page. filter (λ b. account_of b.op % 2 == page) (booked settings.node.laws log);
}
