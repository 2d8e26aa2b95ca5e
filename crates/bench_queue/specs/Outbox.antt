-- What a source put out, and how far that was carried.
use Rattle.std.specs.Prelude.{ℕ, ◌+◌, ◌-◌, ◌≤◌, ◌==◌, ◌&&◌, nat_lt, Bool, List, [], ◌++◌, length, take, drop, max}
use Rattle.std.specs.Prelude.{Option, slice_get, if◌then◌else◌}
use Rattle.bench_item.specs.declared.item.Item.{Item}

-- all that a source put out, how many of these were lifted into its hand,
-- and how many of these were dropped where they are for
pub record OutboxView : Type 0 where
  pub posts : List Item
  pub lifted : ℕ
  pub dropped : ℕ

-- an outbox: what it is to a contract, and how many more items it takes without memory
pub record OutboxState : Type 0 where
  pub view : OutboxView
  pub room : ℕ

-- items are lifted in their order and dropped in their order, and at most one lies in the hand
pub record IsCounted (v : OutboxView) : Type 0 where
  pub lifted : v.lifted ≤ length v.posts
  pub dropped : v.dropped ≤ v.lifted
  pub one_between : v.lifted ≤ v.dropped + 1

-- nothing was put out
abbrev pub nothing_out : OutboxView
nothing_out = record { posts = []; lifted = 0; dropped = 0 }

-- how many items wait, and whether one lies in the hand
abbrev pub waiting_out : OutboxView → ℕ
waiting_out v = length v.posts - v.lifted

abbrev pub has_hand : OutboxView → Bool
has_hand v = nat_lt v.dropped v.lifted

-- the oldest item that waits, if one does, and that in the hand, if one is
abbrev pub next_out : OutboxView → Option Item
next_out v = slice_get v.posts v.lifted

abbrev pub hand_out : OutboxView → Option Item
hand_out v = slice_get (take v.lifted v.posts) v.dropped

-- the items that wait, oldest first
abbrev pub items_out : OutboxView → List Item
items_out v = drop v.lifted v.posts

-- these items were put out, behind the others
abbrev pub put_out : OutboxView → List Item → OutboxView
put_out v items = record { posts = v.posts ++ items; lifted = v.lifted; dropped = v.dropped }

-- whether the oldest item can be lifted: one waits, and the hand is empty
abbrev pub can_lift : OutboxView → Bool
can_lift v = nat_lt v.lifted (length v.posts) && (v.dropped == v.lifted)

-- the oldest item is lifted, the one in the hand is dropped, where there is one
abbrev pub lifted_one : OutboxView → OutboxView
lifted_one v = if can_lift v then record { posts = v.posts; lifted = v.lifted + 1; dropped = v.dropped } else v

abbrev pub dropped_one : OutboxView → OutboxView
dropped_one v = if has_hand v then record { posts = v.posts; lifted = v.lifted; dropped = v.dropped + 1 } else v

-- the item in the hand waits again, the one that was dropped last lies in the hand again, where there is one
abbrev pub unlifted_one : OutboxView → OutboxView
unlifted_one v = if has_hand v then record { posts = v.posts; lifted = v.lifted - 1; dropped = v.dropped } else v

abbrev pub undropped_one : OutboxView → OutboxView
undropped_one v =
    if (v.dropped == v.lifted) && nat_lt 0 v.dropped
    then record { posts = v.posts; lifted = v.lifted; dropped = v.dropped - 1 } else v

-- so many items that were put out last and not lifted were never put out
abbrev pub without_out : OutboxView → ℕ → OutboxView
without_out v n =
    record { posts = take (max v.lifted (length v.posts - n)) v.posts; lifted = v.lifted; dropped = v.dropped }
