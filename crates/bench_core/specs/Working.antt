-- What a shard's work writes.
use Rattle.std.specs.Prelude.{◌≡◌, ℕ, List, [], ◌∷◌, ◌++◌, fold, length, Some}
use Rattle.acct_book.specs.Book.{Paged, after}
use Rattle.bench_item.specs.declared.entry.Entry.{Entry}
use Rattle.bench_item.specs.declared.entry.Handled.{Handled}
use Rattle.bench_item.specs.declared.item.Item.TheVariants.{ToMachine}
use Rattle.bench_item.specs.declared.item.MachineItem.{MachineItem}
use Rattle.bench_item.specs.declared.step.Step.TheVariants.{Work as WorkStep}
use Rattle.bench_move.specs.Tables.{Tables}
use Rattle.bench_move.specs.Moves.{Holds}
use Rattle.bench_shard.specs.View.{ShardView}
use Rattle.bench_shard.specs.Works.{IsWork, after_work, taken_back}
use Rattle.bench_shard.specs.declared.work.ShardRecord.{ShardRecord}
use Rattle.bench_shard.specs.declared.work.Work.{Work}
use Rattle.bench_undo.specs.declared.undo.Undo.{Undo}
use Rattle.bench_undo.specs.declared.undo.Undo.TheVariants.{Worked}

-- the entry in which a shard handles an item
abbrev pub work_entry : ℕ → MachineItem → Handled → Entry
work_entry shard item handled = record { step = WorkStep shard; item = Some (ToMachine item); handled = Some handled }

-- what is written where work is done: the shard, the page, the entry, and the record that takes it back
pub record IsWritten (shard page : ℕ) (work : Work) (v w : ShardView) (p q : Paged) (log logged : List Entry)
    (undos undone : List Undo) : Type 0 where
  pub shard_is : w ≡ after_work v work.item work.handled work.effects.posts.items
  pub page_is : Holds p q (fold after p.book work.effects.ops)
  pub log_is : logged ≡ log ++ work_entry shard work.item work.handled ∷ []
  pub change : ShardRecord
  pub back : taken_back change w ≡ v
  pub undo_is : undone ≡ undos ++ Worked shard change page (length work.effects.ops) ∷ []

-- nothing is written
pub record IsUnwritten (v w : ShardView) (p q : Paged) (log logged : List Entry)
    (undos undone : List Undo) : Type 0 where
  pub shard_is : w ≡ v
  pub page_is : Holds p q p.book
  pub log_is : logged ≡ log
  pub undo_is : undone ≡ undos

-- work is done on what the shard is to do next
pub record IsDone (tables : Tables) (shard page : ℕ) (v w : ShardView) (p q : Paged) (log logged : List Entry)
    (undos undone : List Undo) : Type 0 where
  pub work : Work
  pub decided : IsWork tables p.book v work
  pub written : IsWritten shard page work v w p q log logged undos undone
