-- What a bench is opened with.
use Rattle.std.specs.Prelude.{ℕ, List}
use Rattle.acct_book.specs.Book.{Opened}
use Rattle.dia_dict.specs.declared.definition.Definition.{Definition}
use Rattle.dia_write.specs.declared.answer.Identity.{Identity}
use Rattle.tab_text.specs.Contents.{Contents}
use Rattle.bench_item.specs.Keys.{Node}
use Rattle.bench_item.specs.declared.key.Role.{Role}
use Rattle.bench_item.specs.declared.key.Role.TheVariants.{Peer, Client, Server}

-- what a bench is opened with: its laws, peers and shards, the table of each role, who it is, the definitions that its dictionary has
-- besides those of the standard, the octets that a request for units without an amount asks for, its accounts, and how many pages of
-- the account book and how many desks there are
pub record Settings : Type 0 where
  pub node : Node
  pub peer : Contents
  pub client : Contents
  pub server : Contents
  pub identity : Identity
  pub dictionary : List Definition
  pub default_units : ℕ
  pub accounts : List Opened
  pub pages : ℕ
  pub desks : ℕ

-- the table of a role
abbrev pub table_of : Settings → Role → Contents
table_of settings Peer = settings.peer
table_of settings Client = settings.client
table_of settings Server = settings.server
