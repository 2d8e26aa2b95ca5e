-- The table of each role with its program, and the laws that they are loaded with.
use Rattle.std.specs.Prelude.{◌≡◌, ℕ, List, ◌++◌, map, Option, option_and_then, slice_get}
use Rattle.base_list.specs.Named.{place_of}
use Rattle.server_rules.specs.Kinds.{kinds}
use Rattle.tab_asm.specs.Assembled.{image_of, Means}
use Rattle.tab_law.specs.Books.{Laws}
use Rattle.tab_load.specs.Loading.{IsLoaded}
use Rattle.tab_load.specs.declared.counts.Format.TheVariants.{Two}
use Rattle.tab_step.specs.Bind.{IsBoundTo, missing}
use Rattle.tab_text.specs.Contents.{Contents, IsTable}
use Rattle.bench_item.specs.declared.key.Role.{Role}
use Rattle.bench_item.specs.declared.key.Role.TheVariants.{Peer, Client, Server}
use Rattle.bench_move.specs.declared.roles.Ready.{Ready}

-- the laws, and the table of each role
pub record Tables : Type 0 where
  pub laws : Laws
  pub peer : Contents
  pub client : Contents
  pub server : Contents

-- the table of a role
abbrev pub table_of : Tables → Role → Contents
table_of tables Peer = tables.peer
table_of tables Client = tables.client
table_of tables Server = tables.server

-- the names of the three tables that a book lacks, in the order peer, client, server
abbrev pub all_missing : Laws → Contents → Contents → Contents → List (List ℕ)
all_missing laws peer client server = missing laws peer ++ missing laws client ++ missing laws server

-- of each kind of a book the place of its name in the laws of a server, none where a server has no such kind
abbrev pub server_places : Laws → List (Option ℕ)
server_places laws = map (λ entry. place_of entry.name kinds) laws.kinds

-- a table that is bound to a book, with its program: that of its image, loaded with the same book
pub record IsReady (laws : Laws) (ready : Ready) : Type 0 where
  pub bound : IsBoundTo ready.bound laws
  pub table : IsTable ready.bound.table
  pub loaded : IsLoaded laws ready.program
  pub format : ready.program.format ≡ Two
  pub image : ready.program.image ≡ image_of ready.bound.table
  pub means : Means ready.program.image ready.bound.table

-- the place of a kind of a book in the laws of a server, if it is one of a server's kinds
abbrev pub server_kind : Laws → ℕ → Option ℕ
server_kind laws kind = option_and_then (λ entry. place_of entry.name kinds) (slice_get laws.kinds kind)
