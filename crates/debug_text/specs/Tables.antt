-- The laws and the tables that commands speak of.
use Rattle.tab_law.specs.Books.{Laws}
use Rattle.tab_text.specs.Contents.{Contents}
use Rattle.bench_item.specs.declared.key.Role.{Role}
use Rattle.bench_item.specs.declared.key.Role.TheVariants.{Peer, Client, Server}
use Rattle.debug_text.specs.declared.book.TableBook.{TableBook}

-- the laws, and the table of each role
pub record Tables : Type 0 where
  pub laws : Laws
  pub peer : Contents
  pub client : Contents
  pub server : Contents

abbrev pub tables_of : TableBook → Tables
tables_of book =
    record { laws = book.laws.now; peer = book.peer.now; client = book.client.now; server = book.server.now }

-- the table of a role
abbrev pub table_of : Tables → Role → Contents
table_of tables Peer = tables.peer
table_of tables Client = tables.client
table_of tables Server = tables.server
