-- What is handed in, as `bench_spec` has it.
use Rattle.std.specs.Prelude.{List, map, slice_index_or}
use Rattle.acct_book.specs.Book.{Opened}
use Rattle.tab_law.specs.Books.{Laws}
use Rattle.bench_spec.specs.Opening as opening
use Rattle.bench_open.specs.declared.account.Account.{Account}
use Rattle.bench_open.specs.declared.config.Config.{Config}

-- an account as it is opened
abbrev pub opened_as : Account → Opened
opened_as account = record { id = account.id; given = account.given }

-- a configuration with the laws of its registries
abbrev pub config_of : Config → List Laws → opening.Config
config_of c laws = record {
  identity = c.identity;
  peers = c.peers.items;
  accounts = map opened_as c.accounts.items;
  shards = c.shards;
  pages = c.pages;
  desks = c.desks;
  default_units = c.default_units;
  dictionary = c.dictionary;
  peer = c.peer;
  client = c.client;
  server = c.server;
  registries = laws;
}

-- the first of some laws
abbrev pub first_of : List Laws → Laws
first_of books = slice_index_or books 0 opening.no_laws
