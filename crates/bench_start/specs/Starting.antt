-- What the parts of a bench are when it is opened.
use Rattle.std.specs.Prelude.{ℕ, ◌%◌, ◌==◌, List, [], filter, map}
use Rattle.std.specs.List.{range_with_len}
use Rattle.acct_book.specs.Book.{Opened, Paged}
use Rattle.bench_open.specs.Given.{opened_as}
use Rattle.bench_open.specs.declared.config.Config.{Config}
use Rattle.bench_spec.specs.Settings.{Settings}
use Rattle.tab_law.specs.Books.{Laws}

-- a page of the account book, of so many, with its accounts
abbrev pub page_at_start : ℕ → List Opened → ℕ → Paged
page_at_start count accounts number = record {
  number = number;
  pages = count;
  book = record { accounts = filter (λ o. o.id % count == number) accounts; journal = [] };
  room = 0;
}

-- the pages, so many
abbrev pub pages_at_start : ℕ → List Opened → List Paged
pages_at_start count accounts = map (page_at_start count accounts) (range_with_len 0 count)

-- the settings of a configuration, with these laws
abbrev pub settings_with : Config → Laws → Settings
settings_with config laws = record {
  node = record { laws = laws; peers = config.peers.items; shards = config.shards };
  peer = config.peer;
  client = config.client;
  server = config.server;
  identity = config.identity;
  dictionary = config.dictionary;
  default_units = config.default_units;
  accounts = map opened_as config.accounts.items;
  pages = config.pages;
  desks = config.desks;
}
