-- The laws and the tables of a bench.
use Rattle.bench_spec.specs.Settings.{Settings}
use Rattle.debug_text.specs.Tables.{Tables}

abbrev pub tables_in : Settings → Tables
tables_in settings = record {
  laws = settings.node.laws;
  peer = settings.peer;
  client = settings.client;
  server = settings.server;
}
