use Rattle.std.proofs.Common.{◌++◌, ◌∙◌, ap}
use Rattle.log_text.specs.Books.{Named}
use Rattle.log_text.specs.EntryLines.{entry_lines}
use Rattle.log_text.specs.declared.book.NameBook.{NameBook}
use Rattle.bench_script.proofs.PrintedLemmas.{names_are}
use Rattle.bench_script.proofs.entry.put_taken.Goals as goal

-- the names are those of the bench
pub returns : goal.returns
returns c =
    let book : NameBook = record {
      laws = c.laws.result;
      machines = record { ref_ptr = c.laws.result.ref_ptr; now = c.in_ok-machines.machines };
      peer_states = c.as_slice.result;
      client_states = c.as_slice-2.result;
      server_states = c.as_slice-3.result;
    } in
    let same = names_are book c.args.core.now c.args.entry.now.step c.laws.ensures c.in_ok-machines.ensures
    (c.as_slice.ensures ∙ (c.states.ensures.names ∙ ap (λ t. t.states) c.table.ensures))
    (c.as_slice-2.ensures ∙ (c.states-2.ensures.names ∙ ap (λ t. t.states) c.table-2.ensures))
    (c.as_slice-3.ensures ∙ (c.states-3.ensures.names ∙ ap (λ t. t.states) c.table-3.ensures)) in
    c.in_ok-put_entry.ensures ∙ ap (λ (n : Named). c.args.out.now.items ++ entry_lines n c.args.entry.now) same
