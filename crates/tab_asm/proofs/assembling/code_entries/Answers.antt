use Rattle.std.proofs.Common.{arith, sym, ◌∙◌}
use Rattle.tab_asm.proofs.CodeLemmas.{code_to-more, code_to-none, entries-more}
use Rattle.tab_asm.proofs.assembling.code_entries.Goals as goal

pub loop-entry-init : goal.loop-entry-init
loop-entry-init c = record {
  code = c.new-code.ensures.items ∙ sym (code_to-none c.args.table.now);
  entries = c.new-entries.ensures.items;
  few = rw c.new-code.ensures.items (omega arith);
}

pub loop-entry-preserved : goal.loop-entry-preserved
loop-entry-preserved c =
    let table = c.args.table.now in
    let before = c.loop-entry.invariant in
    record {
      code = code_to-more table c.loop-entry.entry _ _ before.code c.in_ok-offset.ensures.ok;
      entries = c.in_ok-put_offset.ensures ∙ entries-more table c.loop-entry.entry _ _ _ before.code c.in_ok-offset.ensures.offset before.entries;
      few = omega (arith, c.in_ok-offset.ensures.few, before.few);
    }
