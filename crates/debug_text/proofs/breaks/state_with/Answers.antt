use Rattle.std.proofs.Common.{◌≡◌, ap, sym, ◌∙◌, subst, Option, Some, None}
use Rattle.std.specs.Prelude.{position}
use Rattle.std.specs.Str.{bytes_eq}
use Rattle.bench_item.specs.declared.key.Key.{Key}
use Rattle.script_text.specs.Keys.{key_of}
use Rattle.tab_text.specs.Contents.{Contents}
use Rattle.debug_text.specs.Faults.{fault_in}
use Rattle.debug_text.specs.Tables.{tables_of}
use Rattle.debug_text.proofs.KeyLemmas.{no_state, read_state, state_found, state_wanted}
use Rattle.debug_text.proofs.breaks.state_with.Goals as goal

pub returns-in_default-state_of-clause-fault : goal.returns-in_default-state_of-clause-fault
returns-in_default-state_of-clause-fault c =
    let place = subst (λ (t : Contents). position (λ name. bytes_eq name c.args.state.now) t.states ≡ None) c.table.ensures (sym c.state_of.ensures ∙ c.in_default-state_of.is) in
    let read = read_state (tables_of c.args.book.now) c.args.key.now c.args.state.now c.in-Some.role None (sym c.in-Some.ensures) place in
    sym (ap fault_in read ∙ no_state (key_of c.args.key.now))

pub returns-in-Ok-Some-clause-ok : goal.returns-in-Ok-Some-clause-ok
returns-in-Ok-Some-clause-ok c =
    let place = subst (λ (t : Contents). position (λ name. bytes_eq name c.args.state.now) t.states ≡ Some c.in-Some-state_of.state) c.table.ensures (sym c.in-Some-state_of.ensures) in
    let read = read_state (tables_of c.args.book.now) c.args.key.now c.args.state.now c.in-Some.role (Some c.in-Some-state_of.state) (sym c.in-Some.ensures) place in
    read ∙ ap (λ (key : Option Key). state_found key (Some c.in-Some-state_of.state)) (sym c.in-Ok-Some.ensures.key ∙ c.in-Ok-Some.field-0-is)

pub returns-in-Err-clause-fault : goal.returns-in-Err-clause-fault
returns-in-Err-clause-fault c =
    let place = subst (λ (t : Contents). position (λ name. bytes_eq name c.args.state.now) t.states ≡ Some c.in-Some-state_of.state) c.table.ensures (sym c.in-Some-state_of.ensures) in
    let read = read_state (tables_of c.args.book.now) c.args.key.now c.args.state.now c.in-Some.role (Some c.in-Some-state_of.state) (sym c.in-Some.ensures) place in
    sym (ap fault_in read ∙ state_wanted (key_of c.args.key.now) c.in-Some-state_of.state c.in-Err.ensures.memory)
