use Rattle.std.proofs.Common.{◌-◌, ◌∙◌, ◌++◌, [], Some, ap, append-nil, length, ltb-true, subst, sym}
use Rattle.bench_net.specs.Texts.{Grows}
use Rattle.thread_node.proofs.TextLemmas.{all_set, drawn_set}
use Rattle.thread_node.proofs.texts.put_behind.Goals as goal

-- that text grows
pub returns-in_ok-extend_from_slice-in-Some-clause-grow : goal.returns-in_ok-extend_from_slice-in-Some-clause-grow
returns-in_ok-extend_from_slice-in-Some-clause-grow c =
    all_set (λ text. text.items) c.args.texts.now.items (c.args.line - 1) c.extend_from_slice.new.self c.in-Some.text.now
    (subst (λ text. Grows (Some text.items) (Some c.extend_from_slice.new.self.items)) c.in-Some.ensures.item.1
    (c.args.octets.now, c.in_ok-extend_from_slice-in-Some.ensures.items))

-- and is so much longer
pub returns-in_ok-extend_from_slice-in-Some-clause-more : goal.returns-in_ok-extend_from_slice-in-Some-clause-more
returns-in_ok-extend_from_slice-in-Some-clause-more c =
    drawn_set (λ text. text.items) c.args.texts.now.items (c.args.line - 1) c.extend_from_slice.new.self c.in-Some.text.now
    c.args.octets.now (ltb-true (c.args.line - 1) (length c.args.texts.now.items) (sym c.in-Some.ensures.item.0))
    (c.in_ok-extend_from_slice-in-Some.ensures.items ∙ ap (λ text. text.items ++ c.args.octets.now) c.in-Some.ensures.item.1)

-- or stays
pub returns-in_err-extend_from_slice-in-Some-clause-grow : goal.returns-in_err-extend_from_slice-in-Some-clause-grow
returns-in_err-extend_from_slice-in-Some-clause-grow c =
    all_set (λ text. text.items) c.args.texts.now.items (c.args.line - 1) c.extend_from_slice.new.self c.in-Some.text.now
    (subst (λ text. Grows (Some text.items) (Some c.extend_from_slice.new.self.items)) c.in-Some.ensures.item.1
    ([], c.in_err-extend_from_slice-in-Some.ensures.items ∙ sym (append-nil c.in-Some.text.now.items)))
