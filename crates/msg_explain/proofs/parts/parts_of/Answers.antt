use Rattle.std.proofs.Common.{◌≡◌, map, length}
use Rattle.std.proofs.lemmas.List.{drop_min}
use Rattle.dia_dict.specs.Dictionary.{known}
use Rattle.msg_explain.specs.Parts.{seen_part, parts}
use Rattle.msg_explain.proofs.parts.parts_of.Goals as goal

-- behind the header, or behind all octets where they are fewer
pub returns : goal.returns
returns c =
    let listed : map seen_part c.list_parts.new.list.items ≡ parts (known c.args.dictionary.now) 4 (length c.args.octets.now) c.split_at.result.1.now =
    rw c.in_ok-list.ensures.items at c.in_ok-list_parts.ensures in
    rw (c.split_at.ensures.back, c.min.ensures, drop_min) at listed
