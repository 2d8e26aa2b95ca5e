use Rattle.std.proofs.Common.{◌≡◌, ◌++◌, List, ℕ, refl, ap, ◌∙◌, codes, drop}
use Rattle.std.proofs.lemmas.Result.{on_ok_weaker}
use Rattle.std.proofs.lemmas.List.{take_rest, drop_min}
use Rattle.hex.specs.Hex.{encode_lower}
use Rattle.msg_text.specs.Lines.{AvpLines, header_line}
use Rattle.msg_text.proofs.Puts.{five_behind}
use Rattle.msg_text.proofs.show.put_message.Goals as goal

-- header, AVPs, and the line of the encoding
pub returns : goal.returns
returns c =
    let out = c.args.out.now.items in
    let encoding = c.args.encoding.now in
    let header = header_line c.args.header.now in
    let avps = c.in_ok-put_avps.ensures in
    let lines = avps.0 in
    let whole : AvpLines (drop 20 encoding) lines = rw (take_rest, c.min.ensures, drop_min) at avps.1 in
    let text = encode_lower encoding in
    let before : c.put_avps.new.out.items ≡ (out ++ header) ++ lines = avps.2 ∙ ap (λ (l : List ℕ). l ++ lines) c.in_ok-put_header.ensures in
    on_ok_weaker c.put_octets_line.result
    (λ put. (
      _,
      record { avp_lines = lines; avps = whole; printed = refl },
      put ∙ ap (λ (l : List ℕ). ((l ++ codes "octets ") ++ text) ++ codes "\n") before ∙ five_behind out header lines (codes "octets ") text (codes "\n"),
    ))
    c.put_octets_line.ensures
