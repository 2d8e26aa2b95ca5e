use Rattle.std.proofs.Common.{◌≡◌, ◌<◌, ◌+◌, ◌-◌, ◌^◌, ◌++◌, List, ℕ, length, take, drop, replicate, vec_len, ap, ◌∙◌, arith}
use Rattle.std.proofs.lemmas.List.{take_all, take_at, length-append, length-drop, length-take-le}
use Rattle.dia_avp.specs.declared.avp.Avp.{Avp}
use Rattle.dia_avp.specs.Encoding.{encoding}
use Rattle.dia_command.specs.Command.{avps_of, header_of, rest_of}
use Rattle.dia_command.specs.Header.{header_octets}
use Rattle.dia_write.specs.Values.{values_avps}
use Rattle.dia_write.specs.Encoding.{message_len}
use Rattle.dia_write.proofs.WriteLemmas.{avps-all, encode-behind, encode-whole, encode-first_frame}
use Rattle.dia_write.proofs.FillLemmas.{tail-filled, where_ok}
use Rattle.dia_write.proofs.write.write_fields.Goals as goal

pub returns : goal.returns
returns c =
    let command = c.args.command.now in
    let list = values_avps c.format_of-format.result.now c.args.values.now in
    let all : list ++ rest_of command ≡ avps_of command = avps-all command c.format_of-format.result.now c.args.values.now (rw (← c.kind.ensures) c.format_of-format.ensures) c.requires in
    let len : c.in-Some.len ≡ message_len command = omega (arith, c.in-Some.ensures.1, ap (λ (l : List Avp). length (encoding (list ++ l))) c.rest.ensures, ap (λ (l : List Avp). length (encoding l)) all) in
    let fits : message_len command < 2 ^ 24 = omega (arith, c.in-Some.ensures.0, c.in-Some.ensures.1) in
    let out = c.args.out.now.items in
    let before = c.reserve.new.self.items in
    let items = c.resize.new.self.items in
    let start = c.len-start.result in
    let slice = c.as_mut_slice.result.now in
    let begins : start ≡ length before = omega (arith, c.len-start.ensures, c.reserve.new.self.ok.0) in
    let done = c.resize.ensures.succeeds (omega (arith, c.len-start.ensures, c.in_ok-reserve.ensures.ok)) in
    let long : c.resize.new.self.len ≡ start + c.in-Some.len = where_ok c.resize.result c.resize.new.self.len _ _ done c.resize.ensures.len in
    let sized = where_ok c.resize.result items _ _ done c.resize.ensures.items in
    let zeros : List ℕ = replicate (start + c.in-Some.len - vec_len c.reserve.new.self) 0 in
    let front : take start items ≡ out =
    ap (take start) (sized ∙ ap (λ (l : List ℕ). l ++ zeros) (take_all (start + c.in-Some.len) before (omega (arith, begins))))
    ∙ take_at before zeros start (omega (arith, begins)) ∙ c.reserve.ensures.items in
    let room : List ℕ = take (length slice - start) (drop start slice) in
    let whole : length room ≡ message_len command =
    length-take-le (length slice - start) (drop start slice) (omega (arith, length-drop start slice)) ∙ omega (arith, c.as_mut_slice.ensures.len, long, len) in
    let put : c.put_all.new.room ≡ header_octets (header_of command) (length room) ++ encoding (list ++ rest_of command) = rw (c.header.ensures, c.rest-2.ensures) at c.put_all.ensures in
    let size : length c.put_all.new.room ≡ message_len command =
    omega (arith, ap length put, length-append (header_octets (header_of command) (length room)) (encoding (list ++ rest_of command)), ap (λ (l : List Avp). length (encoding l)) all) in
    record {
      ok =
          tail-filled items slice c.put_all.new.room start c.resize.new.self.len c.as_mut_slice.ensures.value c.resize.new.self.ok.0 (omega (arith, long)) (omega (arith, size, long, len))
          ∙ ap (λ (l : List ℕ). l ++ c.put_all.new.room) front
          ∙ encode-behind command out c.put_all.new.room (list ++ rest_of command) (length room) all whole put;
      too_long = (λ never. absurd (cc), λ le. absurd (omega arith));
      err = tt;
      memory = λ never. absurd (cc);
      room_stays = omega (arith, c.reserve.ensures.capacity, c.resize.ensures.capacity);
      message = encode-whole command fits;
      frame = encode-first_frame command fits;
    }
