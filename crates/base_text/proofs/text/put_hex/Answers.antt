use Rattle.std.proofs.Common.{◌≡◌, ◌-◌, ◌+◌, ◌++◌, take, drop, arith, append_assoc, refl}
use Rattle.std.proofs.lemmas.List.{append-nil}
use Rattle.hex.specs.Hex.{encode_lower}
use Rattle.base_text.proofs.HexText.{encode_lower-nil, encode_lower-more}
use Rattle.base_text.proofs.text.put_hex.Goals as goal

pub chunks-init : goal.chunks-init
chunks-init c = (omega arith, rw (encode_lower-nil, append-nil) refl)

-- the text before, and then that of the chunk
pub chunks-preserved : goal.chunks-preserved
chunks-preserved c =
    let at = c.chunks.at in
    let count = c.min.result in
    let same : at + count - at ≡ count = omega arith in
    let put : c.put_chunk.new.out.items ≡ c.chunks.out.items ++ encode_lower (take count (drop at c.args.octets.now)) =
    rw same at c.in_ok-put_chunk.ensures in
    (omega arith, rw (put, c.chunks.invariant.1, encode_lower-more c.args.octets.now at count, append_assoc) refl)
