use Rattle.std.proofs.Common.{◌≡◌, ap, ◌∙◌, false}
use Rattle.std.specs.Prelude.{nat_lt}
use Rattle.l3_base.specs.Lengths.{base_bytes_of, is_padded}
use Rattle.l3_base.specs.Header.{header_bits}
use Rattle.l3_stream.proofs.HeaderLemmas.{padded-is, header_written, header_frame}
use Rattle.l3_stream.proofs.header_bits.write_header.Goals as goal

pub returns : goal.returns
returns c =
    let st = c.args.settings.now in
    let padded : nat_lt c.base_bytes.result c.frame_bytes.result ≡ is_padded st c.args.frame =
    padded-is c.base_bytes.result c.frame_bytes.result (base_bytes_of st) (is_padded st c.args.frame) c.base_bytes.ensures.value c.frame_bytes.ensures.value in
    header_written c.put_bits.new.out c.header_number.result (header_bits st (nat_lt c.base_bytes.result c.frame_bytes.result) false false) c.header_number.ensures.digits c.put_bits.ensures
    ∙ (ap (λ p. header_bits st p false false) padded ∙ header_frame st c.args.frame)
