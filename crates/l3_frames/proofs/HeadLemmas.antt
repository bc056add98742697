-- Bytes copied within and between buffers.
use Rattle.std.proofs.Common.{◌≡◌, ℕ, ◌+◌, ◌-◌, ◌<◌, ◌≤◌, ◌^◌, List, ◌++◌, length, take, drop, sym, ap, ◌∙◌, arith, length-append}
use Rattle.std.specs.Prelude.{All}
use Rattle.std.specs.List.{copy_within}
use Rattle.std.proofs.lemmas.List.{drop-take, length-drop, length-take-le, take_at}
use Rattle.std.proofs.lemmas.List.Elements.{All-take}
use borrow.Rule.Slice.PartMut.{put_mid}
use Rattle.l3_bits.specs.Bits.{bits_of, packed}
use Rattle.l3_bits.proofs.Bytes.{packed-bits_of}
use Rattle.l3_io.proofs.ReadLemmas.{take-put_mid-add}

-- the first bytes are left out, and the others moved to the front
pub moved_forward : (bytes new now : List ℕ) (size count : ℕ) → count ≤ size → size ≤ length bytes → take size bytes ≡ now → new ≡ copy_within bytes count size 0 →
    take (size - count) new ≡ drop count now
moved_forward bytes new now size count le within is moved =
    let kept = take (size - count) (drop count bytes) in
    let long : length kept ≡ size - count = length-take-le (size - count) (drop count bytes) (omega (arith, length-drop count bytes)) in
    let e : count + (size - count) ≡ size = omega arith in
    ap (take (size - count)) moved
    ∙ (take_at kept (drop (0 + (size - count)) bytes) (size - count) long
    ∙ (sym (drop-take count (size - count) bytes) ∙ (ap (λ k. drop count (take k bytes)) e ∙ ap (drop count) is)))

-- a header and the first bytes of side information
pub head_joined : (header side first second more : List ℕ) (size : ℕ) → length header ≡ 4 → length side ≡ 32 → size ≤ 32 → first ≡ header → second ≡ side →
    All (λ byte. byte < 2 ^ 8) header → All (λ byte. byte < 2 ^ 8) side →
    take (4 + size) (put_mid 4 32 (first ++ more) second) ≡ packed (bits_of header) ++ packed (bits_of (take size side))
head_joined header side first second more size four long le is_header is_side bytes bytes' =
    let low : 4 ≤ length (first ++ more) = omega (arith, length-append first more, ap length is_header) in
    let few : size ≤ length second = omega (arith, ap length is_side) in
    take-put_mid-add 4 size 32 (first ++ more) second low few
    ∙ (ap (λ l. l ++ take size second) (take_at first more 4 (ap length is_header ∙ four))
    ∙ (ap (λ l. l ++ take size second) is_header
    ∙ (ap (λ l. header ++ take size l) is_side
    ∙ (ap (λ l. l ++ take size side) (sym (packed-bits_of header bytes))
    ∙ ap (λ l. packed (bits_of header) ++ l) (sym (packed-bits_of (take size side) (All-take (λ byte. byte < 2 ^ 8) size side bytes')))))))
