-- Reading a frame looks at its own bytes alone, whatever follows.
use Rattle.std.proofs.Common.{◌≡◌, ℕ, ◌+◌, ◌≤◌, leb, List, ◌++◌, length, take, drop, true, refl, ap, ◌∙◌, arith, length-append}
use Rattle.std.proofs.lemmas.Bool.{le-leb}
use Rattle.std.proofs.lemmas.List.{take-append-le, drop-append-le, drop_at, length-drop}
use Rattle.l3_bits.specs.Bits.{bits_of}
use Rattle.l3_base.specs.declared.settings.Settings.{Settings}
use Rattle.l3_base.specs.Lengths.{frame_bytes_of, slot_bytes_of}
use Rattle.l3_stream.specs.Side.{side_bytes}
use Rattle.l3_stream.specs.Deviation.{Place, head_at, slot_at}
use Rattle.l3_stream.specs.StreamLaws.{IsLocal}
use Rattle.l3_stream.proofs.Header.{frame_size}

-- so many bytes behind others
part_of_front : (i n : ℕ) (front more : List ℕ) → i + n ≤ length front → take n (drop i (front ++ more)) ≡ take n (drop i front)
part_of_front i n front more le =
    ap (take n) (drop-append-le i front more (omega arith)) ∙ take-append-le n (drop i front) more (omega (arith, length-drop i front))

head_local : (st : Settings) (p : Place) (frame more : List ℕ) → length frame ≡ frame_bytes_of st p.number → head_at st p (frame ++ more) ≡ head_at st p frame
unfolding head_at
head_local st p frame more size =
    let n = p.number in
    let long : 4 ≤ length frame = omega (arith, frame_size st n) in
    let a : leb 4 (length (frame ++ more)) ≡ true = le-leb _ _ (omega (arith, length-append frame more)) in
    let a' : leb 4 (length frame) ≡ true = le-leb _ _ long in
    let b : leb (frame_bytes_of st n) (length (frame ++ more)) ≡ true = le-leb _ _ (omega (arith, length-append frame more)) in
    let b' : leb (frame_bytes_of st n) (length frame) ≡ true = le-leb _ _ (omega arith) in
    rw (a, a', b, b', take-append-le 4 frame more long, part_of_front 4 (side_bytes st.channels) frame more (omega (arith, frame_size st n))) refl

slot_local : (st : Settings) (n : ℕ) (frame more : List ℕ) → length frame ≡ frame_bytes_of st n → slot_at st n (frame ++ more) ≡ slot_at st n frame
unfolding slot_at
slot_local st n frame more size = ap bits_of (part_of_front (4 + side_bytes st.channels) (slot_bytes_of st n) frame more (omega (arith, frame_size st n)))

pub frame_is_local : (st : Settings) (p : Place) (frame more : List ℕ) → length frame ≡ frame_bytes_of st p.number → IsLocal st p frame more
frame_is_local st p frame more size = record {
  head = head_local st p frame more size;
  slot = slot_local st p.number frame more size;
  left = drop_at frame more (frame_bytes_of st p.number) size;
}
