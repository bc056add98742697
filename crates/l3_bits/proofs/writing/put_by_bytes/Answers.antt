use Rattle.std.proofs.Common.{◌≡◌, ◌+◌, ◌-◌, ◌*◌, ◌/◌, ◌%◌, ◌^◌, ◌++◌, ℕ, List, Bool, take, drop}
use Rattle.std.proofs.Common.{arith, ap, ◌∙◌}
use Rattle.std.proofs.lemmas.List.{take_all}
use Rattle.l3_bits.specs.Bits.{bits_of, digits}
use Rattle.l3_bits.proofs.Places.{length-bits_of, length-digits}
use Rattle.l3_bits.proofs.Fields.{write_more}
use Rattle.l3_bits.proofs.writing.put_by_bytes.Goals as goal

-- the place as the code has it
placed : (byte first done : ℕ) →
    8 * (byte + (first + done) / 8) + (first + done) % 8 ≡ 8 * byte + first + done
placed byte first done = omega arith

pub loop-done-preserved : goal.loop-done-preserved
loop-done-preserved c =
    let old = bits_of c.args.out.now in
    let now = bits_of c.loop-done.out in
    let at = 8 * c.args.byte + c.args.first in
    let count = c.min-count.result in
    let part = digits count (c.args.value / 2 ^ (c.args.width - c.loop-done.done - count)) in
    let next : bits_of c.put_in_byte.new.out
    ≡ take (at + c.loop-done.done) now ++ part ++ drop (at + c.loop-done.done + count) now =
    c.put_in_byte.ensures.value
    ∙ ap (λ p. take p now ++ part ++ drop (p + count) now)
    (placed c.args.byte c.args.first c.loop-done.done) in
    record {
      within = omega arith;
      length = c.put_in_byte.ensures.length ∙ c.loop-done.invariant.length;
      written = write_more old now (bits_of c.put_in_byte.new.out) at c.loop-done.done count
          c.args.width c.args.value
          (omega (arith, length-bits_of c.args.out.now)) (omega arith) c.loop-done.invariant.written
          next;
    }

-- all digits are written
whole : (old now : List Bool) (at k n v : ℕ) → k ≡ n →
    now ≡ take at old ++ take k (digits n v) ++ drop (at + k) old →
    now ≡ take at old ++ digits n v ++ drop (at + n) old
whole old now at k n v end is =
    is
    ∙ (ap (λ m. take at old ++ take m (digits n v) ++ drop (at + m) old) end
    ∙ ap (λ l. take at old ++ l ++ drop (at + n) old)
    (take_all n (digits n v) (omega (arith, length-digits n v))))

pub returns : goal.returns
returns c =
    whole (bits_of c.args.out.now) (bits_of c.loop-done.out) (8 * c.args.byte + c.args.first)
    c.loop-done.done c.args.width c.args.value
    (omega arith) c.loop-done.invariant.written
