use Rattle.std.proofs.Common.{◌≡◌, ◌+◌, ◌-◌, ◌*◌, ◌/◌, ◌≤◌, ◌++◌, length, take, sym, ap, ◌∙◌, arith, rules, Ok, Err}
use Rattle.std.proofs.lemmas.List.{length-take-le}
use borrow.Rule.Slice.PartMut.{mid_of, post_of}
use Rattle.l3_huff.specs.Words.{between}
use Rattle.l3_stream.specs.Units.{table_at, table_by, zero_lines}
use Rattle.l3_stream.specs.UnitReading.{pairs_at, quads_at, unit_at}
use Rattle.l3_frames.proofs.UnitSteps.{gives_err, unit_bad_pair, unit_bad_quad, unit_read}
use Rattle.l3_frames.proofs.UnitLines.{bare_lines, bare_size, own_zeros, behind_pairs, all_lines, unit_with, zeros-length}
use Rattle.l3_frames.proofs.units.read_unit.Goals as goal

pub returns-in_err-next-clause-value : goal.returns-in_err-next-clause-value
returns-in_err-next-clause-value c =
    let is : c.from_residual.result ≡ Err c.in_err-next.field-0.0 = search rules in
    let st = c.args.settings.now in
    let u = c.args.unit.now in
    let end = c.args.at + c.from.result in
    let bits = between c.args.bytes.now c.args.at end in
    let end_is : c.args.at + u.length ≡ end = omega (arith, c.from.ensures) in
    let big : u.big ≡ length (take (2 * c.from-lines.result) u.lines) / 2 = omega (
      arith,
      c.from-lines.ensures,
      c.requires.fields.big,
      length-take-le (2 * c.from-lines.result)
          u.lines (omega (
            arith,
            c.from-lines.ensures,
            c.requires.fields.big,
            bare_size u c.requires.bare,
          )),
    ) in
    let regions : table_at st u ≡ table_by c.of-regions.result = sym c.of-regions.ensures in
    let pairs : pairs_at (table_at st u) (c.args.first + end) 0 u.big bits
    ≡ Err c.in_err-next.field-0.0 =
    ap (λ t. pairs_at t (c.args.first + end) 0 u.big bits) regions
    ∙ (ap (λ n. pairs_at (table_by c.of-regions.result) (c.args.first + end) 0 n bits) big
    ∙ c.in_err-next.ensures.value) in
    gives_err _ _ c.from_residual.result c.in_err-next.field-0.0 is
    (ap (λ n. unit_at st (c.args.first + n) u (between c.args.bytes.now c.args.at n)) end_is
    ∙ unit_bad_pair st (c.args.first + end) u bits c.in_err-next.field-0.0 pairs)

pub read_quads-requires-clause-zeros : goal.read_quads-requires-clause-zeros
read_quads-requires-clause-zeros c =
    let u = c.args.unit.now in
    let n = 2 * c.from-lines.result in
    let cut : length (take n u.lines) ≡ n = length-take-le n u.lines
    (omega (arith, c.from-lines.ensures, c.requires.fields.big, bare_size u c.requires.bare)) in
    own_zeros _ (576 - n) (behind_pairs u.lines c.read_pairs.new.lines n (c.read_pairs.ensures.size
    ∙ cut) (omega (arith, c.from-lines.ensures, c.requires.fields.big))
    (bare_lines u c.requires.bare))

pub returns-in_err-count-clause-value : goal.returns-in_err-count-clause-value
returns-in_err-count-clause-value c =
    let is : c.from_residual-in_err-count.result ≡ Err c.in_err-count.field-0.0 = search rules in
    let st = c.args.settings.now in
    let u = c.args.unit.now in
    let n = 2 * c.from-lines.result in
    let end = c.args.at + c.from.result in
    let bits = between c.args.bytes.now c.args.at end in
    let end_is : c.args.at + u.length ≡ end = omega (arith, c.from.ensures) in
    let cut : length (take n u.lines) ≡ n = length-take-le n u.lines
    (omega (arith, c.from-lines.ensures, c.requires.fields.big, bare_size u c.requires.bare)) in
    let big : u.big ≡ length (take n u.lines) / 2 = omega (
      arith,
      c.from-lines.ensures,
      c.requires.fields.big,
      cut,
    ) in
    let regions : table_at st u ≡ table_by c.of-regions.result = sym c.of-regions.ensures in
    let pairs : pairs_at (table_at st u) (c.args.first + end) 0 u.big bits
    ≡ Ok (c.read_pairs.new.lines, between c.args.bytes.now c.in_ok-next.next end) =
    ap (λ t. pairs_at t (c.args.first + end) 0 u.big bits) regions
    ∙ (ap (λ n. pairs_at (table_by c.of-regions.result) (c.args.first + end) 0 n bits) big
    ∙ c.in_ok-next.ensures.value) in
    let behind = behind_pairs u.lines c.read_pairs.new.lines n (c.read_pairs.ensures.size ∙ cut)
    (omega (arith, c.from-lines.ensures, c.requires.fields.big)) (bare_lines u c.requires.bare)
    in
    let room : (576 - 2 * u.big) / 4 ≡ length
    (mid_of n (576 - n) (c.read_pairs.new.lines ++ post_of 0 n u.lines)) / 4 = omega (
      arith,
      ap length behind,
      zeros-length (576 - n),
      c.from-lines.ensures,
    ) in
    gives_err _ _ c.from_residual-in_err-count.result c.in_err-count.field-0.0 is
    (ap (λ n. unit_at st (c.args.first + n) u (between c.args.bytes.now c.args.at n)) end_is
    ∙ unit_bad_quad st (c.args.first + end) u bits (
      c.read_pairs.new.lines,
      between c.args.bytes.now c.in_ok-next.next end,
    ) c.in_err-count.field-0.0 pairs
    (ap (λ k. quads_at u.quad (c.args.first + end) k (between c.args.bytes.now c.in_ok-next.next
    end)) room ∙ c.in_err-count.ensures.value))

pub returns-clause-value : goal.returns-clause-value
returns-clause-value c =
    let st = c.args.settings.now in
    let u = c.args.unit.now in
    let n = 2 * c.from-lines.result in
    let count = c.in_ok-count.count in
    let quads = c.read_quads.new.lines in
    let end = c.args.at + c.from.result in
    let bits = between c.args.bytes.now c.args.at end in
    let end_is : c.args.at + u.length ≡ end = omega (arith, c.from.ensures) in
    let cut : length (take n u.lines) ≡ n = length-take-le n u.lines
    (omega (arith, c.from-lines.ensures, c.requires.fields.big, bare_size u c.requires.bare)) in
    let big : u.big ≡ length (take n u.lines) / 2 = omega (
      arith,
      c.from-lines.ensures,
      c.requires.fields.big,
      cut,
    ) in
    let regions : table_at st u ≡ table_by c.of-regions.result = sym c.of-regions.ensures in
    let pairs : pairs_at (table_at st u) (c.args.first + end) 0 u.big bits
    ≡ Ok (c.read_pairs.new.lines, between c.args.bytes.now c.in_ok-next.next end) =
    ap (λ t. pairs_at t (c.args.first + end) 0 u.big bits) regions
    ∙ (ap (λ n. pairs_at (table_by c.of-regions.result) (c.args.first + end) 0 n bits) big
    ∙ c.in_ok-next.ensures.value) in
    let size : length c.read_pairs.new.lines ≡ n = c.read_pairs.ensures.size ∙ cut in
    let within : n ≤ 576 = omega (arith, c.from-lines.ensures, c.requires.fields.big) in
    let behind = behind_pairs u.lines c.read_pairs.new.lines n size within
    (bare_lines u c.requires.bare) in
    let old_size : length (mid_of n (576 - n) (c.read_pairs.new.lines ++ post_of 0 n u.lines))
    ≡ 576 - n = ap length behind ∙ zeros-length (576 - n) in
    let room : (576 - 2 * u.big) / 4 ≡ length
    (mid_of n (576 - n) (c.read_pairs.new.lines ++ post_of 0 n u.lines)) / 4 = omega (
      arith,
      old_size,
      c.from-lines.ensures,
    ) in
    let new_size : length quads ≡ 576 - n = c.read_quads.ensures.size ∙ old_size in
    let few : 4 * count ≤ 576 - n = omega (arith, c.in_ok-count.ensures.count, old_size) in
    let left : length (mid_of n (576 - n) (c.read_pairs.new.lines ++ post_of 0 n u.lines)) - 4
    * count ≡ 576 - n - 4 * count = omega (arith, old_size) in
    let all = all_lines u.lines c.read_pairs.new.lines n size within (bare_lines u c.requires.bare)
    quads count new_size few (c.in_ok-count.ensures.past ∙ ap zero_lines left) in
    let four : length (take (4 * count) quads) ≡ 4 * count = length-take-le (4 * count) quads
    (omega arith) in
    ap (λ n. unit_at st (c.args.first + n) u (between c.args.bytes.now c.args.at n)) end_is
    ∙ (unit_read st (c.args.first + end) u bits (
      c.read_pairs.new.lines,
      between c.args.bytes.now c.in_ok-next.next end,
    ) (take (4 * count) quads) pairs
    (ap (λ k. quads_at u.quad (c.args.first + end) k (between c.args.bytes.now c.in_ok-next.next
    end)) room ∙ c.in_ok-count.ensures.value)
    ∙ ap (λ w. Ok w) (unit_with u c.read_pairs.new.lines (take (4 * count) quads) _ count four all))
