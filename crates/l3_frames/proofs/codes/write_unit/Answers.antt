use Rattle.std.proofs.Common.{◌≡◌, ◌+◌, ◌≤◌, ◌*◌, length, arith, ap, sym, ◌∙◌, rules, length-append}
use Rattle.l3_bits.specs.Bits.{bits_of}
use Rattle.l3_stream.specs.Units.{pairs_code, pairs_of, quads_code, quads_of, table_at}
use Rattle.l3_frames.specs.Laying.{laid_over}
use Rattle.l3_frames.proofs.CodeLemmas.{unit_bits-is, two_laid}
use Rattle.l3_frames.proofs.codes.write_unit.Goals as goal

pub write_pairs-middle-requires-clause-within : goal.write_pairs-middle-requires-clause-within
write_pairs-middle-requires-clause-within c =
    let st = c.args.settings.now in
    let u = c.args.unit.now in
    let pairs = pairs_code (table_at st u) 0 (pairs_of u) in
    let quads = quads_code u.quad (quads_of u) in
    omega (arith, c.requires.within, ap length (unit_bits-is st u), length-append pairs quads, ap (λ l. length (pairs_code (table_at st u) 0 l)) c.pair_lines.ensures.value)

pub write_quads-requires-clause-within : goal.write_quads-requires-clause-within
write_quads-requires-clause-within c =
    let st = c.args.settings.now in
    let u = c.args.unit.now in
    let pairs = pairs_code (table_at st u) 0 (pairs_of u) in
    let quads = quads_code u.quad (quads_of u) in
    let size : length c.write_pairs-middle.new.out ≡ length c.args.out.now = search rules in
    omega (
      arith,
      size,
      c.requires.within,
      ap length (unit_bits-is st u),
      length-append pairs quads,
      ap (λ l. length (pairs_code (table_at st u) 0 l)) c.pair_lines.ensures.value,
      ap (λ l. length (quads_code u.quad l)) c.quad_lines.ensures.value,
      c.write_pairs-middle.ensures.place,
    )

pub returns-clause-bits : goal.returns-clause-bits
returns-clause-bits c =
    let st = c.args.settings.now in
    let u = c.args.unit.now in
    let pairs = pairs_code (table_at st u) 0 (pairs_of u) in
    let quads = quads_code u.quad (quads_of u) in
    let first = rw c.pair_lines.ensures.value at c.write_pairs-middle.ensures.bits in
    let place = rw c.pair_lines.ensures.value at c.write_pairs-middle.ensures.place in
    let second = rw c.quad_lines.ensures.value at c.write_quads.ensures.bits in
    let room : c.args.at + (length pairs + length quads) ≤ 8 * length c.args.out.now = omega (arith, c.requires.within, ap length (unit_bits-is st u), length-append pairs quads) in
    two_laid pairs quads c.args.at c.write_pairs-middle.result c.args.out.now c.write_pairs-middle.new.out c.write_quads.new.out room first place second
    ∙ ap (λ l. laid_over c.args.at l (bits_of c.args.out.now)) (sym (unit_bits-is st u))

pub returns-clause-place : goal.returns-clause-place
returns-clause-place c =
    let st = c.args.settings.now in
    let u = c.args.unit.now in
    let pairs = pairs_code (table_at st u) 0 (pairs_of u) in
    let quads = quads_code u.quad (quads_of u) in
    omega (
      arith,
      ap length (unit_bits-is st u),
      length-append pairs quads,
      ap (λ l. length (pairs_code (table_at st u) 0 l)) c.pair_lines.ensures.value,
      ap (λ l. length (quads_code u.quad l)) c.quad_lines.ensures.value,
      c.write_pairs-middle.ensures.place,
      c.write_quads.ensures.place,
    )
