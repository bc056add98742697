use Rattle.std.proofs.Common.{◌≡◌, ℕ, ◌+◌, ◌-◌, ◌*◌, ◌<◌, ◌≤◌, List, [], None, length, get_or, take, drop, ap, sym, ◌∙◌, arith}
use Rattle.l3_bits.specs.Bits.{bits_of, number_of}
use Rattle.l3_bits.proofs.Places.{length-digits}
use Rattle.l3_huff.specs.declared.quads.QuadTable.{QuadTable}
use Rattle.l3_huff.specs.Tables.{quad_codes}
use Rattle.l3_huff.specs.Reading.{entry_at}
use Rattle.l3_huff.specs.ReadingTables.{IsIndexOf}
use Rattle.l3_huff.specs.Words.{GoesOn, between, with_zeros}
use Rattle.l3_huff.proofs.QuadLaws.{quad_codes-free, quad_codes-size}
use Rattle.l3_huff.proofs.Betweens.{IsAhead, bits_from, found, goes_on, is_ahead, length-between, not_found}
use Rattle.l3_huff.proofs.reading.read_index.Goals as goal

module _ (table : QuadTable) (index ahead n : ℕ) (bytes : List ℕ) (at end : ℕ) (order : at ≤ end) (inside : end ≤ 8 * length bytes)
    (value : ahead ≡ number_of (take 6 (drop at (bits_of (with_zeros bytes))))) (is : IsIndexOf table ahead index)
    (size : n ≡ length (get_or (quad_codes table) index [])) where
  within : at ≤ 8 * length bytes
  within = omega arith

  index_ahead : IsAhead (quad_codes table) index 6 ahead (between bytes at end) (drop at (bits_of (with_zeros bytes))) (bits_from bytes at end within).0
  index_ahead = is_ahead (quad_codes table) index 6 ahead bytes at end (quad_codes-free table) (omega (arith, is.place, quad_codes-size table)) within (omega arith) value is.begins

  index_found : n ≤ end - at → GoesOn (entry_at (quad_codes table)) bytes at end index (at + n)
  index_found room =
      let whole : length (get_or (quad_codes table) index []) ≤ length (between bytes at end) = omega (arith, room, size, length-between bytes at end order inside) in
      goes_on (quad_codes table) index n bytes at end order room size
      (found (quad_codes table) index 6 ahead (between bytes at end) (drop at (bits_of (with_zeros bytes))) (bits_from bytes at end within).0 index_ahead whole)

  index_none : end - at < n → entry_at (quad_codes table) (between bytes at end) ≡ None
  index_none short =
      let cut : length (between bytes at end) < length (get_or (quad_codes table) index []) = omega (arith, short, size, length-between bytes at end order inside) in
      not_found (quad_codes table) index 6 ahead (between bytes at end) (drop at (bits_of (with_zeros bytes))) (bits_from bytes at end within).0 index_ahead cut

pub returns-then-length-end-clause-found : goal.returns-then-length-end-clause-found
returns-then-length-end-clause-found c =
    let size : c.from-length.result ≡ length (get_or (quad_codes c.args.table) c.index_ahead-index.result []) =
    c.from-length.ensures ∙ (sym (length-digits c.index_code.result.length c.index_code.result.value) ∙ ap length c.index_code.ensures.code) in
    index_found c.args.table c.index_ahead-index.result c.bits_ahead.result c.from-length.result c.args.bytes.now c.args.at c.args.end
    c.requires.order c.requires.within c.bits_ahead.ensures.value c.index_ahead-index.ensures size c.if-length-end.true

pub returns-else-length-end-clause-none : goal.returns-else-length-end-clause-none
returns-else-length-end-clause-none c =
    let size : c.from-length.result ≡ length (get_or (quad_codes c.args.table) c.index_ahead-index.result []) =
    c.from-length.ensures ∙ (sym (length-digits c.index_code.result.length c.index_code.result.value) ∙ ap length c.index_code.ensures.code) in
    index_none c.args.table c.index_ahead-index.result c.bits_ahead.result c.from-length.result c.args.bytes.now c.args.at c.args.end
    c.requires.order c.requires.within c.bits_ahead.ensures.value c.index_ahead-index.ensures size c.if-length-end.false
