use Rattle.std.proofs.Common.{◌≡◌, ℕ, ◌+◌, ◌-◌, ◌*◌, ◌/◌, ◌%◌, ◌<◌, ◌≤◌, List, [], None, length, get_or, take, drop, ap, sym, ◌∙◌, arith, subst}
use Rattle.std.proofs.lemmas.Nat.{mul-add-lt}
use Rattle.l3_bits.specs.Bits.{bits_of, number_of}
use Rattle.l3_huff.specs.Tables.{IsTable, base_of, codes_of, first_at, length_at, table_code, width_of}
use Rattle.l3_huff.specs.Reading.{entry_at}
use Rattle.l3_huff.specs.ReadingTables.{IsCellOf, longest_of}
use Rattle.l3_huff.specs.Words.{GoesOn, between, with_zeros}
use Rattle.l3_huff.proofs.Shapes.{coded_of, shape_of}
use Rattle.l3_huff.proofs.TableCodes.{length-table_code}
use Rattle.l3_huff.proofs.Betweens.{IsAhead, bits_from, found, goes_on, is_ahead, length-between, not_found}
use Rattle.l3_huff.proofs.reading.read_entry.Goals as goal

pub bits_ahead-requires-clause-width : goal.bits_ahead-requires-clause-width
bits_ahead-requires-clause-width c =
    let longest : c.from-width.result ≡ longest_of c.args.table = cc in
    omega (arith, longest, (shape_of c.args.table c.requires.table).short)

-- the code of the cell is ahead
entry_ahead : (table cell ahead : ℕ) (bytes : List ℕ) (at end : ℕ) → IsTable table → (within : at ≤ 8 * length bytes) →
    ahead ≡ number_of (take (longest_of table) (drop at (bits_of (with_zeros bytes)))) → IsCellOf table ahead cell →
    IsAhead (codes_of table) (cell / 16 * width_of table + cell % 16) (longest_of table) ahead (between bytes at end) (drop at (bits_of (with_zeros bytes))) (bits_from bytes at end within).0
unfolding table_code
entry_ahead table cell ahead bytes at end is within value cell_is =
    let coded = coded_of table is in
    let w = width_of table in
    let lt : cell / 16 * w + cell % 16 < w * w = mul-add-lt (cell / 16) w (cell % 16) w cell_is.row cell_is.column in
    let short : longest_of table ≤ 12 = (shape_of table is).short in
    is_ahead (codes_of table) (cell / 16 * w + cell % 16) (longest_of table) ahead bytes at end coded.free (omega (arith, lt, coded.size)) within (omega arith) value cell_is.begins

entry_length : (table row column : ℕ) → IsTable table → row < width_of table → column < width_of table →
    length_at (first_at (base_of table) + (row * width_of table + column)) ≡ length (get_or (codes_of table) (row * width_of table + column) [])
unfolding table_code
entry_length table row column is lr lc = sym (length-table_code table row column is lr lc)

module _ (table cell ahead row column n : ℕ) (bytes : List ℕ) (at end : ℕ) (is : IsTable table) (order : at ≤ end) (inside : end ≤ 8 * length bytes)
    (value : ahead ≡ number_of (take (longest_of table) (drop at (bits_of (with_zeros bytes))))) (cell_is : IsCellOf table ahead cell)
    (row-is : row ≡ cell / 16) (column-is : column ≡ cell % 16) (size : n ≡ length_at (first_at (base_of table) + (row * width_of table + column))) where
  within : at ≤ 8 * length bytes
  within = omega arith

  entry-is : row * width_of table + column ≡ cell / 16 * width_of table + cell % 16
  entry-is = ap (λ r. r * width_of table + column) row-is ∙ ap (λ k. cell / 16 * width_of table + k) column-is

  length-is : n ≡ length (get_or (codes_of table) (cell / 16 * width_of table + cell % 16) [])
  length-is = size ∙ (ap (λ i. length_at (first_at (base_of table) + i)) entry-is ∙ entry_length table (cell / 16) (cell % 16) is cell_is.row cell_is.column)

  entry_found : n ≤ end - at → GoesOn (entry_at (codes_of table)) bytes at end (row * width_of table + column) (at + n)
  entry_found room =
      let i = cell / 16 * width_of table + cell % 16 in
      let P : ℕ → Type 0 = λ k. GoesOn (entry_at (codes_of table)) bytes at end k (at + n) in
      let whole : length (get_or (codes_of table) i []) ≤ length (between bytes at end) = omega (arith, room, length-is, length-between bytes at end order inside) in
      subst P (sym entry-is) (goes_on (codes_of table) i n bytes at end order room length-is
      (found (codes_of table) i (longest_of table) ahead (between bytes at end) (drop at (bits_of (with_zeros bytes))) (bits_from bytes at end within).0
      (entry_ahead table cell ahead bytes at end is within value cell_is) whole))

  entry_none : end - at < n → entry_at (codes_of table) (between bytes at end) ≡ None
  entry_none short =
      let i = cell / 16 * width_of table + cell % 16 in
      let cut : length (between bytes at end) < length (get_or (codes_of table) i []) = omega (arith, short, length-is, length-between bytes at end order inside) in
      not_found (codes_of table) i (longest_of table) ahead (between bytes at end) (drop at (bits_of (with_zeros bytes))) (bits_from bytes at end within).0
      (entry_ahead table cell ahead bytes at end is within value cell_is) cut

pub returns-then-length-end-clause-found : goal.returns-then-length-end-clause-found
returns-then-length-end-clause-found c =
    let table = c.args.table in
    let bytes = c.args.bytes.now in
    let longest : c.from-width.result ≡ longest_of table = cc in
    let value = c.bits_ahead.ensures.value ∙ ap (λ n. number_of (take n (drop c.args.at (bits_of (with_zeros bytes))))) longest in
    let size : c.from-length.result ≡ length_at (first_at (base_of table) + (c.from-row.result * width_of table + c.from-column.result)) = cc in
    entry_found table c.cell_ahead-cell.result c.bits_ahead.result c.from-row.result c.from-column.result c.from-length.result bytes c.args.at c.args.end
    c.requires.table c.requires.order c.requires.within value c.cell_ahead-cell.ensures c.from-row.ensures c.from-column.ensures size c.if-length-end.true

pub returns-else-length-end-clause-none : goal.returns-else-length-end-clause-none
returns-else-length-end-clause-none c =
    let table = c.args.table in
    let bytes = c.args.bytes.now in
    let longest : c.from-width.result ≡ longest_of table = cc in
    let value = c.bits_ahead.ensures.value ∙ ap (λ n. number_of (take n (drop c.args.at (bits_of (with_zeros bytes))))) longest in
    let size : c.from-length.result ≡ length_at (first_at (base_of table) + (c.from-row.result * width_of table + c.from-column.result)) = cc in
    entry_none table c.cell_ahead-cell.result c.bits_ahead.result c.from-row.result c.from-column.result c.from-length.result bytes c.args.at c.args.end
    c.requires.table c.requires.order c.requires.within value c.cell_ahead-cell.ensures c.from-row.ensures c.from-column.ensures size c.if-length-end.false
