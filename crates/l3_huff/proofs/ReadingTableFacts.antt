-- The bits ahead begin with the code that the reading tables tell.
use Rattle.std.proofs.Common.{◌≡◌, ℕ, zero, suc, ◌+◌, ◌-◌, ◌*◌, ◌/◌, ◌%◌, ◌^◌, ◌<◌, ◌≤◌, Bool, true, ◌&&◌, ◌||◌, eqb, ltb, List, [], ◌∷◌, length, get_or, take, drop, refl, sym, ap, arith, inl, inr, ◌∙◌, length-drop, get_or-drop, get_or-take}
use Rattle.std.proofs.lemmas.Bool.{agree_below, agree_below_at, and_parts, or_cases, eqb-true, ltb-true}
use Rattle.std.proofs.lemmas.List.{length-take-le}
use Rattle.l3_bits.specs.Bits.{digits}
use Rattle.l3_huff.specs.declared.reading_tables.TheConstants.{CELLS}
use Rattle.l3_huff.specs.declared.quads.QuadTable.TheVariants.{A, B}
use Rattle.l3_huff.specs.Tables.{IsTable, base_of, codes_of, first_at, lengths_of, quad_codes, quad_lengths, quad_values, table_code, values_of, width_at, width_of}
use Rattle.l3_huff.specs.Reading.{begins}
use Rattle.l3_huff.specs.ReadingTables.{IsCellOf, IsIndexOf, cell_at, first_cell_at, longest_at, longest_of, quad_index_at}
use Rattle.l3_huff.proofs.Entries.{begins_is}
use Rattle.l3_huff.proofs.Shapes.{codes_of-base, shape_of}

abbrev cell_test : List (List Bool) → ℕ → ℕ → ℕ → ℕ → Bool
cell_test codes width longest ahead cell =
    ltb (cell / 16) width && (ltb (cell % 16) width && begins (get_or codes (cell / 16 * width + cell % 16) []) (digits longest ahead))

abbrev cells_from : List (List Bool) → ℕ → ℕ → ℕ → List ℕ → Bool
cells_from codes width longest ahead [] = true
cells_from codes width longest ahead (cell ∷ cells) = cell_test codes width longest ahead cell && cells_from codes width longest (ahead + 1) cells

cells_at : (codes : List (List Bool)) (width longest ahead k : ℕ) (cells : List ℕ) → cells_from codes width longest ahead cells ≡ true → k < length cells → cell_test codes width longest (ahead + k) (get_or cells k 0) ≡ true
cells_at codes width longest ahead k [] h lt = absurd (omega arith)
cells_at codes width longest ahead zero (cell ∷ cells) h lt =
    let same : ahead ≡ ahead + 0 = omega arith in
    ap (λ w. cell_test codes width longest w cell) (sym same) ∙ (and_parts (cell_test codes width longest ahead cell) (cells_from codes width longest (ahead + 1) cells) h).0
cells_at codes width longest ahead (suc k) (cell ∷ cells) h lt =
    let same : ahead + 1 + k ≡ ahead + suc k = omega arith in
    ap (λ w. cell_test codes width longest w (get_or cells k 0)) (sym same)
    ∙ cells_at codes width longest (ahead + 1) k cells (and_parts (cell_test codes width longest ahead cell) (cells_from codes width longest (ahead + 1) cells) h).1 (omega arith)

abbrev cells_test : ℕ → Bool
cells_test base = eqb (width_at base) 0 || cells_from (codes_of base) (width_at base) (longest_at base) 0 (take (2 ^ longest_at base) (drop (first_cell_at base) CELLS))

cells_pass : agree_below cells_test (λ _. true) 25 ≡ true
unfolding codes_of lengths_of values_of width_at first_at longest_at first_cell_at
cells_pass = refl

base_below : (t : ℕ) → base_of t < 25
base_below t = omega arith

-- the code of the cell begins the bits ahead
pub cell_is : (table ahead : ℕ) → IsTable table → ahead < 2 ^ longest_of table → IsCellOf table ahead (cell_at (first_cell_at (base_of table) + ahead))
unfolding cell_at table_code
cell_is table ahead is lt =
    let shape = shape_of table is in
    let some = shape.some in
    let base = base_of table in
    let w = width_of table in
    let n = longest_of table in
    let placed : first_cell_at base + 2 ^ n ≤ 13321 = shape.cells in
    let cells = take (2 ^ n) (drop (first_cell_at base) CELLS) in
    let all : length CELLS ≡ 13321 = refl in
    let size : length cells ≡ 2 ^ n = length-take-le (2 ^ n) (drop (first_cell_at base) CELLS) (omega (arith, length-drop (first_cell_at base) CELLS, all)) in
    let cell : get_or cells ahead 0 ≡ get_or CELLS (first_cell_at base + ahead) 0 = rw (get_or-take, get_or-drop) refl in
    elim (or_cases (eqb (width_at base) 0) (cells_from (codes_of base) w n 0 cells) (agree_below_at cells_test (λ _. true) 25 base cells_pass (base_below table))) as (λ _. IsCellOf table ahead (get_or CELLS (first_cell_at base + ahead) 0)) [
      | inl none ↦ absurd (omega (arith, eqb-true (width_at base) 0 none))
      | inr pass ↦
          let here : cell_test (codes_of base) w n (0 + ahead) (get_or cells ahead 0) ≡ true = cells_at (codes_of base) w n 0 ahead cells pass (omega (arith, size)) in
          let plain : 0 + ahead ≡ ahead = omega arith in
          let c = get_or CELLS (first_cell_at base + ahead) 0 in
          let test : cell_test (codes_of table) w n ahead c ≡ true =
          ap (λ l. cell_test l w n ahead c) (sym (codes_of-base table)) ∙ (ap (λ k. cell_test (codes_of base) w n k c) (sym plain) ∙ (ap (cell_test (codes_of base) w n (0 + ahead)) (sym cell) ∙ here)) in
          let one = and_parts (ltb (c / 16) w) (ltb (c % 16) w && begins (get_or (codes_of table) (c / 16 * w + c % 16) []) (digits n ahead)) test in
          let two = and_parts (ltb (c % 16) w) (begins (get_or (codes_of table) (c / 16 * w + c % 16) []) (digits n ahead)) one.1 in
          record {
            row = ltb-true (c / 16) w one.0;
            column = ltb-true (c % 16) w two.0;
            begins = (drop (length (get_or (codes_of table) (c / 16 * w + c % 16) [])) (digits n ahead), begins_is (get_or (codes_of table) (c / 16 * w + c % 16) []) (digits n ahead) two.1);
          }
    ]

-- ---- quadruples

abbrev index_a_test : List (List Bool) → ℕ → Bool
index_a_test codes ahead = ltb (quad_index_at ahead) 16 && begins (get_or codes (quad_index_at ahead) []) (digits 6 ahead)

indexes_a_pass : agree_below (index_a_test (quad_codes A)) (λ _. true) 64 ≡ true
unfolding quad_codes quad_lengths quad_values quad_index_at
indexes_a_pass = refl

pub index_a_is : (ahead : ℕ) → ahead < 64 → IsIndexOf A ahead (quad_index_at ahead)
index_a_is ahead lt =
    let code = get_or (quad_codes A) (quad_index_at ahead) [] in
    let parts = and_parts (ltb (quad_index_at ahead) 16) (begins code (digits 6 ahead)) (agree_below_at (index_a_test (quad_codes A)) (λ _. true) 64 ahead indexes_a_pass lt) in
    record { place = ltb-true _ _ parts.0; begins = (drop (length code) (digits 6 ahead), begins_is code (digits 6 ahead) parts.1) }

abbrev index_b_test : List (List Bool) → ℕ → Bool
index_b_test codes ahead = ltb (15 - ahead / 4) 16 && begins (get_or codes (15 - ahead / 4) []) (digits 6 ahead)

indexes_b_pass : agree_below (index_b_test (quad_codes B)) (λ _. true) 64 ≡ true
unfolding quad_codes
indexes_b_pass = refl

pub index_b_is : (ahead : ℕ) → ahead < 64 → IsIndexOf B ahead (15 - ahead / 4)
index_b_is ahead lt =
    let code = get_or (quad_codes B) (15 - ahead / 4) [] in
    let parts = and_parts (ltb (15 - ahead / 4) 16) (begins code (digits 6 ahead)) (agree_below_at (index_b_test (quad_codes B)) (λ _. true) 64 ahead indexes_b_pass lt) in
    record { place = ltb-true _ _ parts.0; begins = (drop (length code) (digits 6 ahead), begins_is code (digits 6 ahead) parts.1) }
