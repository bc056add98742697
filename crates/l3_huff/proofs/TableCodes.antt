-- The entry that is the code of a row and a column.
use Rattle.std.proofs.Common.{◌≡◌, ℕ, zero, suc, ◌+◌, ◌-◌, ◌*◌, ◌^◌, ◌<◌, ◌≤◌, Bool, true, ◌&&◌, not, eqb, ltb, leb, List, [], ◌∷◌, length, get_or, take, drop, refl, ap, arith, ◌∙◌, length-drop, get_or-drop, get_or-take}
use Rattle.std.proofs.lemmas.Bool.{agree_below, agree_below_at, and_parts, ltb-true, leb-true}
use Rattle.std.proofs.lemmas.List.{length-take-le}
use Rattle.std.proofs.lemmas.Nat.{mul-add-lt}
use Rattle.l3_bits.specs.Bits.{digits}
use Rattle.l3_bits.proofs.Places.{length-digits}
use Rattle.l3_huff.specs.declared.pair_tables.TheConstants.{LENGTHS, VALUES}
use Rattle.l3_huff.specs.Tables.{IsTable, is_table, width_at, first_at, length_at, value_at, base_of, width_of, lengths_of, values_of, codes_from, codes_of, table_code}
use Rattle.l3_huff.proofs.Shapes.{shape_of}

-- which tables there are, as the code tests it
tables_agree : agree_below is_table (λ t. not (eqb (width_of t) 0)) 32 ≡ true
unfolding is_table width_at
tables_agree = refl

pub is_table-width : (t : ℕ) → t < 32 → is_table t ≡ not (eqb (width_of t) 0)
is_table-width t lt = agree_below_at is_table (λ t. not (eqb (width_of t) 0)) 32 t tables_agree lt

-- the place of a row and a column among all entries
pub place_lt : (table row column : ℕ) → IsTable table → row < width_of table → column < width_of table → first_at (base_of table) + (row * width_of table + column) < 611
place_lt table row column is lr lc =
    let placed = (shape_of table is).placed in
    omega (arith, placed, mul-add-lt row (width_of table) column (width_of table) lr lc)

-- the entries are codes of at most 12 bits
entry_test : ℕ → Bool
entry_test place = leb (length_at place) 12 && ltb (value_at place) (2 ^ length_at place)

entries_pass : agree_below entry_test (λ _. true) 611 ≡ true
unfolding entry_test length_at value_at
entries_pass = refl

pub record IsEntryCode (place : ℕ) : Type 0 where
  pub short : length_at place ≤ 12
  pub small : value_at place < 2 ^ length_at place

pub entry_code_at : (place : ℕ) → place < 611 → IsEntryCode place
unfolding entry_test
entry_code_at place lt =
    let parts = and_parts (leb (length_at place) 12) (ltb (value_at place) (2 ^ length_at place)) (agree_below_at entry_test (λ _. true) 611 place entries_pass lt) in
    record { short = leb-true _ _ parts.0; small = ltb-true _ _ parts.1 }

pub codes_from-at : (lengths values : List ℕ) (k : ℕ) → k < length lengths → k < length values → get_or (codes_from lengths values) k [] ≡ digits (get_or lengths k 0) (get_or values k 0)
codes_from-at [] values k ll lv = absurd (omega arith)
codes_from-at (l ∷ lengths) [] k ll lv = absurd (omega arith)
codes_from-at (l ∷ lengths) (v ∷ values) zero ll lv = refl
codes_from-at (l ∷ lengths) (v ∷ values) (suc k) ll lv = codes_from-at lengths values k (omega arith) (omega arith)

part-at : (xs : List ℕ) (a n k : ℕ) → k < n → get_or (take (a + n - a) (drop a xs)) k 0 ≡ get_or xs (a + k) 0
part-at xs a n k lt =
    let e : a + n - a ≡ n = omega arith in
    rw (e, get_or-take, get_or-drop)

part-length : (xs : List ℕ) (a n : ℕ) → a + n ≤ length xs → length (take (a + n - a) (drop a xs)) ≡ n
part-length xs a n le =
    let e : a + n - a ≡ n = omega arith in
    ap (λ m. length (take m (drop a xs))) e ∙ length-take-le n (drop a xs) (omega (arith, length-drop a xs))

-- the code of a row and a column, by its place
pub table_code-at : (table row column : ℕ) → IsTable table → row < width_of table → column < width_of table →
    table_code table row column ≡ digits (length_at (first_at (base_of table) + (row * width_of table + column))) (value_at (first_at (base_of table) + (row * width_of table + column)))
unfolding table_code codes_of lengths_of values_of length_at value_at
table_code-at table row column is lr lc =
    let a = first_at (base_of table) in
    let w = width_of table in
    let k = row * w + column in
    let placed : a + w * w ≤ 611 = (shape_of table is).placed in
    let lt : k < w * w = mul-add-lt row w column w lr lc in
    let lengths_size : length LENGTHS ≡ 611 = refl in
    let values_size : length VALUES ≡ 611 = refl in
    let ls = part-length LENGTHS a (w * w) (omega (arith, lengths_size)) in
    let vs = part-length VALUES a (w * w) (omega (arith, values_size)) in
    codes_from-at (take (a + w * w - a) (drop a LENGTHS)) (take (a + w * w - a) (drop a VALUES)) k (omega (arith, ls)) (omega (arith, vs))
    ∙ (ap (λ l. digits l (get_or (take (a + w * w - a) (drop a VALUES)) k 0)) (part-at LENGTHS a (w * w) k lt)
    ∙ ap (digits (get_or LENGTHS (a + k) 0)) (part-at VALUES a (w * w) k lt))

-- and its length
pub length-table_code : (table row column : ℕ) → IsTable table → row < width_of table → column < width_of table →
    length (table_code table row column) ≡ length_at (first_at (base_of table) + (row * width_of table + column))
length-table_code table row column is lr lc =
    let place = first_at (base_of table) + (row * width_of table + column) in
    ap length (table_code-at table row column is lr lc) ∙ length-digits (length_at place) (value_at place)
