-- A unit, one channel of one granule: its codes, and when it is coded (ISO/IEC 11172-3, 2.4, the
-- main data).
use Rattle.std.specs.Prelude.{◌≡◌, ℕ, ◌+◌, ◌-◌, ◌*◌, ◌≤◌, ◌<◌, ◌^◌, Bool, List, [], ◌∷◌, ◌++◌, length, replicate, take, drop, ℤ, pos, nat_lt, if◌then◌else◌, slice_index, get_or, ⊤}
use Rattle.l3_base.specs.declared.settings.Settings.{Settings}
use Rattle.l3_base.specs.Rates.{hertz_index_of}
use Rattle.l3_base.specs.Bands.{edge_at}
use Rattle.l3_huff.specs.declared.quads.QuadTable.{QuadTable}
use Rattle.l3_huff.specs.Tables.{IsTable}
use Rattle.l3_huff.specs.Codes.{IsQuad, pair_code_of, quad_code_of}
use Rattle.l3_huff.specs.Laws.{HoldsPair}
use Rattle.l3_stream.specs.declared.unit.Unit.{Unit}

-- the first line of a scale factor band at the settings' sampling frequency
unfoldable pub edge : Settings → ℕ → ℕ
edge st band = edge_at (hertz_index_of st.sample_rate) band

-- the region of a line, where the second and the third region begin at these lines
abbrev pub region_by : (second third line : ℕ) → ℕ
region_by second third line = if nat_lt line second then 0 else if nat_lt line third then 1 else 2

-- the region of a line: 0 below edge region0 + 1, 1 from there to below edge region0 + region1 + 2,
-- 2 from there on
abbrev pub region_at : Settings → Unit → ℕ → ℕ
region_at st u line = region_by (edge st (u.region0 + 1)) (edge st (u.region0 + u.region1 + 2)) line

-- table_select of the pair that begins at a line
unfoldable pub table_at : Settings → Unit → ℕ → ℕ
table_at st u line = slice_index u.tables (region_at st u line)

-- the tables of lines: table_select of the three regions, and the lines at which the second and the
-- third begin
pub record LineTables : Type 0 where
  pub tables : List ℕ
  pub second : ℕ
  pub third : ℕ

-- the table of the pair that begins at a line
unfoldable pub table_by : LineTables → ℕ → ℕ
table_by t line = slice_index t.tables (region_by t.second t.third line)

-- the line at a place
abbrev pub line_at : List ℤ → ℕ → ℤ
line_at lines at = get_or lines at (pos 0)

-- two lines, and four, from a place on
abbrev pub two_from : List ℤ → ℕ → List ℤ
two_from lines at = line_at lines at ∷ line_at lines (at + 1) ∷ []

abbrev pub four_from : List ℤ → ℕ → List ℤ
four_from lines at = line_at lines at ∷ line_at lines (at + 1) ∷ line_at lines (at + 2) ∷ line_at lines (at + 3) ∷ []

-- ---- the codes of lines, `table` giving the table of the pair that begins at a line

-- the codes of the pairs of these lines, the first of which is line `at`
unfoldable pub pairs_code : (ℕ → ℕ) → ℕ → List ℤ → List Bool
pairs_code table at [] = []
pairs_code table at (x ∷ []) = []
pairs_code table at (x ∷ y ∷ lines) = pair_code_of (table at) x y ++ pairs_code table (at + 2) lines

-- they are pairs, and each is held by its table
unfoldable pub PairsHold : (ℕ → ℕ) → ℕ → List ℤ → Type 0
PairsHold table at [] = ⊤
PairsHold table at (x ∷ []) = ⊥
PairsHold table at (x ∷ y ∷ lines) = HoldsPair (table at) x y × PairsHold table (at + 2) lines

-- the codes of the quadruples of these lines
unfoldable pub quads_code : QuadTable → List ℤ → List Bool
quads_code table (v ∷ w ∷ x ∷ y ∷ lines) = quad_code_of table (v ∷ w ∷ x ∷ y ∷ []) ++ quads_code table lines
quads_code table _ = []

-- they are quadruples, and each value is -1, 0 or 1
unfoldable pub QuadsHold : List ℤ → Type 0
QuadsHold [] = ⊤
QuadsHold (v ∷ w ∷ x ∷ y ∷ lines) = IsQuad (v ∷ w ∷ x ∷ y ∷ []) × QuadsHold lines
QuadsHold _ = ⊥

-- ---- the unit

-- the first lines, which are coded as big_values pairs
unfoldable pub pairs_of : Unit → List ℤ
pairs_of u = take (2 * u.big) u.lines

-- the lines behind them, which are coded as quadruples
unfoldable pub quads_of : Unit → List ℤ
quads_of u = take (4 * u.quads) (drop (2 * u.big) u.lines)

-- lines of value 0
unfoldable pub zero_lines : ℕ → List ℤ
zero_lines n = replicate n (pos 0)

-- the code bits of a unit: pairs, then quadruples
unfoldable pub unit_bits : Settings → Unit → List Bool
unit_bits st u = pairs_code (table_at st u) 0 (pairs_of u) ++ quads_code u.quad (quads_of u)

-- the sum of part2_3_length of units
abbrev pub lengths : List Unit → ℕ
lengths [] = 0
lengths (u ∷ us) = u.length + lengths us

-- what the side information can say of a unit
pub record HasFields (u : Unit) : Type 0 where
  pub size : u.length < 2 ^ 12
  pub big : u.big ≤ 288
  pub gain : u.gain < 2 ^ 8
  pub region0 : u.region0 < 2 ^ 4
  pub region1 : u.region1 < 2 ^ 3
  pub regions : u.region0 + u.region1 + 2 ≤ 22
  pub three : length u.tables ≡ 3
  pub table0 : IsTable (slice_index u.tables 0)
  pub table1 : IsTable (slice_index u.tables 1)
  pub table2 : IsTable (slice_index u.tables 2)

-- a coded unit: pairs and quadruples are within the 576 lines, past them all is 0, their tables
-- hold them, and part2_3_length counts their bits
pub record IsCodedUnit (st : Settings) (u : Unit) : Type 0 where
  pub fields : HasFields u
  pub lines : length u.lines ≡ 576
  pub places : 2 * u.big + 4 * u.quads ≤ 576
  pub past : drop (2 * u.big + 4 * u.quads) u.lines ≡ zero_lines (576 - (2 * u.big + 4 * u.quads))
  pub pairs : PairsHold (table_at st u) 0 (pairs_of u)
  pub quads : QuadsHold (quads_of u)
  pub bits : u.length ≡ length (unit_bits st u)
