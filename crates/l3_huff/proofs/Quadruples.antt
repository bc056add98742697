-- The four values of a quadruple, as the code has them.
use Rattle.std.proofs.Common.{◌≡◌, ℕ, ◌+◌, ◌-◌, ◌*◌, ◌^◌, ◌<◌, ◌≤◌, Bool, true, ◌&&◌, ltb, leb, List, [], ◌∷◌, ◌++◌, length, get_or, refl, sym, ap, ◌∙◌, arith, length-append}
use Rattle.std.specs.Prelude.{ℤ, pos, min, unsigned_abs}
use Rattle.std.specs.List.{flat_map}
use Rattle.std.proofs.lemmas.Bool.{agree_below, agree_below_at, and_parts, ltb-true, leb-true}
use Rattle.std.proofs.lemmas.List.{append-nil}
use Rattle.std.proofs.lemmas.List.FromFn.{get_or-map-range_with_len}
use Rattle.l3_bits.specs.Bits.{digits}
use Rattle.l3_huff.specs.declared.quad_tables.TheConstants.{QUAD_LENGTHS, QUAD_VALUES}
use Rattle.l3_huff.specs.declared.quads.QuadTable.{QuadTable}
use Rattle.l3_huff.specs.declared.quads.QuadTable.TheVariants.{A, B}
use Rattle.l3_huff.specs.Tables.{quad_codes, quad_lengths, quad_values}
use Rattle.l3_huff.specs.Codes.{quad_code_of, quad_index, sign_code}
use Rattle.l3_huff.specs.Tables.{quad_length_at, quad_value_at}
use Rattle.l3_huff.proofs.TableCodes.{codes_from-at}
use Rattle.l3_huff.proofs.Tails.{length-sign_code}

abbrev pub first : List ℤ → ℤ
first quad = get_or quad 0 (pos 0)

abbrev pub second : List ℤ → ℤ
second quad = get_or quad 1 (pos 0)

abbrev pub third : List ℤ → ℤ
third quad = get_or quad 2 (pos 0)

abbrev pub fourth : List ℤ → ℤ
fourth quad = get_or quad 3 (pos 0)

pub four_values : (quad : List ℤ) → length quad ≡ 4 → quad ≡ first quad ∷ second quad ∷ third quad ∷ fourth quad ∷ []
four_values [] is = absurd (omega (arith, is))
four_values (v ∷ []) is = absurd (omega (arith, is))
four_values (v ∷ w ∷ []) is = absurd (omega (arith, is))
four_values (v ∷ w ∷ x ∷ []) is = absurd (omega (arith, is))
four_values (v ∷ w ∷ x ∷ y ∷ []) is = refl
four_values (v ∷ w ∷ x ∷ y ∷ z ∷ rest) is = absurd (omega (arith, is))

pub quad_index-four : (quad : List ℤ) → length quad ≡ 4 →
    quad_index quad ≡ 8 * unsigned_abs (first quad) + 4 * unsigned_abs (second quad) + 2 * unsigned_abs (third quad) + unsigned_abs (fourth quad)
unfolding quad_index
quad_index-four quad is = ap quad_index (four_values quad is)

-- the signs in order, after a front
pub quad_code_of-four : (table : QuadTable) (quad : List ℤ) → length quad ≡ 4 →
    quad_code_of table quad ≡ get_or (quad_codes table) (quad_index quad) [] ++ (sign_code (first quad) ++ (sign_code (second quad) ++ (sign_code (third quad) ++ sign_code (fourth quad))))
unfolding quad_code_of
quad_code_of-four table quad is =
    let front = get_or (quad_codes table) (quad_index quad) [] in
    ap (λ q. front ++ flat_map sign_code q) (four_values quad is)
    ∙ ap (λ l. front ++ (sign_code (first quad) ++ (sign_code (second quad) ++ (sign_code (third quad) ++ l)))) (append-nil (sign_code (fourth quad)))

pub length-quad_code_of : (table : QuadTable) (quad : List ℤ) → length quad ≡ 4 →
    length (quad_code_of table quad) ≡ length (get_or (quad_codes table) (quad_index quad) []) + (min (unsigned_abs (first quad)) 1 + (min (unsigned_abs (second quad)) 1 + (min (unsigned_abs (third quad)) 1 + min (unsigned_abs (fourth quad)) 1)))
length-quad_code_of table quad is =
    let a = sign_code (first quad) in
    let b = sign_code (second quad) in
    let c = sign_code (third quad) in
    let d = sign_code (fourth quad) in
    ap length (quad_code_of-four table quad is)
    ∙ omega (
      arith,
      length-append (get_or (quad_codes table) (quad_index quad) []) (a ++ (b ++ (c ++ d))),
      length-append a (b ++ (c ++ d)),
      length-append b (c ++ d),
      length-append c d,
      length-sign_code (first quad),
      length-sign_code (second quad),
      length-sign_code (third quad),
      length-sign_code (fourth quad),
    )

-- ---- the code of an index

pub code_in_a : (i : ℕ) → i < 16 → digits (quad_length_at i) (quad_value_at i) ≡ get_or (quad_codes A) i []
unfolding quad_codes quad_lengths quad_values quad_length_at quad_value_at
code_in_a i lt =
    let lengths : length QUAD_LENGTHS ≡ 16 = refl in
    let values : length QUAD_VALUES ≡ 16 = refl in
    sym (codes_from-at QUAD_LENGTHS QUAD_VALUES i (omega (arith, lengths)) (omega (arith, values)))

pub code_in_b : (i : ℕ) → i < 16 → digits 4 (15 - i) ≡ get_or (quad_codes B) i []
unfolding quad_codes
code_in_b i lt = sym (get_or-map-range_with_len (λ index. digits 4 (15 - index)) 0 16 i i [] lt (omega arith))

index_test : ℕ → Bool
index_test i = leb (quad_length_at i) 6 && ltb (quad_value_at i) (2 ^ quad_length_at i)

indexes_pass : agree_below index_test (λ _. true) 16 ≡ true
unfolding index_test quad_length_at quad_value_at
indexes_pass = refl

pub record IsIndexCode (i : ℕ) : Type 0 where
  pub short : quad_length_at i ≤ 6
  pub small : quad_value_at i < 2 ^ quad_length_at i

pub index_code_at : (i : ℕ) → i < 16 → IsIndexCode i
unfolding index_test
index_code_at i lt =
    let parts = and_parts (leb (quad_length_at i) 6) (ltb (quad_value_at i) (2 ^ quad_length_at i)) (agree_below_at index_test (λ _. true) 16 i indexes_pass lt) in
    record { short = leb-true _ _ parts.0; small = ltb-true _ _ parts.1 }
