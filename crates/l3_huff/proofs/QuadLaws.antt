-- Quadruples, written and read.
use Rattle.std.proofs.Common.{◌≡◌, ℕ, ◌+◌, ◌*◌, ◌/◌, ◌%◌, ◌<◌, ◌≤◌, Bool, true, List, [], ◌∷◌, ◌++◌, length, get_or, Some, refl, sym, ap, subst, ◌∙◌, arith, append_assoc}
use Rattle.std.specs.Prelude.{ℤ, map, unsigned_abs}
use Rattle.std.specs.List.{flat_map}
use Rattle.std.proofs.lemmas.Option.{same_Some}
use Rattle.std.proofs.lemmas.List.Elements.{All-nil, All-cons, All-head, All-tail}
use Rattle.l3_huff.specs.declared.quads.QuadTable.{QuadTable}
use Rattle.l3_huff.specs.declared.quads.QuadTable.TheVariants.{A, B}
use Rattle.l3_huff.specs.Tables.{quad_codes, quad_lengths, quad_values}
use Rattle.l3_huff.specs.Codes.{IsQuad, quad_code_of, quad_index, sign_code}
use Rattle.l3_huff.specs.Reading.{entry_at, index_values, quad_at, sign_at, signs_at, ◌>>=◌}
use Rattle.l3_huff.proofs.Entries.{all_apart, entry_takes, entry_again}
use Rattle.l3_huff.proofs.Tails.{sign_takes, sign_own}
use Rattle.l3_huff.proofs.PairLaws.{bound}

pub quad_codes-size : (table : QuadTable) → length (quad_codes table) ≡ 16
unfolding quad_codes quad_lengths quad_values
quad_codes-size A = refl
quad_codes-size B = refl

pub quad_codes-free : (table : QuadTable) → all_apart (quad_codes table) ≡ true
unfolding quad_codes quad_lengths quad_values
quad_codes-free A = refl
quad_codes-free B = refl

-- ---- signs in a row

abbrev AreSigned : List ℕ → List Bool → List ℤ × List Bool → Type 0
AreSigned values bits xs = (map unsigned_abs xs.0 ≡ values) × (bits ≡ flat_map sign_code xs.0 ++ xs.1)

signs_take : (values : List ℕ) (bits : List Bool) (xs : List ℤ × List Bool) → signs_at values bits ≡ Some xs → AreSigned values bits xs
unfolding signs_at
signs_take [] bits xs e = subst (AreSigned [] bits) (same_Some ([], bits) xs e) (refl, refl)
signs_take (value ∷ values) bits xs e =
    let a = bound (sign_at value bits) (λ x. signs_at values x.1 >>= λ others. Some (x.0 ∷ others.0, others.1)) xs e in
    let b = bound (signs_at values a.0.1) (λ others. Some (a.0.0 ∷ others.0, others.1)) xs a.2 in
    let one = sign_takes value bits a.0 a.1 in
    let others = signs_take values a.0.1 b.0 b.1 in
    let made : List ℤ × List Bool = (a.0.0 ∷ b.0.0, b.0.1) in
    subst (AreSigned (value ∷ values) bits) (same_Some made xs b.2) (
      ap (λ v. v ∷ map unsigned_abs b.0.0) one.0 ∙ ap (λ vs. value ∷ vs) others.0,
      one.1 ∙ (ap (λ l. sign_code a.0.0 ++ l) others.1 ∙ sym (append_assoc (sign_code a.0.0) (flat_map sign_code b.0.0) b.0.1)),
    )

signs_again : (xs : List ℤ) (rest : List Bool) → signs_at (map unsigned_abs xs) (flat_map sign_code xs ++ rest) ≡ Some (xs, rest)
unfolding signs_at
signs_again [] rest = refl
signs_again (x ∷ xs) rest =
    ap (signs_at (unsigned_abs x ∷ map unsigned_abs xs)) (append_assoc (sign_code x) (flat_map sign_code xs) rest)
    ∙ rw (sign_own x (flat_map sign_code xs ++ rest), signs_again xs rest) refl

-- ---- the index

-- values of a quadruple whose absolute values are those of an index
pub indexed : (xs : List ℤ) (i : ℕ) → i < 16 → map unsigned_abs xs ≡ index_values i → IsQuad xs × (quad_index xs ≡ i)
unfolding quad_index
indexed [] i lt is = absurd cc
indexed (v ∷ []) i lt is = absurd cc
indexed (v ∷ w ∷ []) i lt is = absurd cc
indexed (v ∷ w ∷ x ∷ []) i lt is = absurd cc
indexed (v ∷ w ∷ x ∷ y ∷ z ∷ rest) i lt is = absurd cc
indexed (v ∷ w ∷ x ∷ y ∷ []) i lt is =
    let P : ℤ → Type 0 = λ x. unsigned_abs x ≤ 1 in
    let a : unsigned_abs v ≡ i / 8 = cc in
    let b : unsigned_abs w ≡ i / 4 % 2 = cc in
    let c : unsigned_abs x ≡ i / 2 % 2 = cc in
    let d : unsigned_abs y ≡ i % 2 = cc in
    ((refl, All-cons P v (w ∷ x ∷ y ∷ []) (omega arith) (All-cons P w (x ∷ y ∷ []) (omega arith) (All-cons P x (y ∷ []) (omega arith) (All-cons P y [] (omega arith) (All-nil P))))), omega arith)

record HasIndex (xs : List ℤ) : Type 0 where
  below : quad_index xs < 16
  values : map unsigned_abs xs ≡ index_values (quad_index xs)

four : (a b c d i : ℕ) → a ≤ 1 → b ≤ 1 → c ≤ 1 → d ≤ 1 → i ≡ 8 * a + 4 * b + 2 * c + d → (i < 16) × (a ∷ b ∷ c ∷ d ∷ [] ≡ index_values i)
four a b c d i la lb lc ld is =
    let e : a ≡ i / 8 = omega arith in
    let f : b ≡ i / 4 % 2 = omega arith in
    let g : c ≡ i / 2 % 2 = omega arith in
    let h : d ≡ i % 2 = omega arith in
    (omega arith, cc)

has_index : (xs : List ℤ) → IsQuad xs → HasIndex xs
unfolding quad_index
has_index [] is = absurd (omega (arith, is.0))
has_index (v ∷ []) is = absurd (omega (arith, is.0))
has_index (v ∷ w ∷ []) is = absurd (omega (arith, is.0))
has_index (v ∷ w ∷ x ∷ []) is = absurd (omega (arith, is.0))
has_index (v ∷ w ∷ x ∷ y ∷ z ∷ rest) is = absurd (omega (arith, is.0))
has_index (v ∷ w ∷ x ∷ y ∷ []) is =
    let P : ℤ → Type 0 = λ x. unsigned_abs x ≤ 1 in
    let t1 = All-tail P v (w ∷ x ∷ y ∷ []) is.1 in
    let t2 = All-tail P w (x ∷ y ∷ []) t1 in
    let t3 = All-tail P x (y ∷ []) t2 in
    let parts = four (unsigned_abs v) (unsigned_abs w) (unsigned_abs x) (unsigned_abs y) (quad_index (v ∷ w ∷ x ∷ y ∷ []))
    (All-head P v (w ∷ x ∷ y ∷ []) is.1) (All-head P w (x ∷ y ∷ []) t1) (All-head P x (y ∷ []) t2) (All-head P y [] t3) refl in
    record { below = parts.0; values = parts.1 }

-- ---- reading

abbrev pub IsQuadAt : QuadTable → List Bool → List ℤ × List Bool → Type 0
IsQuadAt table bits x = IsQuad x.0 × (bits ≡ quad_code_of table x.0 ++ x.1)

pub quad_takes : (table : QuadTable) (bits : List Bool) (x : List ℤ × List Bool) → quad_at table bits ≡ Some x → IsQuadAt table bits x
unfolding quad_at quad_code_of
quad_takes table bits x e =
    let codes = quad_codes table in
    let a = bound (entry_at codes bits) (λ e. signs_at (index_values e.0) e.1) x e in
    let entry = entry_takes codes bits a.0 a.1 in
    let within : a.0.0 < 16 = omega (arith, entry.within, quad_codes-size table) in
    let signs = signs_take (index_values a.0.0) a.0.1 x a.2 in
    let is = indexed x.0 a.0.0 within signs.0 in (
      is.0,
      entry.text ∙ (ap (λ i. get_or codes i [] ++ a.0.1) (sym is.1) ∙ (ap (λ l. get_or codes (quad_index x.0) [] ++ l) signs.1
          ∙ sym (append_assoc (get_or codes (quad_index x.0) []) (flat_map sign_code x.0) x.1))),
    )

pub quad_again : (table : QuadTable) (quad : List ℤ) (rest : List Bool) → IsQuad quad → quad_at table (quad_code_of table quad ++ rest) ≡ Some (quad, rest)
unfolding quad_at quad_code_of
quad_again table quad rest is =
    let codes = quad_codes table in
    let index = has_index quad is in
    let i = quad_index quad in
    let below = index.below in
    let code = get_or codes i [] in
    ap (quad_at table) (append_assoc code (flat_map sign_code quad) rest)
    ∙ rw (entry_again codes i (flat_map sign_code quad ++ rest) (quad_codes-free table) (omega (arith, quad_codes-size table)), ← index.values) (signs_again quad rest)

pub one_quad_code : (table : QuadTable) (quad quad' : List ℤ) (a b : List Bool) → IsQuad quad → IsQuad quad' →
    quad_code_of table quad ++ a ≡ quad_code_of table quad' ++ b → (quad ≡ quad') × (a ≡ b)
one_quad_code table quad quad' a b is is' same =
    let one : List ℤ × List Bool = (quad, a) in
    let other : List ℤ × List Bool = (quad', b) in
    let equal : one ≡ other = same_Some one other (sym (quad_again table quad a is) ∙ (ap (quad_at table) same ∙ quad_again table quad' b is')) in
    (ap (λ p. p.0) equal, ap (λ p. p.1) equal)
