-- Pairs, written and read.
use Rattle.std.proofs.Common.{◌≡◌, ℕ, ◌+◌, ◌*◌, ◌/◌, ◌%◌, ◌<◌, Bool, List, [], ◌++◌, get_or, Option, Some, None, refl, sym, ap, subst, ◌∙◌, arith, inl, inr, append_assoc}
use Rattle.std.specs.Prelude.{ℤ, min, unsigned_abs}
use Rattle.std.proofs.lemmas.Bool.{cases_lt}
use Rattle.std.proofs.lemmas.Option.{same_Some}
use Rattle.std.proofs.lemmas.Nat.{mul-add-lt, div-mul-add, mod-mul-add, div-add-mod'}
use Rattle.std.proofs.Math.Nat.{mod-lt, mul-le-mul_right}
use Rattle.l3_huff.specs.Tables.{IsTable, codes_of, table_code, width_of}
use Rattle.l3_huff.specs.Codes.{pair_code_of, tail_code}
use Rattle.l3_huff.specs.Reading.{entry_at, pair_at, tail_at, ◌>>=◌}
use Rattle.l3_huff.specs.Laws.{HoldsPair}
use Rattle.l3_huff.proofs.Entries.{entry_takes, entry_again}
use Rattle.l3_huff.proofs.Shapes.{shape_of, coded_of}
use Rattle.l3_huff.proofs.Tails.{row-lt, tail_takes, tail_again}

pub bound : {A B : Type 0} (o : Option A) (f : A → Option B) (y : B) → (o >>= f) ≡ Some y → (x : A) × (o ≡ Some x) × (f x ≡ Some y)
bound None f y e = absurd cc
bound (Some x) f y e = (x, refl, e)

regroup : (a b c rest : List Bool) → (a ++ (b ++ c)) ++ rest ≡ a ++ (b ++ (c ++ rest))
regroup a b c rest = simp append_assoc

row_lt : (i w : ℕ) → 0 < w → i < w * w → i / w < w
row_lt i w some lt = elim (cases_lt (i / w) w) as (λ _. i / w < w) [
  | inl less ↦ less
  | inr le ↦ absurd (omega (arith, div-add-mod' i w, mul-le-mul_right w le))
]

abbrev pub IsPair : ℕ → List Bool → (ℤ × ℤ) × List Bool → Type 0
IsPair table bits x = HoldsPair table x.0.0 x.0.1 × (bits ≡ pair_code_of table x.0.0 x.0.1 ++ x.1)

pub pair_takes : (table : ℕ) (bits : List Bool) (x : (ℤ × ℤ) × List Bool) → IsTable table → pair_at table bits ≡ Some x → IsPair table bits x
unfolding pair_at pair_code_of table_code
pair_takes table bits x is e =
    let shape = shape_of table is in
    let coded = coded_of table is in
    let w = width_of table in
    let a = bound (entry_at (codes_of table) bits) (λ e. tail_at table (e.0 / w) e.1 >>= λ x. tail_at table (e.0 % w) x.1 >>= λ y. Some ((x.0, y.0), y.1)) x e in
    let b = bound (tail_at table (a.0.0 / w) a.0.1) (λ x. tail_at table (a.0.0 % w) x.1 >>= λ y. Some ((x.0, y.0), y.1)) x a.2 in
    let c = bound (tail_at table (a.0.0 % w) b.0.1) (λ y. Some ((b.0.0, y.0), y.1)) x b.2 in
    let entry = entry_takes (codes_of table) bits a.0 a.1 in
    let within : a.0.0 < w * w = omega (arith, entry.within, coded.size) in
    let row : a.0.0 / w < w = row_lt a.0.0 w shape.some within in
    let first = tail_takes table (a.0.0 / w) a.0.1 b.0 is row b.1 in
    let second = tail_takes table (a.0.0 % w) b.0.1 c.0 is (mod-lt a.0.0 shape.some) c.1 in
    let made : (ℤ × ℤ) × List Bool = ((b.0.0, c.0.0), c.0.1) in
    let place : a.0.0 ≡ min (unsigned_abs b.0.0) 15 * w + min (unsigned_abs c.0.0) 15 =
    sym (div-add-mod' a.0.0 w) ∙ (ap (λ r. r * w + a.0.0 % w) (sym first.is) ∙ ap (λ k. min (unsigned_abs b.0.0) 15 * w + k) (sym second.is)) in
    let code = get_or (codes_of table) (min (unsigned_abs b.0.0) 15 * w + min (unsigned_abs c.0.0) 15) [] in
    let text : bits ≡ (code ++ (tail_code table b.0.0 ++ tail_code table c.0.0)) ++ c.0.1 =
    entry.text ∙ (ap (λ i. get_or (codes_of table) i [] ++ a.0.1) place
    ∙ (ap (λ l. code ++ l) (first.text ∙ ap (λ l. tail_code table b.0.0 ++ l) second.text) ∙ sym (regroup code (tail_code table b.0.0) (tail_code table c.0.0) c.0.1))) in
    subst (IsPair table bits) (same_Some made x c.2) ((first.held, second.held), text)

pub pair_again : (table : ℕ) (x y : ℤ) (rest : List Bool) → HoldsPair table x y → pair_at table (pair_code_of table x y ++ rest) ≡ Some ((x, y), rest)
unfolding pair_at pair_code_of table_code
pair_again table x y rest holds =
    let coded = coded_of table holds.0.0 in
    let w = width_of table in
    let a = min (unsigned_abs x) 15 in
    let b = min (unsigned_abs y) 15 in
    let code = get_or (codes_of table) (a * w + b) [] in
    let tail = tail_code table x ++ (tail_code table y ++ rest) in
    let la : a < w = row-lt table (unsigned_abs x) holds.0 in
    let lb : b < w = row-lt table (unsigned_abs y) holds.1 in
    let entry : entry_at (codes_of table) (code ++ tail) ≡ Some (a * w + b, tail) = entry_again (codes_of table) (a * w + b) tail coded.free (omega (arith, mul-add-lt a w b w la lb, coded.size)) in
    ap (pair_at table) (regroup code (tail_code table x) (tail_code table y) rest)
    ∙ rw (entry, div-mul-add a w b lb, tail_again table x (tail_code table y ++ rest) holds.0, mod-mul-add a w b lb, tail_again table y rest holds.1) refl

pub one_pair_code : (table : ℕ) (x y x' y' : ℤ) (a b : List Bool) → HoldsPair table x y → HoldsPair table x' y' →
    pair_code_of table x y ++ a ≡ pair_code_of table x' y' ++ b → (x ≡ x') × (y ≡ y') × (a ≡ b)
one_pair_code table x y x' y' a b holds holds' same =
    let one : (ℤ × ℤ) × List Bool = ((x, y), a) in
    let other : (ℤ × ℤ) × List Bool = ((x', y'), b) in
    let equal : one ≡ other = same_Some one other (sym (pair_again table x y a holds) ∙ (ap (pair_at table) same ∙ pair_again table x' y' b holds')) in
    (ap (λ p. p.0.0) equal, ap (λ p. p.0.1) equal, ap (λ p. p.1) equal)
