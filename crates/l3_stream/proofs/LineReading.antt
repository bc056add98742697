-- Pairs and quadruples one after the other: what is read is spelled so, and what is spelled so is
-- read.
use Rattle.std.proofs.Common.{◌≡◌, ℕ, zero, suc, ◌+◌, ◌-◌, ◌*◌, ◌≤◌, Bool, List, [], ◌∷◌, ◌++◌, length, Some, None, Ok, refl, sym, ap, subst, ◌∙◌, arith, append_assoc, length-append}
use Rattle.std.specs.Prelude.{ℤ}
use Rattle.l3_huff.specs.declared.quads.QuadTable.{QuadTable}
use Rattle.l3_huff.specs.declared.quads.QuadTable.TheVariants.{A, B}
use Rattle.l3_huff.specs.Tables.{IsTable, quad_codes, quad_lengths, quad_values}
use Rattle.l3_huff.specs.Codes.{IsQuad, pair_code_of, quad_code_of}
use Rattle.l3_huff.specs.Reading.{pair_at, quad_at}
use Rattle.l3_huff.proofs.PairLaws.{pair_takes, pair_again}
use Rattle.l3_huff.proofs.QuadLaws.{quad_takes, quad_again}
use Rattle.l3_stream.specs.declared.fault.StreamFault.TheVariants as faults
use Rattle.l3_stream.specs.Units.{pairs_code, PairsHold, quads_code, QuadsHold}
use Rattle.l3_stream.specs.Faults.{◌>>=◌, or_fault}
use Rattle.l3_stream.specs.UnitReading.{pairs_at, quads_at}
use Rattle.l3_stream.proofs.Steps.{bind_ok, ok_is, or_fault_ok, or_fault_again}

-- each line has a table of the profile
abbrev pub AreTables : (ℕ → ℕ) → Type 0
AreTables table = (line : ℕ) → IsTable (table line)

quad_at-nil : (table : QuadTable) → quad_at table [] ≡ None
unfolding quad_at quad_codes quad_lengths quad_values
quad_at-nil A = refl
quad_at-nil B = refl

-- ---- pairs

pub record ArePairs (table : ℕ → ℕ) (at n : ℕ) (bits : List Bool) (x : List ℤ × List Bool) : Type 0 where
  pub number : length x.0 ≡ 2 * n
  pub text : bits ≡ pairs_code table at x.0 ++ x.1
  pub held : PairsHold table at x.0

pub pairs_take : (table : ℕ → ℕ) (end at n : ℕ) (bits : List Bool) (x : List ℤ × List Bool) → AreTables table → pairs_at table end at n bits ≡ Ok x → ArePairs table at n bits x
unfolding pairs_at pairs_code PairsHold
pairs_take table end at zero bits x are e = subst (ArePairs table at 0 bits) (ok_is ([], bits) x e) (record { number = refl; text = refl; held = tt })
pairs_take table end at (suc n) bits x are e =
    let a = bind_ok (or_fault (faults.BadCode (end - length bits)) (pair_at (table at) bits)) (λ pair. pairs_at table end (at + 2) n pair.1 >>= λ others. Ok (pair.0.0 ∷ pair.0.1 ∷ others.0, others.1)) x e in
    let b = bind_ok (pairs_at table end (at + 2) n a.0.1) (λ others. Ok (a.0.0.0 ∷ a.0.0.1 ∷ others.0, others.1)) x a.2 in
    let one = pair_takes (table at) bits a.0 (are at) (or_fault_ok _ _ _ a.1) in
    let more = pairs_take table end (at + 2) n a.0.1 b.0 are b.1 in
    let number = more.number in
    subst (ArePairs table at (suc n) bits) (ok_is (a.0.0.0 ∷ a.0.0.1 ∷ b.0.0, b.0.1) x b.2) (record {
      number = omega arith;
      text = one.1 ∙ (ap (λ l. pair_code_of (table at) a.0.0.0 a.0.0.1 ++ l) more.text ∙ sym (append_assoc (pair_code_of (table at) a.0.0.0 a.0.0.1) (pairs_code table (at + 2) b.0.0) b.0.1));
      held = (one.0, more.held);
    })

pub pairs_again : (table : ℕ → ℕ) (end at n : ℕ) (xs : List ℤ) (rest : List Bool) → length xs ≡ 2 * n → PairsHold table at xs → pairs_at table end at n (pairs_code table at xs ++ rest) ≡ Ok (xs, rest)
unfolding pairs_at pairs_code PairsHold ◌>>=◌
pairs_again table end at zero [] rest number held = refl
pairs_again table end at (suc n) [] rest number held = absurd (omega arith)
pairs_again table end at n (x ∷ []) rest number held = absurd held
pairs_again table end at zero (x ∷ y ∷ xs) rest number held = absurd (omega arith)
pairs_again table end at (suc n) (x ∷ y ∷ xs) rest number held =
    let tail = pairs_code table (at + 2) xs ++ rest in
    let code = pair_code_of (table at) x y in
    let regrouped : (code ++ pairs_code table (at + 2) xs) ++ rest ≡ code ++ tail = append_assoc code (pairs_code table (at + 2) xs) rest in
    ap (pairs_at table end at (suc n)) regrouped
    ∙ rw (
      or_fault_again (faults.BadCode (end - length (code ++ tail))) (pair_at (table at) (code ++ tail)) ((x, y), tail) (pair_again (table at) x y tail held.0),
      pairs_again table end (at + 2) n xs rest (omega arith) held.1,
    ) refl

-- ---- quadruples

pub record AreQuads (table : QuadTable) (room : ℕ) (bits : List Bool) (xs : List ℤ) : Type 0 where
  pub count : ℕ
  pub number : length xs ≡ 4 * count
  pub few : count ≤ room
  pub text : bits ≡ quads_code table xs
  pub held : QuadsHold xs

quads_code-cons : (table : QuadTable) (quad rest : List ℤ) → length quad ≡ 4 → quads_code table (quad ++ rest) ≡ quad_code_of table quad ++ quads_code table rest
unfolding quads_code
quads_code-cons table [] rest e = absurd (omega arith)
quads_code-cons table (v ∷ []) rest e = absurd (omega arith)
quads_code-cons table (v ∷ w ∷ []) rest e = absurd (omega arith)
quads_code-cons table (v ∷ w ∷ x ∷ []) rest e = absurd (omega arith)
quads_code-cons table (v ∷ w ∷ x ∷ y ∷ []) rest e = refl
quads_code-cons table (v ∷ w ∷ x ∷ y ∷ z ∷ quad) rest e = absurd (omega arith)

QuadsHold-cons : (quad rest : List ℤ) → IsQuad quad → QuadsHold rest → QuadsHold (quad ++ rest)
unfolding QuadsHold
QuadsHold-cons [] rest is held = absurd (omega (arith, is.0))
QuadsHold-cons (v ∷ []) rest is held = absurd (omega (arith, is.0))
QuadsHold-cons (v ∷ w ∷ []) rest is held = absurd (omega (arith, is.0))
QuadsHold-cons (v ∷ w ∷ x ∷ []) rest is held = absurd (omega (arith, is.0))
QuadsHold-cons (v ∷ w ∷ x ∷ y ∷ []) rest is held = (is, held)
QuadsHold-cons (v ∷ w ∷ x ∷ y ∷ z ∷ quad) rest is held = absurd (omega (arith, is.0))

pub quads_take : (table : QuadTable) (end room : ℕ) (bits : List Bool) (xs : List ℤ) → quads_at table end room bits ≡ Ok xs → AreQuads table room bits xs
unfolding quads_at quads_code QuadsHold
quads_take table end room [] xs e = subst (AreQuads table room []) (ok_is [] xs e) (record { count = 0; number = refl; few = omega arith; text = refl; held = tt })
quads_take table end zero (b ∷ bits) xs e = absurd cc
quads_take table end (suc room) (h ∷ bits) xs e =
    let a = bind_ok (or_fault (faults.BadCode (end - length (h ∷ bits))) (quad_at table (h ∷ bits))) (λ quad. quads_at table end room quad.1 >>= λ others. Ok (quad.0 ++ others)) xs e in
    let b = bind_ok (quads_at table end room a.0.1) (λ others. Ok (a.0.0 ++ others)) xs a.2 in
    let one = quad_takes table (h ∷ bits) a.0 (or_fault_ok _ _ _ a.1) in
    let more = quads_take table end room a.0.1 b.0 b.1 in
    let number = more.number in
    let few = more.few in
    subst (AreQuads table (suc room) (h ∷ bits)) (ok_is (a.0.0 ++ b.0) xs b.2) (record {
      count = suc more.count;
      number = omega (arith, length-append a.0.0 b.0, one.0.0);
      few = omega arith;
      text = one.1 ∙ (ap (λ l. quad_code_of table a.0.0 ++ l) more.text ∙ sym (quads_code-cons table a.0.0 b.0 one.0.0));
      held = QuadsHold-cons a.0.0 b.0 one.0 more.held;
    })

quads_more : (table : QuadTable) (end room : ℕ) (bits : List Bool) (quad : List ℤ) (rest : List Bool) (others : List ℤ) → quad_at table bits ≡ Some (quad, rest) → quads_at table end room rest ≡ Ok others → quads_at table end (suc room) bits ≡ Ok (quad ++ others)
unfolding quads_at ◌>>=◌
quads_more table end room [] quad rest others e h = let nothing = quad_at-nil table in absurd cc
quads_more table end room (b ∷ bits) quad rest others e h = rw (or_fault_again (faults.BadCode (end - length (b ∷ bits))) (quad_at table (b ∷ bits)) (quad, rest) e, h) refl

quads_none : (table : QuadTable) (end room : ℕ) → quads_at table end room [] ≡ Ok []
unfolding quads_at
quads_none table end zero = refl
quads_none table end (suc room) = refl

pub quads_again : (table : QuadTable) (end room n : ℕ) (xs : List ℤ) → length xs ≡ 4 * n → n ≤ room → QuadsHold xs → quads_at table end room (quads_code table xs) ≡ Ok xs
unfolding quads_code QuadsHold
quads_again table end room n [] number few held = quads_none table end room
quads_again table end room n (v ∷ []) number few held = absurd held
quads_again table end room n (v ∷ w ∷ []) number few held = absurd held
quads_again table end room n (v ∷ w ∷ x ∷ []) number few held = absurd held
quads_again table end room zero (v ∷ w ∷ x ∷ y ∷ xs) number few held = absurd (omega arith)
quads_again table end zero (suc n) (v ∷ w ∷ x ∷ y ∷ xs) number few held = absurd (omega arith)
quads_again table end (suc room) (suc n) (v ∷ w ∷ x ∷ y ∷ xs) number few held =
    let quad : List ℤ = v ∷ w ∷ x ∷ y ∷ [] in
    quads_more table end room (quad_code_of table quad ++ quads_code table xs) quad (quads_code table xs) xs (quad_again table quad (quads_code table xs) held.0)
    (quads_again table end room n xs (omega arith) (omega arith) held.1)
