-- Lines taken in pairs and in quadruples, one after the other.
use Rattle.std.proofs.Common.{◌≡◌, ℕ, suc, ◌+◌, ◌*◌, ◌<◌, ◌≤◌, List, [], ◌∷◌, ◌++◌, length, drop, get_or, refl, sym, ap, subst, ◌∙◌, arith, drop-cons, length-append, add-one}
use Rattle.std.specs.Prelude.{ℤ, pos, All}
use Rattle.std.proofs.lemmas.List.{length-drop, nil_from_length, get_or-replicate}
use Rattle.l3_huff.specs.declared.quads.QuadTable.{QuadTable}
use Rattle.l3_huff.specs.Codes.{IsQuad, pair_code_of, quad_code_of}
use Rattle.l3_huff.specs.Laws.{HoldsPair}
use Rattle.l3_stream.specs.Units.{line_at, four_from, pairs_code, PairsHold, quads_code, QuadsHold, zero_lines}

one_next : (lines : List ℤ) (at next : ℕ) → at < length lines → next ≡ at + 1 → drop at lines ≡ line_at lines at ∷ drop next lines
one_next lines at next lt e = drop-cons lines at (pos 0) lt ∙ ap (λ n. line_at lines at ∷ drop n lines) (sym (e ∙ add-one at))

-- two lines, and those after them
pub two_next : (lines : List ℤ) (at : ℕ) → at + 1 < length lines → drop at lines ≡ line_at lines at ∷ line_at lines (at + 1) ∷ drop (at + 2) lines
two_next lines at lt =
    one_next lines at (at + 1) (omega arith) refl
    ∙ ap (λ l. line_at lines at ∷ l) (one_next lines (at + 1) (at + 2) lt (omega arith))

pub four_next : (lines : List ℤ) (at : ℕ) → at + 3 < length lines → drop at lines ≡ line_at lines at ∷ line_at lines (at + 1) ∷ line_at lines (at + 2) ∷ line_at lines (at + 3) ∷ drop (at + 4) lines
four_next lines at lt =
    two_next lines at (omega arith)
    ∙ ap (λ l. line_at lines at ∷ line_at lines (at + 1) ∷ l)
    (one_next lines (at + 2) (at + 3) (omega arith) (omega arith) ∙ ap (λ l. line_at lines (at + 2) ∷ l) (one_next lines (at + 3) (at + 4) lt (omega arith)))

-- ---- pairs

pub pairs_code-next : (table : ℕ → ℕ) (lines : List ℤ) (at : ℕ) → at + 1 < length lines →
    pairs_code table at (drop at lines) ≡ pair_code_of (table at) (line_at lines at) (line_at lines (at + 1)) ++ pairs_code table (at + 2) (drop (at + 2) lines)
unfolding pairs_code
pairs_code-next table lines at lt = ap (pairs_code table at) (two_next lines at lt)

pairs_code-nil : (table : ℕ → ℕ) (at : ℕ) → pairs_code table at [] ≡ []
unfolding pairs_code
pairs_code-nil table at = refl

PairsHold-nil : (table : ℕ → ℕ) (at : ℕ) → PairsHold table at []
unfolding PairsHold
PairsHold-nil table at = tt

PairsHold-cons : (table : ℕ → ℕ) (at : ℕ) (x y : ℤ) (lines : List ℤ) → PairsHold table at (x ∷ y ∷ lines) ≡ (HoldsPair (table at) x y × PairsHold table (at + 2) lines)
unfolding PairsHold
PairsHold-cons table at x y lines = refl

abbrev NextHold : (ℕ → ℕ) → List ℤ → ℕ → Type 0
NextHold table lines at = HoldsPair (table at) (line_at lines at) (line_at lines (at + 1)) × PairsHold table (at + 2) (drop (at + 2) lines)

pub PairsHold-next : (table : ℕ → ℕ) (lines : List ℤ) (at : ℕ) → at + 1 < length lines → PairsHold table at (drop at lines) → NextHold table lines at
unfolding PairsHold
PairsHold-next table lines at lt h = subst (PairsHold table at) (two_next lines at lt) h

pub PairsHold-before : (table : ℕ → ℕ) (lines : List ℤ) (at : ℕ) → at + 1 < length lines → NextHold table lines at → PairsHold table at (drop at lines)
unfolding PairsHold
PairsHold-before table lines at lt h = subst (PairsHold table at) (sym (two_next lines at lt)) h

-- k pairs are held, and have so many bits
pub record PairsSoFar (table : ℕ → ℕ) (lines : List ℤ) (k bits : ℕ) : Type 0 where
  pub counted : bits + length (pairs_code table (2 * k) (drop (2 * k) lines)) ≡ length (pairs_code table 0 lines)
  pub enough : PairsHold table (2 * k) (drop (2 * k) lines) → PairsHold table 0 lines
  pub needed : PairsHold table 0 lines → PairsHold table (2 * k) (drop (2 * k) lines)
  pub small : bits ≤ 40 * k

pub no_pairs : (table : ℕ → ℕ) (lines : List ℤ) → PairsSoFar table lines 0 0
no_pairs table lines = record { counted = omega arith; enough = λ h. h; needed = λ h. h; small = omega arith }

pub one_pair_more : (table : ℕ → ℕ) (lines : List ℤ) (k bits more : ℕ) → 2 * k + 1 < length lines → PairsSoFar table lines k bits →
    more ≡ length (pair_code_of (table (2 * k)) (line_at lines (2 * k)) (line_at lines (2 * k + 1))) → HoldsPair (table (2 * k)) (line_at lines (2 * k)) (line_at lines (2 * k + 1)) → more ≤ 40 →
    PairsSoFar table lines (k + 1) (bits + more)
one_pair_more table lines k bits more lt so_far counts holds small =
    let at = 2 * k in
    let next : 2 * (k + 1) ≡ 2 * k + 2 = omega arith in
    let code = pair_code_of (table at) (line_at lines at) (line_at lines (at + 1)) in
    let later = pairs_code table (at + 2) (drop (at + 2) lines) in
    let before = so_far.counted in
    let bound = so_far.small in
    record {
      counted = rw next (omega (arith, before, counts, ap length (pairs_code-next table lines at lt), length-append code later));
      enough = rw next (λ h. so_far.enough (PairsHold-before table lines at lt (holds, h)));
      needed = rw next (λ h. (PairsHold-next table lines at lt (so_far.needed h)).1);
      small = omega arith;
    }

pub pair_refused : (table : ℕ → ℕ) (lines : List ℤ) (k bits : ℕ) → 2 * k + 1 < length lines → PairsSoFar table lines k bits →
    (HoldsPair (table (2 * k)) (line_at lines (2 * k)) (line_at lines (2 * k + 1)) → ⊥) → PairsHold table 0 lines → ⊥
pair_refused table lines k bits lt so_far refused h = refused (PairsHold-next table lines (2 * k) lt (so_far.needed h)).0

none_left : (lines : List ℤ) (at : ℕ) → length lines ≤ at → drop at lines ≡ []
none_left lines at le = nil_from_length (drop at lines) (omega (arith, length-drop at lines))

-- all pairs are held, and have so many bits
pub record AllPairs (table : ℕ → ℕ) (lines : List ℤ) (bits : ℕ) : Type 0 where
  pub counted : bits ≡ length (pairs_code table 0 lines)
  pub held : PairsHold table 0 lines

pub all_pairs : (table : ℕ → ℕ) (lines : List ℤ) (k bits : ℕ) → length lines ≤ 2 * k → PairsSoFar table lines k bits → AllPairs table lines bits
all_pairs table lines k bits le so_far =
    let nothing = none_left lines (2 * k) le in
    let before = so_far.counted in
    record {
      counted = omega (arith, before, ap length (ap (pairs_code table (2 * k)) nothing ∙ pairs_code-nil table (2 * k)));
      held = so_far.enough (subst (PairsHold table (2 * k)) (sym nothing) (PairsHold-nil table (2 * k)));
    }

-- ---- quadruples

pub quads_code-next : (table : QuadTable) (lines : List ℤ) (at : ℕ) → at + 3 < length lines →
    quads_code table (drop at lines) ≡ quad_code_of table (four_from lines at) ++ quads_code table (drop (at + 4) lines)
unfolding quads_code
quads_code-next table lines at lt = ap (quads_code table) (four_next lines at lt)

quads_code-nil : (table : QuadTable) → quads_code table [] ≡ []
unfolding quads_code
quads_code-nil table = refl

QuadsHold-nil : QuadsHold []
unfolding QuadsHold
QuadsHold-nil = tt

abbrev NextQuadsHold : List ℤ → ℕ → Type 0
NextQuadsHold lines at = IsQuad (four_from lines at) × QuadsHold (drop (at + 4) lines)

pub QuadsHold-next : (lines : List ℤ) (at : ℕ) → at + 3 < length lines → QuadsHold (drop at lines) → NextQuadsHold lines at
unfolding QuadsHold
QuadsHold-next lines at lt h = subst QuadsHold (four_next lines at lt) h

pub QuadsHold-before : (lines : List ℤ) (at : ℕ) → at + 3 < length lines → NextQuadsHold lines at → QuadsHold (drop at lines)
unfolding QuadsHold
QuadsHold-before lines at lt h = subst QuadsHold (sym (four_next lines at lt)) h

-- k quadruples are held, and have so many bits
pub record QuadsSoFar (table : QuadTable) (lines : List ℤ) (k bits : ℕ) : Type 0 where
  pub counted : bits + length (quads_code table (drop (4 * k) lines)) ≡ length (quads_code table lines)
  pub enough : QuadsHold (drop (4 * k) lines) → QuadsHold lines
  pub needed : QuadsHold lines → QuadsHold (drop (4 * k) lines)
  pub small : bits ≤ 10 * k

pub no_quads : (table : QuadTable) (lines : List ℤ) → QuadsSoFar table lines 0 0
no_quads table lines = record { counted = omega arith; enough = λ h. h; needed = λ h. h; small = omega arith }

pub one_quad_more : (table : QuadTable) (lines : List ℤ) (k bits more : ℕ) → 4 * k + 3 < length lines → QuadsSoFar table lines k bits →
    more ≡ length (quad_code_of table (four_from lines (4 * k))) → IsQuad (four_from lines (4 * k)) → more ≤ 10 → QuadsSoFar table lines (k + 1) (bits + more)
one_quad_more table lines k bits more lt so_far counts is small =
    let at = 4 * k in
    let next : 4 * (k + 1) ≡ 4 * k + 4 = omega arith in
    let code = quad_code_of table (four_from lines at) in
    let later = quads_code table (drop (at + 4) lines) in
    let before = so_far.counted in
    let bound = so_far.small in
    record {
      counted = rw next (omega (arith, before, counts, ap length (quads_code-next table lines at lt), length-append code later));
      enough = rw next (λ h. so_far.enough (QuadsHold-before lines at lt (is, h)));
      needed = rw next (λ h. (QuadsHold-next lines at lt (so_far.needed h)).1);
      small = omega arith;
    }

pub quad_refused : (table : QuadTable) (lines : List ℤ) (k bits : ℕ) → 4 * k + 3 < length lines → QuadsSoFar table lines k bits → (IsQuad (four_from lines (4 * k)) → ⊥) → QuadsHold lines → ⊥
quad_refused table lines k bits lt so_far refused h = refused (QuadsHold-next lines (4 * k) lt (so_far.needed h)).0

-- all quadruples are held, and have so many bits
pub record AllQuads (table : QuadTable) (lines : List ℤ) (bits : ℕ) : Type 0 where
  pub counted : bits ≡ length (quads_code table lines)
  pub held : QuadsHold lines

pub all_quads : (table : QuadTable) (lines : List ℤ) (k bits : ℕ) → length lines ≤ 4 * k → QuadsSoFar table lines k bits → AllQuads table lines bits
all_quads table lines k bits le so_far =
    let nothing = none_left lines (4 * k) le in
    let before = so_far.counted in
    record {
      counted = omega (arith, before, ap length (ap (quads_code table) nothing ∙ quads_code-nil table));
      held = so_far.enough (subst QuadsHold (sym nothing) QuadsHold-nil);
    }

-- ---- zeros

abbrev pub AreZero : List ℤ → Type 0
AreZero lines = All (λ x. x ≡ pos 0) lines

pub zeros_from : (lines : List ℤ) → AreZero lines → lines ≡ zero_lines (length lines)
unfolding zero_lines
zeros_from [] all = refl
zeros_from (x ∷ lines) all =
    let first : x ≡ pos 0 = all 0 (pos 0) (omega arith) in
    let more = zeros_from lines (λ k d lt. all (suc k) d (omega arith)) in
    ap (λ l. x ∷ l) more ∙ ap (λ z. z ∷ zero_lines (length lines)) first

pub zeros_are : (lines : List ℤ) → lines ≡ zero_lines (length lines) → AreZero lines
unfolding zero_lines
zeros_are lines e = λ k d lt. ap (λ l. get_or l k d) e ∙ get_or-replicate (length lines) k (pos 0) d lt
