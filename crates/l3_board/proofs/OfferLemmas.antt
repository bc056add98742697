-- Granules near the next one stand in cells of their own.
use Rattle.std.proofs.Common.{◌≡◌, ◌≢◌, ◌∙◌, sym, ap, subst, refl, ℕ, zero, suc, ◌+◌, ◌*◌, ◌%◌, ◌/◌, ◌<◌, ◌≤◌, ◌⊎◌, inl, inr, List, length, set, get_or, arith, length-set, get_or-set_same, get_or-set_other}
use Rattle.std.proofs.Math.Nat.{mod-add-div, mul-le-mul_left, mul-suc}
use Rattle.std.specs.Prelude.{true, false, Option, Some, None, is_some}
use Rattle.l3_board.specs.Offers.{OffersView, placed_at, AreAhead, IsNear}

-- one of two quotients is greater: then the numbers are a whole divisor apart
apart : (m a b r next : ℕ) → next ≤ r + m * a → r + m * b < next + m → suc a ≤ b → ⊥
apart m a b r next le lt less =
    let more : m * a + m ≤ m * b = subst (λ (k : ℕ). k ≤ m * b) (mul-suc m a) (mul-le-mul_left m less) in
    omega arith

quotients : (m a b r next : ℕ) → next ≤ r + m * a → r + m * a < next + m → next ≤ r + m * b → r + m * b < next + m → (a ≡ b) ⊎ ((suc a ≤ b) ⊎ (suc b ≤ a)) → a ≡ b
quotients m a b r next le_a lt_a le_b lt_b (inl same) = same
quotients m a b r next le_a lt_a le_b lt_b (inr (inl less)) = absurd (apart m a b r next le_a lt_b less)
quotients m a b r next le_a lt_a le_b lt_b (inr (inr less)) = absurd (apart m b a r next le_b lt_a less)

order : (a b : ℕ) → (a ≡ b) ⊎ ((suc a ≤ b) ⊎ (suc b ≤ a))
order zero zero = inl refl
order zero (suc b) = inr (inl (omega arith))
order (suc a) zero = inr (inr (omega arith))
order (suc a) (suc b) = step (order a b)
  where
    step : (a ≡ b) ⊎ ((suc a ≤ b) ⊎ (suc b ≤ a)) → (suc a ≡ suc b) ⊎ ((suc (suc a) ≤ suc b) ⊎ (suc (suc b) ≤ suc a))
    step (inl e) = inl (ap suc e)
    step (inr (inl l)) = inr (inl (omega arith))
    step (inr (inr l)) = inr (inr (omega arith))

-- two granules of one cell that are near the next one are one granule
pub same-cell : (m i j next : ℕ) → i % m ≡ j % m → next ≤ i → i < next + m → next ≤ j → j < next + m → i ≡ j
same-cell m i j next same le_i lt_i le_j lt_j =
    let at_i = mod-add-div i m in
    let at_j : i % m + m * (j / m) ≡ j = ap (λ r. r + m * (j / m)) same ∙ mod-add-div j m in
    let q = quotients m (i / m) (j / m) (i % m) next
    (omega (arith, at_i, le_i)) (omega (arith, at_i, lt_i)) (omega (arith, at_j, le_j)) (omega (arith, at_j, lt_j)) (order (i / m) (j / m)) in
    sym at_i ∙ (ap (λ k. i % m + m * k) q ∙ at_j)

-- what is on offer in the cell of a near granule is that granule
pub own-or-none : (v : OffersView) (i : ℕ) (at : Option ℕ) → AreAhead v → IsNear v i → placed_at v.placed i ≡ at → is_some at ≡ true → at ≡ Some i
own-or-none v i None ahead near is some = let bad : false ≡ true = some in cc
own-or-none v i (Some j) ahead near is some =
    let own = ahead (i % length v.placed) j is in
    ap Some (same-cell (length v.placed) j i v.next own.0 own.1 own.2 near.0 near.1)

module _ (placed : List (Option ℕ)) (next : ℕ) where
  abbrev pub view : OffersView
  view = record { placed = placed; next = next }

  -- one more granule is on offer
  pub ahead-placed : (i : ℕ) → AreAhead view → IsNear view i → i % length placed < length placed
      → (let v : OffersView = record { placed = set placed (i % length placed) (Some i); next = next } in AreAhead v)
  ahead-placed i ahead near room c j is = by (order c (i % length placed))
    where
      long : length (set placed (i % length placed) (Some i)) ≡ length placed
      long = length-set placed (i % length placed) (Some i)

      other : c ≢ i % length placed → (j % length (set placed (i % length placed) (Some i)) ≡ c) × (next ≤ j) × (j < next + length (set placed (i % length placed) (Some i)))
      other apart = rw long (ahead c j (sym (get_or-set_other placed (i % length placed) c (Some i) None apart) ∙ is))

      by : (c ≡ i % length placed) ⊎ ((suc c ≤ i % length placed) ⊎ (suc (i % length placed) ≤ c))
          → (j % length (set placed (i % length placed) (Some i)) ≡ c) × (next ≤ j) × (j < next + length (set placed (i % length placed) (Some i)))
      by (inl same) =
          let here : Some i ≡ Some j = sym (get_or-set_same placed (i % length placed) (Some i) None room) ∙ (ap (λ k. get_or (set placed (i % length placed) (Some i)) k None) (sym same) ∙ is) in
          let e : i ≡ j = cc in
          rw long (ap (λ k. k % length placed) (sym e) ∙ sym same, subst (λ (k : ℕ). next ≤ k) e near.0, subst (λ (k : ℕ). k < next + length placed) e near.1)
      by (inr (inl less)) = other (λ e. omega (arith, e))
      by (inr (inr less)) = other (λ e. omega (arith, e))

  -- the next granule was taken
  pub ahead-taken : AreAhead view → next % length placed < length placed → (let v : OffersView = record { placed = set placed (next % length placed) None; next = next + 1 } in AreAhead v)
  ahead-taken ahead room c j is = by (order c (next % length placed))
    where
      long : length (set placed (next % length placed) None) ≡ length placed
      long = length-set placed (next % length placed) None

      later : (j ≡ next → ⊥) → (j % length placed ≡ c) × (next ≤ j) × (j < next + length placed) → (j % length placed ≡ c) × (next + 1 ≤ j) × (j < next + 1 + length placed)
      later not own = (own.0, after (order j next), omega (arith, own.2))
        where
          after : (j ≡ next) ⊎ ((suc j ≤ next) ⊎ (suc next ≤ j)) → next + 1 ≤ j
          after (inl e) = absurd (not e)
          after (inr (inl l)) = absurd (omega (arith, own.1))
          after (inr (inr l)) = omega arith

      other : c ≢ next % length placed → (j % length (set placed (next % length placed) None) ≡ c) × (next + 1 ≤ j) × (j < next + 1 + length (set placed (next % length placed) None))
      other apart =
          let own = ahead c j (sym (get_or-set_other placed (next % length placed) c None None apart) ∙ is) in
          rw long (later (λ e. apart (sym own.0 ∙ ap (λ k. k % length placed) e)) own)

      by : (c ≡ next % length placed) ⊎ ((suc c ≤ next % length placed) ⊎ (suc (next % length placed) ≤ c))
          → (j % length (set placed (next % length placed) None) ≡ c) × (next + 1 ≤ j) × (j < next + 1 + length (set placed (next % length placed) None))
      by (inl same) =
          let none : Option ℕ = None in
          let here : none ≡ Some j = sym (get_or-set_same placed (next % length placed) None None room) ∙ (ap (λ k. get_or (set placed (next % length placed) None) k None) (sym same) ∙ is) in
          absurd (cc)
      by (inr (inl less)) = other (λ e. omega (arith, e))
      by (inr (inr less)) = other (λ e. omega (arith, e))
