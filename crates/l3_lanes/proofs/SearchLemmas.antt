-- How the cells were tried, one after another.
use Rattle.std.proofs.Common.{◌≡◌, ℕ, ◌+◌, ◌<◌, ◌≤◌, List, [], ◌∷◌, ◌++◌, inl, inr, ap, ◌∙◌, arith}
use mathlib.Core.Logic.{dite}
use native.Mathlib.Decide.{ℕ_discrete, dec_lt}
use Rattle.l3_lanes.specs.declared.view.View.{View}
use Rattle.l3_lanes.specs.Words.{claimed_word, offered_word}
use Rattle.l3_lanes.specs.Views.{words_at}
use Rattle.l3_lanes.specs.Calls.{WasClaimed, WasLost, IsTried}

-- nothing was noted at the place before, or nothing is noted afterwards
pub lost_after : (c : ℕ) (u v w : View) → words_at v c ≡ words_at u c → WasLost c v w → WasLost c u w
lost_after c u v w same (n, inl q) = (n, inl (q.0, q.1 ∙ ap (λ (z : List ℕ). n ∷ z) same))
lost_after c u v w same (n, inr q) = (n, inr (q.0, q.1, q.2, q.3 ∙ ap (λ (z : List ℕ). q.0 ∷ n ∷ z) same))

pub lost_before : (c : ℕ) (u v w : View) → WasLost c u v → words_at w c ≡ words_at v c → WasLost c u w
lost_before c u v w (n, inl q) same = (n, inl (q.0, same ∙ q.1))
lost_before c u v w (n, inr q) same = (n, inr (q.0, q.1, q.2, same ∙ q.3))

pub lost_tried : (c : ℕ) (v w : View) → WasLost c v w → IsTried c v w
lost_tried c v w (n, inl q) = (n ∷ [], omega arith, q.1)
lost_tried c v w (n, inr q) = (q.0 ∷ n ∷ [], omega arith, q.3)

pub claimed_tried : (c i : ℕ) (v w : View) → WasClaimed c i v w → IsTried c v w
claimed_tried c i v w e = (claimed_word i ∷ offered_word i ∷ [], omega arith, e)

pub same_tried : (c : ℕ) (v w : View) → words_at w c ≡ words_at v c → IsTried c v w
same_tried c v w e = ([], omega arith, e)

module _ (cell : ℕ) (u v w : View) (lost : (c : ℕ) → c < cell → WasLost c u v) (others : (k : ℕ) → cell ≤ k → words_at v k ≡ words_at u k) where
  pub all_tried : (c : ℕ) → IsTried c u v
  all_tried c = dite (dec_lt c cell) (λ low. lost_tried c u v (lost c low)) (λ high. same_tried c u v (others c (omega arith)))

  module _ (elsewhere : (k : ℕ) → (k ≡ cell → ⊥) → words_at w k ≡ words_at v k) where
    pub lost_more : WasLost cell v w → (c : ℕ) → c < cell + 1 → WasLost c u w
    lost_more here c low = dite (ℕ_discrete c cell)
        (λ same. rw same (lost_after cell u v w (others cell (omega arith)) here))
        (λ other. lost_before c u v w (lost c (omega arith)) (elsewhere c other))

    pub tried_more : (i : ℕ) → WasClaimed cell i v w → (c : ℕ) → IsTried c u w
    tried_more i here c = dite (ℕ_discrete c cell)
        (λ same. let e : words_at w cell ≡ claimed_word i ∷ offered_word i ∷ words_at u cell = here ∙ ap (λ (z : List ℕ). claimed_word i ∷ offered_word i ∷ z) (others cell (omega arith)) in rw same (claimed_tried cell i u w e))
        (λ other. let t = all_tried c in (t.0, t.1, elsewhere c other ∙ t.2))

pub tried_after : (c : ℕ) (u v w : View) → words_at v c ≡ words_at u c → IsTried c v w → IsTried c u w
tried_after c u v w same (words, few, e) = (words, few, e ∙ ap (λ (z : List ℕ). words ++ z) same)
