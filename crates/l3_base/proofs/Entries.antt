-- From a test of every index below a number to each of them.
use Rattle.std.proofs.Common.{◌≡◌, ℕ, zero, suc, ◌<◌, ◌≤◌, Bool, true, ◌&&◌, ℤ, refl, ltb, arith}
use Rattle.std.proofs.lemmas.Bool.Decides.{Decides-int_eq, Decides-ltb, Decides-below_and}
use Rattle.std.specs.Prelude.{unsigned_abs}
use Rattle.std.specs.Ordering.{int_eq}

-- f and g agree below n
abbrev pub same_below : (ℕ → ℤ) → (ℕ → ℤ) → ℕ → Bool
same_below f g zero = true
same_below f g (suc n) = int_eq (f n) (g n) && same_below f g n

-- f is at most b in absolute value below n
abbrev pub within_below : ℕ → (ℕ → ℤ) → ℕ → Bool
within_below b f zero = true
within_below b f (suc n) = ltb (unsigned_abs (f n)) (suc b) && within_below b f n

-- f is below g below n
abbrev pub ordered_below : (ℕ → ℕ) → (ℕ → ℕ) → ℕ → Bool
ordered_below f g zero = true
ordered_below f g (suc n) = ltb (f n) (g n) && ordered_below f g n

pub same_at : (f g : ℕ → ℤ) (n i : ℕ) → same_below f g n ≡ true → i < n → f i ≡ g i
same_at f g n i h lt =
    (Decides-below_and (λ k. int_eq (f k) (g k)) (λ k. f k ≡ g k) (same_below f g) (λ k. Decides-int_eq (f k) (g k)) refl (λ _. refl) n).0 h i lt

pub within_at : (b : ℕ) (f : ℕ → ℤ) (n i : ℕ) → within_below b f n ≡ true → i < n → unsigned_abs (f i) ≤ b
within_at b f n i h lt =
    let below : unsigned_abs (f i) < suc b =
    (Decides-below_and (λ k. ltb (unsigned_abs (f k)) (suc b)) (λ k. unsigned_abs (f k) < suc b) (within_below b f) (λ k. Decides-ltb (unsigned_abs (f k)) (suc b)) refl (λ _. refl) n).0 h i lt in
    omega arith

pub ordered_at : (f g : ℕ → ℕ) (n i : ℕ) → ordered_below f g n ≡ true → i < n → f i < g i
ordered_at f g n i h lt =
    (Decides-below_and (λ k. ltb (f k) (g k)) (λ k. f k < g k) (ordered_below f g) (λ k. Decides-ltb (f k) (g k)) refl (λ _. refl) n).0 h i lt

pub not_above_at : (f g : ℕ → ℕ) (n i : ℕ) → ordered_below f (λ k. suc (g k)) n ≡ true → i < n → f i ≤ g i
not_above_at f g n i h lt =
    let below : f i < suc (g i) = ordered_at f (λ k. suc (g k)) n i h lt in
    omega arith

pub within_same : (b : ℕ) (x y : ℤ) → x ≡ y → unsigned_abs y ≤ b → unsigned_abs x ≤ b
within_same b x y e h = rw e h
