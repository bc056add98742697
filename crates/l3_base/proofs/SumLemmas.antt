-- Laws of sums. std has no distributive law for whole numbers: it stands here first.
use Rattle.std.proofs.Common.{◌≡◌, ℕ, zero, suc, ◌+◌, ◌*◌, ◌<◌, ◌≤◌, ℤ, pos, negsuc, ◌+ℤ◌, ◌-ℤ◌, ◌*ℤ◌, arith, refl, sym, ap, ◌∙◌, add-one, add-zero, mul-le-mul, add-suc}
use Rattle.std.proofs.lemmas.Int.{ints}
use lib.IntN.{pred_ℤ, +ℤ_idl, +ℤ_idr, +ℤ_assoc, *ℤ-zero, zero-*ℤ, suc_ℤ-+ℤ, pred_ℤ-+ℤ, suc_ℤ-*ℤ, pred_ℤ-*ℤ, *ℤ_comm}
use Rattle.std.specs.Prelude.{unsigned_abs}
use Rattle.l3_base.specs.Sums.{sum_below, size_below}

-- terms put in order
regrouped_up : (t u v x y c : ℤ) → t ≡ u +ℤ v → x ≡ t +ℤ c → y ≡ u +ℤ c → x ≡ y +ℤ v
regrouped_up t u v x y c before left right = omega (arith, ints)

regrouped_down : (t u v x y c : ℤ) → t ≡ u +ℤ v → x ≡ t -ℤ c → y ≡ u -ℤ c → x ≡ y +ℤ v
regrouped_down t u v x y c before left right = omega (arith, ints)

regrouped_start : (v x y o c : ℤ) → x ≡ v -ℤ c → y ≡ o -ℤ c → o ≡ pos 0 → x ≡ y +ℤ v
regrouped_start v x y o c left right nothing = omega (arith, ints)

pub add_times : (a b c : ℤ) → (a +ℤ b) *ℤ c ≡ a *ℤ c +ℤ b *ℤ c
add_times (pos zero) b c = ap (λ z. z *ℤ c) (+ℤ_idl b) ∙ sym (ap (λ z. z +ℤ b *ℤ c) (zero-*ℤ c) ∙ +ℤ_idl (b *ℤ c))
add_times (pos (suc n)) b c =
    let before : (pos n +ℤ b) *ℤ c ≡ pos n *ℤ c +ℤ b *ℤ c = add_times (pos n) b c in
    let left : (pos (suc n) +ℤ b) *ℤ c ≡ (pos n +ℤ b) *ℤ c +ℤ c = ap (λ z. z *ℤ c) (suc_ℤ-+ℤ (pos n) b) ∙ suc_ℤ-*ℤ (pos n +ℤ b) c in
    let right : pos (suc n) *ℤ c ≡ pos n *ℤ c +ℤ c = suc_ℤ-*ℤ (pos n) c in
    regrouped_up _ _ _ _ _ c before left right
add_times (negsuc zero) b c =
    let left : (negsuc zero +ℤ b) *ℤ c ≡ b *ℤ c -ℤ c = ap (λ z. z *ℤ c) (pred_ℤ-+ℤ (pos zero) b ∙ ap pred_ℤ (+ℤ_idl b)) ∙ pred_ℤ-*ℤ b c in
    let right : negsuc zero *ℤ c ≡ pos zero *ℤ c -ℤ c = pred_ℤ-*ℤ (pos zero) c in
    regrouped_start _ _ _ _ c left right (zero-*ℤ c)
add_times (negsuc (suc n)) b c =
    let before : (negsuc n +ℤ b) *ℤ c ≡ negsuc n *ℤ c +ℤ b *ℤ c = add_times (negsuc n) b c in
    let left : (negsuc (suc n) +ℤ b) *ℤ c ≡ (negsuc n +ℤ b) *ℤ c -ℤ c = ap (λ z. z *ℤ c) (pred_ℤ-+ℤ (negsuc n) b) ∙ pred_ℤ-*ℤ (negsuc n +ℤ b) c in
    let right : negsuc (suc n) *ℤ c ≡ negsuc n *ℤ c -ℤ c = pred_ℤ-*ℤ (negsuc n) c in
    regrouped_down _ _ _ _ _ c before left right

pub times_add : (a b c : ℤ) → a *ℤ (b +ℤ c) ≡ a *ℤ b +ℤ a *ℤ c
times_add a b c =
    let left : a *ℤ (b +ℤ c) ≡ (b +ℤ c) *ℤ a = *ℤ_comm a (b +ℤ c) in
    let first : b *ℤ a ≡ a *ℤ b = *ℤ_comm b a in
    let second : c *ℤ a ≡ a *ℤ c = *ℤ_comm c a in
    left ∙ (add_times b c a ∙ (ap (λ z. z +ℤ c *ℤ a) first ∙ ap (λ z. a *ℤ b +ℤ z) second))

pub abs_add : (a b : ℤ) → unsigned_abs (a +ℤ b) ≤ unsigned_abs a + unsigned_abs b
abs_add a b = grind (arith, ints)

-- ---- terms

-- no terms
pub sum_below-none : (f : ℕ → ℤ) → sum_below 0 f ≡ pos 0
unfolding sum_below
sum_below-none f = refl

-- one more term
pub sum_below-more : (n : ℕ) (f : ℕ → ℤ) → sum_below (n + 1) f ≡ sum_below n f +ℤ f n
unfolding sum_below
sum_below-more n f = rw add-one

-- the same terms
pub sum_below-same : (n : ℕ) (f g : ℕ → ℤ) → ((i : ℕ) → i < n → f i ≡ g i) → sum_below n f ≡ sum_below n g
unfolding sum_below
sum_below-same zero f g h = refl
sum_below-same (suc n) f g h =
    let before : sum_below n f ≡ sum_below n g = sum_below-same n f g (λ i lt. h i (omega arith)) in
    let here : f n ≡ g n = h n (omega arith) in
    cc

-- the first m terms, then n more
pub sum_below-split : (m n : ℕ) (f : ℕ → ℤ) → sum_below (m + n) f ≡ sum_below m f +ℤ sum_below n (λ i. f (m + i))
unfolding sum_below
sum_below-split m zero f = rw add-zero (sym (+ℤ_idr (sum_below m f)))
sum_below-split m (suc n) f =
    rw add-suc (ap (λ z. z +ℤ f (m + n)) (sum_below-split m n f) ∙ +ℤ_assoc (sum_below m f) (sum_below n (λ i. f (m + i))) (f (m + n)))

-- two sums of as many terms
pub sum_below-add : (n : ℕ) (f g : ℕ → ℤ) → sum_below n (λ i. f i +ℤ g i) ≡ sum_below n f +ℤ sum_below n g
unfolding sum_below
sum_below-add zero f g = refl
sum_below-add (suc n) f g = let before = sum_below-add n f g in omega (arith, ints, before)

-- each term times c
pub sum_below-scale : (n : ℕ) (c : ℤ) (f : ℕ → ℤ) → sum_below n (λ i. c *ℤ f i) ≡ c *ℤ sum_below n f
unfolding sum_below
sum_below-scale zero c f = sym (*ℤ-zero c)
sum_below-scale (suc n) c f = ap (λ z. z +ℤ c *ℤ f n) (sum_below-scale n c f) ∙ sym (times_add c (sum_below n f) (f n))

-- ---- sizes

pub abs-sum_below : (n : ℕ) (f : ℕ → ℤ) → unsigned_abs (sum_below n f) ≤ size_below n f
unfolding sum_below size_below
abs-sum_below zero f = omega arith
abs-sum_below (suc n) f = omega (arith, abs_add (sum_below n f) (f n), abs-sum_below n f)

-- where each term of f is at most c times that of g
pub size_below-scale : (n c : ℕ) (f g : ℕ → ℤ) → ((i : ℕ) → i < n → unsigned_abs (f i) ≤ c * unsigned_abs (g i)) → size_below n f ≤ c * size_below n g
unfolding size_below
size_below-scale zero c f g h = omega arith
size_below-scale (suc n) c f g h = omega (arith, size_below-scale n c f g (λ i lt. h i (omega arith)), h n (omega arith))

-- where each term is at most b
pub size_below-flat : (n b : ℕ) (f : ℕ → ℤ) → ((i : ℕ) → i < n → unsigned_abs (f i) ≤ b) → size_below n f ≤ n * b
unfolding size_below
size_below-flat zero b f h = omega arith
size_below-flat (suc n) b f h = omega (arith, size_below-flat n b f (λ i lt. h i (omega arith)), h n (omega arith))

-- ---- a loop that adds products

-- r is the sum of one more term, where s was the sum so far and a * b is term n
pub one_more : (n : ℕ) (f : ℕ → ℤ) (r s a b : ℤ) → s ≡ sum_below n f → r ≡ s +ℤ a *ℤ b → a *ℤ b ≡ f n → r ≡ sum_below (n + 1) f
one_more n f r s a b before next term =
    next ∙ (ap (λ z. z +ℤ a *ℤ b) before ∙ (ap (λ z. sum_below n f +ℤ z) term ∙ sym (sum_below-more n f)))

-- its size, where a and b are at most m and n and the terms before were at most m * n each
pub one_more_small : (j m n r s a b : ℕ) → s ≤ j * (m * n) → r ≤ s + a * b → a ≤ m → b ≤ n → r ≤ (j + 1) * (m * n)
one_more_small j m n r s a b before next left right =
    let product : a * b ≤ m * n = mul-le-mul left right in
    omega arith
