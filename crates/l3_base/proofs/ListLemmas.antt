-- Lists made from a function of the index.
use Rattle.std.proofs.Common.{◌≡◌, ℕ, zero, suc, ◌<◌, List, [], ◌∷◌, length, get_or, arith, refl, ap, ◌+◌, ◌≢◌, below_more, get_or-set_other, get_or-set_same}
use Rattle.std.proofs.Math.ListN.{set}
use Rattle.l3_base.specs.Lists.{tabulate}

pub length-tabulate : {A : Type 0} (n : ℕ) (f : ℕ → A) → length (tabulate n f) ≡ n
unfolding tabulate
length-tabulate zero f = refl
length-tabulate (suc n) f = ap suc (length-tabulate n (λ i. f (suc i)))

pub get_or-tabulate : {A : Type 0} (n i : ℕ) (f : ℕ → A) (d : A) → i < n → get_or (tabulate n f) i d ≡ f i
unfolding tabulate
get_or-tabulate zero i f d lt = absurd (omega arith)
get_or-tabulate (suc n) zero f d lt = refl
get_or-tabulate (suc n) (suc i) f d lt = get_or-tabulate n i (λ k. f (suc k)) d (omega arith)

pub tabulate-same : {A : Type 0} (n : ℕ) (f g : ℕ → A) → ((i : ℕ) → i < n → f i ≡ g i) → tabulate n f ≡ tabulate n g
unfolding tabulate
tabulate-same zero f g h = refl
tabulate-same (suc n) f g h =
    let rest : tabulate n (λ i. f (suc i)) ≡ tabulate n (λ i. g (suc i)) = tabulate-same n (λ i. f (suc i)) (λ i. g (suc i)) (λ i lt. h (suc i) (omega arith)) in
    let here : f 0 ≡ g 0 = h 0 (omega arith) in
    cc

-- a list is the table of its entries
pub tabulate-entries : {A : Type 0} (n : ℕ) (f : ℕ → A) (d : A) (xs : List A) → length xs ≡ n → ((i : ℕ) → i < n → get_or xs i d ≡ f i) → xs ≡ tabulate n f
unfolding tabulate
tabulate-entries zero f d [] long h = refl
tabulate-entries zero f d (x ∷ xs) long h = absurd (omega arith)
tabulate-entries (suc n) f d [] long h = absurd (omega arith)
tabulate-entries (suc n) f d (x ∷ xs) long h =
    let rest : xs ≡ tabulate n (λ i. f (suc i)) = tabulate-entries n (λ i. f (suc i)) d xs (omega arith) (λ i lt. h (suc i) (omega arith)) in
    let here : x ≡ f 0 = h 0 (omega arith) in
    cc

-- a list that is filled by index keeps what each place was to have
pub filled_more : {A : Type 0} (P : ℕ → A → Type 0) (xs : List A) (i : ℕ) (v d : A) → i < length xs → ((m : ℕ) → m < i → P m (get_or xs m d)) → P i v → (m : ℕ) → m < i + 1 → P m (get_or (set xs i v) m d)
filled_more P xs i v d lt before here =
    below_more _ _
    (λ m h. let ne : m ≢ i = omega arith in rw get_or-set_other (before m h))
    (rw get_or-set_same here)
