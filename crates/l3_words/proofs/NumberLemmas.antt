-- The number that `get_one` reads of a text.
use Rattle.std.proofs.Common.{◌≡◌, ℕ, suc, ◌^◌, List, [], ◌∷◌, length, Bool, true, false, refl}
use Rattle.std.specs.Prelude.{Option, Some, None, Result, Ok, Err, nat_lt, option_and_then}
use Rattle.std.specs.List.{list_all}
use Rattle.std.specs.Char.{digit_value}
use Rattle.std.specs.Str.Parse.{AllDigits, IsNumeral, ParsesUnsigned, digits_value, without_leading_plus}
use Rattle.std.proofs.lemmas.Bool.{le-leb, leb-true}
use Rattle.clap.specs.ValueTests.{is_numeral}
use Rattle.clap.specs.Words.{ReadsOne}
use Rattle.l3_words.specs.Words.{number_of}

digits_true : (ds : List ℕ) → AllDigits 10 ds → list_all (λ d. nat_lt (digit_value d) 10) ds ≡ true
digits_true [] h = refl
digits_true (d ∷ ds) h =
    let first : nat_lt (digit_value d) 10 ≡ true = le-leb (suc (digit_value d)) 10 h.0 in
    rw (first, digits_true ds h.1) refl

digits_from : (ds : List ℕ) → list_all (λ d. nat_lt (digit_value d) 10) ds ≡ true → AllDigits 10 ds
digits_from [] h = tt
digits_from (d ∷ ds) h = go (nat_lt (digit_value d) 10) refl (digits_from ds)
  where
    go : (b : Bool) → nat_lt (digit_value d) 10 ≡ b → (list_all (λ d. nat_lt (digit_value d) 10) ds ≡ true → AllDigits 10 ds) → AllDigits 10 (d ∷ ds)
    go true e rest = (leb-true (suc (digit_value d)) 10 e, rest (rw e at h))
    go false e rest = let bad : false ≡ true = rw e at h in cc

numeral_true : (ds : List ℕ) → IsNumeral 10 ds → is_numeral ds ≡ true
numeral_true ds h =
    let some : nat_lt 0 (length ds) ≡ true = le-leb 1 (length ds) h.0 in
    rw (some, digits_true ds h.1) refl

numeral_from : (ds : List ℕ) → is_numeral ds ≡ true → IsNumeral 10 ds
numeral_from ds h = go (nat_lt 0 (length ds)) refl
  where
    go : (b : Bool) → nat_lt 0 (length ds) ≡ b → IsNumeral 10 ds
    go true e = (leb-true 1 (length ds) e, digits_from ds (rw e at h))
    go false e = let bad : false ≡ true = rw e at h in cc

pub reads_number : {E : Type 0} (G : List ℕ → Result ℕ E → Type 0) → ((u : List ℕ) (x : Result ℕ E) → G u x → ParsesUnsigned 32 10 u x)
    → (t : List ℕ) (r : Option ℕ) → ReadsOne G t r → r ≡ number_of t
reads_number G only t (Some v) read =
    let p = only t (Ok v) read in
    let a : is_numeral (without_leading_plus t) ≡ true = numeral_true (without_leading_plus t) p.0.0 in
    let b : nat_lt (digits_value 10 (without_leading_plus t)) (2 ^ 32) ≡ true = le-leb (suc (digits_value 10 (without_leading_plus t))) (2 ^ 32) p.0.1 in
    rw (a, b, p.1) refl
reads_number {E} G only t None read = go (is_numeral (without_leading_plus t)) (nat_lt (digits_value 10 (without_leading_plus t)) (2 ^ 32)) refl refl
  where
    go : (a b : Bool) → is_numeral (without_leading_plus t) ≡ a → nat_lt (digits_value 10 (without_leading_plus t)) (2 ^ 32) ≡ b → None ≡ number_of t
    go true true ea eb = absurd (only t (Err read.0) read.1 (numeral_from (without_leading_plus t) ea, leb-true (suc (digits_value 10 (without_leading_plus t))) (2 ^ 32) eb))
    go true false ea eb = rw (ea, eb) refl
    go false b ea eb = rw ea refl

-- what the clauses of `get_one` say, as one equation
pub one_number : {E : Type 0} (G : List ℕ → Result ℕ E → Type 0) → ((u : List ℕ) (x : Result ℕ E) → G u x → ParsesUnsigned 32 10 u x)
    → (o : Option (List ℕ)) (r : Option ℕ) → (o ≡ None → r ≡ None) → ((t : List ℕ) → o ≡ Some t → ReadsOne G t r)
    → r ≡ option_and_then number_of o
one_number G only None r none value = none refl
one_number G only (Some t) r none value = reads_number G only t r (value t refl)
