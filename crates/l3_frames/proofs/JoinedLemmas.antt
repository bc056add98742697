-- Heads and slots, in two parts.
use Rattle.std.proofs.Common.{◌≡◌, ℕ, suc, ◌+◌, ◌-◌, ◌≤◌, List, [], ◌∷◌, ◌++◌, length, take, drop, refl, sym, ap, ◌∙◌, arith, append_assoc}
use Rattle.std.proofs.lemmas.List.{drop-drop, drop-take, take-take}
use Rattle.l3_base.specs.declared.settings.Settings.{Settings}
use Rattle.l3_base.specs.Lengths.{slots_before, slot_bytes_of}
use Rattle.l3_stream.specs.Tape.{joined}
use Rattle.l3_stream.proofs.Tape.{slots-suc}
use Rattle.l3_stream.proofs.Header.{slots-grow}

-- some frames, and those after them
pub joined-append : (st : Settings) (n m d : ℕ) (xs ys : List (List ℕ)) (tape : List ℕ) → m ≡ n + length xs → slots_before st n + d ≡ slots_before st m →
    joined st n (xs ++ ys) tape ≡ joined st n xs tape ++ joined st m ys (drop d tape)
joined-append st n m d [] ys tape number size =
    let same : m ≡ n = omega arith in
    let none : d ≡ 0 = omega (arith, ap (slots_before st) same) in
    rw (same, none) refl
joined-append st n m d (x ∷ xs) ys tape number size =
    let s = slot_bytes_of st n in
    let later : m ≡ suc n + length xs = omega arith in
    let grown : slots_before st (suc n) ≤ slots_before st m = rw later (slots-grow st (suc n) (length xs)) in
    let next = slots-suc st n in
    let left : slots_before st (suc n) + (d - s) ≡ slots_before st m = omega arith in
    let both : s + (d - s) ≡ d = omega arith in
    let rest = joined-append st (suc n) m (d - s) xs ys (drop s tape) later left in
    let further : drop (d - s) (drop s tape) ≡ drop d tape = drop-drop (d - s) s tape ∙ ap (λ k. drop k tape) both in
    ap (λ l. x ++ (take s tape ++ l)) (rest ∙ ap (λ t. joined st (suc n) xs (drop s tape) ++ joined st m ys t) further)
    ∙ (ap (λ l. x ++ l) (sym (append_assoc (take s tape) (joined st (suc n) xs (drop s tape)) (joined st m ys (drop d tape))))
    ∙ sym (append_assoc x (take s tape ++ joined st (suc n) xs (drop s tape)) (joined st m ys (drop d tape))))

-- only their own slots are read
pub joined-take : (st : Settings) (n m d : ℕ) (xs : List (List ℕ)) (tape : List ℕ) → m ≡ n + length xs → slots_before st n + d ≡ slots_before st m →
    joined st n xs (take d tape) ≡ joined st n xs tape
joined-take st n m d [] tape number size = refl
joined-take st n m d (x ∷ xs) tape number size =
    let s = slot_bytes_of st n in
    let later : m ≡ suc n + length xs = omega arith in
    let grown : slots_before st (suc n) ≤ slots_before st m = rw later (slots-grow st (suc n) (length xs)) in
    let next = slots-suc st n in
    let left : slots_before st (suc n) + (d - s) ≡ slots_before st m = omega arith in
    let both : d ≡ s + (d - s) = omega arith in
    let within : s ≤ d = omega arith in
    let first : take s (take d tape) ≡ take s tape = take-take s d tape within in
    let second : drop s (take d tape) ≡ take (d - s) (drop s tape) = ap (λ k. drop s (take k tape)) both ∙ drop-take s (d - s) tape in
    ap (λ l. x ++ (l ++ joined st (suc n) xs (drop s (take d tape)))) first
    ∙ (ap (λ t. x ++ (take s tape ++ joined st (suc n) xs t)) second
    ∙ ap (λ l. x ++ (take s tape ++ l)) (joined-take st (suc n) m (d - s) xs (drop s tape) later left))
