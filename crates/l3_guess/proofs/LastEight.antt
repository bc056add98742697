-- The last eight of a list that grows.
use Rattle.std.proofs.Common.{◌≡◌, ◌∙◌, ◌+◌, ◌-◌, [], ◌∷◌, ◌++◌, length, take, drop, ap, sym, arith, append_assoc, length-append, length-drop}
use Rattle.std.proofs.lemmas.List.{take-append-drop, length-take-le}
use Rattle.std.proofs.Math.Seq.{drop-append-add}
use Rattle.l3_guess.specs.Laws.{KeepsLastEight}

pub keeps_last_eight : KeepsLastEight
keeps_last_eight told next =
    let gone = length told - 8 in
    let kept = drop gone told ++ next ∷ [] in
    let front : length (take gone told) ≡ gone = length-take-le gone told (omega arith) in
    let whole : take gone told ++ kept ≡ told ++ next ∷ [] =
    sym (append_assoc (take gone told) (drop gone told) (next ∷ [])) ∙ ap (λ xs. xs ++ next ∷ []) (take-append-drop gone told) in
    let more : length kept ≡ length told - gone + 1 = omega (arith, length-append (drop gone told) (next ∷ []), length-drop gone told) in
    let sizes : length (told ++ next ∷ []) - 8 ≡ length (take gone told) + (length kept - 8) = omega (arith, length-append told (next ∷ [])) in
    sym (ap (λ n. drop n (told ++ next ∷ [])) sizes
    ∙ (ap (λ xs. drop (length (take gone told) + (length kept - 8)) xs) (sym whole)
    ∙ drop-append-add (take gone told) kept (length kept - 8)))
