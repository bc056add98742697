use Rattle.std.proofs.Common.{◌≡◌, ℕ, [], ◌∷◌, refl}
use Rattle.std.specs.Prelude.{All}
use Rattle.std.proofs.lemmas.List.Elements.{All-nil, All-cons}
use Rattle.l3_huff.specs.Tables.{codes_of, greatest_of, lengths_of, linbits_at, values_of, width_at}
use Rattle.l3_huff.proofs.facts.tables_with_linbits.Goals as goal

abbrev IsShared : ℕ → Type 0
IsShared table = codes_of table ≡ codes_of 24

pub returns-clause-codes : goal.returns-clause-codes
unfolding codes_of lengths_of values_of
returns-clause-codes c =
    let r31 : All IsShared (31 ∷ []) = All-cons IsShared 31 [] refl (All-nil IsShared) in
    let r30 : All IsShared (30 ∷ 31 ∷ []) = All-cons IsShared 30 (31 ∷ []) refl r31 in
    let r29 : All IsShared (29 ∷ 30 ∷ 31 ∷ []) = All-cons IsShared 29 (30 ∷ 31 ∷ []) refl r30 in
    let r28 : All IsShared (28 ∷ 29 ∷ 30 ∷ 31 ∷ []) = All-cons IsShared 28 (29 ∷ 30 ∷ 31 ∷ []) refl r29 in
    let r27 : All IsShared (27 ∷ 28 ∷ 29 ∷ 30 ∷ 31 ∷ []) = All-cons IsShared 27 (28 ∷ 29 ∷ 30 ∷ 31 ∷ []) refl r28 in
    let r26 : All IsShared (26 ∷ 27 ∷ 28 ∷ 29 ∷ 30 ∷ 31 ∷ []) = All-cons IsShared 26 (27 ∷ 28 ∷ 29 ∷ 30 ∷ 31 ∷ []) refl r27 in
    All-cons IsShared 25 (26 ∷ 27 ∷ 28 ∷ 29 ∷ 30 ∷ 31 ∷ []) refl r26

pub returns-clause-linbits : goal.returns-clause-linbits
unfolding linbits_at
returns-clause-linbits c = refl

pub returns-clause-greatest : goal.returns-clause-greatest
unfolding greatest_of linbits_at width_at
returns-clause-greatest c = refl
