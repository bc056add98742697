-- What steps note, one after another.
use Rattle.std.proofs.Common.{◌≡◌, ℕ, ◌<◌, List, [], ◌∷◌, ◌++◌, length, get_or, get_or-set_same, get_or-set_other, length-set, sym, ap, ◌∙◌}
use Rattle.std.proofs.lemmas.List.{append_assoc}
use Rattle.l3_lanes.specs.declared.view.View.{View}
use Rattle.l3_lanes.specs.Views.{noted, words_at, Notes}

pub notes_none : (place : ℕ) (v w : View) → w.notes ≡ v.notes → Notes place [] v w
notes_none place v w e = record {
  here = ap (λ (z : List (List ℕ)). get_or z place []) e;
  elsewhere = λ k other. ap (λ (z : List (List ℕ)). get_or z k []) e;
  places = ap (λ (z : List (List ℕ)). length z) e;
}

pub notes_one : (place n : ℕ) (v w : View) → place < length v.notes → w.notes ≡ (noted v place n).notes → Notes place (n ∷ []) v w
notes_one place n v w within e =
    let list : List ℕ = n ∷ words_at v place in record {
      here = ap (λ (z : List (List ℕ)). get_or z place []) e ∙ get_or-set_same v.notes place list [] within;
      elsewhere = λ k other. ap (λ (z : List (List ℕ)). get_or z k []) e ∙ get_or-set_other v.notes place k list [] other;
      places = ap (λ (z : List (List ℕ)). length z) e ∙ length-set v.notes place list;
    }

pub notes_then : (place : ℕ) (a b : List ℕ) (u v w : View) → Notes place a u v → Notes place b v w → Notes place (b ++ a) u w
notes_then place a b u v w first second = record {
  here = second.here ∙ (ap (λ (z : List ℕ). b ++ z) first.here ∙ sym (append_assoc b a (words_at u place)));
  elsewhere = λ k other. second.elsewhere k other ∙ first.elsewhere k other;
  places = second.places ∙ first.places;
}
