-- What a desk keeps between calls, after one cell's step.
use Rattle.std.proofs.Common.{◌≡◌, ℕ, ◌<◌, Bool, true, false, Option, None, List, [], set, get_or, length, ◌∷◌, get_or-set_same, get_or-set_other, refl, sym, ap, ◌∙◌, subst, arith, length-set}
use Rattle.std.proofs.lemmas.List.{set-get_or}
use mathlib.Core.Logic.{dite}
use native.Mathlib.Decide.{ℕ_discrete}
use Rattle.atomic_table.specs.Table.{Me}
use Rattle.atomic_table.proofs.Lists.{set_here, set_else}
use Rattle.l3_lanes.specs.declared.view.View.{View}
use Rattle.l3_lanes.specs.declared.view.Tell.{Tell}
use Rattle.l3_lanes.specs.declared.view.Tell.TheVariants.{Free}
use Rattle.l3_lanes.specs.Views.{noted, words_at, HasTold, known, is_held}
use Rattle.l3_lanes.specs.Calls.{IsDesk}
use Rattle.l3_lanes.proofs.MoveLemmas.{within}
use Rattle.l3_lanes.proofs.DeskLemmas.{tell_of}

module _ {S : Type 0} (count : ℕ) (me new : Me S View) (told : List (Option ℕ)) (shut : Bool) (d : IsDesk count me told shut) (c : ℕ) (t : Tell) (in_row : c < count) (places : length new.0.notes ≡ length me.0.notes) (after : HasTold me.0 c t new.0) (no_slot : new.1 ≡ []) (apart : is_held t ≡ false) where
  pub desk_after : (o : Option ℕ) → known t ≡ o → IsDesk count new (set told c o) shut
  desk_after o is = record {
    desk = after.desk ∙ d.desk;
    no_slot = no_slot;
    shut_is = after.shut ∙ d.shut_is;
    as_many = simp length-set d.as_many;
    places = places ∙ d.places;
    knows = λ k low. dite (ℕ_discrete k c)
        (λ same. let old = d.knows c in_row in rw same (t, rw after.tells (set_here me.0.tells c t (within me.0.tells c old.0 old.1)), is ∙ sym (get_or-set_same told c o None (let m = d.as_many in omega arith)), apart))
        (λ other. let old = d.knows k low in (old.0, rw after.tells (set_else me.0.tells c k t other ∙ old.1), old.2 ∙ sym (get_or-set_other told c k o None other), old.3));
  }

  pub desk_same : known t ≡ known (get_or me.0.tells c Free) → IsDesk count new told shut
  desk_same is =
      let old = d.knows c in_row in
      let was : known t ≡ get_or told c None = is ∙ (ap known (tell_of me.0.tells c old.0 Free old.1) ∙ old.2) in
      subst (λ (z : List (Option ℕ)). IsDesk count new z shut) (set-get_or told c None) (desk_after (get_or told c None) was)

module _ {S : Type 0} (count : ℕ) (me new : Me S View) (told : List (Option ℕ)) (shut : Bool) where
  pub desk_shut : (w n : ℕ) → IsDesk count me told shut → new.0 ≡ record (noted me.0 w n) { shut = true } → new.1 ≡ me.1 → IsDesk count new told true
  desk_shut w n d view slots = record {
    desk = rw view d.desk;
    no_slot = slots ∙ d.no_slot;
    shut_is = rw view refl;
    as_many = d.as_many;
    places = ap (λ (v : View). length v.notes) view ∙ (length-set me.0.notes w (n ∷ words_at me.0 w) ∙ d.places);
    knows = rw view d.knows;
  }
