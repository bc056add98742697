-- What a unit and a granule take, by what the code finds of them.
use Rattle.std.proofs.Common.{◌≡◌, ◌∙◌, sym, ap, refl, ℕ, ◌+◌, List, [], ◌∷◌, length, slice_set, arith}
use Rattle.std.specs.Prelude.{ℤ}
use Rattle.l3_base.specs.Amp.{no_amp}
use Rattle.l3_base.specs.declared.settings.Settings.{Settings}
use Rattle.l3_base.specs.declared.rate.Channels.{Channels}
use Rattle.l3_base.specs.declared.rate.Channels.TheVariants.{Mono, Stereo}
use Rattle.l3_base.specs.Lengths.{mean_bits_of}
use Rattle.l3_search.specs.Budget.{left_by}
use Rattle.l3_search.specs.Gain.{tried_of}
use Rattle.l3_stream.specs.declared.unit.Unit.{Unit}
use Rattle.l3_stream.specs.Frames.{blank}
use Rattle.l3_commit.specs.Units.{unit_within}
use Rattle.l3_base.specs.Bands.{band_edges}
use Rattle.l3_commit.specs.Choice.{budget_at, unit_chosen, after_unit, granule_by, reserve_by, granule_chosen, after_granule}
use Rattle.l3_commit.specs.Tried.{unit_tried, granule_tried_by, granule_tried}

-- a unit is the chosen one, with the reserve after it and the gains that it tries
pub record IsTaken (st : Settings) (n reserve : ℕ) (lines : List ℤ) (u : Unit) (after tried : ℕ) : Type 0 where
  pub unit_is : u ≡ unit_chosen st n reserve lines
  pub after_is : after ≡ after_unit st n reserve lines
  pub tried_is : tried ≡ unit_tried st n reserve lines

pub unit-taken : (st : Settings) (n reserve budget : ℕ) (lines : List ℤ) (u : Unit) (after tried : ℕ) → budget ≡ budget_at st n reserve lines → u ≡ unit_within st budget lines
    → after ≡ left_by reserve (mean_bits_of st n) u.length → tried ≡ tried_of (band_edges st.sample_rate) no_amp lines budget → IsTaken st n reserve lines u after tried
unfolding after_unit unit_tried
unit-taken st n reserve budget lines u after tried budget_is unit_is after_is tried_is =
    let is : u ≡ unit_chosen st n reserve lines = unit_is ∙ ap (λ k. unit_within st k lines) budget_is in
    record {
      unit_is = is;
      after_is = after_is ∙ ap (λ (v : Unit). left_by reserve (mean_bits_of st n) v.length) is;
      tried_is = tried_is ∙ ap (λ k. tried_of (band_edges st.sample_rate) no_amp lines k) budget_is;
    }

pub both-set : {A : Type 0} (us : List A) (u v : A) → length us ≡ 2 → slice_set (slice_set us 0 u) 1 v ≡ u ∷ v ∷ []
both-set [] u v e = absurd (omega arith)
both-set (a ∷ []) u v e = absurd (omega arith)
both-set (a ∷ b ∷ []) u v e = refl
both-set (a ∷ b ∷ c ∷ us) u v e = absurd (omega arith)

-- a granule is the chosen one, with the reserve after it and the gains that it tries
pub record IsGranule (st : Settings) (n reserve : ℕ) (lines : ℕ → List ℤ) (units : List Unit) (after tried : ℕ) : Type 0 where
  pub units_are : units ≡ granule_chosen st n reserve lines
  pub after_is : after ≡ after_granule st n reserve lines
  pub tried_is : tried ≡ granule_tried st n reserve lines

granule-by : (st : Settings) (n reserve : ℕ) (lines : ℕ → List ℤ) (units : List Unit) (after tried : ℕ) (ch : Channels) → st.channels ≡ ch → units ≡ granule_by ch st n reserve lines
    → after ≡ reserve_by ch st n reserve lines → tried ≡ granule_tried_by ch st n reserve lines → IsGranule st n reserve lines units after tried
unfolding granule_chosen after_granule granule_tried
granule-by st n reserve lines units after tried ch e units_are after_is tried_is = record {
  units_are = units_are ∙ sym (ap (λ (c : Channels). granule_by c st n reserve lines) e);
  after_is = after_is ∙ sym (ap (λ (c : Channels). reserve_by c st n reserve lines) e);
  tried_is = tried_is ∙ sym (ap (λ (c : Channels). granule_tried_by c st n reserve lines) e);
}

pub granule-mono : (st : Settings) (n reserve : ℕ) (lines : ℕ → List ℤ) (units : List Unit) (u none : Unit) (after tried : ℕ) → st.channels ≡ Mono → length units ≡ 2
    → IsTaken st n reserve (lines 0) u after tried → none ≡ blank → IsGranule st n reserve lines (slice_set (slice_set units 0 u) 1 none) after tried
granule-mono st n reserve lines units u none after tried e two first is =
    granule-by st n reserve lines (slice_set (slice_set units 0 u) 1 none) after tried Mono e
    (both-set units u none two ∙ (ap (λ (x : Unit). x ∷ none ∷ []) first.unit_is ∙ ap (λ (x : Unit). unit_chosen st n reserve (lines 0) ∷ x ∷ []) is)) first.after_is first.tried_is

pub granule-stereo : (st : Settings) (n reserve mid : ℕ) (lines : ℕ → List ℤ) (units : List Unit) (u v : Unit) (after tried more : ℕ) → st.channels ≡ Stereo → length units ≡ 2
    → IsTaken st n reserve (lines 0) u mid tried → IsTaken st n mid (lines 1) v after more → IsGranule st n reserve lines (slice_set (slice_set units 0 u) 1 v) after (tried + more)
granule-stereo st n reserve mid lines units u v after tried more e two first second =
    let is = first.after_is in
    granule-by st n reserve lines (slice_set (slice_set units 0 u) 1 v) after (tried + more) Stereo e
    (both-set units u v two
    ∙ (ap (λ (x : Unit). x ∷ v ∷ []) first.unit_is
    ∙ ap (λ (x : Unit). unit_chosen st n reserve (lines 0) ∷ x ∷ []) (second.unit_is ∙ ap (λ r. unit_chosen st n r (lines 1)) is)))
    (second.after_is ∙ ap (λ r. after_unit st n r (lines 1)) is)
    (ap (λ k. k + more) first.tried_is ∙ ap (λ k. unit_tried st n reserve (lines 0) + k) (second.tried_is ∙ ap (λ r. unit_tried st n r (lines 1)) is))
