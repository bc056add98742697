-- How a lane comes to have the counts of more gains.
use Rattle.std.proofs.Common.{◌≡◌, ◌≢◌, ℕ, ◌+◌, ◌<◌, ◌≤◌, List, Option, Some, length, set, refl, sym, subst, ap, ◌∙◌, inl, inr, arith, ℤ}
use Rattle.std.proofs.Math.ListN.{length-set}
use Rattle.std.proofs.lemmas.Bool.{cases_lt}
use Rattle.l3_count.specs.Count.{Counted, count_of}
use Rattle.l3_count.specs.Memo.{IsLaneOf, IsMemo, LaneView, kept_at, lane_of, memo_at, with_count}
use Rattle.l3_count.proofs.Memos.{kept_at-put, kept_at-put_other, lane_of-set, lane_of-set_other}
use Rattle.l3_search.specs.Gain.{HasCountsTo, HasLaneTo}

-- a list is as long before a count is put in as after that
long_before : (memo after : List (Option Counted)) (at : ℕ) (o : Option Counted) →
    after ≡ set memo at o → length after ≡ 256 → length memo ≡ 256
long_before memo after at o e long = sym (length-set memo at o) ∙ (ap (λ (m : List (Option Counted)). length m) (sym e) ∙ long)

memo_before : (memo after : List LaneView) (at : ℕ) (l : LaneView) → after ≡ set memo at l →
    length after ≡ 4 → length memo ≡ 4
memo_before memo after at l e long = sym (length-set memo at l) ∙ (ap (λ (m : List LaneView). length m) (sym e) ∙ long)

-- a count that was put in
pub HasCountsTo-put : (edges amp : List ℕ) (lines : List ℤ) (gain : ℕ) (c : Counted) (memo after : List (Option Counted)) → length memo ≡ 256 → c.gain ≤ 255 → c.gain ≡ gain →
    count_of edges amp lines gain ≡ Some c → after ≡ set memo c.gain (Some c) →
    HasCountsTo edges amp lines gain gain memo after
HasCountsTo-put edges amp lines gain c memo after long most at is e = record {
  counts = λ k low high.
      let same : k ≡ c.gain = omega arith in
      let here : count_of edges amp lines k ≡ Some c = ap (count_of edges amp lines) (same ∙ at) ∙ is in
      ap (λ (m : List (Option Counted)). kept_at m k) e ∙ (kept_at-put memo c k long most same ∙ sym here);
  below = λ k lt. let other : k ≢ c.gain = omega arith in ap (λ (m : List (Option Counted)). kept_at m k) e ∙ kept_at-put_other memo c k other;
  above = λ k lt. let other : k ≢ c.gain = omega arith in ap (λ (m : List (Option Counted)). kept_at m k) e ∙ kept_at-put_other memo c k other;
}

-- the same between other names of the gains
pub HasCountsTo-named : (edges amp : List ℕ) (lines : List ℤ) (a b first last : ℕ) (before after : List (Option Counted)) → a ≡ first → b ≡ last →
    HasCountsTo edges amp lines a b before after →
    HasCountsTo edges amp lines first last before after
HasCountsTo-named edges amp lines a b first last before after low high h = record {
  counts = λ k from to. h.counts k (omega arith) (omega arith);
  below = λ k lt. h.below k (omega arith);
  above = λ k lt. h.above k (omega arith);
}

-- one gain after the others
pub HasCountsTo-more : (edges amp : List ℕ) (lines : List ℤ) (first last : ℕ) (before now after : List (Option Counted)) → first ≤ last + 1 →
    HasCountsTo edges amp lines first last before now →
    HasCountsTo edges amp lines (last + 1) (last + 1) now after →
    HasCountsTo edges amp lines first (last + 1) before after
HasCountsTo-more edges amp lines first last before now after le h more = record {
  counts = λ k from to. elim (cases_lt k (last + 1)) [
    | inl lt ↦ more.below k lt ∙ h.counts k from (omega arith)
    | inr ge ↦ more.counts k ge to
  ];
  below = λ k lt. more.below k (omega arith) ∙ h.below k lt;
  above = λ k lt. more.above k lt ∙ h.above k (omega arith);
}

-- ---- lanes

-- a count that was put into a lane
pub HasLaneTo-put : (edges amp : List ℕ) (lines : List ℤ) (lane gain : ℕ) (c : Counted) (memo after : List LaneView) → lane < 4 → IsMemo after →
    (lane_of memo lane).amp ≡ amp → c.gain ≤ 255 → c.gain ≡ gain →
    count_of edges amp lines gain ≡ Some c →
    after ≡ set memo lane (with_count (lane_of memo lane) c) →
    HasLaneTo edges amp lines lane gain gain memo after
HasLaneTo-put edges amp lines lane gain c memo after lt is under most at own e =
    let long = memo_before memo after lane (with_count (lane_of memo lane) c) e is.long in
    let here : lane_of after lane ≡ with_count (lane_of memo lane) c =
    ap (λ (m : List LaneView). lane_of m lane) e ∙ lane_of-set memo lane (with_count (lane_of memo lane) c) long lt in
    let counts = ap (λ (l : LaneView). l.counts) here in
    let whole = long_before (lane_of memo lane).counts (lane_of after lane).counts c.gain (Some c) counts (is.lanes lane).long in
    record {
      amp_is = ap (λ (l : LaneView). l.amp) here ∙ under;
      counts = HasCountsTo-put edges amp lines gain c (lane_of memo lane).counts (lane_of after lane).counts whole most at own counts;
      others = λ k ne. ap (λ (m : List LaneView). lane_of m k) e ∙ lane_of-set_other memo lane k (with_count (lane_of memo lane) c) ne;
    }

-- a memo of which nothing was changed
pub HasLaneTo-same : (edges amp : List ℕ) (lines : List ℤ) (lane gain : ℕ) (c : Counted) (memo : List LaneView) → (lane_of memo lane).amp ≡ amp →
    IsLaneOf edges lines (lane_of memo lane) → memo_at memo lane gain ≡ Some c →
    HasLaneTo edges amp lines lane gain gain memo memo
HasLaneTo-same edges amp lines lane gain c memo under is e = record {
  amp_is = under;
  counts = record {
    counts = λ k low high.
        let same : k ≡ gain = omega arith in
        let own : count_of edges amp lines gain ≡ Some c = ap (λ (a : List ℕ). count_of edges a lines gain) (sym under) ∙ is gain c e in
        ap (kept_at (lane_of memo lane).counts) same ∙ (e ∙ (sym own ∙ ap (count_of edges amp lines) (sym same)));
    below = λ k lt. refl;
    above = λ k lt. refl;
  };
  others = λ k ne. refl;
}

-- the same between other names of the gains
pub HasLaneTo-named : (edges amp : List ℕ) (lines : List ℤ) (lane a b first last : ℕ) (before after : List LaneView) → a ≡ first → b ≡ last →
    HasLaneTo edges amp lines lane a b before after →
    HasLaneTo edges amp lines lane first last before after
HasLaneTo-named edges amp lines lane a b first last before after low high h = record {
  amp_is = h.amp_is;
  counts = HasCountsTo-named edges amp lines a b first last (lane_of before lane).counts (lane_of after lane).counts low high h.counts;
  others = h.others;
}

-- one gain after the others
pub HasLaneTo-more : (edges amp : List ℕ) (lines : List ℤ) (lane first last : ℕ) (before now after : List LaneView) → first ≤ last + 1 →
    HasLaneTo edges amp lines lane first last before now →
    HasLaneTo edges amp lines lane (last + 1) (last + 1) now after →
    HasLaneTo edges amp lines lane first (last + 1) before after
HasLaneTo-more edges amp lines lane first last before now after le h more = record {
  amp_is = more.amp_is;
  counts = HasCountsTo-more edges amp lines first last (lane_of before lane).counts (lane_of now lane).counts (lane_of after lane).counts le h.counts more.counts;
  others = λ k ne. more.others k ne ∙ h.others k ne;
}

-- with one more count of the spectrum the lane is still its lane
pub IsLaneOf-more : (edges amp : List ℕ) (lines : List ℤ) (lane first last : ℕ) (before after : List LaneView) → (lane_of before lane).amp ≡ amp →
    IsLaneOf edges lines (lane_of before lane) →
    HasLaneTo edges amp lines lane first last before after →
    IsLaneOf edges lines (lane_of after lane)
IsLaneOf-more edges amp lines lane first last before after under is has gain c e =
    let P : List ℕ → Type 0 = λ a. count_of edges a lines gain ≡ Some c in
    elim (cases_lt gain first) [
      | inl lt ↦ subst P (under ∙ sym has.amp_is) (is gain c (sym (has.counts.below gain lt) ∙ e))
      | inr low ↦ elim (cases_lt last gain) [
        | inl lt ↦ subst P (under ∙ sym has.amp_is) (is gain c (sym (has.counts.above gain lt) ∙ e))
        | inr high ↦ subst P (sym has.amp_is) (sym (has.counts.counts gain low high) ∙ e)
      ]
    ]
