-- What a committer keeps, from what its calls change of it.
use Rattle.std.proofs.Common.{◌≡◌, ◌∙◌, sym, ap, subst, refl, ℕ, ◌<◌, ◌≤◌, Bool, true, false, length, arith}
use Rattle.std.specs.Prelude.{Option, Some, None, Result, Ok, Err, IfOk, is_some, max}
use Rattle.std.proofs.lemmas.List.{length-replicate}
use Rattle.l3_base.specs.declared.settings.Settings.{Settings}
use Rattle.l3_analysis.specs.Piece.{PieceView}
use Rattle.l3_board.specs.Offers.{OffersView, no_offers}
use Rattle.l3_wav.specs.Holding.{WindowsView}
use Rattle.l3_commit.specs.Ahead.{IsFit}
use Rattle.l3_commit.specs.Standing.{IsCommitter}
use Rattle.l3_commit.specs.Tracks.{TrackView, first_track, next_of}

-- its own piece is there between calls
pub not-out : {A : Type 0} (own took : Option A) → is_some own ≡ true → took ≡ own → took ≡ None → ⊥
not-out None took there is none = absurd cc
not-out (Some p) took there is none = absurd cc

pub below-limit : (limit number next now : ℕ) → limit < number → number ≡ next → next ≡ now → now ≤ limit → ⊥
below-limit limit number next now low e f high = omega arith

pub few-ahead : (ahead placed cells : ℕ) → ahead ≡ max 1 placed → placed ≡ cells → cells ≤ ahead
few-ahead ahead placed cells e f = omega arith

pub same-placed : (new old now cells : ℕ) → new ≡ cells → old ≡ now → now ≡ cells → new ≡ old
same-placed new old now cells a b c = a ∙ (sym c ∙ sym b)

-- its piece is any piece
pub keeps-waiting : (st : Settings) (t u : TrackView) (w : WindowsView) (o p : OffersView) (own : Option PieceView) (is_ready : Bool) (mine : PieceView) → IsCommitter st t w o own is_ready
    → u.settings ≡ t.settings → length p.placed ≡ length o.placed → IsCommitter st u w p (Some mine) false
keeps-waiting st t u w o p own is_ready mine k settings same = record {
  settings_are = settings ∙ k.settings_are;
  there = refl;
  few = subst (λ n. n ≤ 64) (sym same) k.few;
  ahead = k.ahead ∙ ap (max 1) (sym same);
  number_is = λ (bad : false ≡ true). absurd cc;
  own_settings = λ (bad : false ≡ true). absurd cc;
  made = λ (bad : false ≡ true). absurd cc;
}

-- its piece is that of the granule that comes next
pub keeps-ready : (st : Settings) (t : TrackView) (w : WindowsView) (o : OffersView) (own : Option PieceView) (is_ready : Bool) (number : ℕ) (mine : PieceView) → IsCommitter st t w o own is_ready
    → IsFit st w number mine → number ≡ next_of t → IsCommitter st t w o (Some mine) true
keeps-ready st t w o own is_ready number mine k fit next = record {
  settings_are = k.settings_are;
  there = refl;
  few = k.few;
  ahead = k.ahead;
  number_is = λ _. fit.number_is ∙ next;
  own_settings = λ _. fit.settings_are;
  made = λ _. fit.made;
}

-- samples were read
pub keeps-reading : (st : Settings) (t : TrackView) (w v : WindowsView) (o : OffersView) (own : Option PieceView) (is_ready : Bool) → IsCommitter st t w o own is_ready → v.ahead ≡ w.ahead
    → IsCommitter st t v o own is_ready
keeps-reading st t w v o own is_ready k same = record {
  settings_are = k.settings_are;
  there = k.there;
  few = k.few;
  ahead = same ∙ k.ahead;
  number_is = k.number_is;
  own_settings = k.own_settings;
  made = k.made;
}

-- nothing is said of what could not be made
pub IfOk-gone : {T E : Type 0} (result : Result T E) (P : T → Type 0) (e : E) → result ≡ Err e → IfOk result P
IfOk-gone (Ok x) P e is = absurd cc
IfOk-gone (Err _) P e is = tt

pub max-swapped : (a b : ℕ) → max a b ≡ max b a
max-swapped a b = omega arith

-- it begins
pub keeps-opened : (st : Settings) (t : TrackView) (w : WindowsView) (o : OffersView) (mine : PieceView) (cells ahead : ℕ) → t ≡ first_track st → o ≡ no_offers cells → w.ahead ≡ ahead → ahead ≡ max cells 1
    → cells ≤ 64 → IsCommitter st t w o (Some mine) false
keeps-opened st t w o mine cells ahead start none far most small = record {
  settings_are = ap (λ (u : TrackView). u.settings) start;
  there = refl;
  few = subst (λ n. n ≤ 64) (sym long) small;
  ahead = far ∙ (most ∙ (max-swapped cells 1 ∙ ap (max 1) (sym long)));
  number_is = λ (bad : false ≡ true). absurd cc;
  own_settings = λ (bad : false ≡ true). absurd cc;
  made = λ (bad : false ≡ true). absurd cc;
}
  where
    long : length o.placed ≡ cells
    long = ap (λ (v : OffersView). length v.placed) none ∙ length-replicate cells None
