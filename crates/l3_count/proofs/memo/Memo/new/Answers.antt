use Rattle.std.proofs.Common.{◌≡◌, [], ◌∷◌, refl, subst, sym}
use Rattle.l3_base.specs.Amp.{no_amp}
use Rattle.l3_count.specs.Memo.{IsMemo, LaneView, empty_lane, empty_memo}
use Rattle.l3_count.proofs.Memos.{empty_memo-is}
use Rattle.l3_count.proofs.memo.Memo.new.Goals as goal

four : (a b c d : LaneView) → a ≡ empty_lane no_amp → b ≡ empty_lane no_amp →
    c ≡ empty_lane no_amp → d ≡ empty_lane no_amp →
    a ∷ b ∷ c ∷ d ∷ [] ≡ empty_memo
unfolding empty_memo
four a b c d e f g h = rw (e, f, g, h) refl

pub invariant_of-result : goal.invariant_of-result
invariant_of-result c = subst IsMemo (sym (four _ _ _ _ c.new.ensures c.new-2.ensures c.new-3.ensures c.new-4.ensures)) empty_memo-is

pub returns : goal.returns
returns c = four _ _ _ _ c.new.ensures c.new-2.ensures c.new-3.ensures c.new-4.ensures
