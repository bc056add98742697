use Rattle.std.proofs.Common.{◌≡◌, ◌⊎◌, ◌∙◌, ◌+◌, ◌*◌, ◌≤◌, ℕ, true, ap, subst, sym}
use Rattle.std.specs.Prelude.{OnErr, OnOk, max}
use Rattle.l3_wav.specs.Holding.{WindowsView, GoesOn}
use Rattle.l3_wav.specs.ReadingOn.{AreGone}
use Rattle.l3_commit.specs.Standing.{CommitterView, StandsOn, own_in}
use Rattle.l3_commit.specs.Tracks.{next_of}
use Rattle.l3_commit.proofs.Kept.{keeps-reading}
use Rattle.l3_commit.proofs.Standings.{OnOk-map, stands-read}
use Rattle.l3_commit.proofs.committer.Committer.read_ahead.Goals as goal

pub returns-clause-stands : goal.returns-clause-stands
returns-clause-stands g c =
    let left = g.S.Source.left in
    let w = c.self.inside in
    let now = c.args.self.now in
    let new : CommitterView = record { track = w.track; windows = c.read_ahead.new.self; offers = w.offers; own = own_in w.settings w.own; is_ready = w.is_ready } in
    let old_left = left c.args.source.now in
    let new_left = left c.read_ahead.new.source in
    OnOk-map c.read_ahead.result (GoesOn w.windows c.read_ahead.new.self old_left new_left) (StandsOn now new old_left new_left)
    (λ on. stands-read now new old_left new_left (ap (λ (v : CommitterView). v.track) c.self.view_is) (ap (λ (v : CommitterView). v.own) c.self.view_is) (ap (λ (v : CommitterView). v.is_ready) c.self.view_is)
    (subst (λ (v : CommitterView). GoesOn v.windows c.read_ahead.new.self old_left new_left) c.self.view_is on))
    c.read_ahead.ensures.content

pub returns-clause-content : goal.returns-clause-content
returns-clause-content g c =
    let left = g.S.Source.left in
    let old_left = left c.args.source.now in
    let new_left = left c.read_ahead.new.source in
    let was = ap (λ (v : CommitterView). v.windows) c.self.view_is in
    subst (λ (w : WindowsView). OnOk c.read_ahead.result (GoesOn w c.read_ahead.new.self old_left new_left)) was c.read_ahead.ensures.content

-- what it asks and says at the number that comes next
pub read_ahead-requires-clause-turn : goal.read_ahead-requires-clause-turn
read_ahead-requires-clause-turn g c κs within =
    let there = subst (λ (v : CommitterView). (next_of v.track ≡ v.windows.base) ⊎ (next_of v.track ≡ v.windows.base + 1)) (sym c.self.view_is) c.requires.turn in
    subst (λ (n : ℕ). (n ≡ c.self.inside.windows.base) ⊎ (n ≡ c.self.inside.windows.base + 1)) (sym c.next.ensures.value) there

pub read_ahead-requires-clause-limit : goal.read_ahead-requires-clause-limit
read_ahead-requires-clause-limit g c κs within = subst (λ (n : ℕ). n ≤ 8589934592) (sym (c.next.ensures.value ∙ ap (λ (v : CommitterView). next_of v.track) c.self.view_is)) c.requires.limit

pub read_ahead-requires-clause-sound : goal.read_ahead-requires-clause-sound
read_ahead-requires-clause-sound g c κs within = ap (λ (v : CommitterView). v.windows.samples.failed) c.self.view_is ∙ c.requires.sound

pub invariant_of-self : goal.invariant_of-self
invariant_of-self g c =
    let w = c.self.inside in
    keeps-reading w.settings w.track w.windows c.read_ahead.new.self w.offers w.own w.is_ready c.self.invariant c.read_ahead.ensures.same.1

pub returns-clause-base : goal.returns-clause-base
returns-clause-base g c = subst (λ (n : ℕ). OnOk c.read_ahead.result (c.read_ahead.new.self.base ≡ n)) (c.next.ensures.value ∙ ap (λ (v : CommitterView). next_of v.track) c.self.view_is) c.read_ahead.ensures.base

pub returns-clause-at_hand : goal.returns-clause-at_hand
returns-clause-at_hand g c =
    let new = c.read_ahead.new.self in
    subst (λ (v : CommitterView). OnOk c.read_ahead.result ((new.ended ≡ true) ⊎ (576 * (next_of v.track + v.windows.ahead) ≤ new.read))) c.self.view_is
    (subst (λ (n : ℕ). OnOk c.read_ahead.result ((new.ended ≡ true) ⊎ (576 * (n + c.self.inside.windows.ahead) ≤ new.read))) c.next.ensures.value c.read_ahead.ensures.at_hand)

pub returns-clause-few : goal.returns-clause-few
returns-clause-few g c =
    let new = c.read_ahead.new.self in
    subst (λ (v : CommitterView). new.read ≤ max v.windows.read (576 * (next_of v.track + v.windows.ahead))) c.self.view_is
    (subst (λ (n : ℕ). new.read ≤ max c.self.inside.windows.read (576 * (n + c.self.inside.windows.ahead))) c.next.ensures.value c.read_ahead.ensures.few)

pub returns-clause-grows : goal.returns-clause-grows
returns-clause-grows g c = subst (λ (v : CommitterView). v.windows.read ≤ c.read_ahead.new.self.read) c.self.view_is c.read_ahead.ensures.grows

pub returns-clause-ahead : goal.returns-clause-ahead
returns-clause-ahead g c = c.read_ahead.ensures.same.1 ∙ ap (λ (v : CommitterView). v.windows.ahead) c.self.view_is

pub returns-clause-gone : goal.returns-clause-gone
returns-clause-gone g c =
    let left = g.S.Source.left in
    let old_left = left c.args.source.now in
    let new_left = left c.read_ahead.new.source in
    subst (λ (v : CommitterView). OnOk c.read_ahead.result (AreGone v.windows.samples.remaining c.read_ahead.new.self.samples.remaining old_left new_left)) c.self.view_is c.read_ahead.ensures.gone

pub returns-clause-some : goal.returns-clause-some
returns-clause-some g c =
    let left = g.S.Source.left in
    let old_left = left c.args.source.now in
    let new_left = left c.read_ahead.new.source in
    subst (λ (v : CommitterView). OnErr c.read_ahead.result (AreGone v.windows.samples.remaining 0 old_left new_left)) c.self.view_is c.read_ahead.ensures.some

pub returns-clause-done : goal.returns-clause-done
returns-clause-done g c = c.read_ahead.ensures.done

pub returns-clause-sound : goal.returns-clause-sound
returns-clause-sound g c = c.read_ahead.ensures.sound

pub returns-clause-failed : goal.returns-clause-failed
returns-clause-failed g c = c.read_ahead.ensures.failed

pub returns-clause-cause : goal.returns-clause-cause
returns-clause-cause g c = c.read_ahead.ensures.cause
