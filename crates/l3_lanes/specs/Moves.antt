-- What each kind of step does to what a seat knows of the history: eight kinds make a move, the
-- others none.
use Rattle.std.specs.Prelude.{◌≡◌, ◌==◌, ◌/◌, ◌%◌, ℕ, [], Some, MatchBool, slice_index_or}
use Rattle.atomic_table.specs.Table.{Step, Me}
use Rattle.l3_board.specs.declared.event.Event.{Event}
use Rattle.l3_board.specs.declared.event.Event.TheVariants as event
use Rattle.l3_board.specs.declared.event.Answer.{Answer}
use Rattle.l3_board.specs.declared.event.Answer.TheVariants as answer
use Rattle.l3_board.specs.declared.event.Offer.TheVariants.{Placed, Busy}
use Rattle.l3_board.specs.declared.event.Claim.TheVariants.{Job}
use Rattle.l3_board.specs.declared.event.Deposit.TheVariants.{Kept, Late}
use Rattle.l3_board.specs.declared.event.Take.TheVariants.{Got, Revoked, InWork}
use Rattle.l3_lanes.specs.declared.view.View.{View}
use Rattle.l3_lanes.specs.declared.view.Tell.TheVariants.{Free}
use Rattle.l3_lanes.specs.declared.view.Past.{Past}
use Rattle.l3_lanes.specs.declared.view.Knowledge.{Knowledge}
use Rattle.l3_lanes.specs.Views.{known, opening_desk, newcomer}
use Rattle.l3_lanes.specs.History.{Extends, Sees, Answers, bare}

-- the past of a seat that has seen no move and made none
abbrev pub no_past : Past
no_past = record { seen = []; mine = [] }

abbrev pub blank : View → Knowledge
blank v = record { view = v; past = no_past }

-- the desk of so many cells at the start
abbrev pub opening_knowledge : ℕ → Knowledge
opening_knowledge count = blank (opening_desk count)

-- a new worker, split from a seat
abbrev pub new_knowledge : Knowledge → Knowledge
new_knowledge k = blank (newcomer k.view)

-- what a step tells of the view and the slots
abbrev pub Says : Type 0 → Type 1
Says S = Step S → Me S View → ℕ → Me S View → Type 0

-- what it tells of the past as well
abbrev pub Tells : Type 0 → Type 1
Tells S = Step S → Me S Knowledge → ℕ → Me S Knowledge → Type 0

module _ {S : Type 0} where
  -- the seat makes no move
  abbrev pub Unmoved : Says S → Tells S
  Unmoved says s me n new = says s (bare me) n (bare new) × (new.0.past ≡ me.0.past)

  -- the seat makes no move, and sees the history where it reads the word for shut
  abbrev pub Looked : Says S → Tells S
  Looked says s me n new = says s (bare me) n (bare new)
      × MatchBool (s.word == s.slots) (Sees s.slots (n == 1) me.0.past new.0.past) (new.0.past ≡ me.0.past)

  -- the desk makes no move, and sees the history where it reads that a cell is not empty: an offer
  -- there is busy
  abbrev pub LooksBusy : Says S → Tells S
  LooksBusy says s me n new = says s (bare me) n (bare new)
      × MatchBool (n == 0) (new.0.past ≡ me.0.past)
      ((i : ℕ) → i % s.slots ≡ s.word → Answers s.slots me.0.past (event.Offer i) (answer.Offer (Busy i)) new.0.past)

  -- the seat makes a move where it found the word s.first, and else none
  abbrev pub MovesAt : Says S → (ℕ → Event ℕ) → (ℕ → Answer ℕ) → Tells S
  MovesAt says e a s me n new =
      says s (bare me) n (bare new)
      × MatchBool (n == s.first) (Extends s.slots me.0.past (e (s.first / 8)) (a (s.first / 8)) new.0.past) (new.0.past ≡ me.0.past)

  abbrev pub OffersMove : Says S → Tells S
  OffersMove says s me n new = says s (bare me) n (bare new)
      × ((spent : ℕ) × Extends s.slots me.0.past (event.Offer (s.first / 8)) (answer.Offer (Placed spent)) new.0.past)

  abbrev pub ClaimsMove : Says S → Tells S
  ClaimsMove says = MovesAt says (λ i. event.Claim) (λ i. answer.Claim (Job i))

  abbrev pub DepositsMove : Says S → Tells S
  DepositsMove says = MovesAt says event.Deposit (λ i. answer.Deposit Kept)

  -- of the granule that the seat has claimed there
  abbrev pub FreesMove : Says S → Tells S
  FreesMove says s me n new = says s (bare me) n (bare new)
      × ((i : ℕ) → me.0.view.claim ≡ Some (s.word, i) → Extends s.slots me.0.past (event.Deposit i) (answer.Deposit Late) new.0.past)

  abbrev pub RevokesMove : Says S → Tells S
  RevokesMove says = MovesAt says (λ i. event.Take i 0) (λ i. answer.Take (Revoked i))

  abbrev pub WithdrawsMove : Says S → Tells S
  WithdrawsMove says = MovesAt says (λ i. event.Take i 0) (λ i. answer.Take (InWork 0))

  -- of the granule that the desk knows there
  abbrev pub TakesMove : Says S → Tells S
  TakesMove says s me n new = says s (bare me) n (bare new)
      × ((i : ℕ) → known (slice_index_or me.0.view.tells s.word Free) ≡ Some i → Extends s.slots me.0.past (event.Take i 0) (answer.Take (Got i)) new.0.past)

  abbrev pub ShutsMove : Says S → Tells S
  ShutsMove says s me n new = says s (bare me) n (bare new) × Extends s.slots me.0.past event.Shut answer.Shut new.0.past
