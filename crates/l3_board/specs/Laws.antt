-- What holds of every run of the board machine, and so of every list of events.
use Rattle.std.specs.Prelude.{◌≡◌, ◌≢◌, ◌≤◌, ◌+◌, ◌==◌, ℕ, Bool, List, length, count_by}
use Rattle.std.specs.List.{flat_map}
use Rattle.l3_board.specs.declared.cell.Content.{Content}
use Rattle.l3_board.specs.declared.event.Event.{Event}
use Rattle.l3_board.specs.declared.event.Event.TheVariants as event
use Rattle.l3_board.specs.declared.event.Answer.{Answer}
use Rattle.l3_board.specs.Machine.{BoardState, IsSound, Step, Run, fresh, held_of}
use Rattle.l3_board.specs.Replies.{reply, after_event, replies, state_after}
use Rattle.l3_board.specs.Items.{items_of, spent, on_offer, ready, given, handed_out, replaced, job, as_offered, got}
use Rattle.l3_board.specs.Items.{put_on_offer, kept, left_as_spent, taken, along}

module _ {T : Type 0} where
  -- of what cells hold so, as many that pass p are there before or come in, as go out or are there
  -- after
  abbrev pub Balance : {A : Type 0} → (A → Bool) → (Content T → List A) → BoardState T → List A → List A → BoardState T → Type 0
  Balance p held before come_in go_out after =
      count_by p (flat_map held before.cells) + count_by p come_in
      ≡ count_by p go_out + count_by p (flat_map held after.cells)

module _ {T : Type 0} (number : T → ℕ) where
  -- the answers in which claims take the least number are a run of the machine
  abbrev pub RepliesRun : Type 0
  RepliesRun =
      (board : BoardState T) (events : List (Event T)) → IsSound number board →
      Run number board events (replies number board events) (state_after number board events)

  -- an event other than a claim has one answer, and one board after it
  abbrev pub OneOutcome : Type 0
  OneOutcome =
      (before after : BoardState T) (e : Event T) (a : Answer T) → Step number before e a after →
      e ≢ event.Claim → (a ≡ reply number before e) × (after ≡ after_event number before e)

  -- a board stays sound, keeps its cells, and holds at most as many granules
  abbrev pub CellsStay : Type 0
  CellsStay =
      (before after : BoardState T) (events : List (Event T)) (answers : List (Answer T)) →
      Run number before events answers after →
      (IsSound number before → IsSound number after)
      × (length after.cells ≡ length before.cells)
      × (held_of after ≤ length before.cells)

  -- how many of these items are of granule i
  abbrev pub count_of : ℕ → List T → ℕ
  count_of i items = count_by (λ x. number x == i) items

  -- from a fresh board on, no granule is handed to more claimants than it was put on offer, nor
  -- taken more often:
  -- one that was put on offer once goes to one claimant at most, and is taken once at most
  abbrev pub HandedOutOnce : Type 0
  HandedOutOnce =
      (blanks : List T) (after : BoardState T) (events : List (Event T)) (answers : List (Answer T)) →
      Run number (fresh blanks) events answers after → (i : ℕ) →
      (count_of i (flat_map job answers) ≤ count_of i (along put_on_offer events answers))
      × (count_by (λ j. j == i) (along taken events answers) ≤ count_of i (along put_on_offer events answers))

  -- by any test of items: claims, and takes that revoke, hand out what was put on offer; other
  -- takes what was kept;
  -- and offers what stays as spent, late items among it, which goes out in no other way
  abbrev pub ItemsPass : Type 0
  ItemsPass =
      (before after : BoardState T) (events : List (Event T)) (answers : List (Answer T)) →
      Run number before events answers after → (p : T → Bool) →
      Balance p on_offer before (along put_on_offer events answers) (flat_map as_offered answers) after
      × Balance p ready before (along kept events answers) (flat_map got answers) after
      × Balance p spent before (along left_as_spent events answers) (flat_map replaced answers) after

  -- by any test of items: none is lost or made
  abbrev pub ItemsStay : Type 0
  ItemsStay =
      (before after : BoardState T) (events : List (Event T)) (answers : List (Answer T)) →
      Run number before events answers after → (p : T → Bool) →
      Balance p items_of before (flat_map given events) (flat_map handed_out answers) after
