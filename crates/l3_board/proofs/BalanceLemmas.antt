-- Where items go in a run: counts along a run, and the balance of each step.
use Rattle.std.proofs.Common.{◌≡◌, ◌≤◌, ◌+◌, ◌==◌, ℕ, Bool, cond, count_by, map, List, [], ◌∷◌, ◌++◌, refl, ap, sym, ◌∙◌, arith}
use Rattle.std.specs.List.{flat_map, sum_by}
use Rattle.std.proofs.lemmas.List.Sums.{sum_by-append, sum_by-cons}
use Rattle.l3_board.specs.declared.cell.Content.{Content}
use Rattle.l3_board.specs.declared.cell.Content.TheVariants.{Empty, Offered, Claimed, Ready, Withdrawn}
use Rattle.l3_board.specs.declared.event.Event.{Event}
use Rattle.l3_board.specs.declared.event.Event.TheVariants as event
use Rattle.l3_board.specs.declared.event.Answer.{Answer}
use Rattle.l3_board.specs.declared.event.Answer.TheVariants as answer
use Rattle.l3_board.specs.declared.event.Offer.TheVariants.{Placed, Busy}
use Rattle.l3_board.specs.declared.event.Claim.TheVariants.{Job, Nothing, Shut}
use Rattle.l3_board.specs.declared.event.Deposit.TheVariants.{Kept, Late, Stray}
use Rattle.l3_board.specs.declared.event.Take.TheVariants.{Got, Revoked, InWork, NotOffered}
use Rattle.l3_board.specs.Machine.{BoardState, Step, Run, fresh}
use Rattle.l3_board.specs.Items.{items_of, spent, on_offer, ready, given, handed_out, replaced, job, as_offered, got, put_on_offer, kept, left_as_spent, taken, along}
use Rattle.l3_board.specs.Laws.{Balance, HandedOutOnce, ItemsPass, ItemsStay}
use Rattle.l3_board.proofs.FlowLemmas.{change, lost, gained, total, sums-run}

count_by-append : {A : Type 0} (p : A → Bool) (xs ys : List A) → count_by p (xs ++ ys) ≡ count_by p xs + count_by p ys
count_by-append p xs ys = sum_by-append (λ x. cond (p x) 1 0) xs ys

-- a count over parts is the sum of the counts
count_by-flat_map : {X A : Type 0} (p : A → Bool) (f : X → List A) (xs : List X) → count_by p (flat_map f xs) ≡ sum_by (λ x. count_by p (f x)) xs
count_by-flat_map p f [] = refl
count_by-flat_map p f (x ∷ xs) =
    count_by-append p (f x) (flat_map f xs) ∙ ap (λ n. count_by p (f x) + n) (count_by-flat_map p f xs) ∙ sym (sum_by-cons (λ y. count_by p (f y)) x xs)

count_by-map : {A B : Type 0} (f : A → B) (q : B → Bool) (xs : List A) → count_by q (map f xs) ≡ count_by (λ x. q (f x)) xs
count_by-map f q [] = refl
count_by-map f q (x ∷ xs) =
    sum_by-cons (λ y. cond (q y) 1 0) (f x) (map f xs) ∙ ap (λ n. cond (q (f x)) 1 0 + n) (count_by-map f q xs) ∙ sym (sum_by-cons (λ y. cond (q (f y)) 1 0) x xs)

sum_by-mono : {X : Type 0} (f g : X → ℕ) → ((x : X) → f x ≤ g x) → (xs : List X) → sum_by f xs ≤ sum_by g xs
sum_by-mono f g each [] = omega arith
sum_by-mono f g each (x ∷ xs) = rw (sum_by-cons f x xs, sum_by-cons g x xs) (let one = each x in let rest = sum_by-mono f g each xs in omega arith)

module _ {T : Type 0} (number : T → ℕ) where
  along_total : {A : Type 0} (p : A → Bool) (f : Event T → Answer T → List A) (events : List (Event T)) (answers : List (Answer T)) → count_by p (along f events answers) ≡ total number (λ e a. count_by p (f e a)) events answers
  along_total p f [] answers = refl
  along_total p f (e ∷ events) [] = refl
  along_total p f (e ∷ events) (a ∷ answers) = count_by-append p (f e a) (along f events answers) ∙ ap (λ n. count_by p (f e a) + n) (along_total p f events answers)

  -- in a run each event has its answer
  events_along : {A : Type 0} (f : Event T → List A) (before after : BoardState T) (events : List (Event T)) (answers : List (Answer T)) → Run number before events answers after → along (λ e a. f e) events answers ≡ flat_map f events
  events_along f before after [] [] run = refl
  events_along f before after (e ∷ events) (a ∷ answers) run = ap (λ xs. f e ++ xs) (events_along f run.0 after events answers run.2)
  events_along f before after [] (a ∷ answers) run = absurd run
  events_along f before after (e ∷ events) [] run = absurd run

  answers_along : {A : Type 0} (f : Answer T → List A) (before after : BoardState T) (events : List (Event T)) (answers : List (Answer T)) → Run number before events answers after → along (λ e a. f a) events answers ≡ flat_map f answers
  answers_along f before after [] [] run = refl
  answers_along f before after (e ∷ events) (a ∷ answers) run = ap (λ xs. f a ++ xs) (answers_along f run.0 after events answers run.2)
  answers_along f before after [] (a ∷ answers) run = absurd run
  answers_along f before after (e ∷ events) [] run = absurd run

  -- that a step balances: what comes in and the cell loses, goes out or the cell gains
  abbrev StepBalances : {A : Type 0} → (A → Bool) → (Content T → List A) → (Event T → Answer T → List A) → (Event T → Answer T → List A) → Type 0
  StepBalances p held comes goes =
      (before after : BoardState T) (e : Event T) (a : Answer T) → Step number before e a after →
      count_by p (comes e a) + lost number (λ c. count_by p (held c)) (change number e a) ≡ count_by p (goes e a) + gained number (λ c. count_by p (held c)) (change number e a)

  Balance-run : {A : Type 0} (p : A → Bool) (held : Content T → List A) (comes goes : Event T → Answer T → List A) → StepBalances p held comes goes →
      (before after : BoardState T) (events : List (Event T)) (answers : List (Answer T)) → Run number before events answers after → Balance p held before (along comes events answers) (along goes events answers) after
  Balance-run p held comes goes each before after events answers run =
      rw (count_by-flat_map p held before.cells, count_by-flat_map p held after.cells, along_total p comes events answers, along_total p goes events answers)
      (sums-run number (λ c. count_by p (held c)) (λ e a. count_by p (comes e a)) (λ e a. count_by p (goes e a)) each before after events answers run)

  same_item : (p : T → Bool) (x y : T) → y ≡ x → count_by p (x ∷ []) + 0 ≡ count_by p (y ∷ []) + 0
  same_item p x y e = ap (λ z. count_by p (z ∷ []) + 0) (sym e)

  items_balance : (p : T → Bool) → StepBalances p items_of (λ e a. given e) (λ e a. handed_out a)
  items_balance p before after (event.Offer x) (answer.Offer (Placed y)) s = omega arith
  items_balance p before after (event.Offer x) (answer.Offer (Busy y)) s = same_item p x y s.1
  items_balance p before after event.Claim (answer.Claim Shut) s = refl
  items_balance p before after event.Claim (answer.Claim Nothing) s = refl
  items_balance p before after event.Claim (answer.Claim (Job x)) s = omega arith
  items_balance p before after (event.Deposit x) (answer.Deposit Kept) s = omega arith
  items_balance p before after (event.Deposit x) (answer.Deposit Late) s = omega arith
  items_balance p before after (event.Deposit x) (answer.Deposit (Stray y)) s = same_item p x y s.2
  items_balance p before after (event.Take i spare) (answer.Take (Got x)) s = omega arith
  items_balance p before after (event.Take i spare) (answer.Take (Revoked x)) s = omega arith
  items_balance p before after (event.Take i spare) (answer.Take (InWork y)) s = same_item p spare y s.1
  items_balance p before after (event.Take i spare) (answer.Take (NotOffered y)) s = same_item p spare y s.3
  items_balance p before after event.Shut answer.Shut s = refl
  items_balance p before after _ _ s = absurd s

  pub items_stay : ItemsStay number
  items_stay before after events answers run p =
      let b = Balance-run p items_of (λ e a. given e) (λ e a. handed_out a) (items_balance p) before after events answers run in
      rw (events_along given before after events answers run, answers_along handed_out before after events answers run) at b

  on_offer_balance : (p : T → Bool) → StepBalances p on_offer put_on_offer (λ e a. as_offered a)
  on_offer_balance p before after (event.Offer x) (answer.Offer (Placed y)) s = omega arith
  on_offer_balance p before after (event.Take i spare) (answer.Take (Got x)) s = refl
  on_offer_balance p before after (event.Take i spare) (answer.Take (Revoked x)) s = omega arith
  on_offer_balance p before after (event.Take i spare) (answer.Take (InWork y)) s = refl
  on_offer_balance p before after (event.Take i spare) (answer.Take (NotOffered y)) s = refl
  on_offer_balance p before after (event.Offer x) (answer.Offer (Busy y)) s = refl
  on_offer_balance p before after event.Claim (answer.Claim Shut) s = refl
  on_offer_balance p before after event.Claim (answer.Claim Nothing) s = refl
  on_offer_balance p before after event.Claim (answer.Claim (Job x)) s = omega arith
  on_offer_balance p before after (event.Deposit x) (answer.Deposit Kept) s = refl
  on_offer_balance p before after (event.Deposit x) (answer.Deposit Late) s = refl
  on_offer_balance p before after (event.Deposit x) (answer.Deposit (Stray y)) s = refl
  on_offer_balance p before after event.Shut answer.Shut s = refl
  on_offer_balance p before after _ _ s = absurd s

  ready_balance : (p : T → Bool) → StepBalances p ready kept (λ e a. got a)
  ready_balance p before after (event.Offer x) (answer.Offer (Placed y)) s = refl
  ready_balance p before after (event.Offer x) (answer.Offer (Busy y)) s = refl
  ready_balance p before after event.Claim (answer.Claim Shut) s = refl
  ready_balance p before after event.Claim (answer.Claim Nothing) s = refl
  ready_balance p before after event.Claim (answer.Claim (Job x)) s = refl
  ready_balance p before after (event.Deposit x) (answer.Deposit Kept) s = omega arith
  ready_balance p before after (event.Deposit x) (answer.Deposit Late) s = refl
  ready_balance p before after (event.Deposit x) (answer.Deposit (Stray y)) s = refl
  ready_balance p before after (event.Take i spare) (answer.Take (Got x)) s = omega arith
  ready_balance p before after (event.Take i spare) (answer.Take (Revoked x)) s = refl
  ready_balance p before after (event.Take i spare) (answer.Take (InWork y)) s = refl
  ready_balance p before after (event.Take i spare) (answer.Take (NotOffered y)) s = refl
  ready_balance p before after event.Shut answer.Shut s = refl
  ready_balance p before after _ _ s = absurd s

  spent_balance : (p : T → Bool) → StepBalances p spent left_as_spent (λ e a. replaced a)
  spent_balance p before after (event.Offer x) (answer.Offer (Placed y)) s = omega arith
  spent_balance p before after (event.Offer x) (answer.Offer (Busy y)) s = refl
  spent_balance p before after event.Claim (answer.Claim Shut) s = refl
  spent_balance p before after event.Claim (answer.Claim Nothing) s = refl
  spent_balance p before after event.Claim (answer.Claim (Job x)) s = refl
  spent_balance p before after (event.Deposit x) (answer.Deposit Kept) s = refl
  spent_balance p before after (event.Deposit x) (answer.Deposit Late) s = omega arith
  spent_balance p before after (event.Deposit x) (answer.Deposit (Stray y)) s = refl
  spent_balance p before after (event.Take i spare) (answer.Take (Got x)) s = omega arith
  spent_balance p before after (event.Take i spare) (answer.Take (Revoked x)) s = omega arith
  spent_balance p before after (event.Take i spare) (answer.Take (InWork y)) s = refl
  spent_balance p before after (event.Take i spare) (answer.Take (NotOffered y)) s = refl
  spent_balance p before after event.Shut answer.Shut s = refl
  spent_balance p before after _ _ s = absurd s

  pub items_pass : ItemsPass number
  items_pass before after events answers run p =
      let offers = Balance-run p on_offer put_on_offer (λ e a. as_offered a) (on_offer_balance p) before after events answers run in
      let readies = Balance-run p ready kept (λ e a. got a) (ready_balance p) before after events answers run in
      let spents = Balance-run p spent left_as_spent (λ e a. replaced a) (spent_balance p) before after events answers run in
      (rw (answers_along as_offered before after events answers run) at offers, rw (answers_along got before after events answers run) at readies, rw (answers_along replaced before after events answers run) at spents)

  -- the granule of a cell, until it is taken
  abbrev live : Content T → List ℕ
  live (Empty x) = []
  live (Offered x) = number x ∷ []
  live (Claimed i) = i ∷ []
  live (Ready x) = number x ∷ []
  live (Withdrawn i) = []

  -- the granule that is put on offer
  abbrev placed : Event T → Answer T → List ℕ
  placed e a = map number (put_on_offer e a)

  same_number : (p : ℕ → Bool) (i j : ℕ) → j ≡ i → 0 + count_by p (j ∷ []) ≡ count_by p (i ∷ []) + 0
  same_number p i j e = ap (λ n. 0 + count_by p (n ∷ [])) e ∙ omega arith

  live_balance : (p : ℕ → Bool) → StepBalances p live placed taken
  live_balance p before after (event.Offer x) (answer.Offer (Placed y)) s = omega arith
  live_balance p before after (event.Offer x) (answer.Offer (Busy y)) s = refl
  live_balance p before after event.Claim (answer.Claim Shut) s = refl
  live_balance p before after event.Claim (answer.Claim Nothing) s = refl
  live_balance p before after event.Claim (answer.Claim (Job x)) s = refl
  live_balance p before after (event.Deposit x) (answer.Deposit Kept) s = refl
  live_balance p before after (event.Deposit x) (answer.Deposit Late) s = refl
  live_balance p before after (event.Deposit x) (answer.Deposit (Stray y)) s = refl
  live_balance p before after (event.Take i spare) (answer.Take (Got x)) s = same_number p i (number x) s.1
  live_balance p before after (event.Take i spare) (answer.Take (Revoked x)) s = same_number p i (number x) s.1
  live_balance p before after (event.Take i spare) (answer.Take (InWork y)) s = omega arith
  live_balance p before after (event.Take i spare) (answer.Take (NotOffered y)) s = refl
  live_balance p before after event.Shut answer.Shut s = refl
  live_balance p before after _ _ s = absurd s

  -- a fresh board has nothing on offer, and no granule
  fresh-on_offer : (blanks : List T) → flat_map on_offer (map Empty blanks) ≡ []
  fresh-on_offer [] = refl
  fresh-on_offer (x ∷ blanks) = fresh-on_offer blanks

  fresh-live : (blanks : List T) → flat_map live (map Empty blanks) ≡ []
  fresh-live [] = refl
  fresh-live (x ∷ blanks) = fresh-live blanks

  placed_numbers : (i : ℕ) (events : List (Event T)) (answers : List (Answer T)) → count_by (λ j. j == i) (along placed events answers) ≡ count_by (λ x. number x == i) (along put_on_offer events answers)
  placed_numbers i [] answers = refl
  placed_numbers i (e ∷ events) [] = refl
  placed_numbers i (e ∷ events) (a ∷ answers) =
      let rest = placed_numbers i events answers in
      let one = count_by-map number (λ j. j == i) (put_on_offer e a) in
      let l = count_by-append (λ j. j == i) (placed e a) (along placed events answers) in
      let r = count_by-append (λ x. number x == i) (put_on_offer e a) (along put_on_offer events answers) in
      rw (l, r, one, rest) refl

  job_le : (p : T → Bool) (a : Answer T) → count_by p (job a) ≤ count_by p (as_offered a)
  job_le p (answer.Claim (Job x)) = omega arith
  job_le p (answer.Take (Revoked x)) = omega arith
  job_le p _ = omega arith

  -- no granule is handed out, or taken, more often than it was put on offer
  pub handed_out_once : HandedOutOnce number
  handed_out_once blanks after events answers run i =
      let p : T → Bool = λ x. number x == i in
      let q : ℕ → Bool = λ j. j == i in
      let offers = Balance-run p on_offer put_on_offer (λ e a. as_offered a) (on_offer_balance p) (fresh blanks) after events answers run in
      let offers' = rw (fresh-on_offer blanks, answers_along as_offered (fresh blanks) after events answers run) at offers in
      let each = sum_by-mono (λ a. count_by p (job a)) (λ a. count_by p (as_offered a)) (job_le p) answers in
      let jobs : count_by p (flat_map job answers) ≤ count_by p (flat_map as_offered answers) = rw (count_by-flat_map p job answers, count_by-flat_map p as_offered answers) each in
      let lives = Balance-run q live placed taken (live_balance q) (fresh blanks) after events answers run in
      let lives' = rw (fresh-live blanks, placed_numbers i events answers) at lives in
      (omega (arith, jobs, offers'), omega (arith, lives'))
