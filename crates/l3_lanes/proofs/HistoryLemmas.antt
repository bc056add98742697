-- The history after one move more, and a step of words and views that keeps it.
use Rattle.std.proofs.Common.{◌≡◌, ℕ, zero, suc, ◌+◌, ◌%◌, ◌*◌, ◌<◌, ⊎_elim, Bool, true, if◌then◌else◌, List, [], ◌∷◌, ◌++◌, map, length, set, get_or, slice_get, refl, sym, ap, ◌∙◌, subst, arith, length-set, Option, Some}
use Rattle.std.proofs.lemmas.List.{map-set, set-append_left, length-map, append_assoc, append-nil, set-get_or}
use mathlib.Core.Option.{some}
use lib.ListN.{get_elem?}
use Rattle.atomic_table.specs.Table.{State, Me, Allows, homes_after}
use Rattle.atomic_table.proofs.Lists.{at_set, at_map}
use Rattle.l3_board.specs.declared.cell.Content.{Content}
use Rattle.l3_board.specs.declared.cell.Content.TheVariants.{Empty, Offered, Claimed, Ready, Withdrawn}
use Rattle.l3_board.specs.declared.event.Event.{Event}
use Rattle.l3_board.specs.declared.event.Answer.{Answer}
use Rattle.l3_board.specs.Machine.{BoardState, Step, with_cell}
use Rattle.l3_lanes.specs.History.{bare}
use Rattle.l3_lanes.specs.declared.view.View.{View}
use Rattle.l3_lanes.specs.declared.view.Move.{Move}
use Rattle.l3_lanes.specs.declared.view.Past.{Past}
use Rattle.l3_lanes.specs.declared.view.Knowledge.{Knowledge}
use Rattle.l3_lanes.specs.Rule.{Holds}
use Rattle.l3_lanes.specs.History.{shown, IsMove, IsHistory, moves_of, is_claim, from_shut, move, BeginsWith, Extends, Sees, Answers, itself, Recorded, bare, bare_state, HoldsRecorded}
use Rattle.l3_lanes.proofs.MoveLemmas.{within}
use Rattle.l3_lanes.proofs.ShutLemmas.{moves_of-mine, moves_of-other, IsHistory-append}

-- what the word of a cell shows
pub shown_offered : (x : Content ℕ) (i : ℕ) → shown x ≡ 8 * i + 1 → x ≡ Offered i
shown_offered (Empty s) i e = absurd (omega arith)
shown_offered (Offered j) i e = let q : j ≡ i = omega arith in ap Offered q
shown_offered (Claimed j) i e = absurd (omega arith)
shown_offered (Ready j) i e = absurd (omega arith)
shown_offered (Withdrawn j) i e = absurd (omega arith)

pub shown_claimed : (x : Content ℕ) (i : ℕ) → shown x ≡ 8 * i + 2 → x ≡ Claimed i
shown_claimed (Empty s) i e = absurd (omega arith)
shown_claimed (Offered j) i e = absurd (omega arith)
shown_claimed (Claimed j) i e = let q : j ≡ i = omega arith in ap Claimed q
shown_claimed (Ready j) i e = absurd (omega arith)
shown_claimed (Withdrawn j) i e = absurd (omega arith)

pub shown_ready : (x : Content ℕ) (i : ℕ) → shown x ≡ 8 * i + 3 → x ≡ Ready i
shown_ready (Empty s) i e = absurd (omega arith)
shown_ready (Offered j) i e = absurd (omega arith)
shown_ready (Claimed j) i e = absurd (omega arith)
shown_ready (Ready j) i e = let q : j ≡ i = omega arith in ap Ready q
shown_ready (Withdrawn j) i e = absurd (omega arith)

pub shown_withdrawn : (x : Content ℕ) (i : ℕ) → shown x ≡ 8 * i + 4 → x ≡ Withdrawn i
shown_withdrawn (Empty s) i e = absurd (omega arith)
shown_withdrawn (Offered j) i e = absurd (omega arith)
shown_withdrawn (Claimed j) i e = absurd (omega arith)
shown_withdrawn (Ready j) i e = absurd (omega arith)
shown_withdrawn (Withdrawn j) i e = let q : j ≡ i = omega arith in ap Withdrawn q

pub shown_empty : (x : Content ℕ) → shown x ≡ 0 → (s : ℕ) × (x ≡ Empty s)
shown_empty (Empty s) e = (s, refl)
shown_empty (Offered j) e = absurd (omega arith)
shown_empty (Claimed j) e = absurd (omega arith)
shown_empty (Ready j) e = absurd (omega arith)
shown_empty (Withdrawn j) e = absurd (omega arith)

content_there : (l : List (Content ℕ)) (more : List ℕ) (c : ℕ) → c < length l → (x : Content ℕ) × (slice_get l c ≡ Some x) × (get_or (map shown l ++ more) c 0 ≡ shown x)
content_there [] more c h = absurd (omega arith)
content_there (x ∷ l) more zero h = (x, refl, refl)
content_there (x ∷ l) more (suc c) h = content_there l more c (omega arith)

-- what a seat knows after a move
abbrev pub after_move : Past → List Move → Move → Past
after_move v moves m = record { seen = moves ++ m ∷ []; mine = v.mine ++ m ∷ [] }

module _ {words : List ℕ} {seats : List Knowledge} {moves : List Move} {board : BoardState ℕ} {bell : ℕ} (r : Recorded words seats moves board bell) (id : ℕ) (k : Knowledge) (at : get_elem? seats id ≡ some k) where
  -- the seat's view changes, and no move is made
  pub stays : (words' : List ℕ) (bell' : ℕ) (w : View) → words' ≡ map shown board.cells ++ (if board.shut then 1 else 0) ∷ bell' ∷ []
      → Recorded words' (set seats id (record { view = w; past = k.past })) moves board bell'
  stays words' bell' w shows = record {
    shows = shows;
    history = r.history;
    seen = λ p u e. ⊎_elim
        (λ (z : (p ≡ id) × (record { view = w; past = k.past } ≡ u)). let old = r.seen id k at in
        subst (λ (y : ℕ × Knowledge). BeginsWith moves y.1.past.seen × (moves_of y.0 moves ≡ y.1.past.mine) × (moves_of y.0 y.1.past.seen ≡ y.1.past.mine)) (λ i. (sym z.0 i, z.1 i)) old)
        (λ z. r.seen p u z.1)
        (at_set seats id p (record { view = w; past = k.past }) u e);
    others = λ p h. r.others p (let q = length-set seats id (record { view = w; past = k.past }) in omega arith);
  }

  -- the seat sees the history
  pub looks_on : (words' : List ℕ) (w : View) → words' ≡ words → Recorded words' (set seats id (record { view = w; past = record { seen = moves; mine = k.past.mine } })) moves board bell
  looks_on words' w same =
      let new : Knowledge = record { view = w; past = record { seen = moves; mine = k.past.mine } } in record {
        shows = same ∙ r.shows;
        history = r.history;
        seen = λ p u e. ⊎_elim
            (λ (z : (p ≡ id) × (new ≡ u)).
            subst (λ (y : ℕ × Knowledge). BeginsWith moves y.1.past.seen × (moves_of y.0 moves ≡ y.1.past.mine) × (moves_of y.0 y.1.past.seen ≡ y.1.past.mine)) (λ i. (sym z.0 i, z.1 i)) (([], sym (append-nil moves)), (r.seen id k at).1, (r.seen id k at).1))
            (λ z. r.seen p u z.1)
            (at_set seats id p new u e);
        others = λ p h. r.others p (let q = length-set seats id new in omega arith);
      }

  pub sees : (shut : Bool) (cells : ℕ) → board.shut ≡ shut → cells ≡ length board.cells → Sees cells shut k.past (record { seen = moves; mine = k.past.mine })
  sees shut cells is many =
      let old = r.seen id k at in record {
        seat = id;
        board = board;
        history = subst (λ (n : ℕ). IsHistory n moves board) (sym many) r.history;
        shut_is = is;
        seen = old.0;
        mine = refl;
        own = old.1;
      }

  pub answers : (e : Event ℕ) (a : Answer ℕ) (cells : ℕ) → Step itself board e a board → cells ≡ length board.cells → Answers cells k.past e a (record { seen = moves; mine = k.past.mine })
  answers e a cells is many =
      let old = r.seen id k at in record {
        seat = id;
        board = board;
        history = subst (λ (n : ℕ). IsHistory n moves board) (sym many) r.history;
        stays = is;
        seen = old.0;
        mine = refl;
        own = old.1;
      }

  -- the seat makes a move, which leaves another board
  pub moves_on : (words' : List ℕ) (board' : BoardState ℕ) (e : Event ℕ) (a : Answer ℕ) (w : View) → IsMove board e a board' → (is_claim e ≡ true → moves_of id (from_shut moves) ≡ []) → length board'.cells ≡ length board.cells
      → words' ≡ map shown board'.cells ++ (if board'.shut then 1 else 0) ∷ bell ∷ []
      → Recorded words' (set seats id (record { view = w; past = after_move k.past moves (move id e a) })) (moves ++ move id e a ∷ []) board' bell
  moves_on words' board' e a w is first many shows =
      let m : Move = move id e a in
      let new : Knowledge = record { view = w; past = after_move k.past moves m } in
      let own : moves_of id (moves ++ m ∷ []) ≡ k.past.mine ++ m ∷ [] = moves_of-mine id moves m refl ∙ ap (λ (y : List Move). y ++ m ∷ []) ((r.seen id k at).1) in record {
        shows = shows;
        history = subst (λ (n : ℕ). IsHistory n (moves ++ m ∷ []) board') (sym many) (IsHistory-append (length board.cells) moves board board' m r.history is first);
        seen = λ p u at'. ⊎_elim
            (λ (z : (p ≡ id) × (new ≡ u)).
            subst (λ (y : ℕ × Knowledge). BeginsWith (moves ++ m ∷ []) y.1.past.seen × (moves_of y.0 (moves ++ m ∷ []) ≡ y.1.past.mine) × (moves_of y.0 y.1.past.seen ≡ y.1.past.mine)) (λ i. (sym z.0 i, z.1 i))
            (([], sym (append-nil (moves ++ m ∷ []))), own, own))
            (λ z. let old = r.seen p u z.1 in
            ((old.0.0 ++ m ∷ [], ap (λ (y : List Move). y ++ m ∷ []) old.0.1 ∙ append_assoc u.past.seen old.0.0 (m ∷ [])), moves_of-other p moves m (λ same. z.0 (sym same)) ∙ old.1, old.2))
            (at_set seats id p new u at');
        others = λ p h.
            let q = length-set seats id new in
            let low = within seats id k at in
            moves_of-other p moves m (λ (same : id ≡ p). omega arith) ∙ r.others p (omega arith);
      }

  -- what the seat then says
  pub extends : (words' : List ℕ) (board' : BoardState ℕ) (e : Event ℕ) (a : Answer ℕ) (cells : ℕ) → IsMove board e a board' → (is_claim e ≡ true → moves_of id (from_shut moves) ≡ []) → cells ≡ length board.cells → Extends cells k.past e a (after_move k.past moves (move id e a))
  extends words' board' e a cells is first many =
      let m : Move = move id e a in
      let old = r.seen id k at in record {
        seat = id;
        between = old.0.0;
        board = board';
        history = subst (λ (n : ℕ). IsHistory n (moves ++ m ∷ []) board') (sym many) (IsHistory-append (length board.cells) moves board board' m r.history is first);
        seen = ap (λ (y : List Move). y ++ m ∷ []) old.0.1;
        mine = refl;
        own = moves_of-mine id moves m refl ∙ ap (λ (y : List Move). y ++ m ∷ []) old.1;
      }

  -- the words with that of a cell changed
  pub changed : (c i : ℕ) (new : Content ℕ) → i % length board.cells ≡ c → c < length board.cells
      → set words c (shown new) ≡ map shown (with_cell board i new).cells ++ (if board.shut then 1 else 0) ∷ bell ∷ []
  changed c i new here low =
      let short : c < length (map shown board.cells) = simp length-map low in
      let cells : map shown (with_cell board i new).cells ≡ set (map shown board.cells) c (shown new) = map-set shown board.cells (i % length board.cells) new ∙ ap (λ (z : ℕ). set (map shown board.cells) z (shown new)) here in
      ap (λ (z : List ℕ). set z c (shown new)) r.shows ∙ (set-append_left (map shown board.cells) ((if board.shut then 1 else 0) ∷ bell ∷ []) c (shown new) short ∙ ap (λ (z : List ℕ). z ++ (if board.shut then 1 else 0) ∷ bell ∷ []) (sym cells))

  -- what the cell holds
  pub content : (c : ℕ) → c < length board.cells → (x : Content ℕ) × (slice_get board.cells c ≡ Some x) × (get_or words c 0 ≡ shown x)
  content c low = let x = content_there board.cells ((if board.shut then 1 else 0) ∷ bell ∷ []) c low in (x.0, x.1, ap (λ (z : List ℕ). get_or z c 0) r.shows ∙ x.2)

-- a seat has seen more, and made no move
abbrev pub HasWaited : Past → Past → Type 0
HasWaited v w = BeginsWith w.seen v.seen × (w.mine ≡ v.mine)

pub waited_none : (v : Past) → HasWaited v v
waited_none v = (([], sym (append-nil v.seen)), refl)

pub waited_more : (u v w : Past) → HasWaited u v → HasWaited v w → HasWaited u w
waited_more u v w a b = ((a.0.0 ++ b.0.0, b.0.1 ∙ (ap (λ (z : List Move). z ++ b.0.0) a.0.1 ∙ append_assoc u.seen a.0.0 b.0.0)), b.1 ∙ a.1)

pub sees_waited : (cells : ℕ) (shut : Bool) (u v w : Past) → HasWaited u v → Sees cells shut v w → Sees cells shut u w
sees_waited cells shut u v w a e =
    let b = waited_more u v w a (e.seen, e.mine) in
    record { seat = e.seat; board = e.board; history = e.history; shut_is = e.shut_is; seen = b.0; mine = b.1; own = e.own }

module _ {T : Type 0} (number : T → ℕ) where
  -- what is owed of the history for a step on a word
  abbrev pub Past_after : ℕ → ℕ → Me (Option T) Knowledge → ℕ → (ℕ → ℕ) → (ℕ → Past → Type 0) → Type 0
  Past_after slots id me i f moved = (s : State (Option T) Knowledge) (moves : List Move) (board : BoardState ℕ) (bell : ℕ) → Holds number (bare_state s) → Recorded s.words s.views moves board bell
      → length s.homes ≡ slots → get_elem? s.views id ≡ some me.0
      → (past : Past) × ((w : View) → (moves' : List Move) × (board' : BoardState ℕ) × (bell' : ℕ) × Recorded (set s.words i (f (get_or s.words i 0))) (set s.views id (record { view = w; past = past })) moves' board' bell')
      × moved (get_or s.words i 0) past

  -- a step that keeps the rule of words and views keeps the whole
  pub with_past : (slots id : ℕ) (me : Me (Option T) Knowledge) (i : ℕ) (f : ℕ → ℕ) (says : ℕ → Me (Option T) View → Type 0) (moved : ℕ → Past → Type 0)
      → Allows (Holds number) slots id (bare me) i f says → Past_after slots id me i f moved
      → Allows (HoldsRecorded number) slots id me i f (λ n new. says n (bare new) × moved n new.0.past)
  with_past slots id me i f says moved allows local s h many at small =
      let b = allows (bare_state s) h.0 many (at_map (λ (k : Knowledge). k.view) s.views id me.0 at) small in
      let l = local s h.1.0 h.1.1 h.1.2 h.0 h.1.3 many at in
      let k : Knowledge = record { view = b.0; past = l.0 } in
      let views : map (λ (u : Knowledge). u.view) (set s.views id k) ≡ set (map (λ (u : Knowledge). u.view) s.views) id b.0 = map-set (λ (u : Knowledge). u.view) s.views id k in (
        k,
        b.1,
        b.2,
        (subst (λ (z : List View). Holds number (record { words = set s.words i (f (get_or s.words i 0)); homes = homes_after s.homes me.1 b.1; views = z })) (sym views) b.3, l.1 b.0),
        (b.4, l.2),
      )

  -- a step that leaves the word as it was, and makes no move
  pub still : (slots id : ℕ) (me : Me (Option T) Knowledge) (i : ℕ) → Past_after slots id me i (λ n. n) (λ _ past. past ≡ me.0.past)
  still slots id me i s moves board bell h r many at =
      (me.0.past, (λ w. (moves, board, bell, stays r id me.0 at (set s.words i (get_or s.words i 0)) bell w (set-get_or s.words i 0 ∙ r.shows))), refl)
