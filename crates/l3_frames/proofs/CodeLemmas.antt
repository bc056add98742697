-- Codes laid one behind the other.
use Rattle.std.proofs.Common.{◌≡◌, ℕ, ◌+◌, ◌*◌, ◌<◌, ◌≤◌, Bool, List, [], ◌++◌, ◌∷◌, length, drop, take, get_or, refl, sym, subst, ap, ◌∙◌, arith, append_assoc, length-append}
use Rattle.std.proofs.lemmas.List.{append-nil, length-drop, nil_from_length, take-append-drop}
use Rattle.std.specs.Prelude.{ℤ}
use Rattle.l3_bits.specs.Bits.{digits, bits_of}
use Rattle.l3_bits.proofs.Places.{length-digits, length-bits_of}
use Rattle.l3_huff.specs.declared.quads.QuadTable.{QuadTable}
use Rattle.l3_huff.specs.declared.quads.QuadTable.TheVariants.{A}
use Rattle.l3_huff.specs.Codes.{IsQuad, pair_code_of, quad_code_of}
use Rattle.l3_huff.specs.Laws.{HoldsPair}
use Rattle.l3_base.specs.declared.settings.Settings.{Settings}
use Rattle.l3_base.specs.declared.rate.Channels.{Channels}
use Rattle.l3_base.specs.declared.rate.Channels.TheVariants.{Mono, Stereo}
use Rattle.l3_stream.specs.declared.unit.Unit.{Unit}
use Rattle.l3_stream.specs.declared.unit.ChosenFrame.{ChosenFrame}
use Rattle.l3_stream.specs.Units.{IsCodedUnit, line_at, four_from, pairs_code, PairsHold, pairs_of, quads_code, QuadsHold, quads_of, table_at, unit_bits}
use Rattle.l3_stream.specs.Frames.{IsCoded, units_of, units_bits, code_bits}
use Rattle.l3_stream.specs.Coded.{IsCodedGranule}
use Rattle.l3_stream.proofs.Lines.{pairs_code-next, PairsHold-next, quads_code-next, QuadsHold-next}
use Rattle.l3_stream.proofs.Shapes.{frame_coded, two_of}
use Rattle.l3_stream.proofs.WholeFrame.{code_bits-is}
use Rattle.l3_frames.specs.Laying.{granule_bits, laid_over}
use Rattle.l3_frames.proofs.TapeLemmas.{laid_over-then}

-- some codes are laid from a place on, and the rest is still to come
pub record IsLaid (whole rest : List Bool) (at place : ℕ) (old now : List ℕ) : Type 0 where
  pub done : List Bool
  pub parts : done ++ rest ≡ whole
  pub behind : place ≡ at + length done
  pub bits : bits_of now ≡ laid_over at done (bits_of old)

pub none_laid : (whole : List Bool) (at : ℕ) (old : List ℕ) → IsLaid whole whole at at old old
none_laid whole at old =
    let e : at + 0 ≡ at = omega arith in
    record { done = []; parts = refl; behind = omega arith; bits = sym (ap (λ k. take at (bits_of old) ++ drop k (bits_of old)) e ∙ take-append-drop at (bits_of old)) }

pub room_left : (whole rest code later : List Bool) (at place : ℕ) (old now : List ℕ) → IsLaid whole rest at place old now → rest ≡ code ++ later →
    at + length whole ≤ 8 * length old → place + length code ≤ 8 * length old
room_left whole rest code later at place old now laid is room =
    let behind = laid.behind in
    omega (arith, ap length laid.parts, ap length is, length-append laid.done rest, length-append code later)

pub one_laid : (whole rest code later : List Bool) (at place next : ℕ) (old mid now : List ℕ) → IsLaid whole rest at place old mid → rest ≡ code ++ later →
    at + length whole ≤ 8 * length old → bits_of now ≡ laid_over place code (bits_of mid) → next ≡ place + length code → IsLaid whole later at next old now
one_laid whole rest code later at place next old mid now laid is room written end =
    let behind = laid.behind in
    let within : at + (length laid.done + length code) ≤ length (bits_of old) =
    omega (arith, ap length laid.parts, ap length is, length-append laid.done rest, length-append code later, length-bits_of old) in
    record {
      done = laid.done ++ code;
      parts = append_assoc laid.done code later ∙ (ap (λ l. laid.done ++ l) (sym is) ∙ laid.parts);
      behind = omega (arith, length-append laid.done code);
      bits = written ∙ (ap (λ k. laid_over k code (bits_of mid)) behind ∙ laid_over-then at laid.done code (bits_of old) (bits_of mid) within laid.bits);
    }

pub record AllLaid (whole : List Bool) (at place : ℕ) (old now : List ℕ) : Type 0 where
  pub bits : bits_of now ≡ laid_over at whole (bits_of old)
  pub behind : place ≡ at + length whole

pub all_laid : (whole rest : List Bool) (at place : ℕ) (old now : List ℕ) → IsLaid whole rest at place old now → rest ≡ [] → AllLaid whole at place old now
all_laid whole rest at place old now laid none =
    let same : laid.done ≡ whole = sym (append-nil laid.done) ∙ (ap (λ l. laid.done ++ l) (sym none) ∙ laid.parts) in
    record { bits = laid.bits ∙ ap (λ l. laid_over at l (bits_of old)) same; behind = laid.behind ∙ ap (λ l. at + length l) same }

-- one code after another
pub two_laid : (a b : List Bool) (at middle : ℕ) (old mid now : List ℕ) → at + (length a + length b) ≤ 8 * length old →
    bits_of mid ≡ laid_over at a (bits_of old) → middle ≡ at + length a → bits_of now ≡ laid_over middle b (bits_of mid) → bits_of now ≡ laid_over at (a ++ b) (bits_of old)
two_laid a b at middle old mid now room first place second =
    second ∙ (ap (λ k. laid_over k b (bits_of mid)) place ∙ laid_over-then at a b (bits_of old) (bits_of mid) (omega (arith, length-bits_of old)) first)

pub code_laid : (at value size width : ℕ) (old now : List ℕ) → width ≡ size → bits_of now ≡ take at (bits_of old) ++ digits width value ++ drop (at + width) (bits_of old) →
    bits_of now ≡ laid_over at (digits size value) (bits_of old)
code_laid at value size width old now is written =
    written ∙ (ap (λ n. take at (bits_of old) ++ digits n value ++ drop (at + n) (bits_of old)) is
    ∙ (ap (λ n. take at (bits_of old) ++ digits size value ++ drop (at + n) (bits_of old)) (sym (length-digits size value))
    ∙ append_assoc (take at (bits_of old)) (digits size value) (drop (at + length (digits size value)) (bits_of old))))

-- the first k pairs of these lines
pub record PairsLaid (table : ℕ → ℕ) (lines : List ℤ) (k at place : ℕ) (old now : List ℕ) : Type 0 where
  pub laid : IsLaid (pairs_code table 0 lines) (pairs_code table (2 * k) (drop (2 * k) lines)) at place old now
  pub held : PairsHold table (2 * k) (drop (2 * k) lines)

-- the first k quadruples
pub record QuadsLaid (table : QuadTable) (lines : List ℤ) (k at place : ℕ) (old now : List ℕ) : Type 0 where
  pub laid : IsLaid (quads_code table lines) (quads_code table (drop (4 * k) lines)) at place old now
  pub held : QuadsHold (drop (4 * k) lines)

none_left : (lines : List ℤ) (at : ℕ) → length lines ≤ at → drop at lines ≡ []
none_left lines at le = nil_from_length (drop at lines) (omega (arith, length-drop at lines))

pairs_code-nil : (table : ℕ → ℕ) (at : ℕ) → pairs_code table at [] ≡ []
unfolding pairs_code
pairs_code-nil table at = refl

quads_code-nil : (table : QuadTable) → quads_code table [] ≡ []
unfolding quads_code
quads_code-nil table = refl

pub pair_held : (table : ℕ → ℕ) (lines : List ℤ) (k at place : ℕ) (old now : List ℕ) → 2 * k + 1 < length lines → PairsLaid table lines k at place old now →
    HoldsPair (table (2 * k)) (line_at lines (2 * k)) (line_at lines (2 * k + 1))
pair_held table lines k at place old now inside laid = (PairsHold-next table lines (2 * k) inside laid.held).0

pub pair_room : (table : ℕ → ℕ) (lines : List ℤ) (k at place : ℕ) (old now : List ℕ) → 2 * k + 1 < length lines →
    PairsLaid table lines k at place old now → at + length (pairs_code table 0 lines) ≤ 8 * length old →
    place + length (pair_code_of (table (2 * k)) (line_at lines (2 * k)) (line_at lines (2 * k + 1))) ≤ 8 * length old
pair_room table lines k at place old now inside laid room =
    room_left (pairs_code table 0 lines) (pairs_code table (2 * k) (drop (2 * k) lines))
    (pair_code_of (table (2 * k)) (line_at lines (2 * k)) (line_at lines (2 * k + 1)))
    (pairs_code table (2 * k + 2) (drop (2 * k + 2) lines)) at place old now laid.laid (pairs_code-next table lines (2 * k) inside) room

pub one_pair_laid : (table : ℕ → ℕ) (lines : List ℤ) (k at place next : ℕ) (old mid now : List ℕ) → 2 * k + 1 < length lines →
    PairsLaid table lines k at place old mid → at + length (pairs_code table 0 lines) ≤ 8 * length old →
    bits_of now ≡ laid_over place (pair_code_of (table (2 * k)) (line_at lines (2 * k)) (line_at lines (2 * k + 1))) (bits_of mid) →
    next ≡ place + length (pair_code_of (table (2 * k)) (line_at lines (2 * k)) (line_at lines (2 * k + 1))) →
    PairsLaid table lines (k + 1) at next old now
one_pair_laid table lines k at place next old mid now inside laid room written end =
    let code = pair_code_of (table (2 * k)) (line_at lines (2 * k)) (line_at lines (2 * k + 1)) in
    let e : 2 * (k + 1) ≡ 2 * k + 2 = omega arith in
    let whole = pairs_code table 0 lines in
    let later = pairs_code table (2 * k + 2) (drop (2 * k + 2) lines) in
    let first : pairs_code table (2 * k) (drop (2 * k) lines) ≡ code ++ later = pairs_code-next table lines (2 * k) inside in
    let step = one_laid whole (pairs_code table (2 * k) (drop (2 * k) lines)) code later at place next old mid now laid.laid first room written end in
    let left = (PairsHold-next table lines (2 * k) inside laid.held).1 in
    record {
      laid = subst (λ (i : ℕ). IsLaid whole (pairs_code table i (drop i lines)) at next old now) (sym e) step;
      held = subst (λ (i : ℕ). PairsHold table i (drop i lines)) (sym e) left;
    }

pub all_pairs_laid : (table : ℕ → ℕ) (lines : List ℤ) (k at place : ℕ) (old now : List ℕ) → length lines ≤ 2 * k → PairsLaid table lines k at place old now →
    AllLaid (pairs_code table 0 lines) at place old now
all_pairs_laid table lines k at place old now le laid =
    all_laid (pairs_code table 0 lines) (pairs_code table (2 * k) (drop (2 * k) lines)) at place old now laid.laid
    (ap (pairs_code table (2 * k)) (none_left lines (2 * k) le) ∙ pairs_code-nil table (2 * k))

pub quad_held : (table : QuadTable) (lines : List ℤ) (k at place : ℕ) (old now : List ℕ) → 4 * k + 3 < length lines → QuadsLaid table lines k at place old now → IsQuad (four_from lines (4 * k))
quad_held table lines k at place old now inside laid = (QuadsHold-next lines (4 * k) inside laid.held).0

pub quad_room : (table : QuadTable) (lines : List ℤ) (k at place : ℕ) (old now : List ℕ) → 4 * k + 3 < length lines →
    QuadsLaid table lines k at place old now → at + length (quads_code table lines) ≤ 8 * length old →
    place + length (quad_code_of table (four_from lines (4 * k))) ≤ 8 * length old
quad_room table lines k at place old now inside laid room =
    room_left (quads_code table lines) (quads_code table (drop (4 * k) lines)) (quad_code_of table (four_from lines (4 * k)))
    (quads_code table (drop (4 * k + 4) lines)) at place old now laid.laid (quads_code-next table lines (4 * k) inside) room

pub one_quad_laid : (table : QuadTable) (lines : List ℤ) (k at place next : ℕ) (old mid now : List ℕ) → 4 * k + 3 < length lines →
    QuadsLaid table lines k at place old mid → at + length (quads_code table lines) ≤ 8 * length old →
    bits_of now ≡ laid_over place (quad_code_of table (four_from lines (4 * k))) (bits_of mid) →
    next ≡ place + length (quad_code_of table (four_from lines (4 * k))) → QuadsLaid table lines (k + 1) at next old now
one_quad_laid table lines k at place next old mid now inside laid room written end =
    let code = quad_code_of table (four_from lines (4 * k)) in
    let e : 4 * (k + 1) ≡ 4 * k + 4 = omega arith in
    let whole = quads_code table lines in
    let later = quads_code table (drop (4 * k + 4) lines) in
    let first : quads_code table (drop (4 * k) lines) ≡ code ++ later = quads_code-next table lines (4 * k) inside in
    let step = one_laid whole (quads_code table (drop (4 * k) lines)) code later at place next old mid now laid.laid first room written end in
    let left = (QuadsHold-next lines (4 * k) inside laid.held).1 in
    record {
      laid = subst (λ (i : ℕ). IsLaid whole (quads_code table (drop i lines)) at next old now) (sym e) step;
      held = subst (λ (i : ℕ). QuadsHold (drop i lines)) (sym e) left;
    }

pub all_quads_laid : (table : QuadTable) (lines : List ℤ) (k at place : ℕ) (old now : List ℕ) → length lines ≤ 4 * k → QuadsLaid table lines k at place old now →
    AllLaid (quads_code table lines) at place old now
all_quads_laid table lines k at place old now le laid =
    all_laid (quads_code table lines) (quads_code table (drop (4 * k) lines)) at place old now laid.laid
    (ap (quads_code table) (none_left lines (4 * k) le) ∙ quads_code-nil table)

-- ---- units and granules

-- what an element past the end of a list of units reads as
abbrev pub no_unit : Unit
no_unit = record { length = 0; big = 0; quads = 0; gain = 0; region0 = 0; region1 = 0; tables = []; quad = A; lines = [] }

pub unit_bits-is : (st : Settings) (u : Unit) → unit_bits st u ≡ pairs_code (table_at st u) 0 (pairs_of u) ++ quads_code u.quad (quads_of u)
unfolding unit_bits
unit_bits-is st u = refl

-- the units of a granule that have codes
pub record HasOne (st : Settings) (g : List Unit) (d : Unit) : Type 0 where
  pub coded : IsCodedUnit st (get_or g 0 d)
  pub bits : granule_bits st Mono g ≡ unit_bits st (get_or g 0 d)

pub has_one : (st : Settings) (g : List Unit) (d : Unit) → IsCodedGranule st Mono g → HasOne st g d
has_one st [] d h = absurd h
has_one st (a ∷ []) d h = absurd h
has_one st (a ∷ b ∷ []) d h = record { coded = h.0; bits = refl }
has_one st (a ∷ b ∷ e ∷ g) d h = absurd h

pub record HasTwo (st : Settings) (g : List Unit) (d : Unit) : Type 0 where
  pub first : IsCodedUnit st (get_or g 0 d)
  pub second : IsCodedUnit st (get_or g 1 d)
  pub bits : granule_bits st Stereo g ≡ unit_bits st (get_or g 0 d) ++ unit_bits st (get_or g 1 d)

pub has_two : (st : Settings) (g : List Unit) (d : Unit) → IsCodedGranule st Stereo g → HasTwo st g d
has_two st [] d h = absurd h
has_two st (a ∷ []) d h = absurd h
has_two st (a ∷ b ∷ []) d h = record { first = h.0; second = h.1; bits = refl }
has_two st (a ∷ b ∷ e ∷ g) d h = absurd h

two_mono : (st : Settings) (a b p q : Unit) → units_bits st (units_of Mono ((a ∷ b ∷ []) ∷ (p ∷ q ∷ []) ∷ [])) ≡ unit_bits st a ++ unit_bits st p
unfolding units_of
two_mono st a b p q = ap (λ l. unit_bits st a ++ l) (append-nil (unit_bits st p))

two_stereo : (st : Settings) (a b p q : Unit) → units_bits st (units_of Stereo ((a ∷ b ∷ []) ∷ (p ∷ q ∷ []) ∷ [])) ≡ (unit_bits st a ++ unit_bits st b) ++ (unit_bits st p ++ unit_bits st q)
unfolding units_of
two_stereo st a b p q =
    ap (λ l. unit_bits st a ++ (unit_bits st b ++ (unit_bits st p ++ l))) (append-nil (unit_bits st q))
    ∙ sym (append_assoc (unit_bits st a) (unit_bits st b) (unit_bits st p ++ unit_bits st q))

granules_bits : (st : Settings) (c : Channels) (g h : List Unit) → IsCodedGranule st c g → IsCodedGranule st c h → units_bits st (units_of c (g ∷ h ∷ [])) ≡ granule_bits st c g ++ granule_bits st c h
granules_bits st Mono (a ∷ b ∷ []) (p ∷ q ∷ []) first second = two_mono st a b p q
granules_bits st Stereo (a ∷ b ∷ []) (p ∷ q ∷ []) first second = two_stereo st a b p q
granules_bits st Mono [] h first second = absurd first
granules_bits st Mono (a ∷ []) h first second = absurd first
granules_bits st Mono (a ∷ b ∷ e ∷ g) h first second = absurd first
granules_bits st Mono (a ∷ b ∷ []) [] first second = absurd second
granules_bits st Mono (a ∷ b ∷ []) (p ∷ []) first second = absurd second
granules_bits st Mono (a ∷ b ∷ []) (p ∷ q ∷ e ∷ h) first second = absurd second
granules_bits st Stereo [] h first second = absurd first
granules_bits st Stereo (a ∷ []) h first second = absurd first
granules_bits st Stereo (a ∷ b ∷ e ∷ g) h first second = absurd first
granules_bits st Stereo (a ∷ b ∷ []) [] first second = absurd second
granules_bits st Stereo (a ∷ b ∷ []) (p ∷ []) first second = absurd second
granules_bits st Stereo (a ∷ b ∷ []) (p ∷ q ∷ e ∷ h) first second = absurd second

-- the codes of a frame, by its granules
pub frame_bits : (st : Settings) (f : ChosenFrame) → length f.units ≡ 2 → IsCoded st f →
    code_bits st f ≡ granule_bits st st.channels (get_or f.units 0 []) ++ granule_bits st st.channels (get_or f.units 1 [])
frame_bits st f two coded =
    let both = frame_coded st f two coded in
    code_bits-is st f ∙ (ap (λ gs. units_bits st (units_of st.channels gs)) (two_of f.units two)
    ∙ granules_bits st st.channels (get_or f.units 0 []) (get_or f.units 1 []) both.first both.second)
