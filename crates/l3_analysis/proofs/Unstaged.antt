-- What is counted of a piece does not rest on its stage.
use Rattle.std.proofs.Common.{◌≡◌, ℕ, zero, suc, List, [], ◌∷◌, map, refl, ap, subst}
use Rattle.std.specs.List.{sum}
use Rattle.l3_base.specs.Amp.{no_amp}
use Rattle.l3_analysis.specs.Gains.{first_gain_of}
use Rattle.l3_analysis.specs.Gain.{HasLaneTo, lacking, picked_gain}
use Rattle.l3_analysis.specs.declared.stage.Stage.{Stage}
use Rattle.l3_analysis.specs.Piece.{PieceView, channels_in, counts_in, demand_in, edges_in, memo_in, spectrum_in}
use Rattle.l3_analysis.specs.Presumed.{IsPresumed, budget_under, frame_in, presumed_gain, presumed_steps, presumed_steps_in, reserve_after, reserve_before}

-- the reserve before a channel
pub reserve_before-staged : (v : PieceView) (s : Stage) (channel : ℕ) →
    reserve_before (record v { stage = s }) channel ≡ reserve_before v channel
unfolding reserve_before
reserve_before-staged v s zero = refl
reserve_before-staged v s (suc channel) =
    ap (λ (r : ℕ). reserve_after v.settings (frame_in v) r (demand_in v channel) (spectrum_in v channel)) (reserve_before-staged v s channel)

-- the gain that is picked
pub presumed_gain-staged : (v : PieceView) (s : Stage) (channel : ℕ) →
    presumed_gain (record v { stage = s }) channel ≡ presumed_gain v channel
unfolding presumed_gain
presumed_gain-staged v s channel =
    ap (λ (r : ℕ). picked_gain (edges_in v) no_amp (spectrum_in v channel) (budget_under v.settings (frame_in v) r (demand_in v channel))) (reserve_before-staged v s channel)

-- the steps of a channel
pub presumed_steps_in-staged : (v : PieceView) (s : Stage) (channel : ℕ) →
    presumed_steps_in (record v { stage = s }) channel ≡ presumed_steps_in v channel
presumed_steps_in-staged v s channel =
    ap (λ (gain : ℕ). lacking (counts_in v channel) (first_gain_of (edges_in v) no_amp (spectrum_in v channel)) gain) (presumed_gain-staged v s channel)

-- the steps of some channels
pub map-staged : (v : PieceView) (s : Stage) (channels : List ℕ) →
    map (presumed_steps_in (record v { stage = s })) channels ≡ map (presumed_steps_in v) channels
map-staged v s [] = refl
map-staged v s (channel ∷ channels) =
    rw (presumed_steps_in-staged v s channel, map-staged v s channels) refl

-- the steps of all channels
pub presumed_steps-staged : (v w : PieceView) (s : Stage) → w ≡ record v { stage = s } →
    presumed_steps w ≡ presumed_steps v
unfolding presumed_steps
presumed_steps-staged v w s e =
    rw e (ap (λ (made : List ℕ). sum made) (map-staged v s (channels_in v.settings.channels)))

-- what has been counted at another stage has been counted
pub presumed-staged : (v w x : PieceView) (s : Stage) → w ≡ record v { stage = s } →
    IsPresumed w x → IsPresumed v x
presumed-staged v w x s e h =
    let u : PieceView = record v { stage = s } in
    let at : IsPresumed u x = subst (λ (y : PieceView). IsPresumed y x) e h in
    record {
      same = at.same;
      counts = λ channel there.
          subst (λ (gain : ℕ). HasLaneTo (edges_in v) no_amp (spectrum_in v channel) 0 (first_gain_of (edges_in v) no_amp (spectrum_in v channel)) gain (memo_in v channel) (memo_in x channel)) (presumed_gain-staged v s channel) (at.counts channel there);
      absent = at.absent;
    }
