use Rattle.std.proofs.Common.{rules, ℕ, ◌+◌, ◌∙◌, ap, sym, subst}
use Rattle.l3_analysis.specs.Piece.{edges_in, spectrum_in}
use Rattle.l3_base.specs.Lengths.{mean_bits_of}
use Rattle.l3_base.specs.Spectrum.{IsSpectrum}
use Rattle.l3_commit.proofs.OfPiece.{budget-is, channel-kept, counted-of-piece, few-tried, fewer-of-piece, has-room, lacking-of-piece, one-more-fits, picked-count, spectrum-lent, taken-of-piece, tried-by, within-covered}
use Rattle.l3_commit.proofs.Tracking.{left-small, mean-small}
use Rattle.l3_commit.proofs.choosing.choose.Goals as goal

pub returns-clause-value : goal.returns-clause-value
returns-clause-value g c =
    (taken-of-piece c.args.place.settings c.args.place.frame c.args.reserve.now c.budget-budget.result c.args.piece.now.settings.sample_rate (spectrum_in c.args.piece.now c.args.channel) c.spectrum-spec.result.now
    c.choose-picked.result.count c.write_unit.new.unit c.bits.result c.spend.new.self c.first_gain-first.result c.saturating_sub-tried.result c.requires.rate
    (budget-is c.args.place.settings c.args.place.frame c.args.reserve.now c.demand-demand.result c.budget-budget.result c.args.piece.now.settings.sample_rate (spectrum_in c.args.piece.now c.args.channel) c.requires.rate (c.demand-demand.ensures c.requires.stage) c.budget-budget.ensures.value)
    (spectrum-lent c.args.piece.now c.choose-picked.new.self c.args.channel _ c.args.channel _ c.choose-picked.ensures.rest c.requires.stage c.spectrum-spec.ensures)
    c.choose-picked.ensures.count c.choose-picked.ensures.gain c.write_unit.ensures c.bits.ensures.value c.spend.ensures c.first_gain-first.ensures.value (tried-by c.saturating_sub-tried.result c.from.result c.choose-picked.result.count.gain c.from-2.result c.first_gain-first.result c.saturating_sub-tried.ensures (c.from.ensures ∙ c.gain.ensures.value) c.from-2.ensures)).unit_is

pub returns-clause-rest : goal.returns-clause-rest
returns-clause-rest g c =
    (taken-of-piece c.args.place.settings c.args.place.frame c.args.reserve.now c.budget-budget.result c.args.piece.now.settings.sample_rate (spectrum_in c.args.piece.now c.args.channel) c.spectrum-spec.result.now
    c.choose-picked.result.count c.write_unit.new.unit c.bits.result c.spend.new.self c.first_gain-first.result c.saturating_sub-tried.result c.requires.rate
    (budget-is c.args.place.settings c.args.place.frame c.args.reserve.now c.demand-demand.result c.budget-budget.result c.args.piece.now.settings.sample_rate (spectrum_in c.args.piece.now c.args.channel) c.requires.rate (c.demand-demand.ensures c.requires.stage) c.budget-budget.ensures.value)
    (spectrum-lent c.args.piece.now c.choose-picked.new.self c.args.channel _ c.args.channel _ c.choose-picked.ensures.rest c.requires.stage c.spectrum-spec.ensures)
    c.choose-picked.ensures.count c.choose-picked.ensures.gain c.write_unit.ensures c.bits.ensures.value c.spend.ensures c.first_gain-first.ensures.value (tried-by c.saturating_sub-tried.result c.from.result c.choose-picked.result.count.gain c.from-2.result c.first_gain-first.result c.saturating_sub-tried.ensures (c.from.ensures ∙ c.gain.ensures.value) c.from-2.ensures)).after_is

pub returns-clause-tried : goal.returns-clause-tried
returns-clause-tried g c =
    (taken-of-piece c.args.place.settings c.args.place.frame c.args.reserve.now c.budget-budget.result c.args.piece.now.settings.sample_rate (spectrum_in c.args.piece.now c.args.channel) c.spectrum-spec.result.now
    c.choose-picked.result.count c.write_unit.new.unit c.bits.result c.spend.new.self c.first_gain-first.result c.saturating_sub-tried.result c.requires.rate
    (budget-is c.args.place.settings c.args.place.frame c.args.reserve.now c.demand-demand.result c.budget-budget.result c.args.piece.now.settings.sample_rate (spectrum_in c.args.piece.now c.args.channel) c.requires.rate (c.demand-demand.ensures c.requires.stage) c.budget-budget.ensures.value)
    (spectrum-lent c.args.piece.now c.choose-picked.new.self c.args.channel _ c.args.channel _ c.choose-picked.ensures.rest c.requires.stage c.spectrum-spec.ensures)
    c.choose-picked.ensures.count c.choose-picked.ensures.gain c.write_unit.ensures c.bits.ensures.value c.spend.ensures c.first_gain-first.ensures.value (tried-by c.saturating_sub-tried.result c.from.result c.choose-picked.result.count.gain c.from-2.result c.first_gain-first.result c.saturating_sub-tried.ensures (c.from.ensures ∙ c.gain.ensures.value) c.from-2.ensures)).tried_is

pub returns-clause-made : goal.returns-clause-made
returns-clause-made g c =
    lacking-of-piece c.args.place.settings c.args.place.frame c.args.reserve.now c.budget-budget.result _ c.args.piece.now c.args.channel c.requires.rate
    (budget-is c.args.place.settings c.args.place.frame c.args.reserve.now c.demand-demand.result c.budget-budget.result c.args.piece.now.settings.sample_rate (spectrum_in c.args.piece.now c.args.channel) c.requires.rate (c.demand-demand.ensures c.requires.stage) c.budget-budget.ensures.value)
    (c.from-3.ensures ∙ c.choose-picked.ensures.made)

pub returns-clause-memo : goal.returns-clause-memo
returns-clause-memo g c =
    counted-of-piece c.args.place.settings c.args.place.frame c.args.reserve.now c.budget-budget.result c.args.piece.now c.choose-picked.new.self c.args.channel c.requires.rate
    (budget-is c.args.place.settings c.args.place.frame c.args.reserve.now c.demand-demand.result c.budget-budget.result c.args.piece.now.settings.sample_rate (spectrum_in c.args.piece.now c.args.channel) c.requires.rate (c.demand-demand.ensures c.requires.stage) c.budget-budget.ensures.value)
    c.choose-picked.ensures.memo

pub returns-clause-small : goal.returns-clause-small
returns-clause-small g c =
    left-small c.args.reserve.now (mean_bits_of c.args.place.settings c.args.place.frame) c.bits.result c.spend.new.self (mean-small c.args.place.settings c.args.place.frame) c.spend.ensures

pub returns-clause-fewer : goal.returns-clause-fewer
returns-clause-fewer g c =
    fewer-of-piece c.args.place.settings c.args.place.frame c.args.reserve.now c.args.piece.now c.args.channel _ _ c.requires.rate
    (lacking-of-piece c.args.place.settings c.args.place.frame c.args.reserve.now c.budget-budget.result _ c.args.piece.now c.args.channel c.requires.rate
    (budget-is c.args.place.settings c.args.place.frame c.args.reserve.now c.demand-demand.result c.budget-budget.result c.args.piece.now.settings.sample_rate (spectrum_in c.args.piece.now c.args.channel) c.requires.rate (c.demand-demand.ensures c.requires.stage) c.budget-budget.ensures.value)
    (c.from-3.ensures ∙ c.choose-picked.ensures.made))
    (taken-of-piece c.args.place.settings c.args.place.frame c.args.reserve.now c.budget-budget.result c.args.piece.now.settings.sample_rate (spectrum_in c.args.piece.now c.args.channel) c.spectrum-spec.result.now
    c.choose-picked.result.count c.write_unit.new.unit c.bits.result c.spend.new.self c.first_gain-first.result c.saturating_sub-tried.result c.requires.rate
    (budget-is c.args.place.settings c.args.place.frame c.args.reserve.now c.demand-demand.result c.budget-budget.result c.args.piece.now.settings.sample_rate (spectrum_in c.args.piece.now c.args.channel) c.requires.rate (c.demand-demand.ensures c.requires.stage) c.budget-budget.ensures.value)
    (spectrum-lent c.args.piece.now c.choose-picked.new.self c.args.channel _ c.args.channel _ c.choose-picked.ensures.rest c.requires.stage c.spectrum-spec.ensures)
    c.choose-picked.ensures.count c.choose-picked.ensures.gain c.write_unit.ensures c.bits.ensures.value c.spend.ensures c.first_gain-first.ensures.value (tried-by c.saturating_sub-tried.result c.from.result c.choose-picked.result.count.gain c.from-2.result c.first_gain-first.result c.saturating_sub-tried.ensures (c.from.ensures ∙ c.gain.ensures.value) c.from-2.ensures)).tried_is

-- what the calls ask, and the clauses that a callee's clause gives at once
pub demand-demand-requires : goal.demand-demand-requires
demand-demand-requires g c = c.requires.channel

pub budget-budget-requires : goal.budget-budget-requires
budget-budget-requires g c = c.requires.number

pub choose-picked-requires-clause-stage : goal.choose-picked-requires-clause-stage
choose-picked-requires-clause-stage g c = λ _ _. c.requires.stage

pub choose-picked-requires-clause-channel : goal.choose-picked-requires-clause-channel
choose-picked-requires-clause-channel g c = λ _ _. c.requires.channel

pub spend-requires-clause-number : goal.spend-requires-clause-number
spend-requires-clause-number g c = c.requires.number

pub spend-requires-clause-covered : goal.spend-requires-clause-covered
spend-requires-clause-covered g c = within-covered _ _ _ _ c.bits.ensures.value c.choose-picked.ensures.within c.budget-budget.ensures.covered

pub spend-requires-clause-room : goal.spend-requires-clause-room
spend-requires-clause-room g c = has-room c.args.reserve.now (mean_bits_of c.args.place.settings c.args.place.frame) c.requires.room (mean-small c.args.place.settings c.args.place.frame)

pub spectrum-spec-requires : goal.spectrum-spec-requires
spectrum-spec-requires g c = channel-kept c.args.piece.now c.choose-picked.new.self c.args.channel _ c.args.channel c.choose-picked.ensures.rest c.requires.channel

pub write_unit-requires : goal.write_unit-requires
write_unit-requires g c = record {
  own =
      picked-count (edges_in c.args.piece.now) (spectrum_in c.args.piece.now c.args.channel) c.spectrum-spec.result.now c.budget-budget.result c.choose-picked.result.count
      (spectrum-lent c.args.piece.now c.choose-picked.new.self c.args.channel _ c.args.channel _ c.choose-picked.ensures.rest c.requires.stage c.spectrum-spec.ensures)
      c.choose-picked.ensures.count c.choose-picked.ensures.gain;
}

pub overflow_add-from : goal.overflow_add-from
overflow_add-from g c =
    let fits = one-more-fits c.from.result c.gain.result c.from.ensures c.gain.type_inv in
    search (rules, fits)

pub returns-clause-spectrum : goal.returns-clause-spectrum
returns-clause-spectrum g c = subst IsSpectrum (spectrum-lent c.args.piece.now c.choose-picked.new.self c.args.channel _ c.args.channel _ c.choose-picked.ensures.rest c.requires.stage c.spectrum-spec.ensures) c.lines-lines.ensures.spectrum

pub returns-clause-few : goal.returns-clause-few
returns-clause-few g c = few-tried c.saturating_sub-tried.result c.from.result c.gain.result c.from-2.result c.saturating_sub-tried.ensures c.from.ensures c.gain.type_inv

pub returns-clause-ticks : goal.returns-clause-ticks
returns-clause-ticks g c = c.choose-picked.ensures.ticks ∙ ap (λ (k : ℕ). c.args.steps.now + k) (sym c.from-3.ensures)

pub returns-clause-piece : goal.returns-clause-piece
returns-clause-piece g c = c.choose-picked.ensures.rest
