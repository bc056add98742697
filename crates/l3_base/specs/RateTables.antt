-- The rates as a table.
use Rattle.std.specs.Prelude.{◌≡◌, ◌-◌, slice_index}
use Rattle.l3_base.specs.declared.rate.Rate.{Rate}
use Rattle.l3_base.specs.Rates.{index_of, kbits_of}
use Rattle.l3_base.specs.declared.rates.TheConstants.{RATES}

-- the table holds the kbit/s of each rate at its bitrate_index, counted from 1
abbrev pub RatesAreThose : Type 0
RatesAreThose = (rate : Rate) → slice_index RATES (index_of rate - 1) ≡ kbits_of rate
