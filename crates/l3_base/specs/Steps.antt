-- Butterflies and quarter steps.
use Rattle.std.specs.Prelude.{ℕ, ℤ}
use Rattle.l3_base.specs.declared.butterflies.TheConstants.{CS, CA}
use Rattle.l3_base.specs.declared.gains.TheConstants.{QUARTER}
use Rattle.l3_base.specs.Lists.{entry}

-- the greater coefficient of butterfly k, times 2^15
unfoldable pub cs_at : ℕ → ℤ
cs_at k = entry CS k

-- the smaller coefficient of butterfly k, times 2^15
unfoldable pub ca_at : ℕ → ℤ
ca_at k = entry CA k

-- r quarter steps of gain, times 2^30
unfoldable pub quarter_at : ℕ → ℤ
quarter_at r = entry QUARTER r
