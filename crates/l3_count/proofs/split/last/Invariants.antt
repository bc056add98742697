use Rattle.std.proofs.Common.{◌<◌, ◌≤◌, ◌-◌, get_or}
use Rattle.l3_count.proofs.split.last.Given as goal

abbrev pub invariant-loop-low : goal.invariant-loop-low
invariant-loop-low l = record {
  order : l.low ≤ l.high;
  within : l.high ≤ 288;
  before : 0 < l.low → l.key ≤ get_or l.ends (l.low - 1) 0;
  behind : l.high < 288 → get_or l.ends l.high 0 < l.key;
}

abbrev pub decreases-loop-low : goal.decreases-loop-low
decreases-loop-low l = l.high - l.low
