-- What makes a table of codes sound.
use Rattle.std.specs.Prelude.{◌≡◌, ◌<◌, ◌≤◌, ◌-◌, ◌*◌, ◌^◌, ◌++◌, ℕ, Bool, List, [], All, length, slice_index_or, sum, sum_by}
use Rattle.std.specs.List.{enumerate_from}

-- a code stands in front of the bits
abbrev pub Begins : List Bool → List Bool → Type 0
Begins code bits = (rest : List Bool) × (bits ≡ code ++ rest)

-- no code begins another, and the sum of 2^-length over the codes is 1; none is longer than 12 bits
pub record IsCompleteCode (codes : List (List Bool)) : Type 0 where
  pub apart : (i j : ℕ) → i < length codes → j < length codes → Begins (slice_index_or codes i []) (slice_index_or codes j []) → i ≡ j
  pub short : All (λ code. length code ≤ 12) codes
  pub full : sum_by (λ code. 2 ^ (12 - length code)) codes ≡ 2 ^ 12

-- so many entries, their sum, and their sum when entry i, from 1 on, counts i times
pub record HasSums (entries : List ℕ) (count total weighted : ℕ) : Type 0 where
  pub counted : length entries ≡ count
  pub summed : sum entries ≡ total
  pub in_place : sum_by (λ entry. entry.0 * entry.1) (enumerate_from 1 entries) ≡ weighted
