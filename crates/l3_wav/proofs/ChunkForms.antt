-- One chunk of a file, and what goes on behind it.
use Rattle.std.proofs.Common.{◌≡◌, refl, ℕ, suc, ◌+◌, Bool, List, length, take, drop, nat_lt}
use Rattle.std.specs.Prelude.{Option, Err, bytes_eq, codes, if◌then◌else◌}
use Rattle.l3_wav.specs.declared.fields.Format.{Format}
use Rattle.l3_wav.specs.declared.fault.WavFault.TheVariants.{HeaderTooLong}
use Rattle.l3_wav.specs.Wav.{Said, u32_at, format_after, padded, fields_in, ends_early, head_by, after_body, head_limit, chunks_from}

-- the chunk that a file goes on with
abbrev pub chunk_after : (Option Format → ℕ → List ℕ → Said) → Option Format → ℕ → Bool → Bool → ℕ → List ℕ → Said
chunk_after next format read is_data is_format size body =
    if is_data then record { answer = head_by format size; left = body }
    else (if nat_lt head_limit (read + 8 + padded size) then record { answer = Err HeaderTooLong; left = body }
    else (if nat_lt (length body) (padded size) then ends_early
    else after_body (format_after format is_format (fields_in size body)) (drop (padded size) body) (λ known. next known (read + 8 + padded size) (drop (padded size) body))))

abbrev pub chunk_by : (Option Format → ℕ → List ℕ → Said) → Option Format → ℕ → List ℕ → Said
chunk_by next format read bytes =
    if nat_lt (length bytes) 8 then ends_early
    else chunk_after next format read (bytes_eq (take 4 (take 8 bytes)) (codes "data")) (bytes_eq (take 4 (take 8 bytes)) (codes "fmt ")) (u32_at (take 8 bytes) 4) (drop 8 bytes)

pub chunks_from-suc : (count : ℕ) (format : Option Format) (read : ℕ) (bytes : List ℕ) → chunks_from (suc count) format read bytes ≡ chunk_by (chunks_from count) format read bytes
unfolding chunks_from
chunks_from-suc count format read bytes = refl
