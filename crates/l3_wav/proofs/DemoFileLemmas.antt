-- The demo's file as one that begins with the bytes of a head.
use Rattle.std.proofs.Common.{◌≡◌, ◌∙◌, ap, ℕ, ◌+◌, ◌*◌, ◌/◌, ◌%◌, ◌^◌, ◌<◌, ◌≤◌, List, ◌∷◌, ◌++◌, arith, w32}
use Rattle.std.specs.Prelude.{None, Some, Ok, codes, length}
use Rattle.std.proofs.lemmas.Bool.{cond-false, le-ltb}
use Rattle.std.specs.Int.{to_le_bytes}
use Rattle.l3_base.specs.declared.rate.Channels.TheVariants.{Stereo}
use Rattle.l3_base.specs.declared.rate.SampleRate.TheVariants.{Hz44100}
use Rattle.l3_wav.specs.declared.fields.Format.{Format}
use Rattle.l3_wav.specs.Wav.{Said, file_of, wav_of, after_head, chunks_from, format_of, most_chunks}
use Rattle.l3_wav.specs.Pcm.{firsts, seconds}
use Rattle.l3_wav.specs.Samples.{coming, unread}
use Rattle.l3_wav.proofs.ChunkForms.{chunks_from-suc}
use Rattle.l3_wav.specs.Demo.{demo_file, form_bytes, depth_bytes, samples_for, samples_from}
use Rattle.l3_wav.specs.DemoLaws.{IsWav, head_for}
use Rattle.l3_wav.proofs.DemoValueLemmas.{all-coming, lefts, rights}

-- a head of so many bytes of data, and what stands behind it
abbrev said_with : List ℕ → ℕ → Said
said_with rest n = record { answer = Ok (record { channels = Stereo; rate = Hz44100; data_bytes = n }); left = rest }

-- what the bytes `fmt ` say
abbrev format : Format
format = record { channels = Stereo; rate = Hz44100 }

-- the three parts of a file, what goes on behind them, and what is said of each
abbrev form_part : (r i f m : ℕ) → List ℕ → List ℕ
form_part r i f m more = codes "RIFF" ++ r ∷ i ∷ f ∷ m ∷ codes "WAVE" ++ more

abbrev format_body : List ℕ → List ℕ
format_body more = form_bytes ++ to_le_bytes w32 44100 ++ to_le_bytes w32 176400 ++ depth_bytes ++ more

abbrev format_part : List ℕ → List ℕ
format_part more = codes "fmt " ++ to_le_bytes w32 16 ++ format_body more

abbrev data_part : (a b c d : ℕ) → List ℕ → List ℕ
data_part a b c d rest = codes "data" ++ a ∷ b ∷ c ∷ d ∷ rest

form_said : (r i f m : ℕ) (more : List ℕ) → file_of (form_part r i f m more) ≡ chunks_from most_chunks None 12 more
unfolding file_of
form_said r i f m more = cond-false _ _ _ (le-ltb (length (form_part r i f m more)) 12 (omega arith))

format_said : (more : List ℕ) → chunks_from most_chunks None 12 (format_part more) ≡ chunks_from 131071 (Some format) 36 more
unfolding format_of
format_said more = chunks_from-suc 131071 None 12 (format_part more)
    ∙ (cond-false _ _ _ (le-ltb (length (format_part more)) 8 (omega arith)) ∙ cond-false _ _ _ (le-ltb (length (format_body more)) 16 (omega arith)))

data_said : (a b c d : ℕ) (rest : List ℕ) →
    chunks_from 131071 (Some format) 36 (data_part a b c d rest) ≡ said_with rest ((a + 256 * b) + 65536 * (c + 256 * d))
data_said a b c d rest = chunks_from-suc 131070 (Some format) 36 (data_part a b c d rest) ∙ cond-false _ _ _ (le-ltb (length (data_part a b c d rest)) 8 (omega arith))

head_is : (r i f m a b c d : ℕ) (rest : List ℕ) →
    file_of (form_part r i f m (format_part (data_part a b c d rest))) ≡ said_with rest ((a + 256 * b) + 65536 * (c + 256 * d))
head_is r i f m a b c d rest = form_said r i f m (format_part (data_part a b c d rest)) ∙ (format_said (data_part a b c d rest) ∙ data_said a b c d rest)

-- a number below 2^32 is that of its four bytes
four_bytes : (n : ℕ) → n < 2 ^ 32 → (n % 256 + 256 * (n / 256 % 256)) + 65536 * (n / 65536 % 256 + 256 * (n / 16777216 % 256)) ≡ n
four_bytes n low = omega (arith, low)

-- the file says so
said_is : (frames seed : ℕ) → frames ≤ 100000 →
    file_of (demo_file frames seed) ≡ record { answer = Ok (head_for frames); left = samples_from seed 0 (samples_for frames) }
unfolding demo_file
said_is frames seed most =
    let size = 4 * samples_for frames in
    let all = 36 + size in
    head_is (all % 256) (all / 256 % 256) (all / 65536 % 256) (all / 16777216 % 256) (size % 256) (size / 256 % 256) (size / 65536 % 256) (size / 16777216 % 256) (samples_from seed 0 (samples_for frames))
    ∙ ap (said_with (samples_from seed 0 (samples_for frames))) (four_bytes size (omega (arith, most)))

pub is_wav : (frames seed : ℕ) → frames ≤ 100000 → IsWav frames seed
unfolding wav_of after_head
is_wav frames seed most = let rest : after_head (demo_file frames seed) ≡ samples_from seed 0 (samples_for frames) = ap (λ (s : Said). s.left) (said_is frames seed most) in record {
  accepted = ap (λ (s : Said). s.answer) (said_is frames seed most);
  rest = rest;
  left = ap (λ l. firsts (coming (unread Stereo (4 * samples_for frames)) l)) rest ∙ (ap firsts (all-coming seed (samples_for frames)) ∙ lefts seed 0 (samples_for frames));
  right = ap (λ l. seconds (coming (unread Stereo (4 * samples_for frames)) l)) rest ∙ (ap seconds (all-coming seed (samples_for frames)) ∙ rights seed 0 (samples_for frames));
}
