-- Laws of heads, carried by `chunks_in_a_head`, and of the samples behind them, carried by
-- `samples_of_a_file`.
use Rattle.std.specs.Prelude.{◌≡◌, ℕ, ◌+◌, ◌^◌, ◌<◌, ◌≤◌, List, ℤ, None, Ok, All, FitsSigned, length}
use Rattle.std.specs.Int.{w16}
use Rattle.l3_base.specs.declared.rate.Channels.{Channels}
use Rattle.l3_wav.specs.declared.head.WavHead.{WavHead}
use Rattle.l3_wav.specs.Samples.{coming, unread}
use Rattle.l3_wav.specs.Pcm.{left_of, right_of, right_count}
use Rattle.l3_wav.specs.Wav.{chunks_from, most_chunks, wav_of, after_head}

-- the count of chunks never decides: a greater one says the same of every file
abbrev pub ChunksNeverRunOut : Type 0
ChunksNeverRunOut = (more : ℕ) (bytes : List ℕ) → chunks_from (most_chunks + more) None 12 bytes ≡ chunks_from most_chunks None 12 bytes

-- these values of whole samples are numbers of 16 bits, at most 2147483647 a channel;
-- the right channel has as many as the left one, and in mono none
pub record AreChannels16 (channels : Channels) (values : List ℤ) : Type 0 where
  pub left : All (FitsSigned w16) (left_of channels values)
  pub right : All (FitsSigned w16) (right_of channels values)
  pub few : length (left_of channels values) ≤ 2147483647
  pub shape : length (right_of channels values) ≡ right_count channels (length (left_of channels values))

-- so are the samples of each file whose head is accepted
abbrev pub FilesHaveChannels16 : Type 0
FilesHaveChannels16 = (bytes : List ℕ) (head : WavHead) → All (λ byte. byte < 2 ^ 8) bytes → wav_of bytes ≡ Ok head
    → AreChannels16 head.channels (coming (unread head.channels head.data_bytes) (after_head bytes))
