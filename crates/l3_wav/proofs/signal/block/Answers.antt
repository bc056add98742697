use Rattle.std.proofs.Common.{rules, ◌≡◌, ◌∙◌, ap, ap₂, ◌++◌, of_z, to_z, w32}
use Rattle.std.proofs.lemmas.Int.{to_z-of_z}
use Rattle.l3_wav.specs.Demo.{after, left_by, noise_of, right_by, sample_bytes}
use Rattle.l3_wav.proofs.signal.block.Goals as goal

pub returns : goal.returns
returns c =
    let at = c.args.at in
    let state = c.args.state in
    let one : to_z w32 (of_z w32 c.noise.result) ≡ c.noise.result = to_z-of_z w32 c.noise.result (search rules) in
    let two : to_z w32 (of_z w32 c.noise-2.result) ≡ c.noise-2.result = to_z-of_z w32 c.noise-2.result (search rules) in
    let three : to_z w32 (of_z w32 c.left-left.result) ≡ c.left-left.result = to_z-of_z w32 c.left-left.result (search rules) in
    let four : to_z w32 (of_z w32 c.right-right.result) ≡ c.right-right.result = to_z-of_z w32 c.right-right.result (search rules) in
    let first : c.next-first.result ≡ after state = c.next-first.ensures in
    let low : c.noise.result ≡ noise_of (after state) = c.noise.ensures.value ∙ ap noise_of first in
    let left : c.left-left.result ≡ left_by at (noise_of (after state)) = c.left-left.ensures.value ∙ ap (left_by at) (one ∙ low) in
    let second : c.next.result ≡ after (after state) = c.next.ensures ∙ ap after first in
    let high : c.noise-2.result ≡ noise_of (after (after state)) = c.noise-2.ensures.value ∙ ap noise_of second in
    let right : c.right-right.result ≡ right_by at (left_by at (noise_of (after state))) (noise_of (after (after state))) = c.right-right.ensures ∙ ap₂ (right_by at) (three ∙ left) (two ∙ high) in
    c.joined.ensures ∙ ap₂ (λ xs ys. xs ++ ys) (c.bytes_of.ensures ∙ ap sample_bytes (three ∙ left)) (c.bytes_of-2.ensures ∙ ap sample_bytes (four ∙ right))
