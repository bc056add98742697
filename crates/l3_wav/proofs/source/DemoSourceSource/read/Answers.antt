use Rattle.std.proofs.Common.{rules, ◌≡◌, ◌<◌, ◌≤◌, ◌+◌, ◌-◌, ◌++◌, refl, length, drop}
use Rattle.l3_wav.specs.Demo.{after, samples_after}
use Rattle.l3_wav.proofs.DemoSampleLemmas.{all_gone, given, refilled}
use Rattle.l3_wav.proofs.source.DemoSourceSource.read.Goals as goal

pub returns-then-self-lt44-clause-bytes : goal.returns-then-self-lt44-clause-bytes
returns-then-self-lt44-clause-bytes c =
    let s = c.self.inside in
    let view : c.args.self.now ≡ drop s.at s.made ++ samples_after s.state s.time (s.end - s.time) = search rules in (
      given c.args.self.now s.made c.give-count.new.buf s.at c.give-count.result (samples_after s.state s.time (s.end - s.time)) view (search rules),
      λ none there. search rules,
    )

pub returns-then-self-clause-bytes : goal.returns-then-self-clause-bytes
returns-then-self-clause-bytes c =
    let s = c.self.inside in
    let view : c.args.self.now ≡ drop s.at s.made ++ samples_after s.state s.time (s.end - s.time) = search rules in
    let size : length s.made ≡ 44 = search rules in
    let past : 44 ≤ s.at = search rules in
    let is : s.time ≡ s.end = search rules in
    (refl, λ none there. rw view (all_gone s.made s.at s.state s.time s.end size past is))

pub returns-clause-bytes : goal.returns-clause-bytes
returns-clause-bytes c =
    let s = c.self.inside in
    let again = c.as_last-self-inside.result in
    let view : c.args.self.now ≡ drop s.at s.made ++ samples_after s.state s.time (s.end - s.time) = search rules in
    let size : length s.made ≡ 44 = search rules in
    let past : 44 ≤ s.at = search rules in
    let there : s.time < s.end = search rules in
    let rest = samples_after (after (after s.state)) (s.time + 1) (s.end - (s.time + 1)) in
    let filled = refilled c.args.self.now s.made again s.at s.state s.time s.end size past there view (search rules) in
    let noise : c.next-self-inside.result ≡ after (after s.state) = search rules in (
      rw noise (given c.args.self.now again c.give-count-2.new.buf 40 c.give-count-2.result rest filled (search rules)),
      λ none there. search rules,
    )
