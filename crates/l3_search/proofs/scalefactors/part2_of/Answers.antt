use Rattle.std.proofs.Common.{◌≡◌, ℕ, ◌+◌, ◌*◌, ◌≤◌, arith, ap, sym, ◌∙◌}
use Rattle.l3_search.specs.Noise.{compress_of, part2_of, scalefactor_bits, slen1_of, slen2_of}
use Rattle.l3_search.specs.declared.scalefactors.Part2.{Part2}
use Rattle.l3_search.specs.Kernels.{compress_for}
use Rattle.l3_search.proofs.CompressLemmas.{bits_are_few, compress_of-tops}
use Rattle.l3_search.proofs.scalefactors.part2_of.Goals as goal

pub returns-clause-value : goal.returns-clause-value
unfolding part2_of scalefactor_bits
returns-clause-value c =
    let k = c.compress-compress.result in
    let compress : k ≡ compress_of c.args.amp.now =
    c.compress-compress.ensures.value ∙ sym (compress_of-tops c.args.amp.now c.greatest.result c.greatest-2.result c.greatest.ensures.value c.greatest-2.ensures.value) in
    let make : ℕ → ℕ → ℕ → Part2 = λ k a b. record { compress = k; bits = 11 * a + 10 * b } in
    ap (λ a. make k a c.slen2.result) c.slen1.ensures.value
    ∙ (ap (λ b. make k (slen1_of k) b) c.slen2.ensures.value
    ∙ ap (λ n. make n (slen1_of n) (slen2_of n)) compress)

pub returns-clause-bits : goal.returns-clause-bits
unfolding scalefactor_bits
returns-clause-bits c =
    let k = c.compress-compress.result in
    let first : 11 * c.slen1.result ≡ 11 * slen1_of k = ap (λ n. 11 * n) c.slen1.ensures.value in
    let second : 10 * c.slen2.result ≡ 10 * slen2_of k = ap (λ n. 10 * n) c.slen2.ensures.value in
    let own : scalefactor_bits k ≡ scalefactor_bits (compress_for c.greatest.result c.greatest-2.result) = ap scalefactor_bits c.compress-compress.ensures.value in
    let few : scalefactor_bits k ≤ 42 = omega (arith, own, bits_are_few c.greatest.result c.greatest-2.result c.greatest.ensures.bound c.greatest-2.ensures.bound) in
    let whole : 11 * slen1_of k + 10 * slen2_of k ≤ 42 = few in
    omega (arith, first, second, whole)
