use Rattle.std.proofs.Common.{◌≡◌, ℕ, ◌+◌, ◌-◌, ◌/◌, ◌<◌, get_or, refl, sym, ap, ◌∙◌, arith, eq-eqb, eqb-true}
use Rattle.std.proofs.lemmas.Simd.{length-chunk, get_or-chunk}
use Rattle.std.specs.Int.RustNames.{bit_xor}
use Rattle.std.specs.Simd.Lanes.{chunk}
use Rattle.mp_sets.proofs.LaneLemmas.{lanes_zero, zero_lanes, xor_zero, zero_xor}
use Rattle.mp_sets.proofs.WordLemmas.{same_word_bits, same_word}
use Rattle.mp_sets.proofs.words.eight_are_equal.Goals as goal

pub returns : goal.returns
returns c =
    let xs = c.args.words.now in
    let ys = c.args.others.now in
    let from = c.args.from in
    let us = chunk from 8 xs in
    let vs = chunk from 8 ys in
    let u_long = length-chunk from 8 xs (omega (arith, c.requires.from)) in
    let v_long = length-chunk from 8 ys (omega (arith, c.requires.from, c.requires.length)) in (
      λ yes x low high.
          let j : ℕ = x / 64 - from in
          let place : from + j ≡ x / 64 = omega arith in
          let small : j < 8 = omega arith in
          let lane = xor_zero _ _ (lanes_zero bit_xor us vs u_long v_long (eqb-true _ 0 yes) j small) in
          let word = sym (get_or-chunk from 8 xs j 0 small) ∙ lane ∙ get_or-chunk from 8 ys j 0 small in
          same_word_bits xs ys (x / 64) (ap (λ k. get_or xs k 0) (sym place) ∙ word ∙ ap (λ k. get_or ys k 0) place) x refl,
      λ same. eq-eqb _ 0 (zero_lanes bit_xor us vs u_long v_long (λ j small.
          zero_xor _ _ (get_or-chunk from 8 xs j 0 small
          ∙ same_word xs ys (from + j) (c.type_inv.words (from + j)).fits (c.type_inv.others (from + j)).fits (λ q row. same q (omega arith) (omega arith))
          ∙ sym (get_or-chunk from 8 ys j 0 small)))),
    )
