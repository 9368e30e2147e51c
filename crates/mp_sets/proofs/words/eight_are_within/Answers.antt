use Rattle.std.proofs.Common.{◌≡◌, ℕ, ◌+◌, ◌-◌, ◌/◌, ◌<◌, get_or, map, refl, sym, ap, ◌∙◌, arith, eq-eqb, eqb-true, w64}
use Rattle.std.proofs.lemmas.List.{length-map, get_or-map}
use Rattle.std.proofs.lemmas.Simd.{length-chunk, get_or-chunk}
use Rattle.std.specs.Int.{bit_not}
use Rattle.std.specs.Prelude.{bit_and}
use Rattle.std.specs.Simd.Lanes.{chunk}
use Rattle.mp_sets.proofs.LaneLemmas.{lanes_zero, zero_lanes}
use Rattle.mp_sets.proofs.WordLemmas.{word_within, within_word}
use Rattle.mp_sets.proofs.words.eight_are_within.Goals as goal

pub returns : goal.returns
returns c =
    let xs = c.args.words.now in
    let ys = c.args.others.now in
    let from = c.args.from in
    let us = chunk from 8 xs in
    let vs = map (bit_not w64) (chunk from 8 ys) in
    let u_long = length-chunk from 8 xs (omega (arith, c.requires.from)) in
    let y_long = length-chunk from 8 ys (omega (arith, c.requires.from, c.requires.length)) in
    let v_long = length-map (chunk from 8 ys) (bit_not w64) ∙ y_long in
    let left : (j : ℕ) → j < 8 → bit_and (get_or us j 0) (get_or vs j 0) ≡ bit_and (get_or xs (from + j) 0) (bit_not w64 (get_or ys (from + j) 0)) =
    λ j small i. bit_and (get_or-chunk from 8 xs j 0 small i) ((get_or-map (bit_not w64) (chunk from 8 ys) j 0 0 (omega (arith, y_long)) ∙ ap (bit_not w64) (get_or-chunk from 8 ys j 0 small)) i) in (
      λ yes x low high here.
          let j : ℕ = x / 64 - from in
          let place : from + j ≡ x / 64 = omega arith in
          let small : j < 8 = omega arith in
          let lane = sym (left j small) ∙ lanes_zero bit_and us vs u_long v_long (eqb-true _ 0 yes) j small in
          word_within xs ys (x / 64) (c.type_inv.others (x / 64)).fits (ap (λ k. bit_and (get_or xs k 0) (bit_not w64 (get_or ys k 0))) (sym place) ∙ lane) x refl here,
      λ within. eq-eqb _ 0 (zero_lanes bit_and us vs u_long v_long (λ j small.
          left j small
          ∙ within_word xs ys (from + j) (c.type_inv.words (from + j)).fits (c.type_inv.others (from + j)).fits (λ q row here. within q (omega arith) (omega arith) here))),
    )
