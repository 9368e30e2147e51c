-- What is counted over a log is counted over the parts of its agents.
use Rattle.std.proofs.Common.{◌≡◌, ℕ, zero, suc, ◌+◌, ◌<◌, ◌≤◌, ◌≢◌, Bool, true, false, List, [], ◌∷◌, length, refl, sym, ap, ◌∙◌, arith, inl, inr}
use Rattle.std.specs.Prelude.{◌==◌, All}
use Rattle.std.proofs.lemmas.Bool.{cases_lt, eq-eqb, eqb-false, eqb-true}
use Rattle.std.proofs.lemmas.List.Elements.{All-head, All-tail}
use Rattle.std.proofs.lemmas.List.Sums.{sum_by-cons}
use Rattle.mp_messages.specs.declared.history.Entry.{Entry}
use Rattle.mp_messages.specs.declared.history.Entry.TheVariants.{Act, Put, Took}
use Rattle.mp_messages.specs.History.{agent_of as owner_of, part}
use Rattle.mp_text.specs.Outcome.{message_bytes, messages}

part_mine : (e : Entry) (es : List Entry) (agent : ℕ) → owner_of e ≡ agent → part (e ∷ es) agent ≡ e ∷ part es agent
part_mine e es agent own = rw (eq-eqb (owner_of e) agent own) refl

part_other : (e : Entry) (es : List Entry) (agent : ℕ) → owner_of e < agent → part (e ∷ es) agent ≡ part es agent
part_other e es agent less = rw (by (owner_of e == agent) refl) refl
  where
    by : (b : Bool) → (owner_of e == agent) ≡ b → b ≡ false
    by true is = let same = eqb-true (owner_of e) agent is in absurd (omega arith)
    by false is = refl

part_higher : (e : Entry) (es : List Entry) (agent : ℕ) → agent < owner_of e → part (e ∷ es) agent ≡ part es agent
part_higher e es agent less = rw (by (owner_of e == agent) refl) refl
  where
    by : (b : Bool) → (owner_of e == agent) ≡ b → b ≡ false
    by true is = let same = eqb-true (owner_of e) agent is in absurd (omega arith)
    by false is = refl

-- a count that each entry adds to
module _ (count : List Entry → ℕ) (adds : Entry → ℕ) (none : count [] ≡ 0)
    (more : (e : Entry) (es : List Entry) → count (e ∷ es) ≡ adds e + count es) where
  -- the counts of the agents up to this one
  abbrev by_agents : ℕ → (ℕ → List Entry) → ℕ
  by_agents zero own = count (own 0)
  by_agents (suc n) own = by_agents n own + count (own (suc n))

  nothing : (n : ℕ) → by_agents n (part []) ≡ 0
  nothing zero = none
  nothing (suc n) = let before = nothing n in omega (arith, none)

  higher : (n : ℕ) (e : Entry) (es : List Entry) → n < owner_of e → by_agents n (part (e ∷ es)) ≡ by_agents n (part es)
  higher zero e es less = ap count (part_higher e es 0 less)
  higher (suc n) e es less =
      let before = higher n e es (omega arith) in
      let here = ap count (part_higher e es (suc n) less) in
      omega arith

  one_more : (n : ℕ) (e : Entry) (es : List Entry) → owner_of e ≤ n
      → by_agents n (part (e ∷ es)) ≡ adds e + by_agents n (part es)
  one_more zero e es low =
      let own : owner_of e ≡ 0 = omega arith in
      ap count (part_mine e es 0 own) ∙ more e (part es 0)
  one_more (suc n) e es low = by (owner_of e == suc n) refl (λ less. one_more n e es less)
    where
      by : (b : Bool) → (owner_of e == suc n) ≡ b
          → (owner_of e ≤ n → by_agents n (part (e ∷ es)) ≡ adds e + by_agents n (part es))
          → by_agents n (part (e ∷ es)) + count (part (e ∷ es) (suc n))
          ≡ adds e + (by_agents n (part es) + count (part es (suc n)))
      by true test before_it =
          let own : owner_of e ≡ suc n = eqb-true (owner_of e) (suc n) test in
          let before = higher n e es (omega arith) in
          let here : count (part (e ∷ es) (suc n)) ≡ adds e + count (part es (suc n)) =
          ap count (part_mine e es (suc n) own) ∙ more e (part es (suc n))
          in
          omega arith
      by false test before_it =
          let apart = eqb-false (owner_of e) (suc n) test in
          let less : owner_of e < suc n = below (owner_of e) (suc n) low apart in
          let before = before_it (omega arith) in
          let here : count (part (e ∷ es) (suc n)) ≡ count (part es (suc n)) =
          ap count (part_other e es (suc n) less)
          in
          omega arith
        where
          below : (a b : ℕ) → a ≤ b → a ≢ b → a < b
          below a b le apart = elim (cases_lt a b) [ inl less ↦ less | inr more ↦ absurd (apart (omega arith)) ]

  counted : (n : ℕ) (log : List Entry) → All (λ e. owner_of e ≤ n) log → count log ≡ by_agents n (part log)
  counted n [] all = none ∙ sym (nothing n)
  counted n (e ∷ es) all =
      more e es
      ∙ ap (λ c. adds e + c) (counted n es (All-tail (λ x. owner_of x ≤ n) e es all))
      ∙ sym (one_more n e es (All-head (λ x. owner_of x ≤ n) e es all))

  same_count : (n : ℕ) (log other : List Entry) → All (λ e. owner_of e ≤ n) log → All (λ e. owner_of e ≤ n) other
      → ((agent : ℕ) → part other agent ≡ part log agent) → count other ≡ count log
  same_count n log other all also parts =
      counted n other also ∙ ap (by_agents n) (λ i a. parts a i) ∙ sym (counted n log all)

-- ---- messages and their bytes

abbrev adds_message : Entry → ℕ
adds_message (Act agent kind) = 0
adds_message (Put from to bytes) = 1
adds_message (Took by from bytes) = 0

abbrev adds_bytes : Entry → ℕ
adds_bytes (Act agent kind) = 0
adds_bytes (Put from to bytes) = length bytes
adds_bytes (Took by from bytes) = 0

one_message : (e : Entry) (es : List Entry) → length (messages (e ∷ es)) ≡ adds_message e + length (messages es)
one_message (Act agent kind) es = omega arith
one_message (Put from to bytes) es = omega arith
one_message (Took by from bytes) es = omega arith

its_bytes : (e : Entry) (es : List Entry) → message_bytes (e ∷ es) ≡ adds_bytes e + message_bytes es
its_bytes (Act agent kind) es = omega arith
its_bytes (Put from to bytes) es = sum_by-cons length bytes (messages es)
its_bytes (Took by from bytes) es = omega arith

module _ (n : ℕ) (log other : List Entry) (all : All (λ e. owner_of e ≤ n) log)
    (also : All (λ e. owner_of e ≤ n) other) (parts : (agent : ℕ) → part other agent ≡ part log agent) where
  pub same_messages : length (messages other) ≡ length (messages log)
  same_messages = same_count (λ es. length (messages es)) adds_message refl one_message n log other all also parts

  pub same_bytes : message_bytes other ≡ message_bytes log
  same_bytes = same_count message_bytes adds_bytes refl its_bytes n log other all also parts
