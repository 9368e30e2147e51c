-- Stamps that rise.
use Rattle.std.proofs.Common.{ℕ, zero, suc, ◌+◌, ◌-◌, ◌^◌, ◌<◌, ◌≤◌, List, [], ◌∷◌, ◌++◌, length, arith}
use Rattle.std.specs.Prelude.{All}
use Rattle.std.proofs.lemmas.List.Elements.{All-append, All-cons, All-nil, All-weaker}
use Rattle.std.proofs.lemmas.List.Kept.{AllPairs-cons}
use Rattle.mp_messages.specs.declared.history.Entry.{Entry}
use Rattle.mp_messages.specs.declared.history.Entry.TheVariants.{Act, Put, Took}
use Rattle.mp_stamps.specs.Lists.{Rises, last_stamp}
use Rattle.mp_stamps.specs.declared.stamped.Stamped.{Stamped}
use Rattle.mp_post_rule.specs.Queues.{stamped_after}
use Rattle.mp_post_rule.specs.Rule.{greatest_stamp}

abbrev pub Below : ℕ → Stamped → Type 0
Below n s = s.stamp ≤ n

abbrev pub Above : ℕ → Stamped → Type 0
Above n s = n < s.stamp

abbrev Earlier : Stamped → Stamped → Type 0
Earlier a b = a.stamp < b.stamp

rises_nil : Rises []
rises_nil i j d low within = absurd (omega arith)

rises_head : (s : Stamped) (ss : List Stamped) → Rises (s ∷ ss) → All (Above s.stamp) ss
rises_head s ss r k d within = r zero (suc k) d (omega arith) (omega arith)

rises_tail : (s : Stamped) (ss : List Stamped) → Rises (s ∷ ss) → Rises ss
rises_tail s ss r i j d low within = r (suc i) (suc j) d (omega arith) (omega arith)

-- the last stamp is the greatest
passes : (s : Stamped) (ss : List Stamped) → Rises (s ∷ ss) → s.stamp ≤ last_stamp s.stamp ss
passes s [] r = omega arith
passes s (t ∷ ts) r =
    let next : s.stamp < t.stamp = r zero (suc zero) s (omega arith) (omega arith) in
    let rest = passes t ts (rises_tail s (t ∷ ts) r) in
    omega arith

pub below_last : (start : ℕ) (list : List Stamped) → Rises list → All (Below (last_stamp start list)) list
below_last start [] r = All-nil (Below start)
below_last start (s ∷ ss) r = All-cons (Below (last_stamp s.stamp ss)) s ss (passes s ss r) (below_last s.stamp ss (rises_tail s ss r))

-- later entries behind earlier ones
pub rises_more : (n : ℕ) (xs ys : List Stamped) → Rises xs → All (Below n) xs → Rises ys → All (Above n) ys → Rises (xs ++ ys)
rises_more n [] ys rise low more high = more
rises_more n (x ∷ xs) ys rise low more high =
    let first : x.stamp ≤ n = low zero x (omega arith) in
    AllPairs-cons Earlier x (xs ++ ys)
    (All-append (Above x.stamp) xs ys (rises_head x xs rise) (All-weaker (Above n) (Above x.stamp) (λ s later. omega arith) ys high))
    (rises_more n xs ys (rises_tail x xs rise) (λ k d within. low (suc k) d (omega arith)) more high)

-- the stamps of a batch
pub batch_above : (last : ℕ) (batch : List Entry) → All (Above last) (stamped_after last batch)
batch_above last [] = All-nil (Above last)
batch_above last (e ∷ es) = All-cons (Above last) (record { stamp = suc last; entry = e }) (stamped_after (suc last) es) (omega arith)
    (All-weaker (Above (suc last)) (Above last) (λ s later. omega arith) (stamped_after (suc last) es) (batch_above (suc last) es))

pub batch_rises : (last : ℕ) (batch : List Entry) → Rises (stamped_after last batch)
batch_rises last [] = rises_nil
batch_rises last (e ∷ es) = AllPairs-cons Earlier (record { stamp = suc last; entry = e }) (stamped_after (suc last) es)
    (batch_above (suc last) es) (batch_rises (suc last) es)

pub one_rises : (s : Stamped) → Rises (s ∷ [])
one_rises s i j d low within = absurd (omega arith)

pub at_least : (e : Entry) → 2 ^ 64 - 2 ≤ greatest_stamp e
at_least (Act agent kind) = omega arith
at_least (Put from to bytes) = omega arith
at_least (Took by from bytes) = omega arith

pub batch_bound : (last : ℕ) (batch : List Entry) → last + length batch ≤ 2 ^ 64 - 2
    → All (λ (s : Stamped). s.stamp ≤ greatest_stamp s.entry) (stamped_after last batch)
batch_bound last [] fits = All-nil (λ (s : Stamped). s.stamp ≤ greatest_stamp s.entry)
batch_bound last (e ∷ es) fits = All-cons (λ (s : Stamped). s.stamp ≤ greatest_stamp s.entry)
    (record { stamp = suc last; entry = e }) (stamped_after (suc last) es)
    (let most = at_least e in omega arith)
    (batch_bound (suc last) es (omega arith))
