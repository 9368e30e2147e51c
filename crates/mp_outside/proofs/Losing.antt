-- Known bytes that get fewer, from the front.
use Rattle.std.proofs.Common.{ℕ, ◌+◌, ◌≤◌, List, ◌++◌, append_assoc, length, drop, Option, Some, None, sym, ap, ◌∙◌, arith}
use Rattle.std.proofs.Math.Seq.{drop-append-add, drop-append_seam}
use Rattle.std.specs.Io.KnownBytes.{Consumes}
use Rattle.mp_outside.specs.Source.{LosesAtMost}

-- what was taken is gone
pub loses : (a b : Option (List ℕ)) (taken : List ℕ) (n : ℕ) → Consumes a b taken → length taken ≤ n → LosesAtMost a b n
loses None b taken n h le = tt
loses (Some xs) None taken n h le = absurd h
loses (Some xs) (Some ys) taken n h le = (length taken, le, sym (ap (drop (length taken)) h ∙ drop-append_seam taken ys))

-- and so is what goes after that
pub loses_more : (a b c : Option (List ℕ)) (taken : List ℕ) (m n : ℕ) → Consumes a b taken → LosesAtMost b c m → length taken + m ≤ n → LosesAtMost a c n
loses_more None b c taken m n h lost le = tt
loses_more (Some xs) None c taken m n h lost le = absurd h
loses_more (Some xs) (Some ys) None taken m n h lost le = absurd lost
loses_more (Some xs) (Some ys) (Some zs) taken m n h lost le =
    let few : lost.0 ≤ m = lost.1 in
    (length taken + lost.0, omega arith, lost.2 ∙ sym (ap (drop (length taken + lost.0)) h ∙ drop-append-add taken ys lost.0))

-- what was taken, and what was taken then
pub consumes_more : (a b c : Option (List ℕ)) (taken more : List ℕ) → Consumes a b taken → Consumes b c more → Consumes a c (taken ++ more)
consumes_more None b c taken more h k = tt
consumes_more (Some xs) None c taken more h k = absurd h
consumes_more (Some xs) (Some ys) None taken more h k = absurd k
consumes_more (Some xs) (Some ys) (Some zs) taken more h k = h ∙ ap (λ rest. taken ++ rest) k ∙ sym (append_assoc taken more zs)
