-- How a row is found: along its bucket, from the last row on.
use Rattle.std.proofs.Common.{◌≡◌, ℕ, suc, ◌<◌, ◌≤◌, false, List, length, get_or, refl, sym, ap, ◌∙◌, arith, inl, inr, eq-eqb, eqb-true}
use Rattle.std.proofs.lemmas.Bool.{cases_lt, true≢false}
use Rattle.mp_rows.specs.declared.chains.Link.{Link}
use Rattle.mp_rows.specs.Chains.{link_at, is_in}
use Rattle.mp_rows.specs.Hashes.{bucket, hash_of}
use Rattle.mp_rows.specs.RowFields.{row_of, AreRows}
use Rattle.mp_rows.proofs.RowLemmas.{hashed_at}

-- the row that is sought is none of those from a number on, and the row before that is in its bucket
pub record IsScan (words : List ℕ) (links : List Link) (buckets : ℕ) (sought : List ℕ) (last : ℕ) : Type 0 where
  pub within : last ≤ length links
  pub here : (k : ℕ) → last ≡ suc k → bucket buckets (link_at links k).hash ≡ bucket buckets (hash_of sought)
  pub none : (k : ℕ) → last ≤ k → k < length links → row_of words links k ≡ sought → ⊥

-- a row of another bucket is another row
other_bucket : (words : List ℕ) (links : List Link) (heads : List ℕ) (sought : List ℕ) (b k : ℕ) → AreRows words links heads → b ≡ bucket (length heads) (hash_of sought) → k < length links
    → is_in (length heads) links b k ≡ false → row_of words links k ≡ sought → ⊥
other_bucket words links heads sought b k rows is inside out same =
    let hash : (link_at links k).hash ≡ hash_of sought = hashed_at words links k rows.placed inside ∙ ap hash_of same in
    true≢false (sym (eq-eqb (bucket (length heads) (link_at links k).hash) b (ap (bucket (length heads)) hash ∙ sym is)) ∙ out)

pub scan_start : (words : List ℕ) (links : List Link) (heads : List ℕ) (sought : List ℕ) → AreRows words links heads → bucket (length heads) (hash_of sought) < length heads
    → IsScan words links (length heads) sought (get_or heads (bucket (length heads) (hash_of sought)) 0)
scan_start words links heads sought rows within =
    let b = bucket (length heads) (hash_of sought) in
    let lead = rows.chained.heads_lead b within in
    record {
      within = lead.within;
      here = λ k e. eqb-true (bucket (length heads) (link_at links k).hash) b (lead.passes k e);
      none = λ k above inside same. other_bucket words links heads sought b k rows refl inside (lead.after k above inside) same;
    }

pub scan_next : (words : List ℕ) (links : List Link) (heads : List ℕ) (sought : List ℕ) (n : ℕ) → AreRows words links heads → n < length links
    → (row_of words links n ≡ sought → ⊥) → IsScan words links (length heads) sought (suc n) → IsScan words links (length heads) sought (link_at links n).before
scan_next words links heads sought n rows inside other old =
    let b = bucket (length heads) (link_at links n).hash in
    let is : b ≡ bucket (length heads) (hash_of sought) = old.here n refl in
    let lead = rows.chained.links_lead n inside in
    record {
      within = (let h = lead.within in omega arith);
      here = λ k e. eqb-true (bucket (length heads) (link_at links k).hash) b (lead.passes k e) ∙ is;
      none = λ k above k_in same. elim (cases_lt k n) [
        | inl below ↦ other_bucket words links heads sought b k rows is k_in (lead.after k above below) same
        | inr past ↦ elim (cases_lt n k) [
          | inl behind ↦ old.none k (omega arith) k_in same
          | inr not_behind ↦ other (ap (row_of words links) (let e : n ≡ k = omega arith in e) ∙ same)
        ]
      ];
    }
