-- Reading items one after the other, as a loop does.
use Rattle.std.proofs.Common.{◌≡◌, ℕ, suc, ◌+◌, ◌-◌, ◌<◌, ◌≤◌, List, [], ◌∷◌, ◌++◌, Option, Some, None, refl, sym, ap, ◌∙◌, append_assoc, arith}
use Rattle.std.proofs.lemmas.List.{append-nil}
use Rattle.mp_sets.specs.declared.tag.Tag.{Tag}
use Rattle.mp_messages.specs.Reading.{◌>>=◌, rest_of, tag_at, tags_at, fact_at, facts_at}

-- what was read before, and what is still read
abbrev pub with_front : {A : Type 0} → List A → Option (List A × List ℕ) → Option (List A × List ℕ)
with_front front read = read >>= λ x. Some (front ++ x.0, x.1)

-- one item more
one_more : {A : Type 0} (front : List A) (x : A) (read : Option (List A × List ℕ)) → with_front front (read >>= λ others. Some (x ∷ others.0, others.1)) ≡ with_front (front ++ x ∷ []) read
one_more {A} front x (Some others) = ap (λ (ys : List A). Some (ys, others.1)) (simp append_assoc)
one_more front x None = refl

-- no item more
no_more : {A : Type 0} (front : List A) (bytes : List ℕ) → with_front front (Some ([], bytes)) ≡ Some (front, bytes)
no_more {A} front bytes = ap (λ (ys : List A). Some (ys, bytes)) (append-nil front)

pub tags_go_on : (front : List Tag) (count i : ℕ) (bytes : List ℕ) (t : Tag) (after : List ℕ) (total : Option (List Tag × List ℕ)) → i < count → tag_at bytes ≡ Some (t, after) → with_front front (tags_at (count - i) bytes) ≡ total → with_front (front ++ t ∷ []) (tags_at (count - (i + 1)) after) ≡ total
unfolding tags_at
tags_go_on front count i bytes t after total lt h so_far =
    let k : count - i ≡ suc (count - (i + 1)) = omega arith in
    let one : with_front front (tags_at (count - i) bytes) ≡ with_front (front ++ t ∷ []) (tags_at (count - (i + 1)) after) = rw (k, h) (one_more front t (tags_at (count - (i + 1)) after)) in
    sym one ∙ so_far

pub tags_stop : (front : List Tag) (count i : ℕ) (bytes : List ℕ) (total : Option (List Tag × List ℕ)) → i < count → tag_at bytes ≡ None → with_front front (tags_at (count - i) bytes) ≡ total → total ≡ None
unfolding tags_at
tags_stop front count i bytes total lt h so_far =
    let k : count - i ≡ suc (count - (i + 1)) = omega arith in
    let one : with_front front (tags_at (count - i) bytes) ≡ None = rw (k, h) refl in
    sym so_far ∙ one

pub tags_end : (front : List Tag) (count i : ℕ) (bytes : List ℕ) (total : Option (List Tag × List ℕ)) → count ≤ i → with_front front (tags_at (count - i) bytes) ≡ total → total ≡ Some (front, bytes)
unfolding tags_at
tags_end front count i bytes total le so_far =
    let k : count - i ≡ 0 = omega arith in
    let one : with_front front (tags_at (count - i) bytes) ≡ Some (front, bytes) = rw k (no_more front bytes) in
    sym so_far ∙ one

pub facts_go_on : (publics : ℕ) (front : List ℕ) (count i least : ℕ) (bytes : List ℕ) (x : ℕ) (after : List ℕ) (total : Option (List ℕ × List ℕ)) → i < count → fact_at publics least bytes ≡ Some (x, after) → with_front front (facts_at publics (count - i) least bytes) ≡ total → with_front (front ++ x ∷ []) (facts_at publics (count - (i + 1)) (x + 1) after) ≡ total
unfolding facts_at
facts_go_on publics front count i least bytes x after total lt h so_far =
    let k : count - i ≡ suc (count - (i + 1)) = omega arith in
    let one : with_front front (facts_at publics (count - i) least bytes) ≡ with_front (front ++ x ∷ []) (facts_at publics (count - (i + 1)) (x + 1) after) = rw (k, h) (one_more front x (facts_at publics (count - (i + 1)) (x + 1) after)) in
    sym one ∙ so_far

pub facts_stop : (publics : ℕ) (front : List ℕ) (count i least : ℕ) (bytes : List ℕ) (total : Option (List ℕ × List ℕ)) → i < count → fact_at publics least bytes ≡ None → with_front front (facts_at publics (count - i) least bytes) ≡ total → total ≡ None
unfolding facts_at
facts_stop publics front count i least bytes total lt h so_far =
    let k : count - i ≡ suc (count - (i + 1)) = omega arith in
    let one : with_front front (facts_at publics (count - i) least bytes) ≡ None = rw (k, h) refl in
    sym so_far ∙ one

pub facts_end : (publics : ℕ) (front : List ℕ) (count i least : ℕ) (bytes : List ℕ) (total : Option (List ℕ × List ℕ)) → count ≤ i → with_front front (facts_at publics (count - i) least bytes) ≡ total → total ≡ Some (front, bytes)
unfolding facts_at
facts_end publics front count i least bytes total le so_far =
    let k : count - i ≡ 0 = omega arith in
    let one : with_front front (facts_at publics (count - i) least bytes) ≡ Some (front, bytes) = rw k (no_more front bytes) in
    sym so_far ∙ one

-- ---- the same where only what is left is asked for

rest_of-more : {A : Type 0} (x : A) (read : Option (List A × List ℕ)) → rest_of (read >>= λ others. Some (x ∷ others.0, others.1)) ≡ rest_of read
rest_of-more x (Some others) = refl
rest_of-more x None = refl

pub tags_pass : (count i : ℕ) (bytes : List ℕ) (t : Tag) (after : List ℕ) (total : Option (List ℕ)) → i < count → tag_at bytes ≡ Some (t, after) → rest_of (tags_at (count - i) bytes) ≡ total → rest_of (tags_at (count - (i + 1)) after) ≡ total
unfolding tags_at
tags_pass count i bytes t after total lt h so_far =
    let k : count - i ≡ suc (count - (i + 1)) = omega arith in
    let one : rest_of (tags_at (count - i) bytes) ≡ rest_of (tags_at (count - (i + 1)) after) = rw (k, h) (rest_of-more t (tags_at (count - (i + 1)) after)) in
    sym one ∙ so_far

pub tags_fail : (count i : ℕ) (bytes : List ℕ) (total : Option (List ℕ)) → i < count → tag_at bytes ≡ None → rest_of (tags_at (count - i) bytes) ≡ total → None ≡ total
unfolding tags_at
tags_fail count i bytes total lt h so_far =
    let k : count - i ≡ suc (count - (i + 1)) = omega arith in
    let one : rest_of (tags_at (count - i) bytes) ≡ None = rw (k, h) refl in
    sym one ∙ so_far

pub tags_done : (count i : ℕ) (bytes : List ℕ) (total : Option (List ℕ)) → count ≤ i → rest_of (tags_at (count - i) bytes) ≡ total → Some bytes ≡ total
unfolding tags_at
tags_done count i bytes total le so_far =
    let k : count - i ≡ 0 = omega arith in
    let one : rest_of (tags_at (count - i) bytes) ≡ Some bytes = rw k refl in
    sym one ∙ so_far

pub facts_pass : (publics count i least : ℕ) (bytes : List ℕ) (x : ℕ) (after : List ℕ) (total : Option (List ℕ)) → i < count → fact_at publics least bytes ≡ Some (x, after) → rest_of (facts_at publics (count - i) least bytes) ≡ total → rest_of (facts_at publics (count - (i + 1)) (x + 1) after) ≡ total
unfolding facts_at
facts_pass publics count i least bytes x after total lt h so_far =
    let k : count - i ≡ suc (count - (i + 1)) = omega arith in
    let one : rest_of (facts_at publics (count - i) least bytes) ≡ rest_of (facts_at publics (count - (i + 1)) (x + 1) after) = rw (k, h) (rest_of-more x (facts_at publics (count - (i + 1)) (x + 1) after)) in
    sym one ∙ so_far

pub facts_fail : (publics count i least : ℕ) (bytes : List ℕ) (total : Option (List ℕ)) → i < count → fact_at publics least bytes ≡ None → rest_of (facts_at publics (count - i) least bytes) ≡ total → None ≡ total
unfolding facts_at
facts_fail publics count i least bytes total lt h so_far =
    let k : count - i ≡ suc (count - (i + 1)) = omega arith in
    let one : rest_of (facts_at publics (count - i) least bytes) ≡ None = rw (k, h) refl in
    sym one ∙ so_far

pub facts_done : (publics count i least : ℕ) (bytes : List ℕ) (total : Option (List ℕ)) → count ≤ i → rest_of (facts_at publics (count - i) least bytes) ≡ total → Some bytes ≡ total
unfolding facts_at
facts_done publics count i least bytes total le so_far =
    let k : count - i ≡ 0 = omega arith in
    let one : rest_of (facts_at publics (count - i) least bytes) ≡ Some bytes = rw k refl in
    sym one ∙ so_far
