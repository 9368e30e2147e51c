-- Rows come into buckets one after another, and the last one goes out again.
use Rattle.std.proofs.Common.{◌≡◌, ℕ, suc, ◌+◌, ◌<◌, ◌≤◌, Bool, true, false, eqb, List, All, length, get_or, set, refl, sym, ap, subst, ◌∙◌, arith, inl, inr, add-one, get_or-set_other, get_or-set_same, length-set, eq-eqb}
use Rattle.std.proofs.lemmas.Bool.{cases_eq, cases_lt, true≢false, ne_eqb}
use Rattle.std.proofs.Math.ListN.{get_or-map}
use Rattle.std.proofs.Math.Seq.{map-set_same}
use Rattle.mp_rows.specs.declared.chains.Link.{Link}
use Rattle.mp_rows.specs.Hashes.{bucket}
use Rattle.mp_rows.specs.Chains.{no_link, link_at, place, places, is_in, IsLastBelow, AreChained}

-- a test that answers alike below the bound has the same last number
pub last_like : (p q : ℕ → Bool) (bound last : ℕ) → ((k : ℕ) → k < bound → p k ≡ q k) → IsLastBelow p bound last → IsLastBelow q bound last
last_like p q bound last alike old =
    record {
      within = old.within;
      passes = λ k e. sym (alike k (let h = old.within in omega (arith, e))) ∙ old.passes k e;
      after = λ k h below. sym (alike k below) ∙ old.after k h below;
    }

-- the number before the bound passes: it is the last
pub last_here : (p : ℕ → Bool) (n : ℕ) → p n ≡ true → IsLastBelow p (suc n) (suc n)
last_here p n passing =
    record {
      within = omega arith;
      passes = λ k e. ap p (let h : k ≡ n = omega (arith, e) in h) ∙ passing;
      after = λ k above below. absurd (let h : suc n ≤ k = above in omega (arith, h, below));
    }

-- the number before the bound does not pass: the last one is as before
pub last_before : (p : ℕ → Bool) (n last : ℕ) → p n ≡ false → IsLastBelow p n last → IsLastBelow p (suc n) last
last_before p n last failing old =
    record {
      within = let h = old.within in omega arith;
      passes = old.passes;
      after = λ k above below. elim (cases_lt k n) [
        | inl before ↦ old.after k above before
        | inr past ↦ ap p (let h : k ≡ n = omega arith in h) ∙ failing
      ];
    }

-- the same backwards
pub last_back : (p : ℕ → Bool) (n last : ℕ) → p n ≡ false → IsLastBelow p (suc n) last → IsLastBelow p n last
last_back p n last failing old =
    record {
      within = elim (cases_lt n last) [
        | inl more ↦ absurd (true≢false (sym (old.passes n (let h = old.within in omega arith)) ∙ failing))
        | inr within ↦ within
      ];
      passes = old.passes;
      after = λ k above below. old.after k above (omega arith);
    }

-- where the number before the bound passes, the last one is that
pub last_is : (p : ℕ → Bool) (n last : ℕ) → p n ≡ true → IsLastBelow p (suc n) last → last ≡ suc n
last_is p n last passing old =
    elim (cases_lt n last) [
      | inl more ↦ (let h = old.within in omega arith)
      | inr within ↦ absurd (true≢false (sym passing ∙ old.after n within (omega arith)))
    ]

-- links that differ in what is before alone are in the same buckets
pub same_hashes : (links other : List Link) → places links ≡ places other → (k : ℕ) → (link_at links k).hash ≡ (link_at other k).hash
same_hashes links other same k =
    sym (ap (λ (p : ℕ × (ℕ × ℕ)). p.0) (get_or-map place links k no_link))
    ∙ ap (λ (ps : List (ℕ × (ℕ × ℕ))). (get_or ps k (place no_link)).0) same
    ∙ ap (λ (p : ℕ × (ℕ × ℕ)). p.0) (get_or-map place other k no_link)

pub same_is_in : (buckets : ℕ) (links other : List Link) → places links ≡ places other → (b k : ℕ) → is_in buckets links b k ≡ is_in buckets other b k
same_is_in buckets links other same b k = ap (λ h. eqb (bucket buckets h) b) (same_hashes links other same k)

-- a link that leads to another row
abbrev pub leading : List Link → ℕ → ℕ → List Link
leading links n before = set links n (record (link_at links n) { before = before })

pub leading_places : (links : List Link) (n before : ℕ) → places (leading links n before) ≡ places links
leading_places links n before = map-set_same place links n (record (link_at links n) { before = before }) no_link refl

-- one row more in its bucket
pub chained_more : (heads : List ℕ) (links : List Link) (n : ℕ) → AreChained heads links n → n < length links → bucket (length heads) (link_at links n).hash < length heads
    → AreChained (set heads (bucket (length heads) (link_at links n).hash) (suc n)) (leading links n (get_or heads (bucket (length heads) (link_at links n).hash) 0)) (suc n)
chained_more heads links n old inside within =
    let size = length heads in
    let b = bucket size (link_at links n).hash in
    let new = leading links n (get_or heads b 0) in
    let same = leading_places links n (get_or heads b 0) in
    let long : length (set heads b (suc n)) ≡ size = length-set heads b (suc n) in
    let alike : (c k : ℕ) → is_in size links c k ≡ is_in size new c k = λ c k. sym (same_is_in size new links same c k) in
    let mine : is_in size links b n ≡ true = eq-eqb b b refl in
    record {
      heads_lead = λ c h. subst (λ (m : ℕ). IsLastBelow (is_in m new c) (suc n) (get_or (set heads b (suc n)) c 0)) (sym long)
          (elim (cases_eq c b) [
            | inl here ↦
                subst (λ (l : ℕ). IsLastBelow (is_in size new c) (suc n) l) (sym (ap (λ (d : ℕ). get_or (set heads b (suc n)) d 0) here ∙ get_or-set_same heads b (suc n) 0 within))
                (last_here (is_in size new c) n (sym (alike c n) ∙ ap (λ (d : ℕ). eqb b d) here ∙ mine))
            | inr other ↦
                subst (λ (l : ℕ). IsLastBelow (is_in size new c) (suc n) l) (sym (get_or-set_other heads b c (suc n) 0 other))
                (last_like (is_in size links c) (is_in size new c) (suc n) (get_or heads c 0) (λ k _. alike c k)
                (last_before (is_in size links c) n (get_or heads c 0) (ne_eqb b c (λ e. other (sym e))) (old.heads_lead c (let lt : c < size = subst (λ (m : ℕ). c < m) long h in lt))))
          ]);
      links_lead = λ k h. subst (λ (m : ℕ). IsLastBelow (is_in m new (bucket m (link_at new k).hash)) k (link_at new k).before) (sym long)
          (subst (λ (x : ℕ). IsLastBelow (is_in size new (bucket size x)) k (link_at new k).before) (sym (same_hashes new links same k))
          (elim (cases_eq k n) [
            | inl here ↦
                last_like (is_in size links (bucket size (link_at links k).hash)) (is_in size new (bucket size (link_at links k).hash)) k (link_at new k).before (λ j _. alike (bucket size (link_at links k).hash) j)
                (subst (λ (m : ℕ). IsLastBelow (is_in size links (bucket size (link_at links m).hash)) m (link_at new m).before) (sym here)
                (subst (λ (l : Link). IsLastBelow (is_in size links b) n l.before) (sym (get_or-set_same links n (record (link_at links n) { before = get_or heads b 0 }) no_link inside))
                (old.heads_lead b within)))
            | inr other ↦
                last_like (is_in size links (bucket size (link_at links k).hash)) (is_in size new (bucket size (link_at links k).hash)) k (link_at new k).before (λ j _. alike (bucket size (link_at links k).hash) j)
                (subst (λ (l : Link). IsLastBelow (is_in size links (bucket size (link_at links k).hash)) k l.before) (sym (get_or-set_other links n k (record (link_at links n) { before = get_or heads b 0 }) no_link other))
                (old.links_lead k (omega arith)))
          ]));
    }

-- no rows in empty buckets
pub chained_none : (heads : List ℕ) (links : List Link) → All (λ last. last ≡ 0) heads → AreChained heads links 0
chained_none heads links empty =
    record {
      heads_lead = λ b h. record {
        within = (let e = empty b 0 h in omega (arith, e));
        passes = λ k e. absurd (let z = empty b 0 h in omega (arith, e, z));
        after = λ k above below. absurd (omega (arith, below));
      };
      links_lead = λ k h. absurd (omega (arith, h));
    }

-- the last row out of its bucket
pub chained_less : (heads : List ℕ) (links : List Link) (n : ℕ) → AreChained heads links (suc n) → bucket (length heads) (link_at links n).hash < length heads
    → AreChained (set heads (bucket (length heads) (link_at links n).hash) (link_at links n).before) links n
chained_less heads links n old within =
    let size = length heads in
    let b = bucket size (link_at links n).hash in
    let before = (link_at links n).before in
    let long : length (set heads b before) ≡ size = length-set heads b before in
    record {
      heads_lead = λ c h. subst (λ (m : ℕ). IsLastBelow (is_in m links c) n (get_or (set heads b before) c 0)) (sym long)
          (elim (cases_eq c b) [
            | inl here ↦
                subst (λ (d : ℕ). IsLastBelow (is_in size links d) n (get_or (set heads b before) d 0)) (sym here)
                (subst (λ (l : ℕ). IsLastBelow (is_in size links b) n l) (sym (get_or-set_same heads b before 0 within)) (old.links_lead n (omega arith)))
            | inr other ↦
                subst (λ (l : ℕ). IsLastBelow (is_in size links c) n l) (sym (get_or-set_other heads b c before 0 other))
                (last_back (is_in size links c) n (get_or heads c 0) (ne_eqb b c (λ e. other (sym e))) (old.heads_lead c (let lt : c < size = subst (λ (m : ℕ). c < m) long h in lt)))
          ]);
      links_lead = λ k h. subst (λ (m : ℕ). IsLastBelow (is_in m links (bucket m (link_at links k).hash)) k (link_at links k).before) (sym long) (old.links_lead k (omega arith));
    }

-- links that are alike below a count
pub chained_alike : (heads : List ℕ) (links other : List Link) (n : ℕ) → ((k : ℕ) → k < n → link_at links k ≡ link_at other k) → AreChained heads links n → AreChained heads other n
chained_alike heads links other n alike old =
    let size = length heads in
    record {
      heads_lead = λ b h. last_like (is_in size links b) (is_in size other b) n (get_or heads b 0) (λ k below. ap (λ (l : Link). eqb (bucket size l.hash) b) (alike k below)) (old.heads_lead b h);
      links_lead = λ k h. subst (λ (l : Link). IsLastBelow (is_in size other (bucket size l.hash)) k l.before) (alike k h)
          (last_like (is_in size links (bucket size (link_at links k).hash)) (is_in size other (bucket size (link_at links k).hash)) k (link_at links k).before
          (λ j below. ap (λ (l : Link). eqb (bucket size l.hash) (bucket size (link_at links k).hash)) (alike j (omega arith)))
          (old.links_lead k h));
    }

-- one row more in its bucket, as the program reads and writes
pub chained_step : (heads : List ℕ) (links : List Link) (n b first : ℕ) (l : Link) → AreChained heads links n → n < length links → b < length heads
    → b ≡ bucket (length heads) (link_at links n).hash → first ≡ get_or heads b 0 → l ≡ link_at links n
    → AreChained (set heads b (n + 1)) (set links n (record l { before = first })) (n + 1)
chained_step heads links n b first l old inside within is at read =
    let c = bucket (length heads) (link_at links n).hash in
    let small : c < length heads = subst (λ (x : ℕ). x < length heads) is within in
    subst (λ (m : ℕ). AreChained (set heads b m) (set links n (record l { before = first })) m) (sym (add-one n))
    (subst (λ (x : ℕ). AreChained (set heads x (suc n)) (set links n (record l { before = first })) (suc n)) (sym is)
    (subst (λ (f : ℕ). AreChained (set heads c (suc n)) (set links n (record l { before = f })) (suc n)) (sym (at ∙ ap (λ (x : ℕ). get_or heads x 0) is))
    (subst (λ (k : Link). AreChained (set heads c (suc n)) (set links n (record k { before = get_or heads c 0 })) (suc n)) (sym read)
    (chained_more heads links n old inside small))))

-- the places of rows stay where one leads to another row
pub led_places : (links : List Link) (n first : ℕ) (l : Link) → l ≡ link_at links n → places (set links n (record l { before = first })) ≡ places links
led_places links n first l read =
    ap (λ (k : Link). places (set links n (record k { before = first }))) read ∙ leading_places links n first

-- the last row out of its bucket, as the program reads and writes
pub unchained_step : (heads : List ℕ) (links : List Link) (n b : ℕ) (l : Link) → AreChained heads links (n + 1) → b < length heads
    → b ≡ bucket (length heads) (link_at links n).hash → l ≡ link_at links n → AreChained (set heads b l.before) links n
unchained_step heads links n b l old within is read =
    let c = bucket (length heads) (link_at links n).hash in
    let small : c < length heads = subst (λ (x : ℕ). x < length heads) is within in
    subst (λ (x : ℕ). AreChained (set heads x l.before) links n) (sym is)
    (subst (λ (k : Link). AreChained (set heads c k.before) links n) (sym read)
    (chained_less heads links n (subst (AreChained heads links) (add-one n) old) small))
