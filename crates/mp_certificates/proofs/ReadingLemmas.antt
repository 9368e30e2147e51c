-- A text has one reading.
use Rattle.std.proofs.Common.{◌≡◌, refl, sym, ap, ◌∙◌, ℕ, ◌+◌, ◌≤◌, List, [], ◌∷◌, ◌++◌, length, All, append_assoc, append-nil, length-append, arith, inl, inr}
use Rattle.std.specs.Prelude.{◌⊎◌}
use Rattle.std.specs.List.{AllByRecursion}
use Rattle.std.proofs.lemmas.List.Elements.{recursion_from_All}
use Rattle.std.proofs.lemmas.Option.{some_pair_parts}
use Rattle.mp_task.specs.AgentTask.{AgentTask}
use Rattle.mp_task.specs.Limits.{IsWithinLimits}
use Rattle.mp_audit.specs.declared.certificate.Bound.{Bound}
use Rattle.mp_audit.specs.declared.certificate.Certificate.{Certificate}
use Rattle.mp_audit.specs.Fits.{most}
use Rattle.mp_text.specs.Lines.{Text}
use Rattle.mp_certificates.specs.Accepted.{HasNoEntry, IsCertificate, IsEntry, IsLaterRefused, IsRefusedLine, IsTextOf}
use Rattle.mp_certificates.specs.Reading.{cost_at, entry_at}
use Rattle.mp_certificates.specs.Text.{cost_line, entries_text, entry_line}
use Rattle.mp_certificates.proofs.LineLemmas.{cost_again, ended, entry_again}

module _ (tasks : List AgentTask) (few : length tasks ≤ 16) (limits : All IsWithinLimits tasks) where
  -- ---- entries at the front of one text

  -- one list of entries goes on where the other one ends
  record IsFurther (short long : List Bound) (left rest : Text) : Type 0 where
    more : List Bound
    list : long ≡ short ++ more
    are : AllByRecursion (IsEntry tasks) more
    is : left ≡ entries_text more ++ rest

  -- entries behind a first one
  behind_first : (first : Bound) (others : List Bound) (rest : Text)
      → entries_text (first ∷ others) ++ rest ≡ ended (entry_line first) ++ (entries_text others ++ rest)
  behind_first first others rest = append_assoc (ended (entry_line first)) (entries_text others) rest

  same_first : (a b : Bound) (r s : Text) → IsEntry tasks a → IsEntry tasks b
      → ended (entry_line a) ++ r ≡ ended (entry_line b) ++ s → (a ≡ b) × (r ≡ s)
  same_first a b r s h k e =
      some_pair_parts a b r s
      (sym (entry_again tasks a r few limits h) ∙ ap (entry_at tasks) e ∙ entry_again tasks b s few limits k)

  further : (a b : Bound) (short long : List Bound) (left rest : Text) → a ≡ b → IsFurther short long left rest
      → IsFurther (a ∷ short) (b ∷ long) left rest
  further a b short long left rest same f = record {
    more = f.more;
    list = λ i. sym same i ∷ f.list i;
    are = f.are;
    is = f.is;
  }

  same_front : (xs ys : List Bound) (r s : Text) → AllByRecursion (IsEntry tasks) xs → AllByRecursion (IsEntry tasks) ys
      → entries_text xs ++ r ≡ entries_text ys ++ s
      → IsFurther xs ys r s ⊎ IsFurther ys xs s r
  same_front [] ys r s h k e = inl (record { more = ys; list = refl; are = k; is = e })
  same_front (a ∷ xs) [] r s h k e = inr (record { more = a ∷ xs; list = refl; are = h; is = sym e })
  same_front (a ∷ xs) (b ∷ ys) r s h k e =
      let one = same_first a b (entries_text xs ++ r) (entries_text ys ++ s) h.0 k.0
      (sym (behind_first a xs r) ∙ e ∙ behind_first b ys s) in
      elim (same_front xs ys r s h.1 k.1 one.1) [
        | inl f ↦ inl (further a b xs ys r s one.0 f)
        | inr f ↦ inr (further b a ys xs s r (sym one.0) f)
      ]

  -- nothing is left, so nothing follows
  nothing : (more : List Bound) (rest : Text) → [] ≡ entries_text more ++ rest → (more ≡ []) × (rest ≡ [])
  nothing [] rest e = (refl, sym e)
  nothing (b ∷ more) rest e =
      let size = ap (λ (t : Text). length t) (e ∙ behind_first b more rest) in
      let all = length-append (ended (entry_line b)) (entries_text more ++ rest) in
      let line = length-append (entry_line b) (10 ∷ []) in
      absurd (omega (arith, size, all, line))

  -- what is left and begins with no entry has none
  no_more : (more : List Bound) (left rest : Text) → AllByRecursion (IsEntry tasks) more → HasNoEntry tasks left
      → left ≡ entries_text more ++ rest → more ≡ []
  no_more [] left rest are none e = refl
  no_more (b ∷ more) left rest are none e =
      absurd (none b (entries_text more ++ rest) are.0 (e ∙ behind_first b more rest))

  entries_of : (c : Certificate) → IsCertificate tasks c → AllByRecursion (IsEntry tasks) c.bounds
  entries_of c h =
      recursion_from_All (IsEntry tasks) c.bounds
      (λ k d within. record { formed = h.formed k d within; agent = h.agents k d within; fits = h.fits.bounds k d within })

  -- ---- costs

  same_cost : (a b : ℕ) (r s : Text) → a ≤ most → b ≤ most → ended (cost_line a) ++ r ≡ ended (cost_line b) ++ s
      → (a ≡ b) × (r ≡ s)
  same_cost a b r s h k e =
      some_pair_parts a b r s (sym (cost_again a r h) ∙ ap cost_at e ∙ cost_again b s k)

  -- ---- whole texts

  same_bounds : (xs ys : List Bound) → IsFurther xs ys [] [] → xs ≡ ys
  same_bounds xs ys f =
      let none = nothing f.more [] f.is in
      sym (f.list ∙ ap (λ (m : List Bound). xs ++ m) none.0 ∙ append-nil xs)

  pub one_certificate : (text : Text) (a b : Certificate) → IsTextOf tasks a text → IsTextOf tasks b text → a ≡ b
  one_certificate text a b h k =
      let c = same_cost a.cost b.cost (entries_text a.bounds) (entries_text b.bounds) h.certificate_fits.fits.cost k.certificate_fits.fits.cost
      (sym h.is ∙ k.is) in
      let e : entries_text a.bounds ++ [] ≡ entries_text b.bounds ++ [] = ap (λ (t : Text). t ++ []) c.1 in
      let bounds : a.bounds ≡ b.bounds =
      elim (same_front a.bounds b.bounds [] [] (entries_of a h.certificate_fits) (entries_of b k.certificate_fits) e) [
        | inl f ↦ same_bounds a.bounds b.bounds f
        | inr f ↦ sym (same_bounds b.bounds a.bounds f)
      ] in
      λ i. record { cost = c.0 i; bounds = bounds i }

  later_not_accepted : (text : Text) (c : Certificate) (number : ℕ) → IsTextOf tasks c text → IsLaterRefused tasks text number → ⊥
  later_not_accepted text c number h later =
      let refused = later.refused in
      let cost = same_cost c.cost later.cost (entries_text c.bounds) later.behind h.certificate_fits.fits.cost later.small
      (sym h.is ∙ later.is) in
      let e : entries_text c.bounds ++ [] ≡ entries_text refused.entries ++ refused.left =
      append-nil (entries_text c.bounds) ∙ cost.1 ∙ refused.is in
      elim (same_front c.bounds refused.entries [] refused.left (entries_of c h.certificate_fits)
      (recursion_from_All (IsEntry tasks) refused.entries refused.are) e) [
        | inl f ↦ refused.some (nothing f.more refused.left f.is).1
        | inr f ↦
            let none = no_more f.more refused.left [] f.are refused.none f.is in
            refused.some (f.is ∙ ap (λ (m : List Bound). entries_text m ++ []) none)
      ]

  pub not_accepted : (text : Text) (c : Certificate) (number : ℕ) → IsTextOf tasks c text → IsRefusedLine tasks text number → ⊥
  not_accepted text c number h refused =
      elim refused [
        | inl first ↦ first.1 c.cost (entries_text c.bounds) h.certificate_fits.fits.cost h.is
        | inr later ↦ later_not_accepted text c number h later
      ]

  -- one list of entries goes on behind which nothing may follow
  same_length : (xs ys : List Bound) (left rest : Text) → HasNoEntry tasks left → IsFurther xs ys left rest → length xs ≡ length ys
  same_length xs ys left rest none f =
      let no = no_more f.more left rest f.are none f.is in
      ap (λ (l : List Bound). length l) (sym (f.list ∙ ap (λ (m : List Bound). xs ++ m) no ∙ append-nil xs))

  same_later : (text : Text) (m n : ℕ) → IsLaterRefused tasks text m → IsLaterRefused tasks text n → m ≡ n
  same_later text m n h k =
      let p = h.refused in
      let q = k.refused in
      let cost = same_cost h.cost k.cost h.behind k.behind h.small k.small (sym h.is ∙ k.is) in
      let e : entries_text p.entries ++ p.left ≡ entries_text q.entries ++ q.left = sym p.is ∙ cost.1 ∙ q.is in
      let sizes : length p.entries ≡ length q.entries =
      elim (same_front p.entries q.entries p.left q.left (recursion_from_All (IsEntry tasks) p.entries p.are)
      (recursion_from_All (IsEntry tasks) q.entries q.are) e) [
        | inl f ↦ same_length p.entries q.entries p.left q.left p.none f
        | inr f ↦ sym (same_length q.entries p.entries q.left p.left q.none f)
      ] in
      p.is_number ∙ ap (λ (l : ℕ). l + 2) sizes ∙ sym q.is_number

  pub one_line : (text : Text) (m n : ℕ) → IsRefusedLine tasks text m → IsRefusedLine tasks text n → m ≡ n
  one_line text m n h k =
      elim h [
        | inl first ↦ elim k [
          | inl other ↦ first.0 ∙ sym other.0
          | inr later ↦ absurd (first.1 later.cost later.behind later.small later.is)
        ]
        | inr later ↦ elim k [
          | inl first ↦ absurd (first.1 later.cost later.behind later.small later.is)
          | inr other ↦ same_later text m n later other
        ]
      ]
