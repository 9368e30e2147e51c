-- What the kind of a byte says of it.
use Rattle.std.proofs.Common.{◌≡◌, ℕ, ◌≤◌, true, false, eqb, refl, sym, subst, arith, inl, inr}
use Rattle.std.specs.Prelude.{◌||◌, ◌&&◌, nat_le}
use Rattle.std.proofs.lemmas.Bool.{eqb-true, eqb-false, leb-true, le-leb, and_parts, and_from, or_cases, both_ways, cond_both}
use Rattle.mp_sexp.specs.declared.bytes.Kind.{Kind}
use Rattle.mp_sexp.specs.declared.bytes.Kind.TheVariants.{Space, Comment, Open, Close, Word, Foreign}
use Rattle.mp_sexp.specs.Bytes.{IsSpace, is_space, IsWordByte, open_bracket, close_bracket, semicolon}
use Rattle.mp_sexp.specs.Kinds.{kind_of}

-- what a byte of this kind is
abbrev pub IsOfKind : Kind → ℕ → Type 0
IsOfKind Space b = IsSpace b
IsOfKind Comment b = b ≡ semicolon
IsOfKind Open b = b ≡ open_bracket
IsOfKind Close b = b ≡ close_bracket
IsOfKind Word b = IsWordByte b
IsOfKind Foreign b = (IsSpace b → ⊥) × (IsWordByte b → ⊥) × (b ≡ open_bracket → ⊥) × (b ≡ close_bracket → ⊥) × (b ≡ semicolon → ⊥)

pub space_true : (b : ℕ) → is_space b ≡ true → IsSpace b
space_true b e =
    elim (or_cases (eqb b 9 || eqb b 10 || eqb b 13) (eqb b 32) e) [
      | inr z ↦ inr (inr (inr (eqb-true b 32 z)))
      | inl m ↦ elim (or_cases (eqb b 9 || eqb b 10) (eqb b 13) m) [
        | inr y ↦ inr (inr (inl (eqb-true b 13 y)))
        | inl n ↦ elim (or_cases (eqb b 9) (eqb b 10) n) [ inl w ↦ inl (eqb-true b 9 w) | inr x ↦ inr (inl (eqb-true b 10 x)) ]
      ]
    ]

pub space_false : (b : ℕ) → is_space b ≡ false → IsSpace b → ⊥
space_false b e (inl h) = both_ways (is_space b) e (subst (λ (c : ℕ). is_space c ≡ true) (sym h) refl)
space_false b e (inr (inl h)) = both_ways (is_space b) e (subst (λ (c : ℕ). is_space c ≡ true) (sym h) refl)
space_false b e (inr (inr (inl h))) = both_ways (is_space b) e (subst (λ (c : ℕ). is_space c ≡ true) (sym h) refl)
space_false b e (inr (inr (inr h))) = both_ways (is_space b) e (subst (λ (c : ℕ). is_space c ≡ true) (sym h) refl)

visible_true : (b : ℕ) → (nat_le 33 b && nat_le b 126) ≡ true → (33 ≤ b) × (b ≤ 126)
visible_true b e = let p = and_parts (nat_le 33 b) (nat_le b 126) e in (leb-true 33 b p.0, leb-true b 126 p.1)

visible_false : (b : ℕ) → (nat_le 33 b && nat_le b 126) ≡ false → 33 ≤ b → b ≤ 126 → ⊥
visible_false b e h k = both_ways (nat_le 33 b && nat_le b 126) e (and_from (nat_le 33 b) (nat_le b 126) (le-leb 33 b h) (le-leb b 126 k))

pub is_of_kind : (b : ℕ) → IsOfKind (kind_of b) b
unfolding kind_of
is_of_kind b =
    let P : Kind → Type 0 = λ k. IsOfKind k b in
    cond_both (eqb b open_bracket) Open _ P (λ e. eqb-true b open_bracket e) (λ n1.
    cond_both (eqb b close_bracket) Close _ P (λ e. eqb-true b close_bracket e) (λ n2.
    cond_both (eqb b semicolon) Comment _ P (λ e. eqb-true b semicolon e) (λ n3.
    cond_both (is_space b) Space _ P (λ e. space_true b e) (λ n4.
    cond_both (nat_le 33 b && nat_le b 126) Word Foreign P
    (λ e. (let p = visible_true b e in (p.0, p.1, eqb-false b open_bracket n1, eqb-false b close_bracket n2, eqb-false b semicolon n3)))
    (λ n5. (space_false b n4, λ w. visible_false b n5 w.0 w.1, eqb-false b open_bracket n1, eqb-false b close_bracket n2, eqb-false b semicolon n3))))))

-- ---- a byte has one kind

space_kind_at : (k : Kind) (b : ℕ) → IsOfKind k b → IsSpace b → k ≡ Space
space_kind_at Space b h s = refl
space_kind_at Comment b h s = absurd (grind arith)
space_kind_at Open b h s = absurd (grind arith)
space_kind_at Close b h s = absurd (grind arith)
space_kind_at Word b h s = absurd (grind arith)
space_kind_at Foreign b h s = absurd (h.0 s)

pub space_kind : (b : ℕ) → IsSpace b → kind_of b ≡ Space
space_kind b s = space_kind_at (kind_of b) b (is_of_kind b) s

word_kind_at : (k : Kind) (b : ℕ) → IsOfKind k b → IsWordByte b → k ≡ Word
word_kind_at Space b h s = absurd (grind arith)
word_kind_at Comment b h s = absurd (s.4 h)
word_kind_at Open b h s = absurd (s.2 h)
word_kind_at Close b h s = absurd (s.3 h)
word_kind_at Word b h s = refl
word_kind_at Foreign b h s = absurd (h.1 s)

pub word_kind : (b : ℕ) → IsWordByte b → kind_of b ≡ Word
word_kind b s = word_kind_at (kind_of b) b (is_of_kind b) s
