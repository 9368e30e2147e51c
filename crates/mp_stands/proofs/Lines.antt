-- A line of a public part tells its parts: texts of facts are taken off one after another.
use Rattle.std.proofs.Common.{arith, ne_eqb, ◌≡◌, ℕ, ◌<◌, ◌^◌, ◌==◌, Bool, true, false, not, ◌&&◌, ◌||◌, List, [], ◌∷◌, ◌++◌, All, refl, sym, ap, ◌∙◌, ◌⊎◌, inl, inr}
use Rattle.std.proofs.lemmas.Bool.{and_parts, or_from, or_parts, or_right, true≢false, eqb-true}
use Rattle.std.proofs.lemmas.Fmt.{decimal_injective, decimal_is_IsNumeral}
use Rattle.std.proofs.lemmas.List.{append-nil, append_assoc, append_cancel_left}
use Rattle.std.proofs.lemmas.List.Elements.{All-head, All-tail}
use Rattle.std.proofs.lemmas.List.Folds.{list_any-append}
use Rattle.std.specs.List.{flat_map, join_with_byte, list_any}
use Rattle.std.specs.Prelude.{codes, decimal}
use Rattle.std.specs.Str.Parse.{AllDigits}
use Rattle.std.proofs.lemmas.Str.Parse.{digit_from_value}
use Rattle.mp_joint.specs.Fact.{Text}
use Rattle.mp_lifting.specs.Texts.{bracketed}
use Rattle.mp_stands.proofs.Words.{AreSpelled, complement_text, not_joined}

-- ---- texts of facts

abbrev begins_with : ℕ → Text → Bool
begins_with c [] = false
begins_with c (b ∷ bs) = b == c

-- a closing bracket stands before a space
abbrev has_gap : Text → Bool
has_gap [] = false
has_gap (b ∷ bs) = (b == 41 && begins_with 32 bs) || has_gap bs

-- a text from an opening bracket to a closing one, in which no closing bracket stands before a space
pub record IsWhole (text : Text) : Type 0 where
  pub rest : Text
  pub begins : text ≡ 40 ∷ rest
  pub front : Text
  pub ends : text ≡ front ++ 41 ∷ []
  pub no_gap : has_gap text ≡ false

gap_none : (m behind : Text) → list_any (λ b. b == 41) m ≡ false → has_gap behind ≡ false → has_gap (m ++ behind) ≡ false
gap_none [] behind h none = none
gap_none (b ∷ bs) behind h none =
    let parts = or_parts (b == 41) (list_any (λ c. c == 41) bs) h in
    or_from (b == 41 && begins_with 32 (bs ++ behind)) (has_gap (bs ++ behind)) (ap (λ t. t && begins_with 32 (bs ++ behind)) parts.0)
    (gap_none bs behind parts.1 none)

gap_there : (front w : Text) → has_gap (front ++ 41 ∷ 32 ∷ w) ≡ true
gap_there [] w = refl
gap_there (b ∷ bs) w = or_right (b == 41 && begins_with 32 (bs ++ 41 ∷ 32 ∷ w)) (has_gap (bs ++ 41 ∷ 32 ∷ w)) (gap_there bs w)

pub plain_whole : (p : Text) (xs : List Text) → AreSpelled p xs → IsWhole (bracketed (p ∷ xs))
plain_whole p xs h =
    let m = join_with_byte 32 (p ∷ xs) in
    record {
      rest = m ++ 41 ∷ [];
      begins = refl;
      front = 40 ∷ m;
      ends = refl;
      no_gap = gap_none (40 ∷ m) (41 ∷ []) (not_joined 41 p xs refl refl h.predicate_is h.args_are) refl;
    }

pub complement_whole : (p : Text) (xs : List Text) → AreSpelled p xs → IsWhole (complement_text (bracketed (p ∷ xs)))
complement_whole p xs h =
    let m = join_with_byte 32 (p ∷ xs) in
    record {
      rest = codes "not " ++ (40 ∷ m ++ 41 ∷ []) ++ 41 ∷ [];
      begins = refl;
      front = codes "(not " ++ (40 ∷ m ++ 41 ∷ []);
      ends = refl;
      no_gap =
          ap (λ t. has_gap (codes "(not (" ++ t)) (append_assoc m (41 ∷ []) (41 ∷ []))
          ∙ gap_none (codes "(not (" ++ m) (41 ∷ 41 ∷ []) (not_joined 41 p xs refl refl h.predicate_is h.args_are) refl;
    }

-- ---- one text before others

-- of two beginnings of one text, one goes on
record GoesOn (x y u v : Text) : Type 0 where
  more : Text
  longer : y ≡ x ++ more
  left : u ≡ more ++ v

meets : (x y u v : Text) → x ++ u ≡ y ++ v → GoesOn x y u v ⊎ GoesOn y x v u
meets [] y u v e = inl (record { more = y; longer = refl; left = e })
meets (a ∷ x) [] u v e = inr (record { more = a ∷ x; longer = refl; left = sym e })
meets (a ∷ x) (b ∷ y) u v e =
    let heads : a ≡ b = cc in
    let tails : x ++ u ≡ y ++ v = cc in
    elim (meets x y u v tails) [
      | inl on ↦ inl (record { more = on.more; longer = λ i. sym heads i ∷ on.longer i; left = on.left })
      | inr on ↦ inr (record { more = on.more; longer = λ i. heads i ∷ on.longer i; left = on.left })
    ]

-- nothing, or a space and something
abbrev stops : Text → Bool
stops [] = true
stops (b ∷ bs) = b == 32

pub record AreBoth (x y u v : Text) : Type 0 where
  pub first : x ≡ y
  pub others : u ≡ v

one_side : (x y u v more : Text) → IsWhole x → IsWhole y → stops u ≡ true → y ≡ x ++ more → u ≡ more ++ v → AreBoth x y u v
one_side x y u v [] whole other stop longer left = record { first = sym (append-nil x) ∙ sym longer; others = left }
one_side x y u v (b ∷ more) whole other stop longer left =
    let space : b ≡ 32 = eqb-true b 32 (sym (ap stops left) ∙ stop) in
    let is : y ≡ whole.front ++ 41 ∷ 32 ∷ more =
    longer ∙ (λ i. whole.ends i ++ space i ∷ more) ∙ append_assoc whole.front (41 ∷ []) (32 ∷ more) in
    absurd (true≢false (sym (gap_there whole.front more) ∙ ap has_gap (sym is) ∙ other.no_gap))

same_first : (x y u v : Text) → IsWhole x → IsWhole y → stops u ≡ true → stops v ≡ true → x ++ u ≡ y ++ v → AreBoth x y u v
same_first x y u v whole other stop stops_too e =
    elim (meets x y u v e) [
      | inl on ↦ one_side x y u v on.more whole other stop on.longer on.left
      | inr on ↦ let both = one_side y x v u on.more other whole stops_too on.longer on.left in record { first = sym both.first; others = sym both.others }
    ]

-- ---- many texts, a space before each

abbrev spaced : List Text → Text
spaced texts = flat_map (λ text. 32 ∷ text) texts

-- nothing, or a space with no bracket behind it
abbrev is_end : Text → Bool
is_end [] = true
is_end (b ∷ bs) = b == 32 && not (begins_with 40 bs)

end_stops : (r : Text) → is_end r ≡ true → stops r ≡ true
end_stops [] h = refl
end_stops (b ∷ bs) h = (and_parts (b == 32) (not (begins_with 40 bs)) h).0

spaced_stops : (xs : List Text) (r : Text) → is_end r ≡ true → stops (spaced xs ++ r) ≡ true
spaced_stops [] r h = end_stops r h
spaced_stops (x ∷ xs) r h = refl

no_end : (x more r : Text) → IsWhole x → is_end r ≡ true → r ≡ 32 ∷ x ++ more → ⊥
no_end x more r whole h e = true≢false (sym h ∙ ap is_end (e ∙ (λ i. 32 ∷ whole.begins i ++ more)))

pub record AreAlike (xs ys : List Text) (r s : Text) : Type 0 where
  pub texts : xs ≡ ys
  pub others : r ≡ s

pub texts_apart : (xs ys : List Text) (r s : Text) → All IsWhole xs → All IsWhole ys → is_end r ≡ true → is_end s ≡ true
    → spaced xs ++ r ≡ spaced ys ++ s → AreAlike xs ys r s
texts_apart [] [] r s h k end end_too e = record { texts = refl; others = e }
texts_apart [] (y ∷ ys) r s h k end end_too e =
    absurd (no_end y (spaced ys ++ s) r (All-head IsWhole y ys k) end (e ∙ append_assoc (32 ∷ y) (spaced ys) s))
texts_apart (x ∷ xs) [] r s h k end end_too e =
    absurd (no_end x (spaced xs ++ r) s (All-head IsWhole x xs h) end_too (sym e ∙ append_assoc (32 ∷ x) (spaced xs) r))
texts_apart (x ∷ xs) (y ∷ ys) r s h k end end_too e =
    let apart = sym (append_assoc (32 ∷ x) (spaced xs) r) ∙ e ∙ append_assoc (32 ∷ y) (spaced ys) s in
    let both = same_first x y (spaced xs ++ r) (spaced ys ++ s) (All-head IsWhole x xs h) (All-head IsWhole y ys k)
    (spaced_stops xs r end) (spaced_stops ys s end_too) (append_cancel_left (32 ∷ []) (x ++ (spaced xs ++ r)) (y ++ (spaced ys ++ s)) apart) in
    let rest = texts_apart xs ys r s (All-tail IsWhole x xs h) (All-tail IsWhole y ys k) end end_too both.others in
    record { texts = λ i. both.first i ∷ rest.texts i; others = rest.others }

-- ---- a line

word_apart : (x y u v more : Text) → list_any (λ b. b == 32) y ≡ false → y ≡ x ++ more → 32 ∷ u ≡ more ++ 32 ∷ v → AreBoth x y u v
word_apart x y u v [] none longer left =
    record { first = sym (append-nil x) ∙ sym longer; others = append_cancel_left (32 ∷ []) u v left }
word_apart x y u v (b ∷ more) none longer left =
    let space : b ≡ 32 = cc in
    let there : list_any (λ c. c == 32) y ≡ true =
    ap (list_any (λ c. c == 32)) (longer ∙ (λ i. x ++ space i ∷ more))
    ∙ list_any-append (λ c. c == 32) x (32 ∷ more) ∙ or_right (list_any (λ c. c == 32) x) true refl in
    absurd (true≢false (sym there ∙ none))

pub same_word : (x y u v : Text) → list_any (λ b. b == 32) x ≡ false → list_any (λ b. b == 32) y ≡ false → x ++ 32 ∷ u ≡ y ++ 32 ∷ v → AreBoth x y u v
same_word x y u v none none_too e =
    elim (meets x y (32 ∷ u) (32 ∷ v) e) [
      | inl on ↦ word_apart x y u v on.more none_too on.longer on.left
      | inr on ↦ let both = word_apart y x v u on.more none on.longer on.left in record { first = sym both.first; others = sym both.others }
    ]

-- digits are no spaces
digits_no_space : (ds : Text) → AllDigits 10 ds → list_any (λ b. b == 32) ds ≡ false
digits_no_space [] h = refl
digits_no_space (d ∷ ds) h =
    or_from (d == 32) (list_any (λ b. b == 32) ds) (ne_eqb d 32 (λ e. omega (arith, digit_from_value d h.0))) (digits_no_space ds h.1)

decimal_no_space : (n : ℕ) → n < 2 ^ 64 → list_any (λ b. b == 32) (decimal n) ≡ false
decimal_no_space n h = digits_no_space (decimal n) (decimal_is_IsNumeral n h).0.1

abbrev line : ℕ → List Text → List Text → List Text → Text
line cost pre add del =
    codes "act " ++ (decimal cost ++ (codes " pre" ++ (spaced pre ++ (codes " add" ++ (spaced add ++ (codes " del" ++ spaced del))))))

pub record AreOne (c d : ℕ) (pre pre_too add add_too del del_too : List Text) : Type 0 where
  pub costs : c ≡ d
  pub pres : pre ≡ pre_too
  pub adds : add ≡ add_too
  pub dels : del ≡ del_too

pub line_tells : (c d : ℕ) (pre pre_too add add_too del del_too : List Text) → c < 2 ^ 64 → d < 2 ^ 64 → All IsWhole pre → All IsWhole pre_too → All IsWhole add → All IsWhole add_too
    → All IsWhole del → All IsWhole del_too → line c pre add del ≡ line d pre_too add_too del_too → AreOne c d pre pre_too add add_too del del_too
line_tells c d pre pre_too add add_too del del_too small small_too p p_too a a_too e e_too same =
    let tail : List Text → Text = λ xs. codes " del" ++ spaced xs in
    let middle : List Text → List Text → Text = λ xs ys. codes " add" ++ (spaced xs ++ tail ys) in
    let numbered = append_cancel_left (codes "act ") (decimal c ++ (codes " pre" ++ (spaced pre ++ middle add del)))
    (decimal d ++ (codes " pre" ++ (spaced pre_too ++ middle add_too del_too))) same in
    let cost = same_word (decimal c) (decimal d) (codes "pre" ++ (spaced pre ++ middle add del)) (codes "pre" ++ (spaced pre_too ++ middle add_too del_too))
    (decimal_no_space c small) (decimal_no_space d small_too) numbered in
    let needs = texts_apart pre pre_too (middle add del) (middle add_too del_too) p p_too refl refl
    (append_cancel_left (codes "pre") (spaced pre ++ middle add del) (spaced pre_too ++ middle add_too del_too) cost.others) in
    let gives = texts_apart add add_too (tail del) (tail del_too) a a_too refl refl
    (append_cancel_left (codes " add") (spaced add ++ tail del) (spaced add_too ++ tail del_too) needs.others) in
    let takes = texts_apart del del_too [] [] e e_too refl refl
    (append-nil (spaced del) ∙ append_cancel_left (codes " del") (spaced del) (spaced del_too) gives.others ∙ sym (append-nil (spaced del_too))) in
    record { costs = decimal_injective c d small small_too cost.first; pres = needs.texts; adds = gives.texts; dels = takes.texts }
