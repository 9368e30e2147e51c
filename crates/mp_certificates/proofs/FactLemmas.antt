-- Lists of facts that are read are spelled so, and those that are spelled are read again.
use Rattle.std.proofs.Common.{◌≡◌, refl, sym, ap, ◌∙◌, subst, ℕ, zero, suc, ◌+◌, ◌^◌, ◌<◌, ◌≤◌, ◌==◌, Bool, true, false, List, [], ◌∷◌, ◌++◌, Option, Some, None, append_assoc, arith, inl, inr, if◌then◌else◌}
use Rattle.std.specs.Prelude.{decimal}
use Rattle.std.specs.List.{flat_map}
use Rattle.std.specs.List.Sorted.{IsStrictlyIncreasing}
use Rattle.std.proofs.lemmas.Bool.{eqb-true}
use Rattle.std.proofs.lemmas.Option.{cond_some}
use Rattle.mp_sets.proofs.RisingLemmas.{RisesFrom, RisesFrom-rises}
use Rattle.mp_messages.specs.Reading.{◌>>=◌}
use Rattle.mp_messages.proofs.Taking.{bind_some, chosen, some_is}
use Rattle.mp_text.specs.Lines.{Text}
use Rattle.mp_text.specs.Reading.{byte_at, read_or}
use Rattle.mp_text.proofs.PairLemmas.{byte_again, byte_read}
use Rattle.mp_certificates.specs.Reading.{bracket_at, fact_at, facts_from, facts_within, list_at, more_at, no_facts, number_at}
use Rattle.mp_certificates.specs.Text.{blank_facts, blank_number}
use Rattle.mp_certificates.proofs.NumberLemmas.{begins_otherwise, number_again, number_read}

-- ---- one fact

-- what stands behind a fact: a blank where another follows, and otherwise the bracket
abbrev mark : Bool → ℕ
mark more = if more then 32 else 93

more_read : (text : Text) (x : Bool × Text) → more_at text ≡ Some x → text ≡ mark x.0 ∷ x.1
unfolding more_at
more_read [] x e = absurd cc
more_read (byte ∷ rest) x e =
    elim (chosen (byte == 32) (Some (true, rest)) (if byte == 93 then Some (false, rest) else None) (Some x) e) [
      | inl blank ↦
          ap (λ (b : ℕ). b ∷ rest) (eqb-true byte 32 blank.0)
          ∙ ap (λ (y : Bool × Text). mark y.0 ∷ y.1) (some_is (true, rest) x blank.1)
      | inr other ↦
          let bracket = cond_some (byte == 93) (false, rest) x other.1 in
          ap (λ (b : ℕ). b ∷ rest) (eqb-true byte 93 bracket.0) ∙ ap (λ (y : Bool × Text). mark y.0 ∷ y.1) bracket.1
    ]

-- a fact within its limits, and what follows it
abbrev IsFact : ℕ → ℕ → Text → ℕ → Bool → Text → Type 0
IsFact size least text number more after =
    (least ≤ number) × (number < size) × (text ≡ decimal number ++ (mark more ∷ after))

fact_read : (size least : ℕ) (text : Text) (x : (ℕ × Bool) × Text) → size ≤ 2 ^ 61 → fact_at size least text ≡ Some x
    → IsFact size least text x.0.0 x.0.1 x.1
unfolding fact_at
fact_read size least text x fits e =
    let a = bind_some (number_at least size text) (λ number. more_at number.1 >>= (λ more. Some ((number.0, more.0), more.1))) x e in
    let b = bind_some (more_at a.0.1) (λ more. Some ((a.0.0, more.0), more.1)) x a.2 in
    let read = number_read least size text a.0 fits a.1 in
    let made : (ℕ × Bool) × Text = ((a.0.0, b.0.0), b.0.1) in
    let P : ((ℕ × Bool) × Text) → Type 0 = λ y. IsFact size least text y.0.0 y.0.1 y.1 in
    subst P (some_is made x b.2) (read.0, read.1, read.2 ∙ ap (λ (t : Text). decimal a.0.0 ++ t) (more_read a.0.1 b.0 b.1))

next_fact_again : (size least n : ℕ) (rest : Text) → size ≤ 2 ^ 61 → least ≤ n → n < size
    → fact_at size least (decimal n ++ (32 ∷ rest)) ≡ Some ((n, true), rest)
unfolding fact_at more_at
next_fact_again size least n rest fits from below =
    ap (λ (o : Option (ℕ × Text)). o >>= (λ number. more_at number.1 >>= (λ more. Some ((number.0, more.0), more.1))))
    (number_again least size n (32 ∷ rest) from below (omega arith) refl)

last_fact_again : (size least n : ℕ) (rest : Text) → size ≤ 2 ^ 61 → least ≤ n → n < size
    → fact_at size least (decimal n ++ (93 ∷ rest)) ≡ Some ((n, false), rest)
unfolding fact_at more_at
last_fact_again size least n rest fits from below =
    ap (λ (o : Option (ℕ × Text)). o >>= (λ number. more_at number.1 >>= (λ more. Some ((number.0, more.0), more.1))))
    (number_again least size n (93 ∷ rest) from below (omega arith) refl)

-- ---- facts one after another

-- other facts behind the first one, the bracket that follows them, and what stands behind it
abbrev others_text : List ℕ → Text → Text
others_text [] rest = 93 ∷ rest
others_text (number ∷ numbers) rest = 32 ∷ (decimal number ++ others_text numbers rest)

record AreRead (size least : ℕ) (text : Text) (x : List ℕ × Text) : Type 0 where
  first : ℕ
  others : List ℕ
  list : x.0 ≡ first ∷ others
  is : text ≡ decimal first ++ others_text others x.1
  rises : RisesFrom size least (first ∷ others)

-- what is read behind a fact
abbrev pub behind_fact : ℕ → ℕ → ((ℕ × Bool) × Text) → Option (List ℕ × Text)
behind_fact left size fact =
    if fact.0.1
    then (facts_from left size (fact.0.0 + 1) fact.1 >>= (λ others. Some (fact.0.0 ∷ others.0, others.1)))
    else Some (fact.0.0 ∷ [], fact.1)

by_more : (left size least : ℕ) (text : Text) (x : List ℕ × Text) (number : ℕ) (more : Bool) (after : Text)
    → IsFact size least text number more after
    → ((y : List ℕ × Text) → facts_from left size (number + 1) after ≡ Some y → AreRead size (number + 1) after y)
    → behind_fact left size ((number, more), after) ≡ Some x
    → AreRead size least text x
by_more left size least text x number false after read further e =
    let P : (List ℕ × Text) → Type 0 = AreRead size least text in
    subst P (some_is (number ∷ [], after) x e)
    (record { first = number; others = []; list = refl; is = read.2; rises = (read.0, read.1, tt) })
by_more left size least text x number true after read further e =
    let b = bind_some (facts_from left size (number + 1) after) (λ others. Some (number ∷ others.0, others.1)) x e in
    let y = further b.0 b.1 in
    let P : (List ℕ × Text) → Type 0 = AreRead size least text in
    let made : List ℕ × Text = (number ∷ b.0.0, b.0.1) in
    let Rises : List ℕ → Type 0 = RisesFrom size (number + 1) in
    subst P (some_is made x b.2) (record {
      first = number;
      others = b.0.0;
      list = refl;
      is = read.2 ∙ ap (λ (t : Text). decimal number ++ (32 ∷ t)) y.is
          ∙ ap (λ (l : List ℕ). decimal number ++ others_text l b.0.1) (sym y.list);
      rises = (read.0, read.1, subst Rises (sym y.list) y.rises);
    })

facts_read : (left size least : ℕ) (text : Text) (x : List ℕ × Text) → size ≤ 2 ^ 61 → facts_from left size least text ≡ Some x
    → AreRead size least text x
unfolding facts_from
facts_read zero size least text x fits e = absurd cc
facts_read (suc left) size least text x fits e =
    let a = bind_some (fact_at size least text) (behind_fact left size) x e in
    by_more left size least text x a.0.0.0 a.0.0.1 a.0.1 (fact_read size least text a.0 fits a.1)
    (λ y f. facts_read left size (a.0.0.0 + 1) a.0.1 y fits f) a.2

facts_again : (left size least first : ℕ) (others : List ℕ) (rest : Text) → size ≤ 2 ^ 61
    → RisesFrom size least (first ∷ others) → size ≤ least + left
    → facts_from left size least (decimal first ++ others_text others rest) ≡ Some (first ∷ others, rest)
unfolding facts_from
facts_again zero size least first others rest fits rises enough =
    let from : least ≤ first = rises.0 in
    let below : first < size = rises.1 in
    absurd (omega arith)
facts_again (suc left) size least first [] rest fits rises enough =
    ap (λ (o : Option ((ℕ × Bool) × Text)). o >>= behind_fact left size)
    (last_fact_again size least first rest fits rises.0 rises.1)
facts_again (suc left) size least first (next ∷ others) rest fits rises enough =
    let from : least ≤ first = rises.0 in
    let more : size ≤ (first + 1) + left = omega arith in
    ap (λ (o : Option ((ℕ × Bool) × Text)). o >>= behind_fact left size)
    (next_fact_again size least first (decimal next ++ others_text others rest) fits rises.0 rises.1)
    ∙ ap (λ (o : Option (List ℕ × Text)). o >>= (λ ys. Some (first ∷ ys.0, ys.1)))
    (facts_again left size (first + 1) next others rest fits rises.2 more)

-- ---- a whole list

spelled : (numbers : List ℕ) (rest : Text) → (flat_map blank_number numbers ++ 93 ∷ []) ++ rest ≡ others_text numbers rest
spelled [] rest = refl
spelled (n ∷ ns) rest =
    ap (λ (t : Text). 32 ∷ (t ++ rest)) (append_assoc (decimal n) (flat_map blank_number ns) (93 ∷ []))
    ∙ ap (λ (t : Text). 32 ∷ t) (append_assoc (decimal n) (flat_map blank_number ns ++ 93 ∷ []) rest)
    ∙ ap (λ (t : Text). 32 ∷ (decimal n ++ t)) (spelled ns rest)

whole : (first : ℕ) (others : List ℕ) (rest : Text)
    → blank_facts (first ∷ others) ++ rest ≡ 32 ∷ 91 ∷ (decimal first ++ others_text others rest)
whole first others rest =
    ap (λ (t : Text). 32 ∷ 91 ∷ (t ++ rest)) (append_assoc (decimal first) (flat_map blank_number others) (93 ∷ []))
    ∙ ap (λ (t : Text). 32 ∷ 91 ∷ t) (append_assoc (decimal first) (flat_map blank_number others ++ 93 ∷ []) rest)
    ∙ ap (λ (t : Text). 32 ∷ 91 ∷ (decimal first ++ t)) (spelled others rest)

-- a list that rises, and what follows it
pub record IsList (size : ℕ) (text : Text) (x : List ℕ × Text) : Type 0 where
  pub is : text ≡ blank_facts x.0 ++ x.1
  pub rises : RisesFrom size 0 x.0

within_read : (size : ℕ) (text : Text) (x : List ℕ × Text) (o : Option Text) → size ≤ 2 ^ 61 → byte_at 93 text ≡ o
    → read_or o no_facts (facts_from size size 0 text) ≡ Some x
    → IsList size (32 ∷ 91 ∷ text) x
within_read size text x (Some rest) fits bracket e =
    let P : (List ℕ × Text) → Type 0 = IsList size (32 ∷ 91 ∷ text) in
    let none : List ℕ × Text = ([], rest) in
    subst P (some_is none x e)
    (record { is = ap (λ (t : Text). 32 ∷ 91 ∷ t) (byte_read 93 text rest bracket); rises = tt })
within_read size text x None fits bracket e =
    let read = facts_read size size 0 text x fits e in
    let Rises : List ℕ → Type 0 = RisesFrom size 0 in
    record {
      is = ap (λ (t : Text). 32 ∷ 91 ∷ t) read.is ∙ sym (whole read.first read.others x.1)
          ∙ ap (λ (l : List ℕ). blank_facts l ++ x.1) (sym read.list);
      rises = subst Rises (sym read.list) read.rises;
    }

pub list_read : (size : ℕ) (text : Text) (x : List ℕ × Text) → size ≤ 2 ^ 61 → list_at size text ≡ Some x → IsList size text x
unfolding list_at facts_within
list_read size text x fits e =
    let a = bind_some (bracket_at text) (facts_within size) x e in
    let b = bind_some (byte_at 32 text) (byte_at 91) a.0 a.1 in
    let blank : text ≡ 32 ∷ b.0 = byte_read 32 text b.0 b.1 in
    let bracket : b.0 ≡ 91 ∷ a.0 = byte_read 91 b.0 a.0 b.2 in
    let P : Text → Type 0 = λ t. IsList size t x in
    subst P (sym (blank ∙ ap (λ (t : Text). 32 ∷ t) bracket))
    (within_read size a.0 x (byte_at 93 a.0) fits refl a.2)

-- a list that is read rises
pub list_rises : (size : ℕ) (text rest : Text) (facts : List ℕ) → size ≤ 2 ^ 61 → list_at size text ≡ Some (facts, rest)
    → IsStrictlyIncreasing facts
list_rises size text rest facts fits e =
    let read = list_read size text (facts, rest) fits e in
    RisesFrom-rises size 0 facts read.rises

bracket_again : (rest : Text) → bracket_at (32 ∷ 91 ∷ rest) ≡ Some rest
bracket_again rest =
    ap (λ (o : Option Text). o >>= byte_at 91) (byte_again 32 (91 ∷ rest)) ∙ byte_again 91 rest

pub list_again : (size : ℕ) (facts : List ℕ) (rest : Text) → size ≤ 2 ^ 61 → RisesFrom size 0 facts
    → list_at size (blank_facts facts ++ rest) ≡ Some (facts, rest)
unfolding list_at facts_within
list_again size [] rest fits rises =
    ap (λ (o : Option Text). o >>= facts_within size) (bracket_again (93 ∷ rest))
    ∙ ap (λ (o : Option Text). read_or o no_facts (facts_from size size 0 (93 ∷ rest))) (byte_again 93 rest)
list_again size (first ∷ others) rest fits rises =
    let below : first < size = rises.1 in
    let text : Text = decimal first ++ others_text others rest in
    ap (list_at size) (whole first others rest)
    ∙ ap (λ (o : Option Text). o >>= facts_within size) (bracket_again text)
    ∙ ap (λ (o : Option Text). read_or o no_facts (facts_from size size 0 text))
    (begins_otherwise first (omega arith) (others_text others rest))
    ∙ facts_again size size 0 first others rest fits rises (omega arith)
