-- Marks of facts by their numbers.
use Rattle.std.proofs.Common.{◌≡◌, ℕ, ◌+◌, ◌<◌, Bool, true, false, cond, not, ◌||◌, ◌&&◌, eqb, List, [], ◌∷◌, ◌++◌, map, length, get_or, drop, refl, sym, ap, subst, ◌∙◌, inl, inr}
use Rattle.std.specs.Prelude.{filter}
use Rattle.std.specs.List.{list_any, list_all}
use Rattle.std.proofs.lemmas.Bool.{false≢true, cases_Bool, eqb-true, eq-eqb}
use Rattle.std.proofs.lemmas.List.{drop_more}
use Rattle.mp_list.proofs.Bools.{or_false, same_tests}
use Rattle.mp_checker.specs.declared.fact.FactNumbers.{FactNumbers}
use Rattle.mp_checker.specs.declared.facts.Facts.{Facts}
use Rattle.mp_checker.specs.At.{is_true, is_one_of}
use Rattle.mp_checker.specs.Keys.{same_numbers}
use Rattle.mp_checker.specs.Marked.{is_marked, marked, true_facts, HaveStayed}
use Rattle.mp_checker.specs.Places.{place, IsPlace, ArePlaces}
use Rattle.mp_checker.proofs.PlaceLemmas.{any_more, place_stays, first_passes, other_passes, same_place, one_place, no_places}
use Rattle.mp_checker.proofs.SameNumbers.{Decides-numbers}

-- ---- marks that are set, one after another

set_once : (same later mark old : Bool) → cond later mark (cond same mark old) ≡ cond (same || later) mark old
set_once true true mark old = refl
set_once true false mark old = refl
set_once false later mark old = refl

pub set_more : (mark : Bool) (numbers : List ℕ) (i k : ℕ) (old new : Bool) → i < length numbers → new ≡ cond (eqb (get_or numbers i 0) k) mark old
    → cond (list_any (λ n. eqb n k) (drop (i + 1) numbers)) mark new ≡ cond (list_any (λ n. eqb n k) (drop i numbers)) mark old
set_more mark numbers i k old new lt is =
    ap (cond (list_any (λ n. eqb n k) (drop (i + 1) numbers)) mark) is
    ∙ set_once (eqb (get_or numbers i 0) k) (list_any (λ n. eqb n k) (drop (i + 1) numbers)) mark old
    ∙ ap (λ (ns : List ℕ). cond (list_any (λ n. eqb n k) ns) mark old) (sym (drop_more numbers i 0 lt))

-- ---- the facts that are true

and_false : (a : Bool) → (a && false) ≡ false
and_false true = refl
and_false false = refl

-- those that pass, where facts that are the same pass alike
passing : (p : FactNumbers → Bool) (known : List FactNumbers) (f : FactNumbers) → is_true (filter p known) f ≡ (is_true known f && p f)
passing p [] f = refl
passing p (g ∷ gs) f = at (same_numbers f g) (p g) refl refl (passing p gs f)
  where
    at : (same passes : Bool) → same_numbers f g ≡ same → p g ≡ passes → is_true (filter p gs) f ≡ (is_true gs f && p f)
        → is_true (filter p (g ∷ gs)) f ≡ (is_true (g ∷ gs) f && p f)
    at true true s e rest =
        ap (λ b. is_true (cond b (g ∷ filter p gs) (filter p gs)) f) e
        ∙ ap (λ b. b || is_true (filter p gs) f) s
        ∙ sym (ap (λ b. (b || is_true gs f) && p f) s ∙ ap p ((Decides-numbers f g).0 s) ∙ e)
    at true false s e rest =
        let none : p f ≡ false = ap p ((Decides-numbers f g).0 s) ∙ e in
        ap (λ b. is_true (cond b (g ∷ filter p gs) (filter p gs)) f) e
        ∙ rest ∙ ap (λ b. is_true gs f && b) none ∙ and_false (is_true gs f)
        ∙ sym (ap (λ b. (b || is_true gs f) && p f) s ∙ none)
    at false true s e rest =
        ap (λ b. is_true (cond b (g ∷ filter p gs) (filter p gs)) f) e
        ∙ ap (λ b. b || is_true (filter p gs) f) s
        ∙ rest
        ∙ sym (ap (λ b. (b || is_true gs f) && p f) s)
    at false false s e rest =
        ap (λ b. is_true (cond b (g ∷ filter p gs) (filter p gs)) f) e
        ∙ rest
        ∙ sym (ap (λ b. (b || is_true gs f) && p f) s)

marked_at : (known : List FactNumbers) (marks : List Bool) (f : FactNumbers) → is_true (marked known marks) f ≡ (is_true known f && is_marked marks (place known f))
marked_at known marks f = passing (λ g. is_marked marks (place known g)) known f

known_mark : (known : List FactNumbers) (marks : List Bool) (f : FactNumbers) → is_true known f ≡ true → is_true (marked known marks) f ≡ is_marked marks (place known f)
known_mark known marks f h = marked_at known marks f ∙ ap (λ b. b && is_marked marks (place known f)) h

no_mark : (known : List FactNumbers) (marks : List Bool) (f : FactNumbers) → is_true known f ≡ false → is_true (marked known marks) f ≡ false
no_mark known marks f h = marked_at known marks f ∙ ap (λ b. b && is_marked marks (place known f)) h

-- the mark of a number
pub mark_is : (facts : Facts) (f : FactNumbers) (n : ℕ) → IsPlace facts.known.keys f n → is_marked facts.marks.items n ≡ is_true (true_facts facts) f
unfolding true_facts
mark_is facts f n p =
    ap (is_marked facts.marks.items) p.is ∙ sym (known_mark facts.known.keys facts.marks.items f p.there)

-- ---- a fact that is met

last_one : (known : List FactNumbers) (g f : FactNumbers) → is_true known f ≡ false → same_numbers f g ≡ false → is_true (known ++ g ∷ []) f ≡ false
last_one [] g f h other = ap (λ b. b || false) other
last_one (k ∷ ks) g f h other =
    elim (cases_Bool (same_numbers f k)) [
      | inl same ↦ absurd (false≢true (sym h ∙ ap (λ b. b || is_true ks f) same))
      | inr apart ↦
          ap (λ b. b || is_true (ks ++ g ∷ []) f) apart
          ∙ last_one ks g f (sym (ap (λ b. b || is_true ks f) apart) ∙ h) other
    ]

met_at : (known : List FactNumbers) (old new : List Bool) (g f : FactNumbers) (n : ℕ) → is_true known g ≡ false → IsPlace (known ++ g ∷ []) g n
    → ((k : ℕ) → is_marked new k ≡ cond (eqb n k) false (is_marked old k))
    → is_true (marked (known ++ g ∷ []) new) f ≡ is_true (marked known old) f
met_at known old new g f n absent p set =
    elim (cases_Bool (is_true known f)) [
      | inl there ↦
          let at = place known f in
          let stays : place (known ++ g ∷ []) f ≡ at = place_stays (same_numbers f) known (g ∷ []) there in
          let other : eqb n at ≡ false = elim (cases_Bool (eqb n at)) [
            | inl same ↦
                let is : f ≡ g = same_place (known ++ g ∷ []) f g p.there (stays ∙ sym (eqb-true n at same) ∙ p.is) in
                absurd (false≢true (sym absent ∙ ap (is_true known) (sym is) ∙ there))
            | inr apart ↦ apart
          ] in
          known_mark (known ++ g ∷ []) new f (any_more (same_numbers f) known (g ∷ []) there)
          ∙ ap (is_marked new) stays ∙ set at ∙ ap (λ b. cond b false (is_marked old at)) other
          ∙ sym (known_mark known old f there)
      | inr missing ↦
          elim (cases_Bool (same_numbers f g)) [
            | inl same ↦
                let is : f ≡ g = (Decides-numbers f g).0 same in
                let here : is_marked new (place (known ++ g ∷ []) f) ≡ false =
                ap (λ x. is_marked new (place (known ++ g ∷ []) x)) is ∙ ap (is_marked new) (sym p.is)
                ∙ set n ∙ ap (λ b. cond b false (is_marked old n)) (eq-eqb n n refl) in
                marked_at (known ++ g ∷ []) new f
                ∙ ap (λ b. is_true (known ++ g ∷ []) f && b) here ∙ and_false (is_true (known ++ g ∷ []) f)
                ∙ sym (no_mark known old f missing)
            | inr other ↦
                no_mark (known ++ g ∷ []) new f (last_one known g f missing other)
                ∙ sym (no_mark known old f missing)
          ]
    ]

pub met : (old new : Facts) (g : FactNumbers) (n : ℕ) → is_true old.known.keys g ≡ false → new.known.keys ≡ old.known.keys ++ g ∷ []
    → IsPlace new.known.keys g n → ((k : ℕ) → is_marked new.marks.items k ≡ cond (eqb n k) false (is_marked old.marks.items k))
    → HaveStayed old new
unfolding true_facts
met old new g n absent is p set = λ f.
    ap (λ ks. is_true (marked ks new.marks.items) f) is
    ∙ met_at old.known.keys old.marks.items new.marks.items g f n absent (subst (λ ks. IsPlace ks g n) is p) set

pub stayed_none : (facts : Facts) → HaveStayed facts facts
stayed_none facts = λ f. refl

pub stayed_again : (a b c : Facts) → HaveStayed a b → HaveStayed b c → HaveStayed a c
stayed_again a b c g h = λ f. h f ∙ g f

-- ---- marks that change

in_places : (known these : List FactNumbers) (f : FactNumbers) → is_true known f ≡ true
    → list_any (λ n. eqb n (place known f)) (map (place known) these) ≡ is_one_of these f
in_places known [] f there = refl
in_places known (g ∷ gs) f there =
    λ i. same_tests (eqb (place known g) (place known f)) (same_numbers g f)
    (λ h. (Decides-numbers g f).1 (same_place known g f there (eqb-true (place known g) (place known f) h)))
    (λ h. eq-eqb (place known g) (place known f) (ap (place known) ((Decides-numbers g f).0 h))) i
    || in_places known gs f there i

not_there : (known these : List FactNumbers) (f : FactNumbers) → list_all (is_true known) these ≡ true → is_true known f ≡ false → is_one_of these f ≡ false
not_there known [] f all missing = refl
not_there known (g ∷ gs) f all missing =
    elim (cases_Bool (same_numbers g f)) [
      | inl same ↦
          absurd (false≢true (sym missing ∙ ap (is_true known) (sym ((Decides-numbers g f).0 same))
          ∙ first_passes (is_true known g) (list_all (is_true known) gs) all))
      | inr other ↦
          ap (λ b. b || is_one_of gs f) other
          ∙ not_there known gs f (other_passes (is_true known g) (list_all (is_true known) gs) all) missing
    ]

changed_at : (known these : List FactNumbers) (numbers : List ℕ) (mark : Bool) (old new : List Bool) (f : FactNumbers) → ArePlaces known these numbers
    → ((k : ℕ) → is_marked new k ≡ cond (list_any (λ n. eqb n k) numbers) mark (is_marked old k))
    → is_true (marked known new) f ≡ cond (is_one_of these f) mark (is_true (marked known old) f)
changed_at known these numbers mark old new f a set =
    elim (cases_Bool (is_true known f)) [
      | inl there ↦
          known_mark known new f there ∙ set (place known f)
          ∙ ap (λ (ns : List ℕ). cond (list_any (λ n. eqb n (place known f)) ns) mark (is_marked old (place known f))) a.are
          ∙ ap (λ b. cond b mark (is_marked old (place known f))) (in_places known these f there)
          ∙ ap (cond (is_one_of these f) mark) (sym (known_mark known old f there))
      | inr missing ↦
          no_mark known new f missing
          ∙ sym (ap (λ b. cond b mark (is_true (marked known old) f)) (not_there known these f a.there missing) ∙ no_mark known old f missing)
    ]

-- one fact becomes true
pub set_true : (old met new : Facts) (g : FactNumbers) (n : ℕ) → HaveStayed old met → IsPlace met.known.keys g n → new.known.keys ≡ met.known.keys
    → ((k : ℕ) → is_marked new.marks.items k ≡ cond (eqb n k) true (is_marked met.marks.items k))
    → (f : FactNumbers) → is_true (true_facts new) f ≡ cond (same_numbers g f) true (is_true (true_facts old) f)
unfolding true_facts
set_true old met new g n stayed p is set f =
    ap (λ ks. is_true (marked ks new.marks.items) f) is
    ∙ changed_at met.known.keys (g ∷ []) (n ∷ []) true met.marks.items new.marks.items f
    (one_place met.known.keys [] [] g n (no_places met.known.keys) p)
    (λ k. set k ∙ ap (λ b. cond b true (is_marked met.marks.items k)) (sym (or_false (eqb n k))))
    ∙ ap (λ b. cond b true (is_true (marked met.known.keys met.marks.items) f)) (or_false (same_numbers g f))
    ∙ ap (cond (same_numbers g f) true) (stayed f)

both : (adds dels old : Bool) → cond adds true (cond dels false old) ≡ (adds || (old && not dels))
both true dels old = refl
both false true true = refl
both false true false = refl
both false false true = refl
both false false false = refl

-- facts become false, and then others true
pub changed : (old new : Facts) (between : List Bool) (cleared set : List FactNumbers) (dels adds : List ℕ) → new.known.keys ≡ old.known.keys
    → ArePlaces old.known.keys cleared dels → ArePlaces old.known.keys set adds
    → ((k : ℕ) → is_marked between k ≡ cond (list_any (λ n. eqb n k) dels) false (is_marked old.marks.items k))
    → ((k : ℕ) → is_marked new.marks.items k ≡ cond (list_any (λ n. eqb n k) adds) true (is_marked between k))
    → (f : FactNumbers) → is_true (true_facts new) f ≡ (is_one_of set f || (is_true (true_facts old) f && not (is_one_of cleared f)))
unfolding true_facts
changed old new between cleared set dels adds is d a first second f =
    ap (λ ks. is_true (marked ks new.marks.items) f) is
    ∙ changed_at old.known.keys set adds true between new.marks.items f a second
    ∙ ap (cond (is_one_of set f) true) (changed_at old.known.keys cleared dels false old.marks.items between f d first)
    ∙ both (is_one_of set f) (is_one_of cleared f) (is_true (true_facts old) f)
