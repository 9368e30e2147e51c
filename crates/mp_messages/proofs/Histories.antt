-- How histories grow.
use Rattle.std.proofs.Common.{◌≡◌, ℕ, ◌+◌, ◌<◌, ◌≤◌, Bool, true, false, ◌&&◌, eqb, List, [], ◌∷◌, ◌++◌, length, take, drop, get_or, Some, refl, sym, ap, subst, ◌∙◌, append_assoc, arith, length-append, length-drop, ◌⊎◌, inl, inr}
use Rattle.std.specs.Prelude.{slice_get}
use Rattle.std.proofs.lemmas.Bool.{eqb-true}
use Rattle.std.proofs.lemmas.List.{take_more, take-append-le, length-take, get_or-drop, append-nil}
use Rattle.std.proofs.lemmas.List.Elements.{filter_map-append}
use Rattle.std.proofs.lemmas.Option.{slice_get_within, get_or_from_slice_get}
use Rattle.mp_messages.specs.declared.history.Entry.{Entry}
use Rattle.mp_messages.specs.declared.history.Entry.TheVariants.{Act, Put, Took}
use Rattle.mp_messages.specs.History.{IsHistory, MayFollow, put_between, taken_between, sent, received, under_way}

-- where an entry stands in a list with one more at its end: it is that one, or it stands in the list before
record InFront (log before : List Entry) (x : Entry) : Type 0 where
  rest : List Entry
  is : log ≡ before ++ x ∷ rest

place : (log before after : List Entry) (e x : Entry) → log ++ e ∷ [] ≡ before ++ x ∷ after → ((before ≡ log) × (x ≡ e)) ⊎ InFront log before x
place [] [] after e x h = inl (refl, cc)
place [] (b ∷ bs) after e x h =
    let long : length (bs ++ x ∷ after) ≡ 0 = cc in
    absurd (omega (arith, length-append bs (x ∷ after)))
place (l ∷ ls) [] after e x h = inr (record { rest = ls; is = cc })
place (l ∷ ls) (b ∷ bs) after e x h =
    let first : l ≡ b = cc in
    let others : ls ++ e ∷ [] ≡ bs ++ x ∷ after = cc in
    elim (place ls bs after e x others) [
      | inl last ↦ let same : bs ≡ ls = last.0 in inl (cc, last.1)
      | inr p ↦ let front : ls ≡ bs ++ x ∷ p.rest = p.is in inr (record { rest = p.rest; is = cc })
    ]

pub history_empty : IsHistory []
history_empty before after e h =
    let long : length (before ++ e ∷ after) ≡ 0 = ap length (sym h) in
    absurd (omega (arith, length-append before (e ∷ after)))

pub history_front : (log more : List Entry) → IsHistory (log ++ more) → IsHistory log
history_front log more legal before after e h =
    legal before (after ++ more) e (ap (λ (l : List Entry). l ++ more) h ∙ append_assoc before (e ∷ after) more)

pub history_last : (log : List Entry) (e : Entry) → IsHistory (log ++ e ∷ []) → MayFollow log e
history_last log e legal = legal log [] e refl

pub history_grows : (log : List Entry) (e : Entry) → IsHistory log → MayFollow log e → IsHistory (log ++ e ∷ [])
history_grows log e legal follows before after x h =
    elim (place log before after e x h) [
      | inl last ↦ subst (λ (b : List Entry). MayFollow b x) (sym last.0) (subst (λ (y : Entry). MayFollow log y) (sym last.1) follows)
      | inr p ↦ legal before p.rest x p.is
    ]

-- ---- what was taken is what was put first

-- what was taken is the front of what was put
abbrev pub InOrder : List (List ℕ) → List (List ℕ) → Type 0
InOrder put taken = taken ≡ take (length taken) put

more_put : (put taken more : List (List ℕ)) → InOrder put taken → InOrder (put ++ more) taken
more_put put taken more is =
    let short : length taken ≤ length put = omega (arith, ap length is, length-take (length taken) put) in
    is ∙ sym (take-append-le (length taken) put more short)

one_taken : (put taken : List (List ℕ)) (b : List ℕ) → InOrder put taken → slice_get (drop (length taken) put) 0 ≡ Some b → InOrder put (taken ++ b ∷ [])
one_taken put taken b is next =
    let inside : 0 < length (drop (length taken) put) = slice_get_within (drop (length taken) put) 0 b next in
    let short : length taken < length put = omega (arith, length-drop (length taken) put) in
    let here : get_or put (length taken) [] ≡ b =
    ap (λ (j : ℕ). get_or put j []) (add-zero' (length taken)) ∙ sym (get_or-drop (length taken) put 0 []) ∙ get_or_from_slice_get (drop (length taken) put) 0 b [] next in
    let longer : length (taken ++ b ∷ []) ≡ length taken + 1 = length-append taken (b ∷ []) in
    ap (λ (t : List (List ℕ)). t ++ b ∷ []) is
    ∙ ap (λ (c : List ℕ). take (length taken) put ++ c ∷ []) (sym here)
    ∙ sym (take_more put (length taken) [] short)
    ∙ ap (λ (n : ℕ). take n put) (sym longer)
  where
    add-zero' : (n : ℕ) → n ≡ n + 0
    add-zero' n = omega arith

both_true : (a b : Bool) → (a && b) ≡ true → (a ≡ true) × (b ≡ true)
both_true true true e = (refl, refl)
both_true true false e = absurd cc
both_true false b e = absurd cc

-- one entry more keeps it
next_in_order : (from to : ℕ) (log : List Entry) (e : Entry) → MayFollow log e → InOrder (sent from to log) (received from to log) → InOrder (sent from to (log ++ e ∷ [])) (received from to (log ++ e ∷ []))
next_in_order from to log e follows is =
    subst (λ (put : List (List ℕ)). InOrder put (received from to (log ++ e ∷ []))) (sym (filter_map-append (put_between from to) log (e ∷ [])))
    (subst (λ (taken : List (List ℕ)). InOrder (sent from to log ++ sent from to (e ∷ [])) taken) (sym (filter_map-append (taken_between from to) log (e ∷ []))) (by_kind e follows))
  where
    by_test : (by sender : ℕ) (bytes : List ℕ) → MayFollow log (Took by sender bytes) → (b : Bool) → (eqb sender from && eqb by to) ≡ b → InOrder (sent from to log ++ []) (received from to log ++ received from to (Took by sender bytes ∷ []))
    by_test by sender bytes f true e =
        let same = both_true (eqb sender from) (eqb by to) e in
        let next : slice_get (under_way from to log) 0 ≡ Some bytes = subst (λ (j : ℕ). slice_get (under_way from j log) 0 ≡ Some bytes) (eqb-true _ _ same.1) (subst (λ (j : ℕ). slice_get (under_way j by log) 0 ≡ Some bytes) (eqb-true _ _ same.0) f) in
        let there : received from to (Took by sender bytes ∷ []) ≡ bytes ∷ [] = rw e refl in
        subst (λ (taken : List (List ℕ)). InOrder (sent from to log ++ []) (received from to log ++ taken)) (sym there) (more_put (sent from to log) (received from to log ++ bytes ∷ []) [] (one_taken (sent from to log) (received from to log) bytes is next))
    by_test by sender bytes f false e =
        let there : received from to (Took by sender bytes ∷ []) ≡ [] = rw e refl in
        subst (λ (taken : List (List ℕ)). InOrder (sent from to log ++ []) (received from to log ++ taken)) (sym there) (subst (λ (taken : List (List ℕ)). InOrder (sent from to log ++ []) taken) (sym (append-nil (received from to log))) (more_put (sent from to log) (received from to log) [] is))

    by_kind : (e : Entry) → MayFollow log e → InOrder (sent from to log ++ sent from to (e ∷ [])) (received from to log ++ received from to (e ∷ []))
    by_kind (Act agent kind) f =
        subst (λ (taken : List (List ℕ)). InOrder (sent from to log ++ []) taken) (sym (append-nil (received from to log))) (more_put (sent from to log) (received from to log) [] is)
    by_kind (Put sender receiver bytes) f =
        subst (λ (taken : List (List ℕ)). InOrder (sent from to log ++ sent from to (Put sender receiver bytes ∷ [])) taken) (sym (append-nil (received from to log))) (more_put (sent from to log) (received from to log) (sent from to (Put sender receiver bytes ∷ [])) is)
    by_kind (Took by sender bytes) f =
        by_test by sender bytes f (eqb sender from && eqb by to) refl

in_order_from : (from to : ℕ) (before after : List Entry) → IsHistory (before ++ after) → InOrder (sent from to before) (received from to before) → InOrder (sent from to (before ++ after)) (received from to (before ++ after))
in_order_from from to before [] legal is =
    subst (λ (log : List Entry). InOrder (sent from to log) (received from to log)) (sym (append-nil before)) is
in_order_from from to before (e ∷ after) legal is =
    let regrouped : (before ++ e ∷ []) ++ after ≡ before ++ e ∷ after = append_assoc before (e ∷ []) after in
    let next = next_in_order from to before e (legal before after e refl) is in
    subst (λ (log : List Entry). InOrder (sent from to log) (received from to log)) regrouped (in_order_from from to (before ++ e ∷ []) after (subst (λ (log : List Entry). IsHistory log) (sym regrouped) legal) next)

pub history_in_order : (from to : ℕ) (log : List Entry) → IsHistory log → received from to log ≡ take (length (received from to log)) (sent from to log)
history_in_order from to log legal = in_order_from from to [] log legal refl
