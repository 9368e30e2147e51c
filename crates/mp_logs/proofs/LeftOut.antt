-- A history without the last receipts of some agents.
use Rattle.std.proofs.Common.{◌≡◌, ◌≢◌, ℕ, Bool, true, false, ◌&&◌, List, [], ◌∷◌, ◌++◌, length, drop, Some, refl, sym, ap, subst, ◌∙◌, append_assoc}
use Rattle.std.specs.Prelude.{◌==◌, All, slice_get, if◌then◌else◌}
use Rattle.std.proofs.lemmas.Bool.{and_parts, eqb-true, false≢true}
use Rattle.std.proofs.lemmas.List.{append-nil}
use Rattle.std.proofs.lemmas.List.Elements.{All-cons, All-head, All-nil, All-tail, filter_map-append}
use Rattle.mp_messages.specs.declared.history.Entry.{Entry}
use Rattle.mp_messages.specs.declared.history.Entry.TheVariants.{Act, Put, Took}
use Rattle.mp_messages.specs.History.{IsHistory, MayFollow, agent_of as owner_of, part, put_between, received, sent, taken_between}
use Rattle.mp_messages.proofs.Histories.{history_empty, history_grows}
use Rattle.mp_logs.specs.Served.{is_receipt}
use Rattle.mp_logs.proofs.Pieces.{part_mine, part_other, some_first}

abbrev pub is_none : List Entry → Bool
is_none [] = true
is_none (e ∷ es) = false

none_is : (es : List Entry) → is_none es ≡ true → es ≡ []
none_is [] is = refl
none_is (e ∷ es) is = absurd (false≢true is)

module _ (bad : ℕ → Bool) where
  -- an entry is the last one of such an agent, and a receipt
  abbrev pub is_out : Entry → List Entry → Bool
  is_out e later = is_receipt e && (bad (owner_of e) && is_none (part later (owner_of e)))

  -- the log without them
  abbrev pub left : List Entry → List Entry
  left [] = []
  left (e ∷ es) = if is_out e es then left es else e ∷ left es

  record Out (e : Entry) (es : List Entry) : Type 0 where
    receipt : is_receipt e ≡ true
    of_bad : bad (owner_of e) ≡ true
    last : part es (owner_of e) ≡ []

  out_is : (e : Entry) (es : List Entry) → is_out e es ≡ true → Out e es
  out_is e es test =
      let both = and_parts (is_receipt e) (bad (owner_of e) && is_none (part es (owner_of e))) test in
      let others = and_parts (bad (owner_of e)) (is_none (part es (owner_of e))) both.1 in
      record { receipt = both.0; of_bad = others.0; last = none_is (part es (owner_of e)) others.1 }

  -- ---- the parts

  -- what all entries have, those that are left have
  pub all_left : (P : Entry → Type 0) (log : List Entry) → All P log → All P (left log)
  all_left P [] all = All-nil P
  all_left P (e ∷ es) all = by (is_out e es) (all_left P es (All-tail P e es all))
    where
      by : (b : Bool) → All P (left es) → All P (if b then left es else e ∷ left es)
      by true later = later
      by false later = All-cons P e (left es) (All-head P e es all) later

  -- another agent's entry at the front changes nothing
  other_front : (e : Entry) (es : List Entry) (agent : ℕ) → (owner_of e == agent) ≡ false
      → part (left (e ∷ es)) agent ≡ part (left es) agent
  other_front e es agent test = by (is_out e es)
    where
      by : (b : Bool) → part (if b then left es else e ∷ left es) agent ≡ part (left es) agent
      by true = refl
      by false = part_other e (left es) agent test

  pub part_stays : (agent : ℕ) → bad agent ≡ false → (log : List Entry) → part (left log) agent ≡ part log agent
  part_stays agent good [] = refl
  part_stays agent good (e ∷ es) = by (owner_of e == agent) refl (part_stays agent good es)
    where
      mine : (b : Bool) → is_out e es ≡ b → owner_of e ≡ agent → part (left es) agent ≡ part es agent
          → part (if b then left es else e ∷ left es) agent ≡ part (e ∷ es) agent
      mine true test own later = absurd (false≢true (sym good ∙ ap bad (sym own) ∙ (out_is e es test).of_bad))
      mine false test own later =
          part_mine e (left es) agent own ∙ ap (λ xs. e ∷ xs) later ∙ sym (part_mine e es agent own)

      by : (b : Bool) → (owner_of e == agent) ≡ b → part (left es) agent ≡ part es agent
          → part (left (e ∷ es)) agent ≡ part (e ∷ es) agent
      by true test later = mine (is_out e es) refl (eqb-true (owner_of e) agent test) later
      by false test later = other_front e es agent test ∙ later ∙ sym (part_other e es agent test)

  none_stays : (agent : ℕ) (log : List Entry) → part log agent ≡ [] → part (left log) agent ≡ []
  none_stays agent [] none = refl
  none_stays agent (e ∷ es) none = by (owner_of e == agent) refl (none_stays agent es)
    where
      by : (b : Bool) → (owner_of e == agent) ≡ b → (part es agent ≡ [] → part (left es) agent ≡ [])
          → part (left (e ∷ es)) agent ≡ []
      by true test later =
          absurd (some_first e (part es agent)
          (sym (part_mine e es agent (eqb-true (owner_of e) agent test)) ∙ none))
      by false test later = other_front e es agent test ∙ later (sym (part_other e es agent test) ∙ none)

  -- the last receipt of such an agent is left out
  pub part_left : (agent : ℕ) → bad agent ≡ true → (last : Entry) → is_receipt last ≡ true → (log front : List Entry)
      → part log agent ≡ front ++ last ∷ [] → part (left log) agent ≡ front
  part_left agent is_bad last receipt [] [] is = absurd (some_first last [] (sym is))
  part_left agent is_bad last receipt [] (x ∷ xs) is = absurd (some_first x (xs ++ last ∷ []) (sym is))
  part_left agent is_bad last receipt (e ∷ es) front is =
      by (owner_of e == agent) refl front is (λ f. part_left agent is_bad last receipt es f)
    where
      -- the entry is the last one
      is_last : owner_of e ≡ agent → e ∷ part es agent ≡ last ∷ [] → part (left (e ∷ es)) agent ≡ []
      is_last own same =
          let it : e ≡ last = cc in
          let none : part es agent ≡ [] = cc in
          let all : is_out e es ≡ true =
          (λ i. is_receipt (it i) && (bad (owner_of e) && is_none (part es (own i))))
          ∙ (λ i. receipt i && (bad (own i) && is_none (none i)))
          ∙ (λ i. is_bad i && true)
          in
          ap (λ (b : Bool). part (if b then left es else e ∷ left es) agent) all ∙ none_stays agent es none

      -- there are more
      is_no_last : owner_of e ≡ agent → (x : Entry) (xs : List Entry) → e ∷ part es agent ≡ x ∷ (xs ++ last ∷ [])
          → (part es agent ≡ xs ++ last ∷ [] → part (left es) agent ≡ xs) → part (left (e ∷ es)) agent ≡ x ∷ xs
      is_no_last own x xs same later = stays (is_out e es) refl
        where
          it : e ≡ x
          it = cc

          others : part es agent ≡ xs ++ last ∷ []
          others = cc

          long : (ys : List Entry) → ys ++ last ∷ [] ≡ [] → ⊥
          long [] none = some_first last [] none
          long (y ∷ ys) none = some_first y (ys ++ last ∷ []) none

          stays : (b : Bool) → is_out e es ≡ b → part (if b then left es else e ∷ left es) agent ≡ x ∷ xs
          stays true test =
              absurd (long xs (sym others ∙ ap (part es) (sym own) ∙ (out_is e es test).last))
          stays false test = part_mine e (left es) agent own ∙ (λ i. it i ∷ later others i)

      by : (b : Bool) → (owner_of e == agent) ≡ b → (f : List Entry) → part (e ∷ es) agent ≡ f ++ last ∷ []
          → ((g : List Entry) → part es agent ≡ g ++ last ∷ [] → part (left es) agent ≡ g)
          → part (left (e ∷ es)) agent ≡ f
      by false test f same later = other_front e es agent test ∙ later f (sym (part_other e es agent test) ∙ same)
      by true test [] same later =
          let own = eqb-true (owner_of e) agent test in
          is_last own (sym (part_mine e es agent own) ∙ same)
      by true test (x ∷ xs) same later =
          let own = eqb-true (owner_of e) agent test in
          is_no_last own x xs (sym (part_mine e es agent own) ∙ same) (later xs)

  -- ---- what was put stays

  receipt_puts : (from to : ℕ) (e : Entry) → is_receipt e ≡ true → sent from to (e ∷ []) ≡ []
  receipt_puts from to (Act agent kind) is = absurd (false≢true is)
  receipt_puts from to (Put sender receiver bytes) is = absurd (false≢true is)
  receipt_puts from to (Took by sender bytes) is = refl

  pub sent_stays : (from to : ℕ) (log : List Entry) → sent from to (left log) ≡ sent from to log
  sent_stays from to [] = refl
  sent_stays from to (e ∷ es) = by (is_out e es) refl (sent_stays from to es)
    where
      by : (b : Bool) → is_out e es ≡ b → sent from to (left es) ≡ sent from to es
          → sent from to (if b then left es else e ∷ left es) ≡ sent from to (e ∷ es)
      by true test later =
          later ∙ ap (λ ms. ms ++ sent from to es) (sym (receipt_puts from to e (out_is e es test).receipt))
          ∙ sym (filter_map-append (put_between from to) (e ∷ []) es)
      by false test later =
          filter_map-append (put_between from to) (e ∷ []) (left es) ∙ ap (λ ms. sent from to (e ∷ []) ++ ms) later
          ∙ sym (filter_map-append (put_between from to) (e ∷ []) es)

  -- ---- it is a history

  not_taken : (from to : ℕ) (e : Entry) → (owner_of e == to) ≡ false → received from to (e ∷ []) ≡ []
  not_taken from to (Act agent kind) other = refl
  not_taken from to (Put sender receiver bytes) other = refl
  not_taken from to (Took by sender bytes) other = either (sender == from) refl
    where
      either : (b : Bool) → (sender == from) ≡ b → received from to (Took by sender bytes ∷ []) ≡ []
      either true is = rw (is, other) refl
      either false is = rw is refl

  -- a place of the log, and what is left of the entries before it: the same was put, and the same was taken by each agent
  -- that has an entry behind it
  record Before (past kept rest : List Entry) : Type 0 where
    legal : IsHistory kept
    puts : (from to : ℕ) → sent from to kept ≡ sent from to past
    receipts : (to : ℕ) → part rest to ≢ [] → (from : ℕ) → received from to kept ≡ received from to past

  module _ (past kept rest : List Entry) (e : Entry) (before : Before past kept (e ∷ rest)) where
    -- who has an entry in the rest has one in the whole
    there : (agent : ℕ) → part rest agent ≢ [] → part (e ∷ rest) agent ≢ []
    there agent some = by (owner_of e == agent) refl
      where
        by : (b : Bool) → (owner_of e == agent) ≡ b → part (e ∷ rest) agent ≢ []
        by true test none =
            some_first e (part rest agent) (sym (part_mine e rest agent (eqb-true (owner_of e) agent test)) ∙ none)
        by false test none = some (sym (part_other e rest agent test) ∙ none)

    dropped : Out e rest → Before (past ++ e ∷ []) kept rest
    dropped out = record {
      legal = before.legal;
      puts = λ from to.
          before.puts from to ∙ sym (append-nil (sent from to past))
          ∙ ap (λ ms. sent from to past ++ ms) (sym (receipt_puts from to e out.receipt))
          ∙ sym (filter_map-append (put_between from to) past (e ∷ []));
      receipts = λ to some from.
          before.receipts to (there to some) from ∙ sym (append-nil (received from to past))
          ∙ ap (λ ms. received from to past ++ ms) (sym (not_taken from to e (other to some)))
          ∙ sym (filter_map-append (taken_between from to) past (e ∷ []));
    }
      where
        other : (to : ℕ) → part rest to ≢ [] → (owner_of e == to) ≡ false
        other to some = by (owner_of e == to) refl
          where
            by : (b : Bool) → (owner_of e == to) ≡ b → b ≡ false
            by true test =
                absurd (some (ap (part rest) (sym (eqb-true (owner_of e) to test)) ∙ out.last))
            by false test = refl

    follows : (x : Entry) → x ≡ e → MayFollow past x → MayFollow kept x
    follows (Act agent kind) same may = tt
    follows (Put from to bytes) same may = tt
    follows (Took by from bytes) same may =
        let own : owner_of e ≡ by = ap owner_of (sym same) in
        let mine : part (e ∷ rest) by ≢ [] =
        λ none. some_first e (part rest by) (sym (part_mine e rest by own) ∙ none) in
        let took = before.receipts by mine from in
        let put = before.puts from by in
        subst (λ (ms : List (List ℕ)). slice_get ms 0 ≡ Some bytes)
        (λ i. drop (length (sym took i)) (sym put i)) may

    goes_on : MayFollow past e → Before (past ++ e ∷ []) (kept ++ e ∷ []) rest
    goes_on may = record {
      legal = history_grows kept e before.legal (follows e refl may);
      puts = λ from to.
          filter_map-append (put_between from to) kept (e ∷ [])
          ∙ ap (λ ms. ms ++ sent from to (e ∷ [])) (before.puts from to)
          ∙ sym (filter_map-append (put_between from to) past (e ∷ []));
      receipts = λ to some from.
          filter_map-append (taken_between from to) kept (e ∷ [])
          ∙ ap (λ ms. ms ++ received from to (e ∷ [])) (before.receipts to (there to some) from)
          ∙ sym (filter_map-append (taken_between from to) past (e ∷ []));
    }

  from_place : (rest past kept : List Entry) → IsHistory (past ++ rest) → Before past kept rest
      → IsHistory (kept ++ left rest)
  from_place [] past kept legal before = subst IsHistory (sym (append-nil kept)) before.legal
  from_place (e ∷ es) past kept legal before = by (is_out e es) refl (from_place es)
    where
      on : IsHistory ((past ++ e ∷ []) ++ es)
      on = subst IsHistory (sym (append_assoc past (e ∷ []) es)) legal

      by : (b : Bool) → is_out e es ≡ b
          → ((p k : List Entry) → IsHistory (p ++ es) → Before p k es → IsHistory (k ++ left es))
          → IsHistory (kept ++ (if b then left es else e ∷ left es))
      by true test later = later (past ++ e ∷ []) kept on (dropped past kept es e before (out_is e es test))
      by false test later =
          subst IsHistory (append_assoc kept (e ∷ []) (left es))
          (later (past ++ e ∷ []) (kept ++ e ∷ []) on (goes_on past kept es e before (legal past es e refl)))

  pub history_left : (log : List Entry) → IsHistory log → IsHistory (left log)
  history_left log legal = from_place log [] [] legal
      (record { legal = history_empty; puts = λ from to. refl; receipts = λ to some from. refl })
