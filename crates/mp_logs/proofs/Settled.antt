-- A log of the team with all that its agents have done but the receipts of bad messages.
use Rattle.std.proofs.Common.{◌≡◌, ℕ, suc, ◌-◌, Bool, true, false, ◌&&◌, List, [], ◌∷◌, ◌++◌, length, drop, refl, sym, ap, subst, ◌∙◌, append_assoc, arith}
use Rattle.std.specs.Prelude.{All, Contains, Option, Some, None, is_some, slice_get, ◌==◌}
use Rattle.std.specs.List.{list_any}
use Rattle.std.proofs.lemmas.Bool.{and_parts, eq-eqb, eqb-true, false≢true}
use Rattle.std.proofs.lemmas.List.{append-nil, take-append-drop}
use Rattle.std.proofs.lemmas.List.Elements.{All-append, All-weaker, filter_map-append}
use Rattle.std.proofs.lemmas.Option.{same_Some}
use Rattle.mp_list.proofs.Members.{any_from, some_member}
use Rattle.mp_messages.specs.declared.history.Entry.{Entry}
use Rattle.mp_messages.specs.declared.history.Entry.TheVariants.{Took}
use Rattle.mp_messages.specs.History.{agent_of as owner_of, part, put_between, received, sent, taken_between, under_way}
use Rattle.mp_messages.proofs.Histories.{history_in_order}
use Rattle.mp_machine.specs.AgentRecord.{new_record}
use Rattle.mp_task.specs.AgentTask.{AgentTask}
use Rattle.mp_world.specs.Logs.{HasDone}
use Rattle.mp_world.specs.Team.{Team}
use Rattle.mp_world.specs.World.{AreNumbered}
use Rattle.mp_logs.specs.Parts.{IsLogOfParts, IsOwned, IsTeamHistory}
use Rattle.mp_logs.specs.Served.{HasServed, IsSettled, Receipt, Served, bad_receipt, is_receipt}
use Rattle.mp_logs.proofs.Behind.{all_have, all_of, history_behind, none_received, part_of_all}
use Rattle.mp_logs.proofs.LeftOut.{all_left, history_left, left, part_left, part_stays, sent_stays}
use Rattle.mp_logs.proofs.Made.{log_of_parts, number_of, task_at}
use Rattle.mp_logs.proofs.Onward.{done_owners}
use Rattle.mp_logs.proofs.Pieces.{part_both, received_in_part}

-- ---- members that are numbered

-- the entries of the second of two lists
pub all_back : {X : Type 0} (P : X → Type 0) (xs ys : List X) → All P (xs ++ ys) → All P ys
all_back P [] ys all = all
all_back P (x ∷ xs) ys all = all_back P xs ys (λ k d lt. all (suc k) d (omega arith))

-- what comes behind a list
behind : (xs ys : List (List ℕ)) → drop (length xs) (xs ++ ys) ≡ ys
behind [] ys = refl
behind (x ∷ xs) ys = behind xs ys

module _ (team : Team) (log : List Entry) (served : AgentTask → Served) (numbered : AreNumbered team.tasks)
    (history : IsTeamHistory team.tasks log)
    (has : (t : AgentTask) → Contains team.tasks t → HasServed team.value team.limit t (part log t.me) (served t)) where
  open team use {tasks, value, limit}

  -- whether this is the number of an agent that took a bad message
  abbrev took_bad : ℕ → AgentTask → Bool
  took_bad agent t = (t.me == agent) && is_some (served t).bad

  abbrev is_bad : ℕ → Bool
  is_bad agent = list_any (took_bad agent) tasks

  abbrev unsigned : List Entry
  unsigned = all_of (λ t. (served t).unsigned) tasks

  abbrev pub settled : List Entry
  settled = left is_bad log ++ unsigned

  -- tasks of one number are one
  one_task : (t u : AgentTask) → Contains tasks t → Contains tasks u → u.me ≡ t.me → u ≡ t
  one_task t u here also same =
      same_Some u t
      (sym (task_at team numbered u also) ∙ ap (λ (n : ℕ). slice_get tasks (n - 1)) same
      ∙ task_at team numbered t here)

  -- ---- owners

  own_unsigned : (t : AgentTask) → Contains tasks t → All (λ e. owner_of e ≡ t.me) (served t).unsigned
  own_unsigned t here =
      all_back (λ e. owner_of e ≡ t.me) (served t).signed (served t).unsigned
      (done_owners (value t) (new_record t (value t) limit) (served t).last _ (has t here).done)

  settled_history : IsTeamHistory tasks settled
  settled_history = record {
    history = history_behind unsigned (left is_bad log)
        (all_have (λ t. (served t).unsigned) (λ e. is_receipt e ≡ false) tasks (λ t here. (has t here).no_receipts))
        (history_left is_bad log history.history);
    owned = All-append (IsOwned (length tasks)) (left is_bad log) unsigned
        (all_left is_bad (IsOwned (length tasks)) log history.owned)
        (all_have (λ t. (served t).unsigned) (IsOwned (length tasks)) tasks (λ t here.
        let number = number_of team numbered t here in
        let low = number.0 in
        let high = number.1 in
        All-weaker (λ e. owner_of e ≡ t.me) (IsOwned (length tasks)) (λ e own. (omega (arith, own), omega (arith, own)))
        (served t).unsigned (own_unsigned t here)));
  }

  -- ---- parts

  bad_is : (t : AgentTask) → Contains tasks t → is_bad t.me ≡ is_some (served t).bad
  bad_is t here = by (is_bad t.me) (is_some (served t).bad) refl refl
    where
      by : (a b : Bool) → is_bad t.me ≡ a → is_some (served t).bad ≡ b → a ≡ b
      by true true x y = refl
      by false false x y = refl
      by true false x y =
          let found = some_member (took_bad t.me) tasks x in
          let both = and_parts (found.0.me == t.me) (is_some (served found.0).bad) found.2 in
          let same = one_task t found.0 here found.1 (eqb-true found.0.me t.me both.0) in
          absurd (false≢true (sym y ∙ sym (ap (λ (u : AgentTask). is_some (served u).bad) same) ∙ both.1))
      by false true x y =
          absurd (false≢true (sym x ∙ any_from (took_bad t.me) tasks t here
          (λ i. eq-eqb t.me t.me refl i && y i)))

  part_signed : (t : AgentTask) → Contains tasks t → part (left is_bad log) t.me ≡ (served t).signed
  part_signed t here = by (served t).bad refl
    where
      by : (bad : Option Receipt) → (served t).bad ≡ bad → part (left is_bad log) t.me ≡ (served t).signed
      by None is =
          part_stays is_bad t.me (bad_is t here ∙ ap is_some is) log ∙ (has t here).own_is
          ∙ ap (λ b. (served t).signed ++ bad_receipt t.me b) is ∙ append-nil (served t).signed
      by (Some m) is =
          part_left is_bad t.me (bad_is t here ∙ ap is_some is) (Took t.me m.from m.bytes) refl log (served t).signed
          ((has t here).own_is ∙ ap (λ b. (served t).signed ++ bad_receipt t.me b) is)

  pub part_settled : (t : AgentTask) → Contains tasks t → part settled t.me ≡ (served t).signed ++ (served t).unsigned
  part_settled t here =
      part_both (left is_bad log) unsigned t.me
      ∙ (λ i. part_signed t here i ++ part_of_all (λ u. (served u).unsigned) 1 tasks numbered.numbered own_unsigned t here i)

  settled_log : IsLogOfParts team settled (λ t. (served t).last)
  settled_log = log_of_parts team numbered settled (λ t. (served t).last) settled_history
      (λ t here. subst (λ es. HasDone (value t) (new_record t (value t) limit) es (served t).last)
      (sym (part_settled t here)) (has t here).done)

  -- ---- bad messages are under way

  bad_next : (t : AgentTask) (m : Receipt) → Contains tasks t → (served t).bad ≡ Some m
      → slice_get (under_way m.from t.me settled) 0 ≡ Some m.bytes
  bad_next t m here is =
      let taken : List (List ℕ) = received m.from t.me (served t).signed in
      let unsigned_none = none_received m.from t.me (served t).unsigned (has t here).no_receipts in
      let now : received m.from t.me settled ≡ taken =
      received_in_part m.from t.me settled ∙ ap (received m.from t.me) (part_settled t here)
      ∙ filter_map-append (taken_between m.from t.me) (served t).signed (served t).unsigned
      ∙ ap (λ ms. taken ++ ms) unsigned_none ∙ append-nil taken
      in
      let one : received m.from t.me (Took t.me m.from m.bytes ∷ []) ≡ m.bytes ∷ [] =
      rw (eq-eqb m.from m.from refl, eq-eqb t.me t.me refl) refl
      in
      let was : received m.from t.me log ≡ taken ++ m.bytes ∷ [] =
      received_in_part m.from t.me log
      ∙ ap (received m.from t.me) ((has t here).own_is ∙ ap (λ b. (served t).signed ++ bad_receipt t.me b) is)
      ∙ filter_map-append (taken_between m.from t.me) (served t).signed (Took t.me m.from m.bytes ∷ [])
      ∙ ap (λ ms. taken ++ ms) one
      in
      let put : List (List ℕ) = sent m.from t.me log in
      let rest : List (List ℕ) = drop (length (received m.from t.me log)) put in
      let first : put ≡ (taken ++ m.bytes ∷ []) ++ rest =
      sym (take-append-drop (length (received m.from t.me log)) put)
      ∙ ap (λ ms. ms ++ rest) (sym (history_in_order m.from t.me log history.history) ∙ was)
      in
      let more : List (List ℕ) = sent m.from t.me unsigned in
      let all : sent m.from t.me settled ≡ taken ++ (m.bytes ∷ (rest ++ more)) =
      filter_map-append (put_between m.from t.me) (left is_bad log) unsigned
      ∙ ap (λ ms. ms ++ more) (sent_stays is_bad m.from t.me log ∙ first)
      ∙ append_assoc (taken ++ m.bytes ∷ []) rest more
      ∙ append_assoc taken (m.bytes ∷ []) (rest ++ more)
      in
      ap (λ ms. slice_get ms 0)
      ((λ i. drop (length (now i)) (all i)) ∙ behind taken (m.bytes ∷ (rest ++ more)))

  pub is_settled : IsSettled team served settled
  is_settled = record { log = settled_log; parts = part_settled; next = bad_next }
