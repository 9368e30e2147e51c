-- What the agents have not yet signed, put behind a log.
use Rattle.std.proofs.Common.{◌≡◌, ℕ, ◌+◌, ◌<◌, ◌≤◌, Bool, true, false, List, [], ◌∷◌, ◌++◌, length, map, refl, sym, ap, subst, ◌∙◌, append_assoc, arith, inl, inr}
use Rattle.std.specs.Prelude.{◌==◌, All, Contains}
use Rattle.std.specs.List.{flat_map, range_with_len}
use Rattle.std.proofs.lemmas.Bool.{eqb-true, false≢true}
use Rattle.std.proofs.lemmas.List.{append-nil}
use Rattle.std.proofs.lemmas.List.Elements.{All-append, All-head, All-nil, All-tail, All-weaker}
use Rattle.mp_list.proofs.Members.{contains_cases, contains_head, contains_tail, no_member}
use Rattle.mp_task.specs.AgentTask.{AgentTask}
use Rattle.mp_messages.specs.declared.history.Entry.{Entry}
use Rattle.mp_messages.specs.declared.history.Entry.TheVariants.{Act, Put, Took}
use Rattle.mp_messages.specs.History.{IsHistory, MayFollow, agent_of as owner_of, part, received}
use Rattle.mp_messages.proofs.Histories.{history_grows}
use Rattle.mp_logs.specs.Served.{is_receipt}
use Rattle.mp_logs.proofs.Pieces.{no_part, own_part, part_both}

abbrev AreNoReceipts : List Entry → Type 0
AreNoReceipts es = All (λ e. is_receipt e ≡ false) es

-- what takes no message may follow any log
any_follows : (log : List Entry) (e : Entry) → is_receipt e ≡ false → MayFollow log e
any_follows log (Act agent kind) none = tt
any_follows log (Put from to bytes) none = tt
any_follows log (Took by from bytes) none = absurd (false≢true (sym none))

pub history_behind : (more log : List Entry) → AreNoReceipts more → IsHistory log → IsHistory (log ++ more)
history_behind [] log none legal = subst IsHistory (sym (append-nil log)) legal
history_behind (e ∷ es) log none legal =
    subst IsHistory (append_assoc log (e ∷ []) es)
    (history_behind es (log ++ e ∷ []) (All-tail (λ x. is_receipt x ≡ false) e es none)
    (history_grows log e legal (any_follows log e (All-head (λ x. is_receipt x ≡ false) e es none))))

-- nothing is taken by them
pub none_received : (from to : ℕ) (es : List Entry) → AreNoReceipts es → received from to es ≡ []
none_received from to [] none = refl
none_received from to (Act agent kind ∷ es) none =
    none_received from to es (All-tail (λ x. is_receipt x ≡ false) (Act agent kind) es none)
none_received from to (Put sender receiver bytes ∷ es) none =
    none_received from to es (All-tail (λ x. is_receipt x ≡ false) (Put sender receiver bytes) es none)
none_received from to (Took by sender bytes ∷ es) none =
    absurd (false≢true (sym (All-head (λ x. is_receipt x ≡ false) (Took by sender bytes) es none)))

-- ---- the lists of the agents, one after another

module _ (list_of : AgentTask → List Entry) where
  abbrev pub all_of : List AgentTask → List Entry
  all_of ts = flat_map list_of ts

  -- what the entries of each list have, all have
  pub all_have : (P : Entry → Type 0) (ts : List AgentTask)
      → ((t : AgentTask) → Contains ts t → All P (list_of t)) → All P (all_of ts)
  all_have P [] each = All-nil P
  all_have P (t ∷ ts) each =
      All-append P (list_of t) (all_of ts) (each t (contains_head t ts))
      (all_have P ts (λ u here. each u (contains_tail t ts u here)))

  -- the tasks are numbered from here on
  abbrev Numbered : ℕ → List AgentTask → Type 0
  Numbered first ts = map (λ t. t.me) ts ≡ range_with_len first (length ts)

  first_number : (n : ℕ) (t : AgentTask) (ts : List AgentTask) → Numbered n (t ∷ ts) → t.me ≡ n
  first_number n t ts numbered = cc

  others_numbers : (n : ℕ) (t : AgentTask) (ts : List AgentTask) → Numbered n (t ∷ ts) → Numbered (n + 1) ts
  others_numbers n t ts numbered = cc

  not_below : (n : ℕ) (ts : List AgentTask) → Numbered n ts → (t : AgentTask) → Contains ts t → n ≤ t.me
  not_below n [] numbered t here = absurd (no_member t here)
  not_below n (u ∷ us) numbered t here =
      elim (contains_cases u us t here) [
        | inl same ↦ let me = ap (λ (v : AgentTask). v.me) same in let first = first_number n u us numbered in omega arith
        | inr later ↦ let more = not_below (n + 1) us (others_numbers n u us numbered) t later in omega arith
      ]

  abbrev AreOwn : AgentTask → Type 0
  AreOwn t = All (λ e. owner_of e ≡ t.me) (list_of t)

  other_number : (a b : ℕ) → b < a → (a == b) ≡ false
  other_number a b less = by (a == b) refl
    where
      by : (test : Bool) → (a == b) ≡ test → test ≡ false
      by true is = let same = eqb-true a b is in absurd (omega arith)
      by false is = refl

  another_number : (a b : ℕ) → a < b → (a == b) ≡ false
  another_number a b less = by (a == b) refl
    where
      by : (test : Bool) → (a == b) ≡ test → test ≡ false
      by true is = let same = eqb-true a b is in absurd (omega arith)
      by false is = refl

  -- an agent with a lower number has nothing in them
  lower_none : (n : ℕ) (ts : List AgentTask) → Numbered n ts → ((t : AgentTask) → Contains ts t → AreOwn t)
      → (agent : ℕ) → agent < n → part (all_of ts) agent ≡ []
  lower_none n ts numbered own agent less =
      no_part agent (all_of ts)
      (all_have (λ e. (owner_of e == agent) ≡ false) ts (λ t here.
      let low = not_below n ts numbered t here in
      All-weaker (λ e. owner_of e ≡ t.me) (λ e. (owner_of e == agent) ≡ false)
      (λ e is. other_number (owner_of e) agent (omega (arith, is))) (list_of t) (own t here)))

  pub part_of_all : (n : ℕ) (ts : List AgentTask) → Numbered n ts → ((t : AgentTask) → Contains ts t → AreOwn t)
      → (t : AgentTask) → Contains ts t → part (all_of ts) t.me ≡ list_of t
  part_of_all n [] numbered own t here = absurd (no_member t here)
  part_of_all n (u ∷ us) numbered own t here =
      elim (contains_cases u us t here) [
        | inl same ↦
            let me : u.me ≡ t.me = ap (λ (v : AgentTask). v.me) same in
            let first = first_number n u us numbered in
            part_both (list_of u) (all_of us) t.me
            ∙ ap (λ es. part (list_of u) t.me ++ es)
            (lower_none (n + 1) us (others_numbers n u us numbered) (λ v in_us. own v (contains_tail u us v in_us))
            t.me (omega arith))
            ∙ append-nil (part (list_of u) t.me)
            ∙ ap (part (list_of u)) (sym me)
            ∙ own_part u.me (list_of u) (own u (contains_head u us))
            ∙ ap list_of same
        | inr later ↦
            let first = first_number n u us numbered in
            let low = not_below (n + 1) us (others_numbers n u us numbered) t later in
            part_both (list_of u) (all_of us) t.me
            ∙ ap (λ es. es ++ part (all_of us) t.me)
            (no_part t.me (list_of u)
            (All-weaker (λ e. owner_of e ≡ u.me) (λ e. (owner_of e == t.me) ≡ false)
            (λ e is. another_number (owner_of e) t.me (omega (arith, is))) (list_of u) (own u (contains_head u us))))
            ∙ part_of_all (n + 1) us (others_numbers n u us numbered) (λ v in_us. own v (contains_tail u us v in_us)) t later
      ]
