-- Signings after a value was put into the slot in hand.
use Rattle.std.proofs.Common.{◌≡◌, ℕ, ◌+◌, ◌-◌, ◌*◌, ◌^◌, ◌%◌, ◌≤◌, List, [], sym, ap, subst, ◌∙◌, Some}
use Rattle.std.specs.Option.{option_map_or}
use mathlib.Core.Option.{none}
use Rattle.atomic_table.specs.Table.{Step, step, Allows}
use Rattle.mp_messages.specs.declared.history.Entry.{Entry}
use Rattle.mp_stamps.specs.Lists.{IsAgentOf}
use Rattle.mp_post_rule.specs.declared.kept.Kept.{Kept}
use Rattle.mp_post_rule.specs.declared.kept.Slot.{Slot}
use Rattle.mp_post_rule.specs.declared.view.Party.{Party}
use Rattle.mp_post_rule.specs.declared.view.View.{View}
use Rattle.mp_post_rule.specs.Kinds.{Seated, batch_in, by_in, halted, received, signed}
use Rattle.mp_post_rule.specs.Queues.{count_puts}
use Rattle.mp_post_rule.specs.Rule.{Home, IsKept}
use Rattle.mp_post_rule.specs.Table.{HasValue, Holds, IsLaid, MayReceive, MaySign}
use Rattle.mp_post_rule.specs.Views.{after_halt, after_receipt, after_signing, party_at}
use Rattle.mp_post_rule.proofs.Signs.{halts, receives, signs}

abbrev pub batch_of : Slot → List Entry
batch_of slot = option_map_or (λ s. s.value) slot.signs []

pub agent_of_key : (agents key post : ℕ) → key ≡ agents → 1 ≤ post → post ≤ agents → IsAgentOf key post
agent_of_key agents key post same low high = subst (λ n. IsAgentOf n post) (sym same) (record { from_1 = low; at_most = high })

module _ (post : ℕ) (slot : Slot) (m m' : Seated) (laid : IsLaid post slot m m') where
  by_laid : by_in m'.1 ≡ slot.by
  by_laid = ap by_in laid.hand ∙ ap (λ (s : Slot). s.by) laid.is

  batch_laid : batch_in m'.1 ≡ batch_of slot
  batch_laid = ap batch_in laid.hand ∙ ap batch_of laid.is

  pub value_laid : (kept : Kept) (m'' : Seated) → slot.kept ≡ Some kept → m''.1 ≡ m'.1 → HasValue post kept m''
  value_laid kept m'' has same = record {
    home = laid.home;
    hand = same ∙ laid.hand;
    has = ap (λ (s : Slot). s.kept) laid.is ∙ has;
  }

  holds_laid : (noted : Kept) → Holds post noted m.0 → Holds post noted m'.0
  holds_laid noted holds = ap (λ (v : View). v.turn) laid.view ∙ holds

  pub signs_laid : (agents key slots id count : ℕ) (noted : Kept) (batch : List Entry) → key ≡ agents → 1 ≤ post → post ≤ agents
      → Holds post noted m.0 → MaySign agents post batch m.0 → count ≡ count_puts batch → slot.by ≡ post → batch_of slot ≡ batch
      → Allows (IsKept key) slots id m' (2 * post - 1) (λ n. (n + count) % 2 ^ 64) (signed (step slots (2 * post - 1) count 0 none) m')
  signs_laid agents key slots id count noted batch same low high holds may count_is by_is batch_is =
      signs key slots post id count m' noted batch (agent_of_key agents key post same low high) (holds_laid noted holds)
      (subst (λ (p : ℕ × View). MaySign p.0 post batch p.1) (λ i. (sym same i, sym laid.view i)) may) count_is (by_laid ∙ by_is) (batch_laid ∙ batch_is)

  pub signed_laid : (batch : List Entry) (st : Step Home) (n : ℕ) (m'' : Seated) → slot.by ≡ post → batch_of slot ≡ batch
      → signed st m' n m'' → m''.0 ≡ after_signing post batch m.0
  signed_laid batch st n m'' by_is batch_is t = t.0 ∙ (λ i. after_signing ((by_laid ∙ by_is) i) ((batch_laid ∙ batch_is) i) (laid.view i))

  pub halts_laid : (agents key slots by id : ℕ) (noted : Kept) (p : Party) → key ≡ agents → 1 ≤ post → post ≤ agents
      → Holds post noted m.0 → party_at m.0 by ≡ Some p → slot.by ≡ by
      → Allows (IsKept key) slots id m' (2 * post - 1) (λ n. (n + 0) % 2 ^ 64) (halted (step slots (2 * post - 1) 0 0 none) m')
  halts_laid agents key slots by id noted p same low high holds held by_is =
      halts key slots post by id m' noted p (agent_of_key agents key post same low high) (holds_laid noted holds)
      (ap (λ v. party_at v by) laid.view ∙ held) (by_laid ∙ by_is)

  pub halted_laid : (by : ℕ) (st : Step Home) (n : ℕ) (m'' : Seated) → slot.by ≡ by → halted st m' n m'' → m''.0 ≡ after_halt by m.0
  halted_laid by st n m'' by_is t = t.0 ∙ (λ i. after_halt ((by_laid ∙ by_is) i) (laid.view i))

  pub receives_laid : (agents key slots by id : ℕ) (noted : Kept) → key ≡ agents → 1 ≤ post → post ≤ agents → 1 ≤ by → by ≤ agents
      → Holds post noted m.0 → MayReceive by post noted m.0 → slot.by ≡ by
      → Allows (IsKept key) slots id m' (2 * post - 1) (λ n. (n + 1) % 2 ^ 64) (received (step slots (2 * post - 1) 1 0 none) m')
  receives_laid agents key slots by id noted same low high low' high' holds may by_is =
      receives key slots post by id m' noted (agent_of_key agents key post same low high) (agent_of_key agents key by same low' high') (holds_laid noted holds)
      (subst (MayReceive by post noted) (sym laid.view) may) (by_laid ∙ by_is)

  pub received_laid : (by : ℕ) (st : Step Home) (n : ℕ) (m'' : Seated) → slot.by ≡ by → received st m' n m'' → m''.0 ≡ after_receipt by m.0
  received_laid by st n m'' by_is t = t.0 ∙ (λ i. after_receipt ((by_laid ∙ by_is) i) (laid.view i))
