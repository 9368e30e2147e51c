-- Counts of messages in lists.
use Rattle.std.proofs.Common.{◌≡◌, ◌≢◌, ℕ, zero, suc, ◌+◌, ◌*◌, ◌/◌, ◌%◌, ◌<◌, eqb, eq-eqb, ne_eqb, true, false, List, [], ◌∷◌, ◌++◌, length, refl, sym, ap, ◌∙◌, arith, length-append}
use Rattle.std.specs.Prelude.{All}
use Rattle.std.specs.List.{filter}
use Rattle.std.proofs.lemmas.List.Elements.{All-head, All-tail, filter-append}
use mathlib.Core.Logic.{dite}
use native.Mathlib.Decide.{ℕ_discrete}
use native.Mathlib.Nat.{mul-add-mod_self_right, div-add-mod', add_assoc}
use Rattle.mp_messages.specs.declared.history.Entry.{Entry}
use Rattle.mp_messages.specs.declared.history.Entry.TheVariants.{Act, Put, Took}
use Rattle.mp_stamps.specs.Lists.{IsAgentOf}
use Rattle.mp_stamps.specs.declared.stamped.Stamped.{Stamped}
use Rattle.mp_post_rule.specs.Queues.{IsSignable, count_puts, stamped_after}
use Rattle.mp_post_rule.specs.Rule.{is_mail_of, mail_at, mail_in}
use Rattle.mp_post_rule.proofs.Places.{put, put_here, put_else}

pub mail_in_more : (post : ℕ) (list new : List Stamped) → mail_in post (list ++ new) ≡ mail_in post list + mail_in post new
mail_in_more post list new = ap length (filter-append (λ (s : Stamped). is_mail_of post s.entry) list new)
    ∙ length-append (filter (λ (s : Stamped). is_mail_of post s.entry) list) (filter (λ (s : Stamped). is_mail_of post s.entry) new)

-- one list has more
module _ (lists : ℕ → List Stamped) (a : ℕ) (new : List Stamped) (post : ℕ) where
  abbrev grown : ℕ → List Stamped
  grown = put lists a (lists a ++ new)

  below : (n : ℕ) → n < a → mail_at grown post n ≡ mail_at lists post n
  below zero low = refl
  below (suc n) low =
      let before = below n (omega arith) in
      let last : mail_in post (grown (suc n)) ≡ mail_in post (lists (suc n)) = ap (mail_in post) (put_else lists a (suc n) (lists a ++ new) (λ e. omega arith)) in
      omega arith

  pub mail_at_more : (n : ℕ) → IsAgentOf n a → mail_at grown post n ≡ mail_at lists post n + mail_in post new
  mail_at_more zero is = let low = is.from_1 in let high = is.at_most in absurd (omega arith)
  mail_at_more (suc n) is = dite (ℕ_discrete a (suc n))
      (λ same.
      let before = below n (omega arith) in
      let last : mail_in post (grown (suc n)) ≡ mail_in post (lists (suc n)) + mail_in post new =
      ap (mail_in post) (ap grown (sym same) ∙ put_here lists a (lists a ++ new)) ∙ (mail_in_more post (lists a) new
      ∙ ap (λ k. mail_in post (lists k) + mail_in post new) same) in
      omega arith)
      (λ other.
      let low = is.from_1 in let high = is.at_most in
      let before = mail_at_more n (record { from_1 = low; at_most = omega arith }) in
      let last : mail_in post (grown (suc n)) ≡ mail_in post (lists (suc n)) = ap (mail_in post) (put_else lists a (suc n) (lists a ++ new) (λ e. other (sym e))) in
      omega arith)

-- a batch: its messages count for its own post alone
pub own_mail : (agents a last : ℕ) (batch : List Entry) → All (IsSignable agents a) batch → mail_in a (stamped_after last batch) ≡ count_puts batch
own_mail agents a last [] all = refl
own_mail agents a last (e ∷ es) all = one e (All-head (IsSignable agents a) e es all)
    (own_mail agents a (suc last) es (All-tail (IsSignable agents a) e es all))
  where
    one : (x : Entry) → IsSignable agents a x → mail_in a (stamped_after (suc last) es) ≡ count_puts es
        → mail_in a (record { stamp = suc last; entry = x } ∷ stamped_after (suc last) es) ≡ count_puts (x ∷ es)
    one (Act agent kind) is rest = rest
    one (Put from to bytes) is rest = let e : eqb from a ≡ true = eq-eqb from a is.0 in rw e (ap suc rest)
    one (Took by from bytes) is rest = absurd is

pub no_other_mail : (agents a post last : ℕ) (batch : List Entry) → post ≢ a → All (IsSignable agents a) batch → mail_in post (stamped_after last batch) ≡ 0
no_other_mail agents a post last [] other all = refl
no_other_mail agents a post last (e ∷ es) other all = one e (All-head (IsSignable agents a) e es all)
    (no_other_mail agents a post (suc last) es other (All-tail (IsSignable agents a) e es all))
  where
    one : (x : Entry) → IsSignable agents a x → mail_in post (stamped_after (suc last) es) ≡ 0
        → mail_in post (record { stamp = suc last; entry = x } ∷ stamped_after (suc last) es) ≡ 0
    one (Act agent kind) is rest = rest
    one (Put from to bytes) is rest = let e : eqb from post ≡ false = ne_eqb from post (λ same. other (sym same ∙ is.0)) in rw e rest
    one (Took by from bytes) is rest = absurd is

-- a sum with the rest of a number
pub mod_first : (c k m : ℕ) → (c % m + k) % m ≡ (c + k) % m
mod_first c k m = sym (ap (λ n. n % m) (ap (λ n. n + k) (sym (div-add-mod' c m)) ∙ add_assoc (c / m * m) (c % m) k)
    ∙ mul-add-mod_self_right (c / m) m (c % m + k))
