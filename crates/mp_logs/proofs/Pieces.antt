-- Parts of logs, and that what is put and taken stands in the parts.
use Rattle.std.proofs.Common.{◌≡◌, ℕ, Bool, true, false, List, [], ◌∷◌, ◌++◌, length, Option, None, refl, sym, ap, ◌∙◌, arith}
use Rattle.std.specs.Prelude.{◌==◌, All}
use Rattle.std.specs.List.{filter_map}
use Rattle.std.proofs.lemmas.Bool.{eq-eqb, eqb-true}
use Rattle.std.proofs.lemmas.List.Elements.{All-head, All-tail, filter-append, filter_map-append}
use Rattle.mp_messages.specs.declared.history.Entry.{Entry}
use Rattle.mp_messages.specs.declared.history.Entry.TheVariants.{Act, Put, Took}
use Rattle.mp_messages.specs.History.{agent_of as owner_of, part, put_between, received, sent, taken_between}

pub part_mine : (e : Entry) (es : List Entry) (agent : ℕ) → owner_of e ≡ agent → part (e ∷ es) agent ≡ e ∷ part es agent
part_mine e es agent own = rw (eq-eqb (owner_of e) agent own) refl

pub part_other : (e : Entry) (es : List Entry) (agent : ℕ) → (owner_of e == agent) ≡ false → part (e ∷ es) agent ≡ part es agent
part_other e es agent test = rw test refl

pub part_both : (front back : List Entry) (agent : ℕ) → part (front ++ back) agent ≡ part front agent ++ part back agent
part_both front back agent = filter-append (λ e. owner_of e == agent) front back

-- a list with a first item is not the empty one
pub some_first : {X : Type 0} (x : X) (xs : List X) → x ∷ xs ≡ [] → ⊥
some_first x xs same = let none = ap length same in absurd (omega arith)

-- ---- what only entries of one agent give

module _ {X : Type 0} (gives : Entry → Option X) (agent : ℕ)
    (none : (e : Entry) → (owner_of e == agent) ≡ false → gives e ≡ None) where
  not_given : (e : Entry) → gives e ≡ None → filter_map gives (e ∷ []) ≡ []
  not_given e is = rw is refl

  given_in_part : (log : List Entry) → filter_map gives log ≡ filter_map gives (part log agent)
  given_in_part [] = refl
  given_in_part (e ∷ es) = by (owner_of e == agent) refl (given_in_part es)
    where
      by : (b : Bool) → (owner_of e == agent) ≡ b → filter_map gives es ≡ filter_map gives (part es agent)
          → filter_map gives (e ∷ es) ≡ filter_map gives (part (e ∷ es) agent)
      by true test later =
          filter_map-append gives (e ∷ []) es ∙ ap (λ given. filter_map gives (e ∷ []) ++ given) later
          ∙ sym (filter_map-append gives (e ∷ []) (part es agent))
          ∙ ap (filter_map gives) (sym (part_mine e es agent (eqb-true (owner_of e) agent test)))
      by false test later =
          filter_map-append gives (e ∷ []) es
          ∙ ap (λ given. given ++ filter_map gives es) (not_given e (none e test)) ∙ later
          ∙ ap (filter_map gives) (sym (part_other e es agent test))

put_by_sender : (from to : ℕ) (e : Entry) → (owner_of e == from) ≡ false → put_between from to e ≡ None
put_by_sender from to (Act agent kind) test = refl
put_by_sender from to (Put sender receiver bytes) test = rw test refl
put_by_sender from to (Took by sender bytes) test = refl

taken_by_receiver : (from to : ℕ) (e : Entry) → (owner_of e == to) ≡ false → taken_between from to e ≡ None
taken_by_receiver from to (Act agent kind) test = refl
taken_by_receiver from to (Put sender receiver bytes) test = refl
taken_by_receiver from to (Took by sender bytes) test = either (sender == from) refl
  where
    either : (b : Bool) → (sender == from) ≡ b → taken_between from to (Took by sender bytes) ≡ None
    either true is = rw (is, test) refl
    either false is = rw is refl

pub sent_in_part : (from to : ℕ) (log : List Entry) → sent from to log ≡ sent from to (part log from)
sent_in_part from to log = given_in_part (put_between from to) from (put_by_sender from to) log

pub received_in_part : (from to : ℕ) (log : List Entry) → received from to log ≡ received from to (part log to)
received_in_part from to log = given_in_part (taken_between from to) to (taken_by_receiver from to) log

-- an agent without an entry has no part
pub no_part : (agent : ℕ) (log : List Entry) → All (λ e. (owner_of e == agent) ≡ false) log → part log agent ≡ []
no_part agent [] others = refl
no_part agent (e ∷ es) others =
    part_other e es agent (All-head (λ x. (owner_of x == agent) ≡ false) e es others)
    ∙ no_part agent es (All-tail (λ x. (owner_of x == agent) ≡ false) e es others)

-- entries of one agent are its part
pub own_part : (agent : ℕ) (log : List Entry) → All (λ e. owner_of e ≡ agent) log → part log agent ≡ log
own_part agent [] owners = refl
own_part agent (e ∷ es) owners =
    part_mine e es agent (All-head (λ x. owner_of x ≡ agent) e es owners)
    ∙ ap (λ xs. e ∷ xs) (own_part agent es (All-tail (λ x. owner_of x ≡ agent) e es owners))
