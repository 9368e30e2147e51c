-- Which joint states are the states that agents know, sent and receive.
use Rattle.mp_world.proofs.Basics.{◌≡◌, ◌≢◌, ℕ, suc, ◌+◌, ◌-◌, ◌<◌, ◌≤◌, Bool, true, false, cond, List, [], ◌∷◌, length, map, get_or, Option, None, Some, refl, sym, ap, subst, ◌∙◌, arith, IfSome, slice_get, ◌==◌, enumerate_from, option_map_or, eq-eqb, eqb-false}
use Rattle.mp_world.proofs.Basics.{eqb-true, get_or-map, get_or_default, length-set, same_lists, get_or-enumerate_from, length-enumerate_from, same_Some}
use Rattle.std.specs.FinSet as set
use Rattle.mp_sets.proofs.ListedLemmas.{from_list-listed}
use Rattle.mp_tokens.specs.Order.{set_at}
use Rattle.mp_tokens.proofs.Orders.{order_different}
use Rattle.mp_tokens.proofs.Places.{at_place}
use Rattle.mp_search.specs.Receipt.{own_set}
use Rattle.mp_search.specs.Sending.{message_of_entry}
use Rattle.mp_search.proofs.KeyedStates.{all_get}
use Rattle.mp_world.specs.AgentWords.{AgentTask, IsWithinLimits, is_met, JointState, State, AgentRecord}
use Rattle.mp_world.specs.SearchWords.{Tag, Numbers, place, Entry, AgentState, no_tag, with_tag, IsStateFor, state_of, sent_sets, tokens_given}
use Rattle.mp_world.specs.World.{World, agent_at}
use Rattle.mp_world.specs.Joint.{joint, joint_told, private_facts, sets_of, told_by}
use Rattle.mp_team_states.specs.Sent.{IsSentIn}
use Rattle.mp_team_states.specs.Sound.{IsSoundAgent, IsStateOf, IsTold, tag_of}
use Rattle.mp_team_states.proofs.Growth.{sent_token}
use Rattle.mp_team_states.proofs.Received.{sets_me, tag_other, tag_same}
use Rattle.mp_team_states.proofs.WorldsGrow.{sets_at}

-- ---- lists of what stands for each agent

at_places : {X Y : Type 0} (f g : ℕ × X → Y) (n : ℕ) (xs ys : List X) → length xs ≡ length ys
    → ((i : ℕ) (d e : X) → i < length xs → f (n + i, get_or xs i d) ≡ g (n + i, get_or ys i e)) → map f (enumerate_from n xs) ≡ map g (enumerate_from n ys)
at_places f g n [] [] many same = refl
at_places f g n [] (y ∷ ys) many same = absurd (omega arith)
at_places f g n (x ∷ xs) [] many same = absurd (omega arith)
at_places {X} {Y} f g n (x ∷ xs) (y ∷ ys) many same =
    let first : f (n, x) ≡ g (n, y) = subst (λ (m : ℕ). f (m, x) ≡ g (m, y)) (let e : n + 0 ≡ n = omega arith in e) (same 0 x y (omega arith)) in
    let rest = at_places f g (n + 1) xs ys (omega arith) (λ i d e h.
    subst (λ (m : ℕ). f (m, get_or xs i d) ≡ g (m, get_or ys i e)) (let e : n + suc i ≡ n + 1 + i = omega arith in e) (same (suc i) d e (omega arith))) in
    λ j. first j ∷ rest j

pub read_place : {X Y : Type 0} (f : ℕ × X → Y) (n : ℕ) (xs : List X) (i : ℕ) (d : X) (e : Y) → i < length xs
    → get_or (map f (enumerate_from n xs)) i e ≡ f (n + i, get_or xs i d)
read_place f n xs i d e h =
    get_or-map f (enumerate_from n xs) i (n, d) e (let many = length-enumerate_from n xs in omega arith) ∙ ap f (get_or-enumerate_from n xs i (n, d) h)

-- the tag of the agent at a place
pub tag_at : (tags : List Tag) (i : ℕ) (d : Tag) → i < length tags → get_or tags i d ≡ tag_of tags (1 + i)
tag_at tags i d h =
    let place : 1 + i - 1 ≡ i = omega arith in
    get_or_default tags i d no_tag h ∙ ap (λ (k : ℕ). get_or tags k no_tag) (sym place)

module _ (w : World) (t : AgentTask) (limits : IsWithinLimits t) (r : AgentRecord) (there : agent_at w t.me ≡ Some r) (sound : IsSoundAgent w t r) where
  -- own facts and tags of a state against the tags of a message
  both_told : (mine : Numbers) (tags others : List Tag) → length tags ≡ length others
      → ((tag : Tag) → tag ≡ tag_of others t.me → mine ≡ told_by w (t.me, tag))
      → ((agent : ℕ) → 1 ≤ agent → agent ≢ t.me → tag_of tags agent ≡ tag_of others agent)
      → map (private_facts w t.me mine) (enumerate_from 1 tags) ≡ map (told_by w) (enumerate_from 1 others)
  both_told mine tags others many own same =
      at_places (private_facts w t.me mine) (told_by w) 1 tags others many (λ i d e h. by i d e h (1 + i == t.me) refl)
    where
      by : (i : ℕ) (d e : Tag) → i < length tags → (b : Bool) → (1 + i == t.me) ≡ b
          → cond b mine (told_by w (1 + i, get_or tags i d)) ≡ told_by w (1 + i, get_or others i e)
      by i d e h true test =
          let me = eqb-true (1 + i) t.me test in
          own (get_or others i e) (tag_at others i e (omega arith) ∙ ap (tag_of others) me) ∙ (λ j. told_by w (sym me j, get_or others i e))
      by i d e h false test =
          let tag : get_or tags i d ≡ get_or others i e =
          tag_at tags i d h ∙ same (1 + i) (omega arith) (eqb-false (1 + i) t.me test) ∙ sym (tag_at others i e (omega arith))
          in
          ap (λ (x : Tag). told_by w (1 + i, x)) tag

  -- a message tells of the joint state of the entry that was sent
  pub sent_joint : (m : State) (n : ℕ) (e : Entry AgentState) → IsSentIn t r.search.kept m → slice_get r.search.kept.sent m.sent ≡ Some n
      → slice_get r.search.kept.entries n ≡ Some e → joint w t.me e.key ≡ joint_told w m
  unfolding message_of_entry
  sent_joint m n e sent at_sent at =
      let number : sent.number ≡ n = same_Some sent.number n (sym sent.sent ∙ at_sent) in
      let one : sent.entry ≡ e = same_Some sent.entry e (sym sent.there ∙ ap (slice_get r.search.kept.entries) number ∙ at) in
      let is : m ≡ message_of_entry t r.search.kept m.sent e = subst (λ (e : Entry AgentState). m ≡ message_of_entry t r.search.kept m.sent e) one sent.is in
      let known : IsStateOf w t e.key = all_get (λ (e : Entry AgentState). IsStateOf w t e.key) r.search.kept.entries n e sound.states at in
      let sets = tokens_given t r.search.kept in
      let own : Tag = record { token = place sets e.key.mine; met = is_met t e.key.mine } in
      let tags : m.tags ≡ with_tag e.key.tags t.me own = ap (λ (m : State). m.tags) is in
      let many : length e.key.tags ≡ length m.tags = sym (ap length tags ∙ length-set e.key.tags (t.me - 1) own) in
      let facts : set.from_list m.facts ≡ e.key.publics =
      ap (λ (m : State). set.from_list m.facts) is ∙ from_list-listed (record { size = t.publics; members = e.key.publics }) known.publics
      in
      let given : place sets e.key.mine < length sets = sent_token t r.search.kept m.sent n e at_sent at in
      let told : told_by w (t.me, own) ≡ e.key.mine =
      ap (λ (xs : List Numbers). get_or xs (place sets e.key.mine) set.empty) (sets_me w t limits r there sound) ∙ at_place sets e.key.mine given
      in
      let privates =
      both_told e.key.mine e.key.tags m.tags many
      (λ tag same.
      let is_own : tag ≡ own =
      same ∙ ap (λ (xs : List Tag). tag_of xs t.me) tags ∙ tag_same e.key.tags t.me own limits.from_1 (let as_many = known.number in let in_team = limits.in_team in omega arith)
      in
      sym told ∙ ap (λ (x : Tag). told_by w (t.me, x)) (sym is_own))
      (λ agent low other. sym (ap (λ (xs : List Tag). tag_of xs agent) tags ∙ tag_other e.key.tags t.me agent own limits.from_1 low other))
      in
      λ j. record { publics = sym facts j; privates = privates j }

  -- and a receiver knows that joint state
  pub received_joint : (m : State) → IsStateFor t m → joint w t.me (state_of t r.search.kept m) ≡ joint_told w m
  received_joint m fits =
      let mine = own_set t r.search.kept m in
      let tags = with_tag m.tags t.me no_tag in
      let privates =
      both_told mine tags m.tags (length-set m.tags (t.me - 1) no_tag)
      (λ tag same.
      (λ j. set_at (sym (sets_me w t limits r there sound) j) (sym same j).token))
      (λ agent low other. tag_other m.tags t.me agent no_tag limits.from_1 low other)
      in
      λ j. record { publics = set.from_list m.facts; privates = privates j }

  -- ---- two states of one agent

  module _ (a b : AgentState) (a_is : IsStateOf w t a) (b_is : IsStateOf w t b) (same : joint w t.me a ≡ joint w t.me b) where
    facts_at : (i : ℕ) → i < length a.tags → private_facts w t.me a.mine (1 + i, get_or a.tags i no_tag) ≡ private_facts w t.me b.mine (1 + i, get_or b.tags i no_tag)
    facts_at i h =
        let a_many = a_is.number in
        let b_many = b_is.number in
        sym (read_place (private_facts w t.me a.mine) 1 a.tags i no_tag set.empty h)
        ∙ ap (λ (s : JointState). get_or s.privates i set.empty) same
        ∙ read_place (private_facts w t.me b.mine) 1 b.tags i no_tag set.empty (omega arith)

    same_mine : a.mine ≡ b.mine
    same_mine =
        let low = limits.from_1 in
        let in_team = limits.in_team in
        let many = a_is.number in
        let me : 1 + (t.me - 1) ≡ t.me = omega arith in
        by (1 + (t.me - 1) == t.me) (eq-eqb (1 + (t.me - 1)) t.me me) (facts_at (t.me - 1) (omega arith))
      where
        by : (c : Bool) → c ≡ true
            → cond c a.mine (told_by w (1 + (t.me - 1), get_or a.tags (t.me - 1) no_tag)) ≡ cond c b.mine (told_by w (1 + (t.me - 1), get_or b.tags (t.me - 1) no_tag))
            → a.mine ≡ b.mine
        by true is e = e
        by false is e = absurd (let impossible : ⊥ = cc in impossible)

    other_tag : (agent : ℕ) → 1 ≤ agent → agent ≤ t.agents → agent ≢ t.me → told_by w (agent, tag_of a.tags agent) ≡ told_by w (agent, tag_of b.tags agent)
        → tag_of a.tags agent ≡ tag_of b.tags agent
    other_tag agent low high other sets =
        by (agent_at w agent) refl (a_is.others agent low high other) (b_is.others agent low high other)
      where
        x : Tag
        x = tag_of a.tags agent

        y : Tag
        y = tag_of b.tags agent

        by : (o : Option AgentRecord) → agent_at w agent ≡ o → IsTold w agent x → IsTold w agent y → x ≡ y
        by None is x_told y_told = absurd (let none = ap (λ (o : Option AgentRecord). length (option_map_or (λ r. tokens_given r.task r.search.kept) o [])) is in let given = x_told.given in omega arith)
        by (Some u) is x_told y_told =
            let given : sets_of w agent ≡ tokens_given u.task u.search.kept = sets_at w agent u is in
            let token : x.token ≡ y.token =
            order_different (set.from_list u.task.start_priv) (sent_sets u.search.kept) x.token y.token
            (subst (λ (xs : List Numbers). x.token < length xs) given x_told.given)
            (subst (λ (xs : List Numbers). y.token < length xs) given y_told.given)
            ((λ j. set_at (sym given j) x.token) ∙ sets ∙ (λ j. set_at (given j) y.token))
            in
            let met_x : x.met ≡ is_met u.task (told_by w (agent, x)) = subst (λ (o : Option AgentRecord). IfSome o (λ r. x.met ≡ is_met r.task (told_by w (agent, x)))) is x_told.byte in
            let met_y : y.met ≡ is_met u.task (told_by w (agent, y)) = subst (λ (o : Option AgentRecord). IfSome o (λ r. y.met ≡ is_met r.task (told_by w (agent, y)))) is y_told.byte in
            let met : x.met ≡ y.met = met_x ∙ ap (is_met u.task) sets ∙ sym met_y in
            λ j. record { token = token j; met = met j }

    tag_equal : (i : ℕ) → i < length a.tags → (c : Bool) → (1 + i == t.me) ≡ c
        → cond c a.mine (told_by w (1 + i, get_or a.tags i no_tag)) ≡ cond c b.mine (told_by w (1 + i, get_or b.tags i no_tag))
        → tag_of a.tags (1 + i) ≡ tag_of b.tags (1 + i)
    tag_equal i h true test e = let me = eqb-true (1 + i) t.me test in ap (tag_of a.tags) me ∙ a_is.own ∙ sym b_is.own ∙ ap (tag_of b.tags) (sym me)
    tag_equal i h false test e =
        let a_many = a_is.number in
        let b_many = b_is.number in
        other_tag (1 + i) (omega arith) (omega arith) (eqb-false (1 + i) t.me test)
        (ap (λ (x : Tag). told_by w (1 + i, x)) (sym (tag_at a.tags i no_tag h)) ∙ e ∙ ap (λ (x : Tag). told_by w (1 + i, x)) (tag_at b.tags i no_tag (omega arith)))

    pub same_from_joint : a ≡ b
    same_from_joint =
        let a_many = a_is.number in
        let b_many = b_is.number in
        let publics = ap (λ (s : JointState). s.publics) same in
        let tags : a.tags ≡ b.tags =
        same_lists a.tags b.tags (omega arith) (λ i d h.
        tag_at a.tags i d h ∙ tag_equal i h (1 + i == t.me) refl (facts_at i h) ∙ sym (tag_at b.tags i d (omega arith)))
        in
        λ j. record { publics = publics j; mine = same_mine j; tags = tags j }
