-- Messages of a batch that join what waits, and are taken back.
use Rattle.std.proofs.Common.{◌≡◌, ◌≢◌, ℕ, zero, suc, ◌+◌, ◌-◌, ◌<◌, ◌≤◌, ◌&&◌, eqb, eq-eqb, ne_eqb, true, false, List, [], ◌∷◌, ◌++◌, length, get_or, set, take, refl, sym, ap, subst, ◌∙◌, arith, append_assoc, get_or-set_same}
use Rattle.std.specs.Prelude.{All, Bool, Result, Ok, Err, OnErr, OnOk}
use Rattle.std.specs.Result.{is_err}
use Rattle.std.proofs.lemmas.List.{append-nil, set-get_or, length-append, length-set, length-take-le, set-set}
use Rattle.std.proofs.lemmas.List.Elements.{All-head, All-tail, All-take}
use Rattle.std.proofs.Math.Seq.{take-append_seam, take-suc}
use Rattle.mp_messages.specs.declared.history.Entry.{Entry}
use Rattle.mp_messages.specs.declared.history.Entry.TheVariants.{Act, Put, Took}
use Rattle.mp_stamps.specs.Lists.{puts}
use Rattle.mp_stamps.specs.Mail.{Mail}
use Rattle.mp_stamps.specs.declared.stamped.Stamped.{Stamped}
use Rattle.mp_post_rule.specs.Queues.{IsSignable, mail, stamped_after, with_puts_from}
use Rattle.mp_post.specs.Growth.{HasQueue, but_last, with_all, with_mail, without_all, without_mail}

-- there are as many queues as before
mail_keeps : (stamp : ℕ) (e : Entry) (rows : List (List Mail)) → length (with_mail stamp e rows) ≡ length rows
mail_keeps stamp (Act by kind) rows = refl
mail_keeps stamp (Put from to bytes) rows = length-set rows (to - 1) (get_or rows (to - 1) [] ++ mail stamp bytes ∷ [])
mail_keeps stamp (Took by from bytes) rows = refl

pub all_keep : (last : ℕ) (es : List Entry) (rows : List (List Mail)) → length (with_all last es rows) ≡ length rows
all_keep last [] rows = refl
all_keep last (e ∷ es) rows = all_keep (suc last) es (with_mail (suc last) e rows) ∙ mail_keeps (suc last) e rows

pub without_keeps : (e : Entry) (rows : List (List Mail)) → length (without_mail e rows) ≡ length rows
without_keeps (Act by kind) rows = refl
without_keeps (Put from to bytes) rows = length-set rows (to - 1) (but_last (get_or rows (to - 1) []))
without_keeps (Took by from bytes) rows = refl

-- one entry more
pub all_more : (last : ℕ) (es : List Entry) (e : Entry) (rows : List (List Mail))
    → with_all last (es ++ e ∷ []) rows ≡ with_mail (last + length es + 1) e (with_all last es rows)
all_more last [] e rows = ap (λ (n : ℕ). with_mail n e rows) (omega arith)
all_more last (x ∷ xs) e rows = all_more (suc last) xs e (with_mail (suc last) x rows)
    ∙ ap (λ (n : ℕ). with_mail n e (with_all (suc last) xs (with_mail (suc last) x rows))) (omega arith)

pub without_more : (es : List Entry) (e : Entry) (rows : List (List Mail))
    → without_all (es ++ e ∷ []) rows ≡ without_all es (without_mail e rows)
without_more [] e rows = refl
without_more (x ∷ xs) e rows = ap (without_mail x) (without_more xs e rows)

-- what was added is taken back
last_gone : (row : List Mail) (m : Mail) → but_last (row ++ m ∷ []) ≡ row
last_gone row m = ap (λ (n : ℕ). take (n - 1) (row ++ m ∷ [])) (length-append row (m ∷ []))
    ∙ (ap (λ (n : ℕ). take n (row ++ m ∷ [])) (omega arith) ∙ take-append_seam row (m ∷ []))

one_back : (stamp : ℕ) (e : Entry) (rows : List (List Mail)) → HasQueue (length rows) e → without_mail e (with_mail stamp e rows) ≡ rows
one_back stamp (Act by kind) rows has = refl
one_back stamp (Put from to bytes) rows has =
    let row = get_or rows (to - 1) [] in
    let more = row ++ mail stamp bytes ∷ [] in
    ap (λ (r : List Mail). set (set rows (to - 1) more) (to - 1) (but_last r)) (get_or-set_same rows (to - 1) more [] has)
    ∙ (ap (set (set rows (to - 1) more) (to - 1)) (last_gone row (mail stamp bytes))
    ∙ (set-set rows (to - 1) more row ∙ set-get_or rows (to - 1) []))
one_back stamp (Took by from bytes) rows has = refl

pub all_back : (last : ℕ) (es : List Entry) (rows : List (List Mail)) → All (HasQueue (length rows)) es → without_all es (with_all last es rows) ≡ rows
all_back last [] rows has = refl
all_back last (e ∷ es) rows has =
    let more = with_mail (suc last) e rows in
    let first = All-head (HasQueue (length rows)) e es has in
    let others = subst (λ n. All (HasQueue n) es) (sym (mail_keeps (suc last) e rows)) (All-tail (HasQueue (length rows)) e es has) in
    ap (without_mail e) (all_back (suc last) es more others) ∙ one_back (suc last) e rows first

-- messages that join one by one are those that a batch puts
same_rows : (from n : ℕ) (a b : List Stamped) (rows : List (List Mail)) → ((to : ℕ) → puts from to a ≡ puts from to b)
    → with_puts_from from n a rows ≡ with_puts_from from n b rows
same_rows from n a b [] same = refl
same_rows from n a b (row ∷ rows) same = λ i. (row ++ same n i) ∷ same_rows from (suc n) a b rows same i

abbrev stamped : ℕ → Entry → Stamped
stamped stamp e = record { stamp = stamp; entry = e }

both : (p q : Bool) → p ≡ true → q ≡ true → (p && q) ≡ true
both true q e f = f
both false q e f = absurd cc

neither : (p q : Bool) → q ≡ false → (p && q) ≡ false
neither true q e = e
neither false q e = refl

here : (from to stamp : ℕ) (bytes : List ℕ) (ss : List Stamped)
    → puts from to (stamped stamp (Put from to bytes) ∷ ss) ≡ mail stamp bytes ∷ puts from to ss
here from to stamp bytes ss = let e = both (eqb from from) (eqb to to) (eq-eqb from from refl) (eq-eqb to to refl) in rw e refl

elsewhere : (from to stamp receiver : ℕ) (bytes : List ℕ) (ss : List Stamped) → receiver ≢ to
    → puts from to (stamped stamp (Put from receiver bytes) ∷ ss) ≡ puts from to ss
elsewhere from to stamp receiver bytes ss other = let e = neither (eqb from from) (eqb receiver to) (ne_eqb receiver to other) in rw e refl

later_rows : (from n stamp receiver : ℕ) (bytes : List ℕ) (ss : List Stamped) (rows : List (List Mail)) → receiver < n
    → with_puts_from from n (stamped stamp (Put from receiver bytes) ∷ ss) rows ≡ with_puts_from from n ss rows
later_rows from n stamp receiver bytes ss [] low = refl
later_rows from n stamp receiver bytes ss (row ∷ rows) low =
    λ i. (row ++ elsewhere from n stamp receiver bytes ss (λ same. absurd (omega arith)) i) ∷ later_rows from (suc n) stamp receiver bytes ss rows (omega arith) i

one_put : (from n stamp receiver k : ℕ) (bytes : List ℕ) (ss : List Stamped) (rows : List (List Mail)) → receiver ≡ n + k
    → with_puts_from from n (stamped stamp (Put from receiver bytes) ∷ ss) rows
    ≡ with_puts_from from n ss (set rows k (get_or rows k [] ++ mail stamp bytes ∷ []))
one_put from n stamp receiver k bytes ss [] is = refl
one_put from n stamp receiver zero bytes ss (row ∷ rows) is =
    let at : receiver ≡ n = omega arith in
    λ i. (subst (λ (r : ℕ). row ++ puts from n (stamped stamp (Put from r bytes) ∷ ss) ≡ (row ++ mail stamp bytes ∷ []) ++ puts from n ss) (sym at)
    (ap (λ l. row ++ l) (here from n stamp bytes ss) ∙ sym (append_assoc row (mail stamp bytes ∷ []) (puts from n ss))) i)
    ∷ later_rows from (suc n) stamp receiver bytes ss rows (omega arith) i
one_put from n stamp receiver (suc k) bytes ss (row ∷ rows) is =
    λ i. (row ++ elsewhere from n stamp receiver bytes ss (λ same. absurd (omega arith)) i)
    ∷ one_put from (suc n) stamp receiver k bytes ss rows (omega arith) i

nothing : (from n : ℕ) (rows : List (List Mail)) → with_puts_from from n [] rows ≡ rows
nothing from n [] = refl
nothing from n (row ∷ rows) = λ i. append-nil row i ∷ nothing from (suc n) rows i

one_entry : (agents by stamp : ℕ) (e : Entry) (ss : List Stamped) (rows : List (List Mail)) → IsSignable agents by e
    → with_puts_from by 1 (stamped stamp e ∷ ss) rows ≡ with_puts_from by 1 ss (with_mail stamp e rows)
one_entry agents by stamp (Act agent kind) ss rows is = same_rows by 1 (stamped stamp (Act agent kind) ∷ ss) ss rows (λ to. refl)
one_entry agents by stamp (Put from to bytes) ss rows is =
    let low = is.1.of_team.from_1 in
    subst (λ (f : ℕ). with_puts_from by 1 (stamped stamp (Put f to bytes) ∷ ss) rows ≡ with_puts_from by 1 ss (with_mail stamp (Put from to bytes) rows)) (sym is.0)
    (one_put by 1 stamp to (to - 1) bytes ss rows (omega arith))
one_entry agents by stamp (Took agent from bytes) ss rows is = absurd is

pub joined : (agents by last : ℕ) (es : List Entry) (rows : List (List Mail)) → All (IsSignable agents by) es
    → with_puts_from by 1 (stamped_after last es) rows ≡ with_all last es rows
joined agents by last [] rows can = nothing by 1 rows
joined agents by last (e ∷ es) rows can =
    one_entry agents by (suc last) e (stamped_after (suc last) es) rows (All-head (IsSignable agents by) e es can)
    ∙ joined agents by (suc last) es (with_mail (suc last) e rows) (All-tail (IsSignable agents by) e es can)

-- a loop that takes messages back, the last entry's first
pub removed_more : (entries : List Entry) (left : ℕ) (e : Entry) (waiting next whole : List (List Mail))
    → 0 < left → left ≤ length entries → e ≡ get_or entries (left - 1) e → next ≡ without_mail e waiting
    → without_all (take left entries) waiting ≡ whole → without_all (take (left - 1) entries) next ≡ whole
removed_more entries left e waiting next whole low high is made so_far =
    let j = left - 1 in
    let at : left ≡ suc j = omega arith in
    let cut : take left entries ≡ take j entries ++ e ∷ [] =
    ap (λ (n : ℕ). take n entries) at ∙ (take-suc entries j e (omega arith) ∙ ap (λ x. take j entries ++ x ∷ []) (sym is)) in
    ap (without_all (take j entries)) made
    ∙ (sym (without_more (take j entries) e waiting) ∙ (ap (λ l. without_all l waiting) (sym cut) ∙ so_far))

-- a loop that adds messages
pub added_more : (last : ℕ) (batch : List Entry) (at : ℕ) (e : Entry) (before waiting next : List (List Mail))
    → at < length batch → e ≡ get_or batch at e → next ≡ with_mail (last + at + 1) e waiting
    → waiting ≡ with_all last (take at batch) before → next ≡ with_all last (take (at + 1) batch) before
added_more last batch at e before waiting next low is made so_far =
    let next_at : at + 1 ≡ suc at = omega arith in
    let cut : take (at + 1) batch ≡ take at batch ++ e ∷ [] =
    ap (λ (n : ℕ). take n batch) next_at ∙ (take-suc batch at e low ∙ ap (λ x. take at batch ++ x ∷ []) (sym is)) in
    let many : length (take at batch) ≡ at = length-take-le at batch (omega arith) in
    made ∙ (ap (with_mail (last + at + 1) e) so_far
    ∙ (ap (λ (n : ℕ). with_mail (last + n + 1) e (with_all last (take at batch) before)) (sym many)
    ∙ (sym (all_more last (take at batch) e before) ∙ ap (λ l. with_all last l before) (sym cut))))

-- what was added so far is taken back
pub back_again : (last : ℕ) (batch : List Entry) (at : ℕ) (before waiting next : List (List Mail)) → All (HasQueue (length before)) batch
    → waiting ≡ with_all last (take at batch) before → next ≡ without_all (take at batch) waiting → next ≡ before
back_again last batch at before waiting next has so_far made =
    made ∙ (ap (without_all (take at batch)) so_far ∙ all_back last (take at batch) before (All-take (HasQueue (length before)) at batch has))

-- what a call left, by how it ended
pub failed : {T E : Type 0} (r : Result T E) {P : Type 0} → is_err r ≡ true → OnErr r P → P
failed (Ok x) e p = absurd (cc e)
failed (Err x) e p = p

pub passed : {T E : Type 0} (r : Result T E) {P : Type 0} → is_err r ≡ false → OnOk r P → P
passed (Ok x) e p = p
passed (Err x) e p = absurd (cc e)
