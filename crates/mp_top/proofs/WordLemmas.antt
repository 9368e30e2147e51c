-- What holds of all accepted words: they keep the limits of the program.
use Rattle.std.proofs.Common.{◌≡◌, ℕ, ◌*◌, ◌≤◌, true, ◌&&◌, ◌||◌, not, List, [], ◌∷◌, length, map, Option, Some, None, IfSome, MatchOption, arith, Bool, false}
use Rattle.std.proofs.lemmas.Bool.{and_parts, leb-true}
use Rattle.std.proofs.lemmas.List.FromFn.{length-map-range_with_len}
use Rattle.std.specs.List.{range_with_len}
use Rattle.std.specs.Prelude.{codes, nat_le, option_and_then, unwrap_or}
use Rattle.std.specs.Option.{is_none}
use Rattle.std.specs.Str.{bytes_eq}
use Rattle.mp_words.specs.Asked.{Asked, nothing}
use Rattle.mp_words.specs.Numbers.{number_between}
use Rattle.mp_words.specs.Requests.{Wanted, audit_of, audit_with, certify_of, check_of, check_with, command_of, has_no_search, has_no_work, is_team, make_of, make_with, make_words, replay_of, replay_with, request_of, searching, solve_of}
use Rattle.mp_words.specs.Words.{after_free_word, after_option, after_valued, after_word, after_words, behind, is_plain, with_heuristic, with_limit, with_option, with_value, with_workers}
use Rattle.mp_words.specs.Reads.{wanted_by}
use Rattle.mp_words.specs.declared.asked.Request.{Request}
use Rattle.mp_words.proofs.OptionLemmas.{Between, Fits, Follows, IsOption, Within, between, chained, either, heuristic_option, limit_option, mapped, mapped_or, of_some, value_option, weaken, workers_option}
use Rattle.mp_top.specs.Asked.{KeepsLimit, KeepsLimits, agents_of, made_name}

-- ---- The limit of expansions, from one word to the next.

by_value : (a : Asked) (taken dashes : Option Asked) → Fits a → IsOption a taken dashes → IfSome taken Fits
by_value a taken dashes fits h = weaken taken (Follows a) Fits (λ b f. f.0) (h.follows fits)

fits_option : (a : Asked) (word : List ℕ) → Fits a → IfSome (with_option a word) Fits
fits_option a word fits =
    mapped_or (with_limit a) (behind (codes "--limit=") word) _ Fits (λ w. by_value a _ _ fits (limit_option a w))
    (mapped_or (with_heuristic a) (behind (codes "--h=") word) _ Fits (λ w. by_value a _ _ fits (heuristic_option a w))
    (mapped_or (with_workers a) (behind (codes "--workers=") word) None Fits (λ w. by_value a _ _ fits (workers_option a w)) tt))

fits_valued : (a : Asked) (word : List ℕ) → Fits a → IfSome (after_valued a word) Fits
fits_valued a word fits =
    either (bytes_eq word (codes "--limit")) _ _ Fits (λ _. fits)
    (λ _. either (bytes_eq word (codes "--h")) _ _ Fits (λ _. fits)
    (λ _. either (bytes_eq word (codes "--workers")) _ _ Fits (λ _. fits)
    (λ _. fits_option a word fits)))

fits_behind_option : (a : Asked) (word : List ℕ) → Fits a → IfSome (after_option a word) Fits
fits_behind_option a word fits =
    either (bytes_eq word (codes "--")) _ _ Fits (λ _. fits)
    (λ _. either (bytes_eq word (codes "--one")) _ _ Fits (λ _. either a.one None _ Fits (λ _. tt) (λ _. fits))
    (λ _. either (bytes_eq word (codes "--trace")) _ _ Fits (λ _. either a.trace None _ Fits (λ _. tt) (λ _. fits))
    (λ _. either (bytes_eq word (codes "--show")) _ _ Fits (λ _. either a.show None _ Fits (λ _. tt) (λ _. fits))
    (λ _. fits_valued a word fits))))

fits_word : (a : Asked) (word : List ℕ) → Fits a → IfSome (after_word a word) Fits
fits_word a word fits =
    mapped_or (λ option. with_value a option word) a.awaited (after_free_word a word) Fits
    (λ option. by_value a _ _ fits (value_option a option word))
    (either (a.plain_alone || is_plain word) _ _ Fits (λ _. fits) (λ _. fits_behind_option a word fits))

fits_words : (words : List (List ℕ)) (a : Asked) → Fits a → IfSome (after_words a words) Fits
unfolding after_words
fits_words [] a fits = fits
fits_words (word ∷ words) a fits =
    chained (λ next. after_words next words) (after_word a word) Fits
    (weaken (after_word a word) Fits (λ next. IfSome (after_words next words) Fits) (fits_words words) (fits_word a word fits))

within_or : (o : Option ℕ) → IfSome o Within → Within (unwrap_or o 200000)
within_or None h = (omega arith, omega arith)
within_or (Some n) h = h

search_keeps : (a : Asked) → Fits a → KeepsLimit (searching a)
search_keeps a fits = let h = within_or a.limit fits in record { from_1 = h.0; limit = h.1 }

-- ---- The number of agents.

some_agents : (names : List (List ℕ)) → 2 ≤ length names → 1 ≤ length (agents_of names)
some_agents [] h = absurd (omega (arith, h))
some_agents (a ∷ []) h = absurd (omega (arith, h))
some_agents (a ∷ b ∷ names) h = omega arith

two_of_each : (names : List (List ℕ)) → length (agents_of names) * 2 ≤ length names
two_of_each [] = omega arith
two_of_each (a ∷ []) = omega arith
two_of_each (a ∷ b ∷ names) = let h = two_of_each names in omega (arith, h)

-- the files of a team are those of 1 to 16 agents
abbrev AreFew : List (List ℕ) → Type 0
AreFew names = (1 ≤ length (agents_of names)) × (length (agents_of names) ≤ 16)

few : (names : List (List ℕ)) → is_team names ≡ true → AreFew names
few names is =
    let least = and_parts (nat_le 2 (length names)) _ is in
    let most = and_parts (nat_le (length names) 32) _ least.1 in
    let greatest : length names ≤ 32 = leb-true (length names) 32 most.0 in
    let each = two_of_each names in
    (some_agents names (leb-true 2 (length names) least.0), omega (arith, greatest, each))

solve_keeps : (a : Asked) → Fits a → IfSome (solve_of a) KeepsLimits
solve_keeps a fits =
    either (is_none a.awaited && (not a.show && is_team a.plain)) _ None KeepsLimits
    (λ is.
    let free = and_parts (is_none a.awaited) (not a.show && is_team a.plain) is in
    let h = few a.plain (and_parts (not a.show) (is_team a.plain) free.1).1 in
    record { work = search_keeps a fits; made = tt; some = h.0; at_most = h.1 })
    (λ is. tt)

replay_with_keeps : (a : Asked) (names : List (List ℕ)) → Fits a → IfSome (replay_with a names) KeepsLimits
replay_with_keeps a [] fits = tt
replay_with_keeps a (schedule ∷ names) fits =
    either (is_team names) _ None KeepsLimits
    (λ is. let h = few names is in record { work = search_keeps a fits; made = tt; some = h.0; at_most = h.1 })
    (λ is. tt)

replay_keeps : (a : Asked) → Fits a → IfSome (replay_of a) KeepsLimits
replay_keeps a fits =
    either (is_none a.awaited && (has_no_work a && not (a.trace || a.show))) _ None KeepsLimits
    (λ is. replay_with_keeps a a.plain fits) (λ is. tt)

check_with_keeps : (steps : Bool) (names : List (List ℕ)) → IfSome (check_with steps names) KeepsLimits
check_with_keeps steps [] = tt
check_with_keeps steps (plan ∷ names) =
    either (is_team names) _ None KeepsLimits
    (λ is. let h = few names is in record { work = tt; made = tt; some = h.0; at_most = h.1 })
    (λ is. tt)

check_keeps : (steps : Bool) (a : Asked) → Fits a → IfSome (check_of steps a) KeepsLimits
check_keeps steps a fits =
    either (is_none a.awaited && (has_no_search a && (has_no_work a && not (a.trace || a.show)))) _ None KeepsLimits
    (λ is. check_with_keeps steps a.plain) (λ is. tt)

certify_keeps : (a : Asked) → Fits a → IfSome (certify_of a) KeepsLimits
certify_keeps a fits =
    either (is_none a.awaited && (is_none a.heuristic && (has_no_work a && (not (a.trace || a.show) && is_team a.plain)))) _ None KeepsLimits
    (λ is.
    let free = and_parts (is_none a.awaited) _ is in
    let blind = and_parts (is_none a.heuristic) _ free.1 in
    let alone = and_parts (has_no_work a) _ blind.1 in
    let plain = and_parts (not (a.trace || a.show)) (is_team a.plain) alone.1 in
    let limit = within_or a.limit fits in
    let h = few a.plain plain.1 in
    record { work = record { from_1 = limit.0; limit = limit.1 }; made = tt; some = h.0; at_most = h.1 })
    (λ is. tt)

audit_with_keeps : (names : List (List ℕ)) → IfSome (audit_with names) KeepsLimits
audit_with_keeps [] = tt
audit_with_keeps (certificate ∷ []) = tt
audit_with_keeps (certificate ∷ plan ∷ names) =
    either (is_team names) _ None KeepsLimits
    (λ is. let h = few names is in record { work = tt; made = tt; some = h.0; at_most = h.1 })
    (λ is. tt)

audit_keeps : (a : Asked) → Fits a → IfSome (audit_of a) KeepsLimits
audit_keeps a fits =
    either (is_none a.awaited && (has_no_search a && (has_no_work a && not (a.trace || a.show)))) _ None KeepsLimits
    (λ is. audit_with_keeps a.plain) (λ is. tt)

made_size : (size : ℕ) → length (map made_name (range_with_len 1 size)) ≡ size
made_size size = length-map-range_with_len made_name 1 size

make_with_keeps : (a : Asked) (size number : List ℕ) → Fits a → IfSome (make_with a size number) KeepsLimits
make_with_keeps a size number fits =
    chained _ (number_between 1 8 size) KeepsLimits
    (weaken (number_between 1 8 size) (Between 1 8) _
    (λ s h. mapped _ (number_between 0 999999 number) KeepsLimits
    (weaken (number_between 0 999999 number) (Between 0 999999) _
    (λ n k.
    let same = made_size s in
    let least = h.0 in
    let most = h.1 in
    record {
      work = search_keeps a fits;
      made = record { from_1 = h.0; size = h.1; number = k.1 };
      some = omega (arith, same, least);
      at_most = omega (arith, same, most);
    })
    (between 0 999999 number)))
    (between 1 8 size))

make_words_keeps : (a : Asked) (words : List (List ℕ)) → Fits a → IfSome (make_words a words) KeepsLimits
make_words_keeps a [] fits = tt
make_words_keeps a (family ∷ []) fits = tt
make_words_keeps a (family ∷ size ∷ []) fits = tt
make_words_keeps a (family ∷ size ∷ number ∷ []) fits =
    either (bytes_eq family (codes "delivery")) _ None KeepsLimits (λ is. make_with_keeps a size number fits) (λ is. tt)
make_words_keeps a (family ∷ size ∷ number ∷ more ∷ words) fits = tt

make_keeps : (a : Asked) → Fits a → IfSome (make_of a) KeepsLimits
make_keeps a fits =
    either (is_none a.awaited && not a.trace) _ None KeepsLimits (λ is. make_words_keeps a a.plain fits) (λ is. tt)

-- what is read behind a command keeps the limits
behind_keeps : (read : Asked → Option Wanted) → ((a : Asked) → Fits a → IfSome (read a) KeepsLimits) → (words : List (List ℕ)) → IfSome (option_and_then read (after_words nothing words)) KeepsLimits
behind_keeps read kept words =
    chained read (after_words nothing words) KeepsLimits
    (weaken (after_words nothing words) Fits (λ a. IfSome (read a) KeepsLimits) kept (fits_words words nothing tt))

-- what a command asks for
by_command : (command : List ℕ) (a : Asked) → Fits a → IfSome (command_of command a) KeepsLimits
by_command command a fits =
    either (bytes_eq command (codes "solve")) _ _ KeepsLimits (λ is. solve_keeps a fits)
    (λ _. either (bytes_eq command (codes "replay")) _ _ KeepsLimits (λ is. replay_keeps a fits)
    (λ _. either (bytes_eq command (codes "check")) _ _ KeepsLimits (λ is. check_keeps false a fits)
    (λ _. either (bytes_eq command (codes "steps")) _ _ KeepsLimits (λ is. check_keeps true a fits)
    (λ _. either (bytes_eq command (codes "certify")) _ _ KeepsLimits (λ is. certify_keeps a fits)
    (λ _. either (bytes_eq command (codes "audit")) _ _ KeepsLimits (λ is. audit_keeps a fits)
    (λ _. either (bytes_eq command (codes "make")) _ None KeepsLimits (λ is. make_keeps a fits) (λ is. tt)))))))

wanted_keeps : (words : List (List ℕ)) → IfSome (request_of words) KeepsLimits
wanted_keeps [] = tt
wanted_keeps (command ∷ words) = behind_keeps (command_of command) (by_command command) words

-- what accepted words ask for keeps the limits
pub request_keeps : (words : List (List ℕ)) (request : Wanted) → request_of words ≡ Some request → KeepsLimits request
request_keeps words request h = of_some (request_of words) request KeepsLimits (wanted_keeps words) h

pub asked_keeps : (words : List (List ℕ)) (o : Option Request) → MatchOption o (request_of words ≡ None) (λ r. request_of words ≡ Some (wanted_by r)) → IfSome o (λ r. KeepsLimits (wanted_by r))
asked_keeps words None h = tt
asked_keeps words (Some r) h = request_keeps words (wanted_by r) h
