-- The words behind the command, one after another.
use Rattle.std.specs.Prelude.{ℕ, ◌==◌, ◌||◌, not, Bool, true, List, [], ◌∷◌, ◌++◌, Option, Some, None, option_and_then, option_map, codes, length, drop, nat_eq, if◌then◌else◌}
use Rattle.std.specs.List.{starts_with}
use Rattle.std.specs.Option.{option_map_or, is_none}
use Rattle.std.specs.Str.{bytes_eq}
use Rattle.mp_words.specs.declared.asked.Choice.{Choice}
use Rattle.mp_words.specs.declared.asked.Choice.TheVariants.{Blind, Max, Cut, Pdb}
use Rattle.mp_words.specs.declared.asked.Valued.{Valued}
use Rattle.mp_words.specs.declared.asked.Valued.TheVariants.{Limit, Heuristic, Workers}
use Rattle.mp_words.specs.Asked.{Asked}
use Rattle.mp_words.specs.Numbers.{number_between}

-- a plain word, as the name of a file: `-` alone, or a word that does not begin with `-`
abbrev pub is_plain : List ℕ → Bool
is_plain [] = true
is_plain (byte ∷ bytes) = not (byte == 45) || bytes_eq bytes []

abbrev pub with_plain : Asked → List ℕ → Asked
with_plain a word = record a { plain = a.plain ++ word ∷ [] }

-- the heuristics
abbrev pub choice_of : List ℕ → Option Choice
choice_of word =
    if bytes_eq word (codes "blind") then Some Blind
    else if bytes_eq word (codes "max") then Some Max
    else if bytes_eq word (codes "cut") then Some Cut
    else if bytes_eq word (codes "pdb") then Some Pdb else None

-- ---- Options. None comes where an option is given twice or has no such value.

-- there was no such option yet
abbrev pub unless_given : {X : Type 0} → Option X → Option Asked → Option Asked
unless_given before a = if is_none before then a else None

abbrev pub with_limit : Asked → List ℕ → Option Asked
with_limit a word =
    unless_given a.limit
    (option_map (λ n. record a { limit = Some n; awaited = None }) (number_between 1 10000000 word))

abbrev pub with_workers : Asked → List ℕ → Option Asked
with_workers a word =
    unless_given a.workers
    (option_map (λ n. record a { workers = Some n; awaited = None }) (number_between 1 16 word))

abbrev pub with_heuristic : Asked → List ℕ → Option Asked
with_heuristic a word =
    unless_given a.heuristic
    (option_map (λ h. record a { heuristic = Some h; awaited = None }) (choice_of word))

-- an option with this value
abbrev pub with_value : Asked → Valued → List ℕ → Option Asked
with_value a Limit word = with_limit a word
with_value a Heuristic word = with_heuristic a word
with_value a Workers word = with_workers a word

abbrev pub with_one : Asked → Option Asked
with_one a = if a.one then None else Some (record a { one = true })

abbrev pub with_trace : Asked → Option Asked
with_trace a = if a.trace then None else Some (record a { trace = true })

abbrev pub with_show : Asked → Option Asked
with_show a = if a.show then None else Some (record a { show = true })

-- what stands behind a beginning of a word; none where the word begins otherwise
abbrev pub behind : List ℕ → List ℕ → Option (List ℕ)
behind first word =
    if starts_with nat_eq word first then Some (drop (length first) word) else None

-- an option with its value behind `=`
abbrev pub with_option : Asked → List ℕ → Option Asked
with_option a word =
    option_map_or (with_limit a) (behind (codes "--limit=") word)
    (option_map_or (with_heuristic a) (behind (codes "--h=") word)
    (option_map_or (with_workers a) (behind (codes "--workers=") word) None))

-- the option whose value is the next word
abbrev pub awaiting : Asked → Valued → Asked
awaiting a option = record a { awaited = Some option }

-- all words that come are plain
abbrev pub with_plain_alone : Asked → Asked
with_plain_alone a = record a { plain_alone = true }

-- an option that has a value, in the next word or behind `=`
abbrev pub after_valued : Asked → List ℕ → Option Asked
after_valued a word =
    if bytes_eq word (codes "--limit") then Some (awaiting a Limit)
    else if bytes_eq word (codes "--h") then Some (awaiting a Heuristic)
    else if bytes_eq word (codes "--workers") then Some (awaiting a Workers)
    else with_option a word

-- a word that begins with `-` and is not plain
abbrev pub after_option : Asked → List ℕ → Option Asked
after_option a word =
    if bytes_eq word (codes "--") then Some (with_plain_alone a)
    else if bytes_eq word (codes "--one") then with_one a
    else if bytes_eq word (codes "--trace") then with_trace a
    else if bytes_eq word (codes "--show") then with_show a
    else after_valued a word

-- a word that is no value
abbrev pub after_free_word : Asked → List ℕ → Option Asked
after_free_word a word =
    if a.plain_alone || is_plain word then Some (with_plain a word) else after_option a word

-- What is asked for with one word more: none where the words are not accepted.
abbrev pub after_word : Asked → List ℕ → Option Asked
after_word a word = option_map_or (λ option. with_value a option word) a.awaited (after_free_word a word)

-- with all these words, one after another
unfoldable pub after_words : Asked → List (List ℕ) → Option Asked
after_words a [] = Some a
after_words a (word ∷ words) = option_and_then (λ next. after_words next words) (after_word a word)
