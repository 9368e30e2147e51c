-- What was done at a source where the files of a team were fetched, one after another.
use Rattle.std.proofs.Common.{◌≡◌, ℕ, ◌+◌, ◌<◌, ◌≤◌, List, [], ◌∷◌, ◌++◌, get_or, length, map, drop, take, Option, refl, sym, ap, subst, ◌∙◌}
use Rattle.std.proofs.lemmas.List.{append-nil, map-append, map_more, take-append-drop, take_all}
use Rattle.std.proofs.lemmas.List.Concat.{flat_map-append}
use Rattle.mp_outside.specs.Acts.{Act, AreReadInTurn, Does, FileAsked, IsReadOnce}
use Rattle.mp_outside.proofs.Acts.{did_more, did_nothing, did_so, none_read, read_first, read_on}
use Rattle.mp_files.specs.Asked.{team_asked, two_asked}
use Rattle.mp_files.specs.Fetched.{names_of}
use Rattle.mp_files.specs.declared.fetched.AgentFiles.{AgentFiles}

-- no file was asked for
pub none_asked : (start : Option (List Act)) → Does (AreReadInTurn []) start start
none_asked start = did_nothing (AreReadInTurn []) start start refl refl

-- the first of some files, and no other
pub first_read : (file : FileAsked) (files : List FileAsked) (old new : Option (List Act)) → Does (IsReadOnce file) old new → Does (AreReadInTurn (file ∷ files)) old new
first_read file files old new h =
    did_so (IsReadOnce file) (AreReadInTurn (file ∷ files)) old new (λ xs once. (xs, [], sym (append-nil xs), once, none_read files)) h

-- the first of some files, and then the others
pub then_read : (file : FileAsked) (files : List FileAsked) (old mid new : Option (List Act)) → Does (IsReadOnce file) old mid → Does (AreReadInTurn files) mid new → Does (AreReadInTurn (file ∷ files)) old new
then_read file files old mid new first others =
    did_more (IsReadOnce file) (AreReadInTurn files) (AreReadInTurn (file ∷ files)) old mid new (λ xs ys once reads. (xs, ys, refl, once, reads)) first others

-- some files, and then others
both_read : (files more : List FileAsked) (old mid new : Option (List Act)) → Does (AreReadInTurn files) old mid → Does (AreReadInTurn more) mid new → Does (AreReadInTurn (files ++ more)) old new
both_read files more old mid new first others =
    did_more (AreReadInTurn files) (AreReadInTurn more) (AreReadInTurn (files ++ more)) old mid new (λ xs ys h k. read_on files more xs ys h k) first others

-- some files, and none of others
no_more_read : (files more : List FileAsked) (old new : Option (List Act)) → Does (AreReadInTurn files) old new → Does (AreReadInTurn (files ++ more)) old new
no_more_read files more old new h =
    did_so (AreReadInTurn files) (AreReadInTurn (files ++ more)) old new (λ xs reads. read_first files more xs reads) h

-- ---- one agent after another

-- the files of the first agents of a team, and of all
abbrev pub first_asked : List AgentFiles → ℕ → List FileAsked
first_asked team i = team_asked (map names_of (take i team))

abbrev pub all_asked : List AgentFiles → List FileAsked
all_asked team = team_asked (map names_of team)

asked_more : (team : List AgentFiles) (i : ℕ) (d names : AgentFiles) → i < length team → names ≡ get_or team i d → first_asked team (i + 1) ≡ first_asked team i ++ two_asked (names_of names)
asked_more team i d names within at =
    let more : map names_of (take (i + 1) team) ≡ map names_of (take i team) ++ names_of (get_or team i d) ∷ [] = map_more names_of team i d within in
    let here : map names_of (take i team) ++ names_of (get_or team i d) ∷ [] ≡ map names_of (take i team) ++ names_of names ∷ [] =
    ap (λ (x : AgentFiles). map names_of (take i team) ++ names_of x ∷ []) (sym at) in
    ap team_asked (more ∙ here) ∙ flat_map-append two_asked (map names_of (take i team)) (names_of names ∷ [])

asked_in_all : (team : List AgentFiles) (i : ℕ) → all_asked team ≡ first_asked team i ++ team_asked (map names_of (drop i team))
asked_in_all team i =
    ap all_asked (sym (take-append-drop i team))
    ∙ ap team_asked (map-append names_of (take i team) (drop i team))
    ∙ flat_map-append two_asked (map names_of (take i team)) (map names_of (drop i team))

-- no file of the agents from this one on
pub agents_before : (team : List AgentFiles) (i : ℕ) (old new : Option (List Act)) → Does (AreReadInTurn (first_asked team i)) old new → Does (AreReadInTurn (all_asked team)) old new
agents_before team i old new h =
    subst (λ files. Does (AreReadInTurn files) old new) (sym (asked_in_all team i))
    (no_more_read (first_asked team i) (team_asked (map names_of (drop i team))) old new h)

module _ (team : List AgentFiles) (i : ℕ) (d names : AgentFiles) (within : i < length team) (at : names ≡ get_or team i d)
    (old mid new : Option (List Act))
    (before : Does (AreReadInTurn (first_asked team i)) old mid) (own : Does (AreReadInTurn (two_asked (names_of names))) mid new)
  where
    -- the files of one agent more
    pub next_agent : Does (AreReadInTurn (first_asked team (i + 1))) old new
    next_agent =
        subst (λ files. Does (AreReadInTurn files) old new) (sym (asked_more team i d names within at))
        (both_read (first_asked team i) (two_asked (names_of names)) old mid new before own)

    -- and of no agent behind it
    pub last_agent : Does (AreReadInTurn (all_asked team)) old new
    last_agent = agents_before team (i + 1) old new next_agent

-- the files of all agents
pub all_agents : (team : List AgentFiles) (i : ℕ) (old new : Option (List Act)) → length team ≤ i → Does (AreReadInTurn (first_asked team i)) old new → Does (AreReadInTurn (all_asked team)) old new
all_agents team i old new all h =
    subst (λ ts. Does (AreReadInTurn (all_asked ts)) old new) (take_all i team all) h
