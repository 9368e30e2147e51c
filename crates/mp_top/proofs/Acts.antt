-- What was done at a source for a request.
use Rattle.std.proofs.Common.{◌≡◌, ◌∷◌, List, Option, subst}
use Rattle.mp_files.specs.Asked.{team_asked}
use Rattle.mp_files.specs.Team.{Two}
use Rattle.mp_files.proofs.Acts.{first_read, then_read}
use Rattle.mp_outside.specs.Acts.{Act, AreReadInTurn, Does, FileAsked, IsReadOnce}
use Rattle.mp_outside.proofs.Acts.{did_nothing, none_read}

-- none of some files was read
pub nothing_read : (files : List FileAsked) (old new : Option (List Act)) → new ≡ old → Does (AreReadInTurn files) old new
nothing_read files old new same = did_nothing (AreReadInTurn files) old new same (none_read files)

-- the files of agents, under these names
pub agents_read : (own names : List Two) (old new : Option (List Act)) → own ≡ names → Does (AreReadInTurn (team_asked own)) old new → Does (AreReadInTurn (team_asked names)) old new
agents_read own names old new same h = subst (λ ns. Does (AreReadInTurn (team_asked ns)) old new) same h

module _ (file : FileAsked) (own names : List Two) (same : own ≡ names) where
  -- a first file, and none of those of the agents
  pub first_alone : (old new : Option (List Act)) → Does (IsReadOnce file) old new → Does (AreReadInTurn (file ∷ team_asked names)) old new
  first_alone old new first = first_read file (team_asked names) old new first

  -- the first of two first files, and none of the others
  pub one_of_two : (second : FileAsked) (old new : Option (List Act)) → Does (IsReadOnce file) old new → Does (AreReadInTurn (file ∷ second ∷ team_asked names)) old new
  one_of_two second old new first = first_read file (second ∷ team_asked names) old new first

  -- both, and none of those of the agents
  pub two_alone : (second : FileAsked) (old mid new : Option (List Act)) → Does (IsReadOnce file) old mid → Does (IsReadOnce second) mid new → Does (AreReadInTurn (file ∷ second ∷ team_asked names)) old new
  two_alone second old mid new first other =
      then_read file (second ∷ team_asked names) old mid new first (first_read second (team_asked names) mid new other)

  -- both, and then those of the agents
  pub two_and_agents : (second : FileAsked) (old mid after new : Option (List Act)) → Does (IsReadOnce file) old mid → Does (IsReadOnce second) mid after → Does (AreReadInTurn (team_asked own)) after new → Does (AreReadInTurn (file ∷ second ∷ team_asked names)) old new
  two_and_agents second old mid after new first other agents =
      then_read file (second ∷ team_asked names) old mid new first
      (then_read second (team_asked names) mid after new other (agents_read own names after new same agents))

  -- a first file, and then those of the agents
  pub first_and_agents : (old mid new : Option (List Act)) → Does (IsReadOnce file) old mid → Does (AreReadInTurn (team_asked own)) mid new → Does (AreReadInTurn (file ∷ team_asked names)) old new
  first_and_agents old mid new first agents = then_read file (team_asked names) old mid new first (agents_read own names mid new same agents)
