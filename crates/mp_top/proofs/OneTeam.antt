-- What is found for the agents of a request leads to one team.
use Rattle.std.proofs.Common.{◌≡◌, List, map, Option, Some, None, Ok, sym, subst}
use Rattle.std.proofs.lemmas.Option.{none-some, same_Some}
use Rattle.mp_forms.specs.declared.factor.Factor.{Factor}
use Rattle.mp_outside.specs.Source.{Files as Held}
use Rattle.mp_files.specs.Team.{FoundTwo, HoldsTeam, ReadsFound, ReadsMade, Two, found_in_memory, found_under}
use Rattle.mp_top.specs.Asked.{Texts}
use Rattle.mp_top.specs.Asked.Texts.{in_files, made}
use Rattle.mp_top.specs.Team.{IsFoundForBoth, IsTeam, found_for}

-- the law of mp_files
pub record TeamLaw : Type 0 where
  pub one : (found : List FoundTwo) (team other : List Factor) → ReadsFound found (Ok team) → ReadsFound found (Ok other) → other ≡ team
  pub held : (files : Held) (names : List Two) (team : List Factor) → HoldsTeam files names team → ReadsFound (map (found_under files) names) (Ok team)
  pub holds : (files : Held) (names : List Two) (team : List Factor) → ReadsFound (map (found_under files) names) (Ok team) → HoldsTeam files names team
  pub made : (texts : List Two) (team : List Factor) → ReadsMade texts (Ok team) → ReadsFound (map found_in_memory texts) (Ok team)

module _ (law : TeamLaw) where
  reads : (held : Option Held) (texts : Texts) (found : List FoundTwo) (team : List Factor) → found_for held texts ≡ Some found → IsTeam held texts team → ReadsFound found (Ok team)
  reads None (in_files names) found team e h = absurd (none-some found e)
  reads (Some files) (in_files names) found team e h =
      subst (λ f. ReadsFound f (Ok team)) (same_Some (map (found_under files) names) found e) (law.held files names team h)
  reads None (made names texts) found team e h =
      subst (λ f. ReadsFound f (Ok team)) (same_Some (map found_in_memory texts) found e) (law.made texts team h)
  reads (Some files) (made names texts) found team e h =
      subst (λ f. ReadsFound f (Ok team)) (same_Some (map found_in_memory texts) found e) (law.made texts team h)

  pub team_of_both : (held other : Option Held) (texts its : Texts) (team theirs : List Factor) → IsFoundForBoth held other texts its → IsTeam held texts team → IsTeam other its theirs → theirs ≡ team
  team_of_both held other texts its team theirs both h k =
      law.one both.found team theirs (reads held texts both.found team both.one h) (reads other its both.found theirs both.two k)

  -- files in which it is found hold the team
  pub team_held : (held : Option Held) (files : Held) (texts : Texts) (names : List Two) (team : List Factor) → IsFoundForBoth held (Some files) texts (in_files names) → IsTeam held texts team → HoldsTeam files names team
  team_held held files texts names team both h =
      let there = same_Some (map (found_under files) names) both.found both.two in
      law.holds files names team
      (subst (λ f. ReadsFound f (Ok team)) (sym there) (reads held texts both.found team both.one h))

  -- the texts of one request lead to one team
  pub one_team : (files : Held) (texts : Texts) (team other : List Factor) → IsTeam (Some files) texts team → IsTeam (Some files) texts other → other ≡ team
  one_team files (in_files names) team other h k =
      law.one (map (found_under files) names) team other (law.held files names team h) (law.held files names other k)
  one_team files (made names texts) team other h k =
      law.one (map found_in_memory texts) team other (law.made texts team h) (law.made texts other k)
