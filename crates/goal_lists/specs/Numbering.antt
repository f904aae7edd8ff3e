-- Lists of goals numbered by their places.
use Rattle.std.specs.Prelude.{ℕ, suc, List, [], ◌∷◌, map}
use Rattle.lf_definitions.specs.GoalLists.{LfGoals, all_goals, ids}
use Rattle.lf_definitions.specs.Instantiation.{rename_goal}
use Rattle.head_laws.specs.Renumbering.{place_of_number}

-- Each goal gets its place in the whole list as its number, and so does each metavariable that is one of the goals.
abbrev pub renumbered : LfGoals → LfGoals
renumbered goals = record {
  proofs = map (rename_goal (place_of_number (ids (all_goals goals)))) goals.proofs;
  witnesses = map (rename_goal (place_of_number (ids (all_goals goals)))) goals.witnesses;
}

-- old numbers with the new ones, which count from `n`
abbrev pub numbered_pairs : ℕ → List ℕ → List (ℕ × ℕ)
numbered_pairs n [] = []
numbered_pairs n (id ∷ rest) = (id, n) ∷ numbered_pairs (suc n) rest
