-- Places in a list of goals that are joined by mentions: each place has a root, the first place that it is joined with.
use Rattle.std.specs.Prelude.{◌≡◌, ℕ, suc, ◌<◌, ◌≤◌, List, [], ◌∷◌, length, map, slice_index, Option, Some, None, if◌then◌else◌, nat_eq}
use Rattle.std.specs.Prelude.{max, min}
use Rattle.std.specs.List.{position}
use Rattle.lf_definitions.specs.Typing.{LfGoal, goal_type}
use Rattle.lf_definitions.specs.GoalLists.{ids}
use Rattle.applications.specs.Candidates.{counting_from}
use Rattle.goal_clusters.specs.Mentioned.{numbers_in_type}

-- the root of a place that had one of two roots, or another, once the two are joined
abbrev pub joins : ℕ → ℕ → ℕ → ℕ
joins a b r = if nat_eq r (max a b) then min a b else r

-- Two places are joined.
abbrev pub joined_at : ℕ → ℕ → (ℕ → ℕ) → ℕ → ℕ
joined_at i j root p = joins (root i) (root j) (root p)

-- A place is joined with that of a number, if there is such a place.
abbrev pub joined_if : ℕ → Option ℕ → (ℕ → ℕ) → ℕ → ℕ
joined_if i None root = root
joined_if i (Some j) root = joined_at i j root

-- A place is joined with those of the numbers that are mentioned there, which are looked up in a list.
abbrev pub joined_by : List ℕ → ℕ → List ℕ → (ℕ → ℕ) → ℕ → ℕ
joined_by ns i [] root = root
joined_by ns i (m ∷ rest) root = joined_by ns i rest (joined_if i (position (nat_eq m) ns) root)

-- The places of goals, from `i` on, are joined with those of the goals that they mention.
abbrev pub joined_all : List ℕ → ℕ → List LfGoal → (ℕ → ℕ) → ℕ → ℕ
joined_all ns i [] root = root
joined_all ns i (g ∷ rest) root = joined_all ns (suc i) rest (joined_by ns i (numbers_in_type (goal_type g)) root)

-- Each place is its own root.
abbrev pub own_root : ℕ → ℕ
own_root p = p

-- No link leads to a later place.
abbrev pub LeadsBack : List ℕ → Type 0
LeadsBack links = (p : ℕ) → p < length links → slice_index links p ≤ p

-- Links lead from each place to its root, which is linked to itself.
pub record LeadsTo (links : List ℕ) (root : ℕ → ℕ) : Type 0 where
  pub root_stays : (p : ℕ) → p < length links → root (slice_index links p) ≡ root p
  pub own_link : (p : ℕ) → p < length links → slice_index links p ≡ p → root p ≡ p
  pub root_is_end : (p : ℕ) → p < length links → slice_index links (root p) ≡ root p
  pub root_is_before : (p : ℕ) → p < length links → root p ≤ p

-- Links change so that what the roots were becomes something else.
pub record Relinks (links others : List ℕ) (change : (ℕ → ℕ) → ℕ → ℕ) : Type 0 where
  pub as_long : length others ≡ length links
  pub leads_back : LeadsBack others
  pub leads_to : (root : ℕ → ℕ) → LeadsTo links root → LeadsTo others (change root)

-- For each goal of a list the root of its place, once each is joined with those that it mentions; some links lead there.
pub record AreRootsOf (goals : List LfGoal) (found : List ℕ) : Type 0 where
  pub links : List ℕ
  pub as_long : length links ≡ length goals
  pub leads_to : LeadsTo links (joined_all (ids goals) 0 goals own_root)
  pub are_roots : found ≡ map (joined_all (ids goals) 0 goals own_root) (counting_from 0 (length goals))
