-- The first number above those of goals, as the greatest of what comes goal by goal.
use Rattle.std.proofs.Common.{◌≡◌, ℕ, suc, max, List, [], ◌∷◌, ◌++◌, map, drop, sym, ap, ◌∙◌, arith}
use Rattle.std.proofs.lemmas.List.{map-append}
use Rattle.lf_definitions.specs.GoalLists.{ids, above}
use Rattle.lf_definitions.specs.Typing.{LfGoal}
use Rattle.lf_terms.specs.declared.goal.Goal.{Goal}
use Rattle.lf_terms.specs.Targets.{goal_of}

max-max : (a b c : ℕ) → max a (max b c) ≡ max (max a b) c
max-max a b c = grind arith

above-append : (ns ms : List ℕ) → above (ns ++ ms) ≡ max (above ns) (above ms)
above-append [] ms = grind arith
above-append (n ∷ ns) ms = ap (max (suc n)) (above-append ns ms) ∙ max-max (suc n) (above ns) (above ms)

-- What is found so far and what the goals from a place on need are what all goals need.
abbrev pub AboveBefore : ℕ → List Goal → ℕ → ℕ → Type 0
AboveBefore least goals next i = max next (above (ids (map goal_of (drop i goals)))) ≡ max least (above (ids (map goal_of goals)))

pub above_both : (proofs witnesses : List LfGoal) (first next : ℕ) → first ≡ max 0 (above (ids proofs)) → next ≡ max first (above (ids witnesses)) → next ≡ above (ids (proofs ++ witnesses))
above_both proofs witnesses first next first_is next_is =
    next_is ∙ ap (λ n. max n (above (ids witnesses))) (first_is ∙ none (above (ids proofs)))
    ∙ sym (ap above (map-append (λ g. g.id) proofs witnesses) ∙ above-append (ids proofs) (ids witnesses))
  where
    none : (n : ℕ) → max 0 n ≡ n
    none n = grind arith
