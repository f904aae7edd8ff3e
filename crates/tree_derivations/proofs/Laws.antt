-- Lists of goals as nodes: the law of their children is that of derivations.
use Rattle.std.proofs.Common.{◌≢◌, ℕ, List, [], ◌∷◌, refl}
use Rattle.lf_definitions.specs.Syntax.{LfType}
use Rattle.lf_definitions.specs.Signatures.{LfSignature}
use Rattle.lf_definitions.specs.GoalLists.{LfGoals, all_goals, opening}
use Rattle.alternatives.specs.Rules.{LfRule}
use Rattle.derivations.specs.Unfolding.{branches_of}
use Rattle.shuffled_derivations.specs.Lengths.{Derives, DeriveEach}
use Rattle.shuffled_derivations.specs.Laws.{MayBeDerived}
use Rattle.shuffled_derivations.proofs.Children.{derivations_are_of_children}
use Rattle.shuffled_derivations.proofs.Laws.{derivable_types_open}
use Rattle.mark_laws.specs.Laws.{EachDerives, HasChildrenLaw}
use Rattle.mark_laws.proofs.Laws.{proved_has_derivation, stuck_has_no_derivation, derivations_are_found, small_unfoldings_are_decided}
use Rattle.tree_derivations.specs.Laws.{IsTheorem, MarksDecideDerivability, SmallTheoremsAreDecided}

module _ (sig : LfSignature) (rules : List LfRule) where
  -- A list that may be derived and has a goal is an own node.
  abbrev pub MayBeNode : LfGoals → Type 0
  MayBeNode list = MayBeDerived sig rules list × (all_goals list ≢ [])

  abbrev pub EachListDerives : List ℕ → List LfGoals → Type 0
  EachListDerives ns lists = EachDerives MayBeNode (branches_of sig rules) (Derives sig rules) ns lists

  each_as_nodes : (ns : List ℕ) (lists : List LfGoals) → DeriveEach sig rules ns lists → EachListDerives ns lists
  each_as_nodes [] [] each = tt
  each_as_nodes [] (list ∷ lists) each = absurd each
  each_as_nodes (n ∷ ns) [] each = absurd each
  each_as_nodes (n ∷ ns) (list ∷ lists) each = (each.0, each_as_nodes ns lists each.1)

  each_as_lists : (ns : List ℕ) (lists : List LfGoals) → EachListDerives ns lists → DeriveEach sig rules ns lists
  each_as_lists [] [] each = tt
  each_as_lists [] (list ∷ lists) each = absurd each
  each_as_lists (n ∷ ns) [] each = absurd each
  each_as_lists (n ∷ ns) (list ∷ lists) each = (each.0, each_as_lists ns lists each.1)

  pub lists_have_children_law : HasChildrenLaw MayBeNode (branches_of sig rules) (Derives sig rules)
  lists_have_children_law = record {
    none_without_step = λ list own. (derivations_are_of_children sig rules list own.0 own.1).0;
    of_children = λ list own n. (
      (λ d. let c = ((derivations_are_of_children sig rules list own.0 own.1).1 n).0 d in (c.0, c.1, c.2, c.3, c.4, c.5, each_as_nodes c.3 c.2 c.6)),
      (λ c. ((derivations_are_of_children sig rules list own.0 own.1).1 n).1 (c.0, c.1, c.2, c.3, c.4, c.5, each_as_lists c.3 c.2 c.6)),
    );
    own_children = λ list own. (derivations_are_of_children sig rules list own.0 own.1).2;
  }

  -- The opening list of a theorem is a node.
  pub opening_is_node : (a : LfType) → IsTheorem sig rules a → MayBeNode (opening a)
  opening_is_node a theorem = (
    record { signature = theorem.signature; rules_take_atoms = theorem.rules_take_atoms; goals = (derivable_types_open sig rules a).1 theorem.type },
    λ none. cc,
  )

pub marks_decide_derivability : MarksDecideDerivability
marks_decide_derivability sig rules a theorem =
    let own = opening_is_node sig rules a theorem in
    let law = lists_have_children_law sig rules in
    let opens = (derivable_types_open sig rules a).0 in (
      (λ committed proved. opens.1 (proved_has_derivation (MayBeNode sig rules) (branches_of sig rules) (Derives sig rules) law (opening a) own committed [] (opening a) refl proved)),
      (λ committed stuck derivable.
          let d = opens.0 derivable in stuck_has_no_derivation (MayBeNode sig rules) (branches_of sig rules) (Derives sig rules) law (opening a) own committed [] (opening a) refl stuck d.0 d.1),
      (λ derivable. let d = opens.0 derivable in derivations_are_found (MayBeNode sig rules) (branches_of sig rules) (Derives sig rules) law (opening a) own d.0 d.1),
    )

pub small_theorems_are_decided : SmallTheoremsAreDecided
small_theorems_are_decided sig rules a addresses covers committed differ stand size = small_unfoldings_are_decided LfGoals (branches_of sig rules) (opening a) addresses covers committed differ stand size
