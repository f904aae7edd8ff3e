-- The alternatives of a node are the branches of the list that stands at its address.
use Rattle.std.proofs.Common.{◌≡◌, inl, inr, ℕ, zero, suc, ◌+◌, ◌<◌, Bool, true, false, Option, Some, None, List, [], ◌∷◌, ◌++◌, length, map, refl, sym, ap, ap₂, ◌∙◌, subst, arith}
use Rattle.std.specs.Prelude.{◌&&◌, if◌then◌else◌, slice_get}
use Rattle.std.proofs.lemmas.Option.{slice_get_cases}
use Rattle.lf_definitions.specs.Syntax.{LfType}
use Rattle.lf_definitions.specs.Signatures.{LfSignature}
use Rattle.lf_definitions.specs.GoalLists.{LfGoals, opening}
use Rattle.lf_definitions.proofs.Options.{Some_inj}
use Rattle.alternatives.specs.Rules.{LfRule}
use Rattle.derivations.specs.Unfolding.{branches_of, goals_at}
use Rattle.tree_runs.specs.Addresses.{Address, address_of, at}
use Rattle.tree_runs.specs.Marks.{all_from, entry_at, is_proved}
use Rattle.tree_runs.specs.Runs.{is_run}
use Rattle.tree_runs.specs.Shapes.{TreeShape, nodes_count, alternatives_at}
use Rattle.tree_runs.specs.States.{TreeEvent, TreeNode, counts_of}
use Rattle.tree_runs.proofs.AddressMarks.{runs_show_branches}
use Rattle.tree_marks.specs.TreeMarks.{entry_proved, is_alternative_proved}
use Rattle.answer_definitions.specs.Chosen.{are_proved, least_proved, least_at, chosen_at}
use Rattle.answer_definitions.specs.Right.{state_after}
use Rattle.answer_definitions.specs.Settled.{is_proved_at}
use Rattle.extraction_laws.specs.Following.{IsLeast, shape_after}
use Rattle.extraction_laws.proofs.Nodes.{is_sound, child_stands_at, proved_alike}

abbrev child_counts : List (ℕ × ℕ) → List ℕ
child_counts all = map (λ (entry : ℕ × ℕ). entry.1) all

-- The branch at the place of an entry, with as many children.
pub record IsBranch (branches : List (ℕ × List LfGoals)) (i count : ℕ) : Type 0 where
  pub branch : ℕ × List LfGoals
  pub there : slice_get branches i ≡ Some branch
  pub size : length branch.1 ≡ count

entry_branch : (all : List (ℕ × ℕ)) (branches : List (ℕ × List LfGoals)) → child_counts all ≡ counts_of branches → (i : ℕ) (entry : ℕ × ℕ) → slice_get all i ≡ Some entry → IsBranch branches i entry.1
entry_branch [] branches e i entry there = absurd cc
entry_branch (x ∷ all) [] e i entry there = absurd cc
entry_branch (x ∷ all) (branch ∷ branches) e zero entry there =
    let same : x ≡ entry = cc in
    let size : x.1 ≡ length branch.1 = cc in
    record { branch = branch; there = refl; size = sym size ∙ ap (λ (p : ℕ × ℕ). p.1) same }
entry_branch (x ∷ all) (branch ∷ branches) e (suc i) entry there =
    let rest : child_counts all ≡ counts_of branches = cc in
    let found = entry_branch all branches rest i entry there in
    record { branch = found.branch; there = found.there; size = found.size }

record IsEntryOf (all : List (ℕ × ℕ)) (i count : ℕ) : Type 0 where
  first : ℕ
  there : slice_get all i ≡ Some (first, count)

branch_entry : (all : List (ℕ × ℕ)) (branches : List (ℕ × List LfGoals)) → child_counts all ≡ counts_of branches → (i : ℕ) (branch : ℕ × List LfGoals) → slice_get branches i ≡ Some branch →
    IsEntryOf all i (length branch.1)
branch_entry [] [] e i branch there = absurd cc
branch_entry [] (x ∷ branches) e i branch there = absurd cc
branch_entry (entry ∷ all) [] e i branch there = absurd cc
branch_entry (entry ∷ all) (x ∷ branches) e zero branch there =
    let same : x ≡ branch = cc in
    let size : entry.1 ≡ length x.1 = cc in
    record { first = entry.0; there = ap (λ (n : ℕ). Some (entry.0, n)) (size ∙ ap (λ (b : ℕ × List LfGoals). length b.1) same) }
branch_entry (entry ∷ all) (x ∷ branches) e (suc i) branch there =
    let rest : child_counts all ≡ counts_of branches = cc in
    let found = branch_entry all branches rest i branch there in
    record { first = found.first; there = found.there }

module _ (proved : Address → Bool) (address : Address) where
  -- Children in a row are proved where their addresses are.
  row_alike : (test : ℕ → Bool) (i first place left : ℕ) → ((k number at_place : ℕ) → k < left → number ≡ first + k → at_place ≡ place + k → test number ≡ proved (address ++ (i, at_place) ∷ [])) →
      all_from test first left ≡ are_proved proved address i place left
  row_alike test i first place zero each = refl
  row_alike test i first place (suc left) each =
      ap₂ (λ b c. b && c) (each 0 first place (omega arith) (omega arith) (omega arith))
      (row_alike test i (suc first) (suc place) left (λ k number at_place low e f. each (suc k) number at_place (omega (arith, low)) (omega (arith, e)) (omega (arith, f))))

  -- The least of some branches, the first of which has the number `first`, by a test of their places.
  least_is : (branches : List (ℕ × List LfGoals)) (first k number : ℕ) (test : ℕ → Bool) →
      ((j n : ℕ) (branch : ℕ × List LfGoals) → slice_get branches j ≡ Some branch → n ≡ first + j → are_proved proved address n 0 (length branch.1) ≡ test j) → (branch : ℕ × List LfGoals) →
      slice_get branches k ≡ Some branch → test k ≡ true → ((j : ℕ) → j < k → test j ≡ false) → number ≡ first + k → least_proved proved address first branches ≡ Some number
  least_is [] first k number test each branch there is before e = absurd cc
  least_is (b ∷ rest) first zero number test each branch there is before e =
      let same : first ≡ number = omega (arith, e) in
      ap (λ x. if x then Some first else least_proved proved address (suc first) rest) (each 0 first b refl (omega arith) ∙ is) ∙ ap (λ (n : ℕ). Some n) same
  least_is (b ∷ rest) first (suc k) number test each branch there is before e =
      ap (λ x. if x then Some first else least_proved proved address (suc first) rest) (each 0 first b refl (omega arith) ∙ before 0 (omega arith))
      ∙ least_is rest (suc first) k number (λ j. test (suc j)) (λ j n c at_j f. each (suc j) n c at_j (omega (arith, f))) branch there is (λ j low. before (suc j) (omega (arith, low))) (omega (arith, e))

module _ (sig : LfSignature) (rules : List LfRule) (a : LfType) (budget : ℕ) (events : List TreeEvent) (run : is_run (branches_of sig rules) budget (opening a) events ≡ true) (node : ℕ)
    (stands : node < nodes_count (shape_after sig rules a events)) (list : LfGoals) (there : goals_at sig rules a (address_of (shape_after sig rules a events) node) ≡ Some list)
  where
    abbrev shape : TreeShape
    shape = shape_after sig rules a events

    abbrev here : Address
    here = address_of shape node

    abbrev branches : List (ℕ × List LfGoals)
    branches = branches_of sig rules list

    -- What stands at the node is seen as the list.
    seen_is : (content : TreeNode LfGoals) → slice_get (state_after sig rules a events).nodes node ≡ Some content → content.seen ≡ list
    seen_is content at_node =
        let sound = is_sound sig rules a budget events run in
        Some_inj (ap (at (branches_of sig rules) (opening a)) (sym (sound.addresses node content at_node)) ∙ sound.unfolding_has node content at_node) there

    -- A grown node has an entry for each branch.
    counts_agree : (all : List (ℕ × ℕ)) → alternatives_at shape node ≡ Some all → child_counts all ≡ counts_of branches
    counts_agree all grown = elim (slice_get_cases (state_after sig rules a events).nodes node).1 [
      | inr past ↦ absurd (let p = past.0 in let size = (is_sound sig rules a budget events run).nodes in omega (arith, p, size, stands))
      | inl found ↦ runs_show_branches (branches_of sig rules) (opening a) budget events run node found.0 all found.2 grown ∙ ap (λ l. counts_of (branches_of sig rules l)) (seen_is found.0 found.2)
    ]

    -- What an alternative's marks say, the test says of its branch.
    entry_alike : (i first count : ℕ) → entry_at (alternatives_at shape node) i ≡ Some (first, count) → is_alternative_proved shape node i ≡ are_proved (is_proved_at shape) here i 0 count
    entry_alike i first count is =
        ap (entry_proved (is_proved shape)) is
        ∙ row_alike (is_proved_at shape) here (is_proved shape) i first 0 count (λ k number at_place low e f.
        let child = child_stands_at sig rules a budget events run node i first count k is low in
        let same : first + k ≡ number = omega (arith, e) in
        let place : k ≡ at_place = omega (arith, f) in
        ap (is_proved shape) (sym same)
        ∙ (sym (proved_alike sig rules a budget events run (first + k) child.stands) ∙ ap (is_proved_at shape) (child.address ∙ ap (λ (p : ℕ). here ++ (i, p) ∷ []) place)))

    -- The entry of an alternative that is proved, and its branch.
    pub record IsProvedEntry (i : ℕ) : Type 0 where
      pub all : List (ℕ × ℕ)
      pub grown : alternatives_at shape node ≡ Some all
      pub first : ℕ
      pub count : ℕ
      pub entry : entry_at (alternatives_at shape node) i ≡ Some (first, count)
      pub branch : ℕ × List LfGoals
      pub in_branches : slice_get branches i ≡ Some branch
      pub size : length branch.1 ≡ count
      pub children : are_proved (is_proved_at shape) here i 0 (length branch.1) ≡ true

    proved_entry_in : (i : ℕ) (o : Option (List (ℕ × ℕ))) → alternatives_at shape node ≡ o → (e : Option (ℕ × ℕ)) → entry_at o i ≡ e → entry_proved (is_proved shape) e ≡ true → IsProvedEntry i
    proved_entry_in i o grown None is yes_proved = absurd cc
    proved_entry_in i None grown (Some entry) is yes_proved = absurd cc
    proved_entry_in i (Some all) grown (Some entry) is yes_proved =
        let at_i : entry_at (alternatives_at shape node) i ≡ Some (entry.0, entry.1) = ap (λ o. entry_at o i) grown ∙ is in
        let found = entry_branch all branches (counts_agree all grown) i entry is in
        record {
          all = all;
          grown = grown;
          first = entry.0;
          count = entry.1;
          entry = at_i;
          branch = found.branch;
          in_branches = found.there;
          size = found.size;
          children = subst (λ (n : ℕ). are_proved (is_proved_at shape) here i 0 n ≡ true) (sym found.size)
              (sym (entry_alike i entry.0 entry.1 at_i) ∙ (ap (entry_proved (is_proved shape)) at_i ∙ yes_proved));
        }

    pub proved_entry : (i : ℕ) → is_alternative_proved shape node i ≡ true → IsProvedEntry i
    proved_entry i is = proved_entry_in i (alternatives_at shape node) refl (entry_at (alternatives_at shape node) i) refl is

    branch_alike : (all : List (ℕ × ℕ)) → alternatives_at shape node ≡ Some all → (j : ℕ) (branch : ℕ × List LfGoals) → slice_get branches j ≡ Some branch →
        are_proved (is_proved_at shape) here j 0 (length branch.1) ≡ is_alternative_proved shape node j
    branch_alike all grown j branch in_branches =
        let found = branch_entry all branches (counts_agree all grown) j branch in_branches in
        sym (entry_alike j found.first (length branch.1) (ap (λ o. entry_at o j) grown ∙ found.there))

    -- The least alternative by the marks is the one that the test chooses.
    pub least_is_chosen : (i : ℕ) → IsLeast shape node i → chosen_at sig rules a (is_proved_at shape) here ≡ Some i
    least_is_chosen i least =
        let entry = proved_entry i least.is_proved in
        ap (least_at sig rules (is_proved_at shape) here) there
        ∙ least_is (is_proved_at shape) here branches 0 i i (is_alternative_proved shape node)
        (λ j n branch in_branches e. (let same : j ≡ n = omega (arith, e) in
        subst (λ (m : ℕ). are_proved (is_proved_at shape) here m 0 (length branch.1) ≡ is_alternative_proved shape node j) same
        (branch_alike entry.all entry.grown j branch in_branches)))
        entry.branch entry.in_branches least.is_proved least.least (omega arith)
