-- From a list that is numbered by its places back to the list: numbers, goals and alternatives.
use Rattle.std.proofs.Common.{◌≡◌, ℕ, suc, ◌+◌, ◌-◌, ◌<◌, max, Some, List, [], ◌∷◌, map, length, All, sym, ap, ap₂, ◌∙◌, arith}
use Rattle.std.specs.Prelude.{slice_get}
use Rattle.std.proofs.lemmas.List.{length-map}
use Rattle.std.proofs.lemmas.List.Elements.{All-map}
use Rattle.lf_definitions.specs.ShapedGoals.{ShapedSignature, ShapedGoals}
use Rattle.lf_definitions.specs.Typing.{LfGoal}
use Rattle.lf_definitions.specs.Signatures.{LfSignature}
use Rattle.lf_definitions.specs.GoalLists.{LfGoals, all_goals, ids, above, next_id, AreDistinct}
use Rattle.lf_definitions.specs.Instantiation.{rename_goal, IsInjective}
use Rattle.lf_definitions.proofs.Options.{Some-Some}
use Rattle.head_laws.specs.Renumbering.{canon, up_to, place_of_number}
use Rattle.head_laws.proofs.Numbers.{up_to-outside, up_to-injective}
use Rattle.head_laws.proofs.GoalNumbers.{distinct_ids, canon-numbers}
use Rattle.goal_lists.specs.Numbering.{renumbered}
use Rattle.goal_lists.proofs.Laws.{renumbering_is_renaming, shaped_goals_mention_no_others}
use Rattle.applications.specs.Laws.{TakesNumbersFrom, rename_goals}
use Rattle.alternatives.specs.Rules.{LfRule}
use Rattle.alternatives.specs.Alternatives.{alternatives}
use Rattle.renamed_alternatives.specs.Laws.{rename_alternative}
use Rattle.renamed_alternatives.proofs.Alternatives.{alternatives_are_renamed}

abbrev pub goals_by : List LfGoal → List LfGoal → LfGoals
goals_by proofs witnesses = record { proofs = proofs; witnesses = witnesses }

-- Numbers that follow one another are below the first one and their count.
counted_above : (ns : List ℕ) (first : ℕ) → ((i : ℕ) → i < length ns → slice_get ns i ≡ Some (first + i)) → max first (above ns) ≡ first + length ns
counted_above [] first by_place = omega arith
counted_above (m ∷ rest) first by_place =
    let moved : (i : ℕ) → first + suc i ≡ suc first + i = λ i. omega arith in
    let here : m ≡ first + 0 = Some-Some (by_place 0 (omega arith)) in
    let later : max (suc first) (above rest) ≡ suc first + length rest = counted_above rest (suc first) (λ i less. by_place (suc i) (omega (arith, less)) ∙ ap Some (moved i)) in
    omega (arith, here, later)

length-ids : (goals : List LfGoal) → length (ids goals) ≡ length goals
length-ids goals = length-map goals (λ g. g.id)

next_id-renumbered : (list : LfGoals) → AreDistinct (all_goals list) → next_id (renumbered list) ≡ length (ids (all_goals list))
next_id-renumbered list distinct =
    let all = all_goals list in
    let counted : length (ids (canon all)) ≡ length all = length-ids (canon all) ∙ length-map all (rename_goal (place_of_number (ids all))) in
    let from_none : (i : ℕ) → i ≡ 0 + i = λ i. omega arith in
    let top : max 0 (above (ids (canon all))) ≡ 0 + length (ids (canon all)) = counted_above (ids (canon all)) 0 (λ i less. canon-numbers all distinct i (omega (arith, counted, less)) ∙ ap Some (from_none i)) in
    let above_is : above (ids (canon all)) ≡ length (ids (canon all)) = omega (arith, top) in
    ap (λ hs. above (ids hs)) (renumbering_is_renaming list).0 ∙ above_is ∙ counted ∙ sym (length-ids all)

-- The way back keeps numbers different, gives the list back, and takes fresh numbers to those from `n` on.
pub record GoesBack (n : ℕ) (list : LfGoals) : Type 0 where
  pub injective : IsInjective (up_to (ids (all_goals list)) n)
  pub is_list : rename_goals (up_to (ids (all_goals list)) n) (renumbered list) ≡ list
  pub takes : TakesNumbersFrom (up_to (ids (all_goals list)) n) (next_id (renumbered list)) n

pub goes_back : (sig : LfSignature) (n : ℕ) (list : LfGoals) → ShapedGoals sig (all_goals list) → All (λ h. h.id < n) (all_goals list) → GoesBack n list
goes_back sig n list shaped below =
    let ns = ids (all_goals list) in
    let back = (renumbering_is_renaming list).1 n (shaped_goals_mention_no_others sig (all_goals list) shaped) in
    record {
      injective = up_to-injective ns n (distinct_ids (all_goals list) shaped.0) (All-map (λ m. m < n) (λ h. h.id) (all_goals list) below);
      is_list = ap₂ goals_by back.0 back.1;
      takes = λ k. let far : n + (length ns + k - length ns) ≡ n + k = omega arith in
          ap (λ m. up_to ns n (m + k)) (next_id-renumbered list shaped.0) ∙ up_to-outside ns n (length ns + k) (omega arith) ∙ far;
    }

-- So do alternatives.
pub alternatives_come_back : (sig : LfSignature) (rules : List LfRule) (n : ℕ) (list : LfGoals) → ShapedSignature sig → ShapedGoals sig (all_goals list) → All (λ h. h.id < n) (all_goals list) →
    alternatives sig rules n list ≡ map (rename_alternative (up_to (ids (all_goals list)) n)) (alternatives sig rules (next_id (renumbered list)) (renumbered list))
alternatives_come_back sig rules n list shaped_signature shaped below =
    let back = goes_back sig n list shaped below in
    ap (alternatives sig rules n) (sym back.is_list)
    ∙ alternatives_are_renamed sig shaped_signature rules (up_to (ids (all_goals list)) n) back.injective (next_id (renumbered list)) n back.takes (renumbered list)
