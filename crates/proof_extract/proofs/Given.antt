-- The entries that classes give.
use Rattle.std.proofs.Common.{◌≡◌, ◌⊎◌, inl, inr, ℕ, suc, ◌+◌, Bool, true, false, Option, Some, List, [], ◌∷◌, map, AllPairs, refl, sym, ap, ◌∙◌, subst, arith}
use Rattle.std.specs.Prelude.{if◌then◌else◌, nat_eq}
use Rattle.std.specs.List.{Contains}
use Rattle.std.proofs.lemmas.Bool.{eqb-true}
use Rattle.std.proofs.lemmas.List.Elements.{All-contains}
use Rattle.head_laws.proofs.Numbers.{AllPairs-head, AllPairs-tail, Contains-here, Contains-later}
use Rattle.lf_definitions.specs.Typing.{LfGoal}
use Rattle.lf_definitions.specs.GoalLists.{ids}
use Rattle.clusters.specs.Clusters.{is_one_of}
use Rattle.clusters.proofs.Elements.{contains_cases, contains_none, any_found}
use Rattle.clusters.proofs.Classes.{AreApart}
use Rattle.answer_definitions.specs.Chosen.{class_place}
use Rattle.proof_extract.specs.Tables.{has_first, given}

number_contained : (class : List LfGoal) (m : ℕ) → is_one_of class m ≡ true → Contains (ids class) m
number_contained class m is = let r = any_found (nat_eq m) (ids class) is in subst (Contains (ids class)) (sym (eqb-true m r.0 r.2)) r.1

module _ (pairs : List LfGoal → List (ℕ × ℕ)) (m : ℕ) where
  -- where no class has the number
  pub given_none : (found : List (List LfGoal)) → ((class : List LfGoal) → Contains found class → has_first (pairs class) m ≡ false) → (node : ℕ) (entry : Option ℕ) →
      given node (map pairs found) m entry ≡ entry
  given_none [] none node entry = refl
  given_none (class ∷ rest) none node entry =
      ap (λ b. given (suc node) (map pairs rest) m (if b then Some node else entry)) (none class (Contains-here class rest))
      ∙ given_none rest (λ other has. none other (Contains-later class rest other has)) (suc node) entry

  -- where one has it
  pub given_some : (found : List (List LfGoal)) → ((class : List LfGoal) → Contains found class → has_first (pairs class) m ≡ is_one_of class m) → AllPairs AreApart found →
      (class : List LfGoal) → Contains found class → is_one_of class m ≡ true → (node : ℕ) (entry : Option ℕ) → given node (map pairs found) m entry ≡ Some (node + class_place found m)
  given_some [] same apart class has is node entry = absurd (contains_none class has)
  given_some (x ∷ rest) same apart class has is node entry =
      step (is_one_of x m) refl (contains_cases x rest class has)
      (λ there. given_some rest (λ other p. same other (Contains-later x rest other p)) (AllPairs-tail AreApart x rest apart) class there is (suc node) entry)
    where
      none_later : is_one_of x m ≡ true → (other : List LfGoal) → Contains rest other → has_first (pairs other) m ≡ false
      none_later here other has = by (is_one_of other m) refl
        where
          by : (b : Bool) → is_one_of other m ≡ b → has_first (pairs other) m ≡ false
          by false e = same other (Contains-later x rest other has) ∙ e
          by true e =
              let apart_here = All-contains (AreApart x) rest other (AllPairs-head AreApart x rest apart) has in
              absurd (apart_here m (number_contained x m here) (number_contained other m e))

      step : (b : Bool) → is_one_of x m ≡ b → (x ≡ class) ⊎ Contains rest class → (Contains rest class → given (suc node) (map pairs rest) m entry ≡ Some (suc node + class_place rest m)) →
          given (suc node) (map pairs rest) m (if has_first (pairs x) m then Some node else entry) ≡ Some (node + (if b then 0 else suc (class_place rest m)))
      step true e where_is later =
          ap (λ c. given (suc node) (map pairs rest) m (if c then Some node else entry)) (same x (Contains-here x rest) ∙ e) ∙ given_none rest (none_later e) (suc node) (Some node)
          ∙ ap Some (omega arith)
      step false e (inl here) later = let f : is_one_of x m ≡ true = subst (λ c. is_one_of c m ≡ true) (sym here) is in absurd cc
      step false e (inr there) later =
          ap (λ c. given (suc node) (map pairs rest) m (if c then Some node else entry)) (same x (Contains-here x rest) ∙ e) ∙ later there ∙ ap Some (omega arith)
