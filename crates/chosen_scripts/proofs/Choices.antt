-- The least alternative whose children are proved.
use Rattle.std.proofs.Common.{◌≡◌, ℕ, zero, suc, ◌+◌, ◌<◌, Bool, true, false, List, [], ◌∷◌, ◌++◌, length, Some, refl, sym, ap, ap₂, ◌∙◌, subst, arith}
use Rattle.std.specs.Prelude.{◌&&◌, if◌then◌else◌, slice_get}
use Rattle.std.specs.List.{Contains}
use Rattle.lf_definitions.specs.Syntax.{LfType}
use Rattle.lf_definitions.specs.Signatures.{LfSignature}
use Rattle.lf_definitions.specs.GoalLists.{LfGoals, opening}
use Rattle.lf_definitions.proofs.Options.{Some-Some}
use Rattle.alternatives.specs.Rules.{LfRule}
use Rattle.derivations.specs.Unfolding.{branches_of, goals_at}
use Rattle.tree_runs.specs.Addresses.{Address, at, Proved, by_alternative}
use Rattle.answer_definitions.specs.Chosen.{are_proved, least_proved, least_at, chosen_at}
use Rattle.chosen_scripts.specs.Laws.{SaysWhatIsProved}

both : (b c : Bool) → b && c ≡ true → (b ≡ true) × (c ≡ true)
both true c e = (refl, e)
both false c e = absurd cc

module _ (proved : Address → Bool) (address : Address) where
  pub each_is_proved : (alternative place left : ℕ) → are_proved proved address alternative place left ≡ true → (j : ℕ) → j < left → proved (address ++ (alternative, place + j) ∷ []) ≡ true
  each_is_proved alternative place zero e j low = absurd (omega (arith, low))
  each_is_proved alternative place (suc left) e zero low =
      let here = both (proved (address ++ (alternative, place) ∷ [])) (are_proved proved address alternative (suc place) left) e in
      let same : place ≡ place + 0 = omega arith in
      subst (λ p. proved (address ++ (alternative, p) ∷ []) ≡ true) same here.0
  each_is_proved alternative place (suc left) e (suc j) low =
      let here = both (proved (address ++ (alternative, place) ∷ [])) (are_proved proved address alternative (suc place) left) e in
      let same : suc place + j ≡ place + suc j = omega arith in
      subst (λ p. proved (address ++ (alternative, p) ∷ []) ≡ true) same (each_is_proved alternative (suc place) left here.1 j (omega (arith, low)))

  all_are_proved : (alternative place left : ℕ) → ((j : ℕ) → j < left → proved (address ++ (alternative, place + j) ∷ []) ≡ true) → are_proved proved address alternative place left ≡ true
  all_are_proved alternative place zero each = refl
  all_are_proved alternative place (suc left) each =
      let same : place + 0 ≡ place = omega arith in
      let moved : (j : ℕ) → place + suc j ≡ suc place + j = λ j. omega arith in
      ap₂ (λ b c. b && c) (subst (λ p. proved (address ++ (alternative, p) ∷ []) ≡ true) same (each 0 (omega arith)))
      (all_are_proved alternative (suc place) left (λ j low. subst (λ p. proved (address ++ (alternative, p) ∷ []) ≡ true) (moved j) (each (suc j) (omega (arith, low)))))

  -- the least of some branches, the first of which has this number
  pub record IsLeast (first : ℕ) (branches : List (ℕ × List LfGoals)) : Type 0 where
    pub place : ℕ
    pub branch : ℕ × List LfGoals
    pub there : slice_get branches place ≡ Some branch
    pub children : are_proved proved address (first + place) 0 (length branch.1) ≡ true
    pub least : least_proved proved address first branches ≡ Some (first + place)

  least_found : (branches : List (ℕ × List LfGoals)) (first k : ℕ) (branch : ℕ × List LfGoals) → slice_get branches k ≡ Some branch →
      are_proved proved address (first + k) 0 (length branch.1) ≡ true → IsLeast first branches
  least_found [] first k branch there are = absurd cc
  least_found (b ∷ rest) first k branch there are =
      step (are_proved proved address first 0 (length b.1)) refl (λ j at_j ok. least_found rest (suc first) j branch at_j ok) k there are
    where
      here : are_proved proved address first 0 (length b.1) ≡ true → IsLeast first (b ∷ rest)
      here e =
          let same : first ≡ first + 0 = omega arith in
          record {
            place = 0;
            branch = b;
            there = refl;
            children = subst (λ i. are_proved proved address i 0 (length b.1) ≡ true) same e;
            least = ap (λ x. if x then Some first else least_proved proved address (suc first) rest) e ∙ ap Some same;
          }

      further : are_proved proved address first 0 (length b.1) ≡ false → IsLeast (suc first) rest → IsLeast first (b ∷ rest)
      further e later =
          let same : suc first + later.place ≡ first + suc later.place = omega arith in
          record {
            place = suc later.place;
            branch = later.branch;
            there = later.there;
            children = subst (λ i. are_proved proved address i 0 (length later.branch.1) ≡ true) same later.children;
            least = ap (λ x. if x then Some first else least_proved proved address (suc first) rest) e ∙ (later.least ∙ ap Some same);
          }

      step : (x : Bool) → are_proved proved address first 0 (length b.1) ≡ x →
          ((j : ℕ) → slice_get rest j ≡ Some branch → are_proved proved address (suc first + j) 0 (length branch.1) ≡ true → IsLeast (suc first) rest) → (k : ℕ) → slice_get (b ∷ rest) k ≡ Some branch →
          are_proved proved address (first + k) 0 (length branch.1) ≡ true → IsLeast first (b ∷ rest)
      step true e later k there are = here e
      step false e later zero there are =
          let same : first + 0 ≡ first = omega arith in
          let one : branch ≡ b = sym (Some-Some there) in
          let is : are_proved proved address first 0 (length b.1) ≡ true =
          subst (λ (x : ℕ × List LfGoals). are_proved proved address first 0 (length x.1) ≡ true) one (subst (λ i. are_proved proved address i 0 (length branch.1) ≡ true) same are) in
          absurd cc
      step false e later (suc k) there are =
          let same : first + suc k ≡ suc first + k = omega arith in
          further e (later k there (subst (λ i. are_proved proved address i 0 (length branch.1) ≡ true) same are))

  pub are_proved_from : (place : ℕ) (children : List LfGoals) → are_proved proved address (0 + place) 0 (length children) ≡ true → are_proved proved address place 0 (length children) ≡ true
  are_proved_from place children are = let none : 0 + place ≡ place = omega arith in subst (λ i. are_proved proved address i 0 (length children) ≡ true) none are

  -- At a proved address some alternative has proved children.
  module _ (sig : LfSignature) (rules : List LfRule) (a : LfType) (committed : List Address) (says : SaysWhatIsProved sig rules a committed proved) (list : LfGoals)
      (stands : goals_at sig rules a address ≡ Some list)
    where
      least_of : (c : Address) → c ≡ address → Proved (branches_of sig rules) (opening a) committed c → IsLeast 0 (branches_of sig rules list)
      least_of _ is (by_alternative c seen i percent children contains has branch below) =
          let twice : Some seen ≡ Some list = sym has ∙ (ap (at (branches_of sig rules) (opening a)) is ∙ stands) in
          let same : seen ≡ list = Some-Some twice in
          let none : i ≡ 0 + i = omega arith in
          least_found (branches_of sig rules list) 0 i (percent, children) (subst (λ l. slice_get (branches_of sig rules l) i ≡ Some (percent, children)) same branch)
          (subst (λ n. are_proved proved address n 0 (length children) ≡ true) none
          (all_are_proved i 0 (length children) (λ j low. (let zero_more : j ≡ 0 + j = omega arith in
          subst (λ p. proved (address ++ (i, p) ∷ []) ≡ true) zero_more
          ((says (address ++ (i, j) ∷ [])).1 (below j (address ++ (i, j) ∷ []) low (ap (λ d. d ++ (i, j) ∷ []) (sym is))))))))

      pub alternative_is_chosen : proved address ≡ true → IsLeast 0 (branches_of sig rules list)
      alternative_is_chosen is = least_of address refl ((says address).0 is)

      pub chosen_is_least : (least : IsLeast 0 (branches_of sig rules list)) → chosen_at sig rules a proved address ≡ Some least.place
      chosen_is_least least =
          let none : 0 + least.place ≡ least.place = omega arith in
          ap (least_at sig rules proved address) stands ∙ (least.least ∙ ap Some none)

  pub proved_is_committed : (sig : LfSignature) (rules : List LfRule) (a : LfType) (committed : List Address) → Proved (branches_of sig rules) (opening a) committed address → Contains committed address
  proved_is_committed sig rules a committed (by_alternative _ seen i percent children contains has branch below) = contains
