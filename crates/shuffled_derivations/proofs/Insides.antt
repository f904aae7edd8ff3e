-- Goals inside and goals outside: together they are all goals, and what is inside is outside of what is apart from it.
use Rattle.std.proofs.Common.{◌≡◌, ℕ, Bool, true, false, Some, List, [], ◌∷◌, refl, sym, ap, ap₂, ◌∙◌, subst}
use Rattle.std.specs.Prelude.{not, if◌then◌else◌}
use Rattle.std.proofs.lemmas.List.Elements.{All-weaker}
use mathlib.Core.Path.{fun_ext}
use Rattle.lf_definitions.specs.Syntax.{metavariable}
use Rattle.lf_definitions.specs.Occurrence.{OccursInGoal}
use Rattle.lf_definitions.specs.Typing.{LfGoal}
use Rattle.lf_definitions.specs.GoalLists.{LfGoals, all_goals, first_of, first_goal}
use Rattle.lf_definitions.proofs.Options.{Some-Some}
use Rattle.application_laws.specs.Conditions.{inside, MentionInside, goals_inside}
use Rattle.application_laws.proofs.Inside.{All-inside}
use Rattle.clusters.specs.Links.{outside_of, Splits}
use Rattle.framed_alternatives.proofs.Insides.{goals_of, all-inside}

pub outside_twice : (within : ℕ → Bool) → outside_of (outside_of within) ≡ within
outside_twice within = fun_ext (λ m. twice (within m))
  where
    twice : (b : Bool) → not (not b) ≡ b
    twice true = refl
    twice false = refl

pub splits_outside : (within : ℕ → Bool) (goals : List LfGoal) → Splits within goals → Splits (outside_of within) goals
splits_outside within goals splits = (splits.1, subst (λ test. MentionInside test goals) (sym (outside_twice within)) splits.0)

-- A list that splits does so, too, where some of its goals are taken away.
pub part_splits : (kept within : ℕ → Bool) (list : LfGoals) → Splits within (all_goals list) → Splits within (all_goals (goals_inside kept list))
part_splits kept within list splits = (part within splits.0, part (outside_of within) splits.1)
  where
    part : (test : ℕ → Bool) → MentionInside test (all_goals list) → MentionInside test (all_goals (goals_inside kept list))
    part test mention =
        let P = λ (h : LfGoal). test h.id ≡ true → (m : ℕ) → OccursInGoal (metavariable m) h → test m ≡ true in
        subst (MentionInside test) (sym (all-inside kept list)) (All-inside kept P (all_goals list) (All-weaker P (λ h. kept h.id ≡ true → P h) (λ h p is. p) (all_goals list) mention))

pub none_inside : (within : ℕ → Bool) (list : LfGoals) → all_goals list ≡ [] → all_goals (goals_inside within list) ≡ []
none_inside within list none = all-inside within list ∙ ap (inside within) none

-- Where there is no goal inside and none outside, there is none.
pub none_in_both : (within : ℕ → Bool) (list : LfGoals) → all_goals (goals_inside within list) ≡ [] → all_goals (goals_inside (outside_of within) list) ≡ [] → all_goals list ≡ []
none_in_both within list e f = each (all_goals list) (sym (all-inside within list) ∙ e) (sym (all-inside (outside_of within) list) ∙ f)
  where
    each : (goals : List LfGoal) → inside within goals ≡ [] → inside (outside_of within) goals ≡ [] → goals ≡ []
    each [] p q = refl
    each (g ∷ rest) p q = absurd (step (within g.id) p q)
      where
        step : (b : Bool) → (if b then g ∷ inside within rest else inside within rest) ≡ [] →
            (if not b then g ∷ inside (outside_of within) rest else inside (outside_of within) rest) ≡ [] → ⊥
        step true p q = absurd cc
        step false p q = absurd cc

-- Where the first goal is inside, there is a goal inside.
pub first_inside : (within : ℕ → Bool) (list : LfGoals) (g : LfGoal) → first_goal list ≡ Some g → within g.id ≡ true → all_goals (goals_inside within list) ≡ [] → ⊥
first_inside within list g first is none = each (all_goals list) first (sym (all-inside within list) ∙ none)
  where
    each : (goals : List LfGoal) → first_of goals ≡ Some g → inside within goals ≡ [] → ⊥
    each [] e f = absurd cc
    each (h ∷ rest) e f = step (within h.id) (ap (λ (x : LfGoal). within x.id) (Some-Some e) ∙ is) f
      where
        step : (b : Bool) → b ≡ true → (if b then h ∷ inside within rest else inside within rest) ≡ [] → ⊥
        step true k p = absurd cc
        step false k p = absurd cc

-- What is inside by one test is outside by another, where no number passes both.
module _ (within other : ℕ → Bool) (apart : (m : ℕ) → within m ≡ true → other m ≡ true → ⊥) where
  inside-outside : (goals : List LfGoal) → inside other (inside (outside_of within) goals) ≡ inside other goals
  inside-outside [] = refl
  inside-outside (g ∷ rest) = step (within g.id) (other g.id) refl refl (inside-outside rest)
    where
      step : (b c : Bool) → within g.id ≡ b → other g.id ≡ c → inside other (inside (outside_of within) rest) ≡ inside other rest →
          inside other (if not b then g ∷ inside (outside_of within) rest else inside (outside_of within) rest) ≡ (if c then g ∷ inside other rest else inside other rest)
      step true true e f later = absurd (apart g.id e f)
      step true false e f later = later
      step false c e f later = ap₂ (λ d xs. if d then g ∷ xs else xs) f later

  pub goals_inside-outside : (list : LfGoals) → goals_inside other (goals_inside (outside_of within) list) ≡ goals_inside other list
  goals_inside-outside list = ap₂ goals_of (inside-outside list.proofs) (inside-outside list.witnesses)
