-- What is known of a rule of a book that adds a hypothesis.
use Rattle.std.proofs.Common.{◌≡◌, ℕ, Bool, true, false, List, [], All, length, map, Some, refl, sym, ap, ap₂, ◌∙◌, subst}
use Rattle.std.specs.Prelude.{slice_get}
use Rattle.std.proofs.lemmas.Option.{same_Some}
use Rattle.lf_definitions.specs.ShapedGoals.{kind_shapes_in, scope_in, ShapedGoal}
use Rattle.lf_definitions.specs.Signatures.{LfSignature, constant_types}
use Rattle.lf_definitions.specs.Typing.{LfGoal, type_at}
use Rattle.lf_definitions.specs.Syntax.{LfType}
use Rattle.lf_definitions.specs.GoalLists.{LfGoals, all_goals, next_id, first_goal}
use Rattle.lf_terms.specs.Targets.{goal_of}
use Rattle.meta_goals.specs.GoalsOf.{goals_of}
use Rattle.applications.specs.Methods.{goes_forward}
use Rattle.applications.specs.Candidates.{LfHypothesis, hypotheses_of, are_atomic, where_some, tuples, premises_from, onward, candidates}
use Rattle.applications.specs.Applications.{LfApplication, of_candidates, applications}
use Rattle.application_laws.specs.Conditions.{TakesAtoms}
use Rattle.application_laws.proofs.Hypotheses.{IsHypothesisFrom, all_hypotheses}
use Rattle.application_laws.proofs.Lists.{All-are_atomic}
use Rattle.rule_sets.specs.declared.rule.Builder.{Builder}
use Rattle.rule_sets.specs.declared.rule.Builder.TheVariants.{Apply, Constructors, Cases, Forward, Destruct, Assumption, Hyps}
use Rattle.rule_sets.specs.declared.rule.Rule.{Rule}
use Rattle.rule_sets.specs.Books.{Book, Listed}
use Rattle.rule_sets.specs.Refusals.{IsOver}
use Rattle.rule_methods.specs.RuleMethods.{method_by, applications_of, HasRule}
use Rattle.rule_methods.proofs.AtomsTaken.{rules_take_atoms}
use Rattle.build_shared.specs.declared.rule_use.RuleUse.{RuleUse}
use Rattle.build_shared.specs.RuleUses.{IsRuleUse}
use Rattle.build_shared.proofs.WholeUses.{first_is_shaped, whole_use}
use Rattle.build_forward.specs.Onwards.{AddsHypothesis, drops_hypotheses, onward_method, kept_after, IsAtomIn}

method_is : (lists : List Listed) (builder : Builder) (subject major : ℕ) → AddsHypothesis builder → method_by lists builder subject major ≡ onward_method (drops_hypotheses builder) subject
method_is lists Apply subject major adds = absurd adds
method_is lists Constructors subject major adds = absurd adds
method_is lists Cases subject major adds = absurd adds
method_is lists Forward subject major adds = refl
method_is lists Destruct subject major adds = refl
method_is lists Assumption subject major adds = absurd adds
method_is lists Hyps subject major adds = absurd adds

forward_takes : (sig : LfSignature) (drops : Bool) (c : ℕ) → TakesAtoms sig (onward_method drops c) → TakesAtoms sig (goes_forward c)
forward_takes sig false c takes = takes
forward_takes sig true c takes = takes

module _ (sig : LfSignature) (book : Book) (over : IsOver sig book) (number : ℕ) (read : Rule) (here : slice_get book.rules number ≡ Some read) (adds : AddsHypothesis read.builder) where
  pub takes_atoms : TakesAtoms sig (goes_forward read.subject)
  takes_atoms =
      forward_takes sig (drops_hypotheses read.builder) read.subject
      (subst (TakesAtoms sig) (method_is book.lists read.builder read.subject read.major adds) (rules_take_atoms sig book over number read here))

  -- What comes of all candidates are the applications of the rule.
  pub all_applications : (goals : LfGoals) (n : ℕ) (g : LfGoal) (drops : Bool) (found : List LfApplication) (rule : Rule) → n ≡ next_id goals → Some g ≡ first_goal goals → drops ≡ drops_hypotheses read.builder →
      slice_get book.rules number ≡ Some rule → found ≡ of_candidates sig n (all_goals goals) g (candidates sig number (onward_method drops read.subject) g n) → found ≡ applications_of sig book.lists number rule goals
  all_applications goals n g drops found rule n_is g_is drops_is there found_is =
      let same : read ≡ rule = same_Some read rule (sym here ∙ there) in
      let method = onward_method drops read.subject in
      found_is ∙ whole_use sig number method n goals g g_is ∙ ap (λ m. applications sig number method m goals) n_is
      ∙ ap (λ b. applications sig number (onward_method b read.subject) (next_id goals) goals) drops_is
      ∙ ap (λ m. applications sig number m (next_id goals) goals) (sym (method_is book.lists read.builder read.subject read.major adds)) ∙ ap (λ r. applications_of sig book.lists number r goals) same

-- What a rule offers where its constant has a type.
offered_by_rule : (sig : LfSignature) (rule c : ℕ) (drops : Bool) (g : LfGoal) (n : ℕ) (type : LfType) → Some type ≡ type_at (constant_types sig) c →
    map (λ hs. onward rule c type g n (kept_after drops g.context hs) hs) (tuples (length (premises_from 0 type)) (are_atomic (hypotheses_of g.context))) ≡ candidates sig rule (onward_method drops c) g n
offered_by_rule sig rule c false g n type is = ap (λ o. where_some o (λ a. map (λ hs. onward rule c a g n (kept_after false g.context hs) hs) (tuples (length (premises_from 0 a)) (are_atomic (hypotheses_of g.context))))) is
offered_by_rule sig rule c true g n type is = ap (λ o. where_some o (λ a. map (λ hs. onward rule c a g n (kept_after true g.context hs) hs) (tuples (length (premises_from 0 a)) (are_atomic (hypotheses_of g.context))))) is

-- The goal's hypotheses without binders are such.
pub all_atoms : (u : RuleUse) → IsRuleUse u → All (IsAtomIn u) (are_atomic (hypotheses_of u.goal.now.ctx))
all_atoms u is =
    let sig = u.sig.now in
    let goals = all_goals (goals_of u.goals.now) in
    let g = goal_of u.goal.now in
    let is_one : ShapedGoal sig goals g = first_is_shaped sig (goals_of u.goals.now) u.first g is.goals in
    All-are_atomic (IsHypothesisFrom (kind_shapes_in sig) (scope_in sig goals []) 0 g.context) (hypotheses_of g.context) (all_hypotheses (kind_shapes_in sig) (scope_in sig goals []) 0 g.context is_one.0)

-- What is offered for all tuples is what the rule offers.
pub all_offered : (sig : LfSignature) (rule c : ℕ) (drops : Bool) (g : LfGoal) (n : ℕ) (type : LfType) (premises : List ℕ) (hs : List LfHypothesis) → premises ≡ premises_from 0 type →
    hs ≡ are_atomic (hypotheses_of g.context) → Some type ≡ type_at (constant_types sig) c →
    map (λ rest. onward rule c type g n (kept_after drops g.context rest) rest) (tuples (length premises) hs) ≡ candidates sig rule (onward_method drops c) g n
all_offered sig rule c drops g n type premises hs premises_are hs_are is =
    ap₂ (λ (m : ℕ) (ks : List LfHypothesis). map (λ rest. onward rule c type g n (kept_after drops g.context rest) rest) (tuples m ks)) (ap length premises_are) hs_are
    ∙ offered_by_rule sig rule c drops g n type is

-- The rule that is read is the one of which the builder is known.
pub builder_adds : (book : Book) (number : ℕ) (read : Rule) → slice_get book.rules number ≡ Some read → HasRule book number AddsHypothesis → AddsHypothesis read.builder
builder_adds book number read here has = let same : has.rule ≡ read = same_Some has.rule read (sym has.rule_is ∙ here) in let P : Rule → Type 0 = λ r. AddsHypothesis r.builder in subst P same has.builds
