-- What is known of a candidate that is unified: its assignment goes from all goals to themselves, and mentions nothing that it assigns.
use Rattle.std.proofs.Common.{◌≡◌, inl, inr, ℕ, suc, ◌+◌, ◌<◌, true, Option, Some, None, List, [], ◌∷◌, ◌++◌, All, length, refl, sym, ◌∙◌, arith}
use Rattle.std.specs.Prelude.{Contains}
use Rattle.std.proofs.lemmas.Bool.{eq-eqb}
use Rattle.std.proofs.lemmas.List.Elements.{All-nil, All-cons, All-append, All-weaker, All-contains}
use Rattle.lf_definitions.specs.Syntax.{LfHead, bound, constant, metavariable, LfTerm, SimpleType, shapes_of_types}
use Rattle.lf_definitions.specs.Shaping.{Scope, Shaped}
use Rattle.lf_definitions.specs.ShapedGoals.{scope_in, without_variables}
use Rattle.lf_definitions.specs.Occurrence.{OccursIn, OccursInGoal}
use Rattle.lf_definitions.specs.Typing.{LfGoal}
use Rattle.lf_definitions.specs.Signatures.{LfSignature}
use Rattle.lf_definitions.specs.GoalLists.{ids}
use Rattle.lf_definitions.specs.Instantiation.{LfAssigned, assignment_of}
use Rattle.head_laws.specs.AssignmentLaws.{AssignsClosedTerms}
use Rattle.goal_lists.specs.Laws.{GoesToGoals}
use Rattle.goal_lists.proofs.Laws.{shaped_goals_mention_no_others}
use Rattle.unification.specs.Equations.{numbered_from}
use Rattle.unification.specs.Solutions.{ShapedEntry, IsResolvedAnswer}
use Rattle.unification.proofs.Remaining.{OccursIn-under_lams}
use Rattle.unification.proofs.Spreading.{under_all-constant, under_all-metavariable}
use Rattle.unifiers.proofs.Entries.{term_put, found_entry, entries_closed, entries_go, Shaped-with_variables}
use Rattle.lf_functions.specs.MentionLaws.{StaysOrIsPut}
use Rattle.lf_functions.proofs.EndingLaws.{unifiers_are_answers}
use Rattle.opening_laws.proofs.Numbers.{Numbered}
use Rattle.applications.specs.Methods.{LfCandidate, Outcome, closes, adds}
use Rattle.applications.specs.Applications.{freezing}
use Rattle.application_laws.proofs.Members.{IsIn, in_contained, goal_is_in, in_below, numbered_from_places, shaped_is_in}
use Rattle.completion_laws.specs.Laws.{IsUnified, UnifiersGo}
use Rattle.completion_laws.proofs.Scopes.{term_elsewhere}

numbers_below : (n : ℕ) (fresh : List LfGoal) → Numbered n fresh → All (λ h. h.id < n + length fresh) fresh
numbers_below n [] numbered = All-nil (λ h. h.id < n + 0)
numbers_below n (h ∷ rest) numbered =
    let e = numbered.0 in
    All-cons (λ x. x.id < n + suc (length rest)) h rest (omega (arith, e))
    (All-weaker (λ x. x.id < suc n + length rest) (λ x. x.id < n + suc (length rest)) (λ x less. omega (arith, less)) rest (numbers_below (suc n) rest numbered.1))

-- The goal is frozen either way.
frozen_goal : (goals : List LfGoal) (g : LfGoal) → Contains goals g → (o : Outcome) → freezing o goals g g.id ≡ true
frozen_goal goals g one_of closes = eq-eqb g.id g.id refl
frozen_goal goals g one_of (adds kept) = goal_is_in goals g one_of

module _ (sig : LfSignature) (goals : List LfGoal) (n : ℕ) (g : LfGoal) (c : LfCandidate) (entries : List LfAssigned) (x : IsUnified sig goals n g c entries) where
  abbrev pub Everything : List LfGoal
  Everything = goals ++ c.opened.fresh

  abbrev pub Known : Scope
  Known = scope_in sig Everything []

  -- the number after the fresh ones
  abbrev pub Next : ℕ
  Next = n + length c.opened.fresh

  answer : IsResolvedAnswer (scope_in sig Everything g.context) (freezing c.outcome goals g) (numbered_from 0 c.equations) entries
  answer = unifiers_are_answers sig Everything g.context (freezing c.outcome goals g) c.equations entries x.may_be_used.equations_are_shaped x.solves

  -- Entries are shaped with no variables.
  shaped_entries : All (ShapedEntry Known) entries
  shaped_entries =
      All-weaker (ShapedEntry (scope_in sig Everything g.context)) (ShapedEntry Known)
      (λ e p. (p.0, sym (under_all-metavariable shapes Known e.assigned_goal) ∙ p.1, term_elsewhere p.2 (without_variables Known) (λ h s o f. outside h s f))) entries answer.shaped
    where
      shapes : List SimpleType
      shapes = shapes_of_types g.context

      outside : (h : LfHead) (s : SimpleType) → without_variables (scope_in sig Everything g.context) h ≡ Some s → without_variables Known h ≡ Some s
      outside (bound k) s e = e
      outside (constant k) s e = sym (under_all-constant shapes Known k) ∙ e
      outside (metavariable m) s e = sym (under_all-metavariable shapes Known m) ∙ e

  pub closed_here : AssignsClosedTerms (assignment_of entries)
  closed_here = entries_closed Known entries shaped_entries

  pub goes_here : GoesToGoals sig Everything Everything (assignment_of entries)
  goes_here = entries_go Known entries shaped_entries

  -- What is put is shaped, and mentions nothing that has an entry.
  abbrev pub IsEntry : ℕ → LfTerm → Type 0
  IsEntry k u =
      ((s : SimpleType) × (Known (metavariable k) ≡ Some s) × Shaped Known u s) × (freezing c.outcome goals g k ≡ true → ⊥)
      × ((m : ℕ) → OccursIn (metavariable m) u → assignment_of entries m ≡ None)

  pub all_entries : All (λ e. IsEntry e.assigned_goal (term_put e)) entries
  all_entries = λ i d less. (
    let p = shaped_entries i d less in (p.0, p.1, Shaped-with_variables p.2),
    answer.of_unfrozen i d less,
    λ m o. answer.resolved i d less m (OccursIn-under_lams _ _ m o),
  )

  pub entry : (k : ℕ) (u : LfTerm) → assignment_of entries k ≡ Some u → IsEntry k u
  entry = found_entry IsEntry entries all_entries

  pub frozen_stays : (k : ℕ) → freezing c.outcome goals g k ≡ true → assignment_of entries k ≡ None
  frozen_stays k frozen = step (assignment_of entries k) refl
    where
      step : (o : Option LfTerm) → assignment_of entries k ≡ o → o ≡ None
      step None e = refl
      step (Some u) e = absurd ((entry k u e).1 frozen)

  pub goal_stays : assignment_of entries g.id ≡ None
  goal_stays = frozen_stays g.id (frozen_goal goals g x.one_of c.outcome)

  -- Instances mention nothing that has an entry.
  pub instance_stays : (P : ℕ → Type 0) (m : ℕ) → StaysOrIsPut (assignment_of entries) P m → assignment_of entries m ≡ None
  instance_stays P m (inl (p, none)) = none
  instance_stays P m (inr (k, u, p, found, inside)) = (entry k u found).2 m inside

  -- numbers
  pub goal_below : g.id < n
  goal_below = All-contains (λ h. h.id < n) goals g x.below x.one_of

  pub numbered : Numbered n c.opened.fresh
  numbered = numbered_from_places n c.opened.fresh x.may_be_used.fresh_are_numbered

  pub all_below : All (λ h. h.id < Next) Everything
  all_below =
      All-append (λ h. h.id < Next) goals c.opened.fresh (All-weaker (λ h. h.id < n) (λ h. h.id < Next) (λ h less. omega (arith, less)) goals x.below) (numbers_below n c.opened.fresh numbered)

  pub next_is_new : IsIn Next (ids Everything) → ⊥
  next_is_new is = let less = in_below Next Next Everything all_below is in absurd (omega (arith, less))

  -- The next number has no entry.
  pub next_stays : assignment_of entries Next ≡ None
  next_stays = step (assignment_of entries Next) refl
    where
      step : (o : Option LfTerm) → assignment_of entries Next ≡ o → o ≡ None
      step None e = refl
      step (Some u) e = let known = (entry Next u e).0 in absurd (next_is_new (shaped_is_in Everything Next known.0 known.1))

  -- What the goal mentions are goals.
  pub goal_mentions : (m : ℕ) → OccursInGoal (metavariable m) g → IsIn m (ids goals)
  goal_mentions m o = in_contained m (ids goals) (All-contains (λ h. (k : ℕ) → OccursInGoal (metavariable k) h → Contains (ids goals) k) goals g (shaped_goals_mention_no_others sig goals x.of_goals) x.one_of m o)

pub unifiers_go : UnifiersGo
unifiers_go sig goals n g c entries x = (closed_here sig goals n g c entries x, goes_here sig goals n g c entries x)
