-- What is offered for a hypothesis.
use Rattle.std.proofs.Common.{◌≡◌, ℕ, Bool, true, List, [], ◌∷◌, ◌++◌, All, refl, sym, ap, ap₂, ◌∙◌, subst}
use Rattle.std.proofs.lemmas.List.Elements.{All-head, All-weaker}
use Rattle.lf_definitions.specs.Syntax.{constant, Spine, family, LfAtom, atomic, Context, pis, conclusion_atom}
use Rattle.lf_definitions.specs.ShapedGoals.{scope_in, kind_shapes_in, ShapedGoal}
use Rattle.lf_definitions.specs.GoalLists.{all_goals}
use Rattle.lf_terms.specs.Targets.{goal_of}
use Rattle.lf_terms.specs.declared.ty.Atom.{Atom}
use Rattle.lf_terms.specs.declared.ty.Ty.{Ty}
use Rattle.lf_terms.specs.Types.{type_of, atom_of}
use Rattle.meta_goals.specs.GoalsOf.{goals_of}
use Rattle.meta_openings.specs.Results.{IsOpenable}
use Rattle.opening_laws.specs.Openings.{LfOpened, IsOpened}
use Rattle.opening_laws.proofs.Laws.{openings_are_shaped}
use Rattle.applications.specs.OpenedTypes.{opening_of}
use Rattle.applications.specs.Methods.{LfLabel, closes, LfCandidate}
use Rattle.applications.specs.Candidates.{LfHypothesis, hypotheses_of, is_atomic, argument_type, meets_target, premise_marks, unfixed_marks, kept_by_splitting}
use Rattle.applications.proofs.OpenedTypes.{openings_are_functions}
use Rattle.application_laws.specs.Conditions.{MayBeUsed}
use Rattle.application_laws.proofs.Hypotheses.{IsHypothesisFrom, all_hypotheses}
use Rattle.application_laws.proofs.Arguments.{constant_is_shaped}
use Rattle.application_laws.proofs.Laws.{split_fits, split_may, split_usable}
use Rattle.build_shared.specs.ArgumentTypes.{HasShapedTerms}
use Rattle.build_shared.specs.Seen.{seen_atom}
use Rattle.build_shared.proofs.WholeUses.{first_is_shaped}
use Rattle.build_cases.specs.declared.split.Split.{Split}
use Rattle.build_cases.specs.Splits.{IsSplitUse, split_offers, MaySplit}

-- what a type ends in
pub conclusion_is : (bs : Context) (f : ℕ) (args : Spine) → conclusion_atom (pis bs (family f args)) ≡ record { atom_family = f; atom_args = args }
conclusion_is [] f args = refl
conclusion_is (b ∷ bs) f args = conclusion_is bs f args

same_atom : (x : Atom) (a : LfAtom) → atom_of x ≡ atomic a → seen_atom x ≡ a
same_atom x a e =
    let families : x.family ≡ a.atom_family = cc in
    let args : x.args ≡ a.atom_args = cc in
    ap₂ (λ f ts. record { atom_family = f; atom_args = ts }) families args

pub equations_are : (argument end target : Atom) (ty : Ty) (args : Spine) (wanted ending aim : LfAtom) (old mid new : List (LfAtom × LfAtom)) → old ≡ [] →
    mid ≡ old ++ (seen_atom argument, record { atom_family = ty.family; atom_args = args }) ∷ [] → new ≡ mid ++ (seen_atom end, seen_atom target) ∷ [] →
    seen_atom argument ≡ wanted → args ≡ ty.args → atom_of end ≡ atomic ending → atom_of target ≡ atomic aim → new ≡ (wanted, conclusion_atom (type_of ty)) ∷ (ending, aim) ∷ []
equations_are argument end target ty args wanted ending aim old mid new old_is mid_is new_is argument_is args_are end_is target_is =
    let pair : LfAtom → LfAtom → LfAtom × LfAtom = λ x y. (x, y) in
    let right : record { atom_family = ty.family; atom_args = args } ≡ conclusion_atom (type_of ty) =
    ap (λ ts. record { atom_family = ty.family; atom_args = ts }) args_are ∙ sym (conclusion_is ty.binders ty.family ty.args) in
    let first = ap₂ pair argument_is right in
    let second = ap₂ pair (same_atom end ending end_is) (same_atom target aim target_is) in
    new_is ∙ ap (λ l. l ++ (seen_atom end, seen_atom target) ∷ []) (mid_is ∙ ap (λ l. l ++ (seen_atom argument, record { atom_family = ty.family; atom_args = args }) ∷ []) old_is)
    ∙ ap₂ (λ x y. x ∷ y ∷ []) first second

module _ (s : Split) where
  -- Each hypothesis without binders may be split.
  pub all_may_split : IsSplitUse s → All (λ h. is_atomic h.type ≡ true → MaySplit s h) (hypotheses_of s.usage.now.goal.now.ctx)
  all_may_split is =
      let u = s.usage.now in
      let sig = u.sig.now in
      let goals = all_goals (goals_of u.goals.now) in
      let g = goal_of u.goal.now in
      let type = type_of s.ty.now in
      let first = is.usage.goals in
      let shaped = first.shaped in
      let below = first.below in
      let is_one : ShapedGoal sig goals g = first_is_shaped sig (goals_of u.goals.now) u.first g first in
      let each : (h : LfHypothesis) → IsHypothesisFrom (kind_shapes_in sig) (scope_in sig goals []) 0 g.context h → is_atomic h.type ≡ true → MaySplit s h = λ h known atomic. record {
        may_be_opened = split_may sig is.usage.signature goals shaped u.first below g is_one s.constant type is.type_is s.major h
            (split_fits sig is.usage.signature goals shaped u.first below g is_one type s.major h is.takes_atom (known, atomic));
        may_be_used = split_usable sig is.usage.signature goals shaped u.first below g is_one u.rule s.constant s.major type is.type_is is.takes_atom h (known, atomic);
      } in
      All-weaker (IsHypothesisFrom (kind_shapes_in sig) (scope_in sig goals []) 0 g.context) (λ h. is_atomic h.type ≡ true → MaySplit s h) each (hypotheses_of g.context)
      (all_hypotheses (kind_shapes_in sig) (scope_in sig goals []) 0 g.context is_one.0)

  module _ (h : LfHypothesis) (is : IsSplitUse s) (may : MaySplit s h) (kept : List ℕ) (fixed : List (ℕ × ℕ)) (kept_is : kept ≡ kept_by_splitting (type_of s.ty.now) s.major (goal_of s.usage.now.goal.now) h.place)
      (fixed_is : fixed ≡ (s.major, h.place) ∷ []) where
    abbrev IsWay : LfOpened → Type 0
    IsWay o = IsOpened s.usage.now.goal.now.ctx kept fixed s.usage.now.first (type_of s.ty.now) o

    pub is_openable : IsOpenable s.usage.now.goal.now.ctx kept fixed s.usage.now.first (type_of s.ty.now)
    is_openable =
        let u = s.usage.now in
        subst (λ k. IsOpenable u.goal.now.ctx k fixed u.first (type_of s.ty.now)) (sym kept_is)
        (subst (λ f. IsOpenable u.goal.now.ctx (kept_by_splitting (type_of s.ty.now) s.major (goal_of u.goal.now) h.place) f u.first (type_of s.ty.now)) (sym fixed_is)
        (u.sig.now, all_goals (goals_of u.goals.now), may.may_be_opened))

    seen_way : (o : LfOpened) → IsWay o → IsOpened s.usage.now.goal.now.ctx (kept_by_splitting (type_of s.ty.now) s.major (goal_of s.usage.now.goal.now) h.place) ((s.major, h.place) ∷ []) s.usage.now.first (type_of s.ty.now) o
    seen_way o opened =
        let u = s.usage.now in
        subst (λ k. IsOpened u.goal.now.ctx k ((s.major, h.place) ∷ []) u.first (type_of s.ty.now) o) kept_is
        (subst (λ f. IsOpened u.goal.now.ctx kept f u.first (type_of s.ty.now) o) fixed_is opened)

    pub has_shaped_terms : (o : LfOpened) → IsWay o → HasShapedTerms (type_of s.ty.now) o.terms
    has_shaped_terms o opened =
        let u = s.usage.now in
        let goals = all_goals (goals_of u.goals.now) in
        let kept_so = kept_by_splitting (type_of s.ty.now) s.major (goal_of u.goal.now) h.place in
        record {
          kinds = kind_shapes_in u.sig.now;
          scope = scope_in u.sig.now (goals ++ o.fresh) u.goal.now.ctx;
          type_is_shaped = constant_is_shaped u.sig.now is.usage.signature s.constant (type_of s.ty.now) is.type_is (goals ++ o.fresh) u.goal.now.ctx;
          terms_are_shaped = (openings_are_shaped u.sig.now goals u.goal.now.ctx kept_so ((s.major, h.place) ∷ []) u.first (type_of s.ty.now) may.may_be_opened o (seen_way o opened)).0;
        }

    pub offered_is : (label : LfLabel) (o : LfOpened) (marks : List Bool) (equations : List (LfAtom × LfAtom)) → label ≡ record { of_rule = s.usage.now.rule; choice = 0; hypotheses = h.place ∷ [] } → IsWay o →
        marks ≡ unfixed_marks fixed 0 s.marks.now →
        equations ≡ (argument_type (type_of s.ty.now) o s.major, conclusion_atom h.type) ∷ meets_target (goal_of s.usage.now.goal.now) o →
        split_offers s h ≡ record { label = label; head = constant s.constant; opened = o; are_proofs = marks; equations = equations; outcome = closes } ∷ []
    offered_is label o marks equations label_is opened marks_are equations_so =
        let u = s.usage.now in
        let g = goal_of u.goal.now in
        let type = type_of s.ty.now in
        let kept_so = kept_by_splitting type s.major g h.place in
        let fixed_so : List (ℕ × ℕ) = (s.major, h.place) ∷ [] in
        let its_label : LfLabel = record { of_rule = u.rule; choice = 0; hypotheses = h.place ∷ [] } in
        let its_marks = unfixed_marks fixed_so 0 (premise_marks type) in
        let Pairs : LfOpened → List (LfAtom × LfAtom) = λ x. (argument_type type x s.major, conclusion_atom h.type) ∷ meets_target g x in
        let make : LfLabel → LfOpened → List Bool → List (LfAtom × LfAtom) → List LfCandidate =
        λ l x m e. record { label = l; head = constant s.constant; opened = x; are_proofs = m; equations = e; outcome = closes } ∷ [] in
        let way : o ≡ opening_of g.context kept_so fixed_so u.first type =
        (openings_are_functions u.sig.now (all_goals (goals_of u.goals.now)) g.context kept_so fixed_so u.first type may.may_be_opened o).0 (seen_way o opened) in
        let marks_so : marks ≡ its_marks = marks_are ∙ ap (λ f. unfixed_marks f 0 s.marks.now) fixed_is ∙ ap (unfixed_marks fixed_so 0) is.marks_are in
        sym (ap (λ l. make l o marks equations) label_is ∙ ap (λ m. make its_label o m equations) marks_so ∙ ap (λ e. make its_label o its_marks e) equations_so ∙ ap (λ x. make its_label x its_marks (Pairs x)) way)

  -- What is offered may be used.
  pub usable : (h : LfHypothesis) (c : LfCandidate) → MaySplit s h → split_offers s h ≡ c ∷ [] → MayBeUsed s.usage.now.sig.now (all_goals (goals_of s.usage.now.goals.now)) s.usage.now.first (goal_of s.usage.now.goal.now) c
  usable h c may is =
      let u = s.usage.now in
      let May : LfCandidate → Type 0 = MayBeUsed u.sig.now (all_goals (goals_of u.goals.now)) u.first (goal_of u.goal.now) in
      All-head May c [] (subst (All May) is may.may_be_used)
