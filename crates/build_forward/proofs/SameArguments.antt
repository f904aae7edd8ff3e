-- A type is opened to the same premises, whatever hypotheses stand for these: nothing mentions a premise.
use Rattle.std.proofs.Common.{◌≡◌, ℕ, zero, suc, ◌≤◌, Bool, true, false, not, Option, Some, None, List, [], ◌∷◌, ◌++◌, All, length, map, take, slice_get, refl, sym, ap, ap₂, ◌∙◌, subst, arith}
use Rattle.std.specs.Prelude.{is_some, if◌then◌else◌}
use Rattle.std.proofs.lemmas.Bool.{eq-eqb, ne_eqb}
use Rattle.std.proofs.lemmas.List.Elements.{All-head, All-tail}
use Rattle.lf_definitions.specs.Syntax.{LfHead, bound, constant, metavariable, Spine, no_args, arg, LfType, pi, family, LfAtom, Context, shapes_of_types, binders_of, conclusion_atom}
use Rattle.lf_definitions.specs.Substitution.{becomes, stays, Replacement, push, push_all}
use Rattle.lf_definitions.specs.Occurrence.{OccursInType, occurs_binder, occurs_rest}
use Rattle.lf_definitions.specs.Typing.{type_at}
use Rattle.head_laws.specs.Mentions.{occurs_in_type}
use Rattle.head_laws.proofs.Occurrence.{occurs_in_type-from}
use Rattle.lf_functions.specs.Instances.{result_of_type}
use Rattle.lf_functions.proofs.ReplacingLaws.{replaced_looks_at_what_occurs}
use Rattle.opening_laws.specs.Openings.{LfOpened, fixed_to}
use Rattle.applications.specs.OpenedTypes.{opened_at, opened_from, opening_of}
use Rattle.applications.specs.Candidates.{LfHypothesis, premises_from, paired, first_args, argument_atom, argument_type, premise_equations}
use Rattle.application_laws.specs.Conditions.{HasAtomAt}
use Rattle.build_forward.specs.Onwards.{equations_between}
use Rattle.application_laws.proofs.Arguments.{premises_after}

-- Two lists of terms are the same at each binder of a type that is mentioned.
abbrev pub AgreeFor : LfType → Spine → Spine → Type 0
AgreeFor (family f args) ts us = Unit {0}
AgreeFor (pi a b) no_args us = ⊥
AgreeFor (pi a b) (arg t ts) no_args = ⊥
AgreeFor (pi a b) (arg t ts) (arg u us) = (OccursInType (bound zero) b → t ≡ u) × AgreeFor b ts us

same_images : (type : LfType) (k : ℕ) (a : LfType) (ts us : Spine) (σ τ : Replacement) → type_at (binders_of type) k ≡ Some a → AgreeFor type ts us → ((h : LfHead) → OccursInType h type → σ h ≡ τ h) →
    (h : LfHead) → OccursInType h a → push_all (first_args k ts) σ h ≡ push_all (first_args k us) τ h
same_images (family f args) k a ts us σ τ is agree same h o = absurd cc
same_images (pi b c) zero a ts us σ τ is agree same h o = let is_first : a ≡ b = cc in same h (occurs_binder h b c (subst (OccursInType h) is_first o))
same_images (pi b c) (suc k) a no_args us σ τ is agree same h o = absurd agree
same_images (pi b c) (suc k) a (arg t ts) no_args σ τ is agree same h o = absurd agree
same_images (pi b c) (suc k) a (arg t ts) (arg u us) σ τ is agree same h o = same_images c k a ts us (push t σ) (push u τ) is agree.1 pushed h o
  where
    pushed : (h : LfHead) → OccursInType h c → push t σ h ≡ push u τ h
    pushed (bound zero) p = ap becomes (agree.0 p)
    pushed (bound (suc n)) p = same (bound n) (occurs_rest (bound n) b c p)
    pushed (constant d) p = same (constant d) (occurs_rest (constant d) b c p)
    pushed (metavariable m) p = same (metavariable m) (occurs_rest (metavariable m) b c p)

pub same_argument : (type : LfType) (k : ℕ) (a : LfType) (o x : LfOpened) → type_at (binders_of type) k ≡ Some a → AgreeFor type o.terms x.terms → argument_type type o k ≡ argument_type type x k
unfolding result_of_type
same_argument type k a o x is agree =
    let shapes = shapes_of_types (take k (binders_of type)) in
    let same : result_of_type shapes (first_args k o.terms) a ≡ result_of_type shapes (first_args k x.terms) a =
    (replaced_looks_at_what_occurs _ (push_all (first_args k o.terms) stays) (push_all (first_args k x.terms) stays)).2 a (same_images type k a o.terms x.terms stays stays is agree (λ h p. refl)) in
    ap (λ b. argument_atom b shapes (first_args k o.terms) o.end) is ∙ ap conclusion_atom same ∙ sym (ap (λ b. argument_atom b shapes (first_args k x.terms) x.end) is)

-- Exactly the binders that aren't mentioned are fixed.
abbrev pub FixesPremises : List (ℕ × ℕ) → ℕ → LfType → Type 0
FixesPremises fixed i (family f args) = Unit {0}
FixesPremises fixed i (pi a b) = (is_some (fixed_to fixed i) ≡ not (occurs_in_type (bound zero) b)) × FixesPremises fixed (suc i) b

opened_agree : (depth : ℕ) (kept : List ℕ) (count : ℕ) (entries : Context) (fixed others : List (ℕ × ℕ)) (i : ℕ) (type : LfType) (σ τ : Replacement) (first : ℕ) → FixesPremises fixed i type → FixesPremises others i type →
    AgreeFor type (opened_from depth kept count entries fixed i type σ first).terms (opened_from depth kept count entries others i type τ first).terms
opened_agree depth kept count entries fixed others i (family f args) σ τ first fix other = tt
opened_agree depth kept count entries fixed others i (pi a b) σ τ first fix other =
    step (fixed_to fixed i) (fixed_to others i) (occurs_in_type (bound zero) b) refl fix.0 other.0
    (λ σ' τ' n. opened_agree depth kept count entries fixed others (suc i) b σ' τ' n fix.1 other.1)
  where
    step : (p q : Option ℕ) (c : Bool) → occurs_in_type (bound zero) b ≡ c → is_some p ≡ not c → is_some q ≡ not c →
        ((σ' τ' : Replacement) (n : ℕ) → AgreeFor b (opened_from depth kept count entries fixed (suc i) b σ' n).terms (opened_from depth kept count entries others (suc i) b τ' n).terms) →
        AgreeFor (pi a b) (opened_at depth kept count entries σ first p a (opened_from depth kept count entries fixed (suc i) b)).terms
        (opened_at depth kept count entries τ first q a (opened_from depth kept count entries others (suc i) b)).terms
    step None None c is fix other later = ((λ p. refl), later _ _ _)
    step (Some place) (Some another) true is fix other later = absurd cc
    step (Some place) (Some another) false is fix other later = ((λ p. absurd (clash (sym (occurs_in_type-from p) ∙ is))), later _ _ _)
      where
        clash : true ≡ false → ⊥
        clash e = absurd cc
    step None (Some place) true is fix other later = absurd cc
    step None (Some place) false is fix other later = absurd cc
    step (Some place) None true is fix other later = absurd cc
    step (Some place) None false is fix other later = absurd cc

not_fixed : (i : ℕ) (ks : List ℕ) (hs : List LfHypothesis) → All (λ k. suc i ≤ k) ks → fixed_to (paired ks hs) i ≡ None
not_fixed i [] hs above = refl
not_fixed i (k ∷ ks) [] above = refl
not_fixed i (k ∷ ks) (h ∷ hs) above =
    let less = All-head (λ j. suc i ≤ j) k ks above in
    ap (λ b. if b then Some h.place else fixed_to (paired ks hs) i) (ne_eqb k i (λ e. absurd (omega (arith, less, e)))) ∙ not_fixed i ks hs (All-tail (λ j. suc i ≤ j) k ks above)

-- So it is where each premise has a hypothesis.
pub paired_fixes : (fixed : List (ℕ × ℕ)) (i : ℕ) (type : LfType) (hs : List LfHypothesis) → length (premises_from i type) ≤ length hs →
    ((j : ℕ) → i ≤ j → fixed_to fixed j ≡ fixed_to (paired (premises_from i type) hs) j) → FixesPremises fixed i type
paired_fixes fixed i (family f args) hs enough same = tt
paired_fixes fixed i (pi a b) hs enough same = step (occurs_in_type (bound zero) b) hs enough same (paired_fixes fixed (suc i) b)
  where
    step : (c : Bool) (hs : List LfHypothesis) → length (if c then premises_from (suc i) b else i ∷ premises_from (suc i) b) ≤ length hs →
        ((j : ℕ) → i ≤ j → fixed_to fixed j ≡ fixed_to (paired (if c then premises_from (suc i) b else i ∷ premises_from (suc i) b) hs) j) →
        ((ks : List LfHypothesis) → length (premises_from (suc i) b) ≤ length ks → ((j : ℕ) → suc i ≤ j → fixed_to fixed j ≡ fixed_to (paired (premises_from (suc i) b) ks) j) → FixesPremises fixed (suc i) b) →
        (is_some (fixed_to fixed i) ≡ not c) × FixesPremises fixed (suc i) b
    step true hs enough same later = (
      ap is_some (same i (omega arith) ∙ not_fixed i (premises_from (suc i) b) hs (premises_after (suc i) b)),
      later hs enough (λ j less. same j (omega (arith, less))),
    )
    step false [] enough same later = absurd (omega (arith, enough))
    step false (h ∷ hs) enough same later = (
      ap is_some (same i (omega arith) ∙ ap (λ c. if c then Some h.place else fixed_to (paired (premises_from (suc i) b) hs) i) (eq-eqb i i refl)),
      later hs (omega (arith, enough))
          (λ j less. same j (omega (arith, less)) ∙ ap (λ c. if c then Some h.place else fixed_to (paired (premises_from (suc i) b) hs) j) (ne_eqb i j (λ e. absurd (omega (arith, less, e))))),
    )

-- Whatever hypotheses stand for all premises, the openings agree.
pub openings_agree : (ctx : Context) (kept : List ℕ) (n : ℕ) (type : LfType) (hs ks : List LfHypothesis) → length (premises_from 0 type) ≤ length hs → length (premises_from 0 type) ≤ length ks →
    AgreeFor type (opening_of ctx kept (paired (premises_from 0 type) hs) n type).terms (opening_of ctx kept (paired (premises_from 0 type) ks) n type).terms
unfolding opening_of
openings_agree ctx kept n type hs ks enough also =
    opened_agree _ kept _ _ (paired (premises_from 0 type) hs) (paired (premises_from 0 type) ks) 0 type stays stays n
    (paired_fixes (paired (premises_from 0 type) hs) 0 type hs enough (λ j less. refl)) (paired_fixes (paired (premises_from 0 type) ks) 0 type ks also (λ j less. refl))

-- The equations of premises are those of each such opening.
pub same_equations : (type : LfType) (o x : LfOpened) (ks : List ℕ) (hs : List LfHypothesis) → AgreeFor type o.terms x.terms → All (HasAtomAt type) ks → premise_equations type o ks hs ≡ premise_equations type x ks hs
same_equations type o x [] hs agree atoms = refl
same_equations type o x (k ∷ ks) [] agree atoms = refl
same_equations type o x (k ∷ ks) (h ∷ hs) agree atoms =
    let has = All-head (HasAtomAt type) k ks atoms in
    ap₂ (λ a l. (a, conclusion_atom h.type) ∷ l) (same_argument type k has.0 o x has.1 agree) (same_equations type o x ks hs agree (All-tail (HasAtomAt type) k ks atoms))

-- They are those between the types of the premises and the hypotheses, and those of the first premises come first.
pub are_between : (type : LfType) (o : LfOpened) (ks : List ℕ) (hs : List LfHypothesis) → premise_equations type o ks hs ≡ equations_between (map (argument_type type o) ks) hs
are_between type o [] hs = refl
are_between type o (k ∷ ks) [] = refl
are_between type o (k ∷ ks) (h ∷ hs) = ap (λ l. (argument_type type o k, conclusion_atom h.type) ∷ l) (are_between type o ks hs)

pub between-append : (atoms : List LfAtom) (hs more : List LfHypothesis) → (others : List (LfAtom × LfAtom)) × (equations_between atoms (hs ++ more) ≡ equations_between atoms hs ++ others)
between-append [] hs more = ([], refl)
between-append (a ∷ atoms) [] more = (equations_between (a ∷ atoms) more, refl)
between-append (a ∷ atoms) (h ∷ hs) more = let r = between-append atoms hs more in (r.0, ap (λ l. (a, conclusion_atom h.type) ∷ l) r.1)

-- After some hypotheses the next one has the type of the next premise.
pub between-next : (atoms : List LfAtom) (hs : List LfHypothesis) (a : LfAtom) (h : LfHypothesis) (more : List LfHypothesis) → slice_get atoms (length hs) ≡ Some a →
    (others : List (LfAtom × LfAtom)) × (equations_between atoms (hs ++ h ∷ more) ≡ equations_between atoms hs ++ (a, conclusion_atom h.type) ∷ others)
between-next [] hs a h more there = absurd cc
between-next (b ∷ atoms) [] a h more there = let same : b ≡ a = cc in (equations_between atoms more, ap (λ x. (x, conclusion_atom h.type) ∷ equations_between atoms more) same)
between-next (b ∷ atoms) (k ∷ hs) a h more there = let r = between-next atoms hs a h more there in (r.0, ap (λ l. (b, conclusion_atom k.type) ∷ l) r.1)
