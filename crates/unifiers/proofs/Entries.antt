-- Assignments that are kept as lists of entries: what each puts, and when an assignment is an instance of one.
use Rattle.std.proofs.Common.{◌≡◌, ◌≢◌, ℕ, suc, ◌+◌, Bool, true, false, List, [], ◌∷◌, Option, Some, None, All, AllPairs, refl, sym, ap, ◌∙◌, subst, subst₂, arith}
use Rattle.std.specs.Prelude.{nat_eq, if◌then◌else◌}
use Rattle.std.proofs.lemmas.Bool.{eqb-true, eq-eqb, ne_eqb}
use Rattle.std.proofs.lemmas.List.Elements.{All-nil, All-cons, All-head, All-tail, All-weaker}
use Rattle.lf_definitions.specs.Syntax.{LfHead, bound, constant, metavariable, LfTerm, SimpleType, shape_size, lams}
use Rattle.lf_definitions.specs.Shaping.{Scope, Shaped}
use Rattle.lf_definitions.specs.ShapedGoals.{without_variables}
use Rattle.lf_definitions.specs.Occurrence.{OccursIn}
use Rattle.lf_definitions.specs.Substitution.{becomes}
use Rattle.lf_definitions.specs.Replacements.{Fits, fits_stays, fits_becomes, Goes}
use Rattle.lf_definitions.specs.Instantiation.{Assignment, assigned, instantiating, Instantiated, LfAssigned, assignment_of}
use Rattle.lf_definitions.proofs.Options.{Some-Some}
use Rattle.lf_definitions.proofs.Renaming.{same_head, rename-same_head, Shaped-rename}
use Rattle.head_laws.specs.AssignmentLaws.{AssignsClosedTerms}
use Rattle.head_laws.proofs.Known.{known_term}
use Rattle.head_laws.proofs.Numbers.{AllPairs-head, AllPairs-tail}
use Rattle.unification.specs.Solutions.{value_of, IsInstanceOf, ShapedEntry}

abbrev pub term_put : LfAssigned → LfTerm
term_put e = lams e.binders_count e.body

-- What holds of each entry holds of each term that is found.
pub found_entry : (P : ℕ → LfTerm → Type 0) (entries : List LfAssigned) → All (λ e. P e.assigned_goal (term_put e)) entries → (g : ℕ) (u : LfTerm) → assignment_of entries g ≡ Some u → P g u
found_entry P [] all g u e = absurd cc
found_entry P (first ∷ rest) all g u e =
    each (nat_eq first.assigned_goal g) refl (λ f. found_entry P rest (All-tail (λ x. P x.assigned_goal (term_put x)) first rest all) g u f)
  where
    each : (b : Bool) → nat_eq first.assigned_goal g ≡ b → (assignment_of rest g ≡ Some u → P g u) → P g u
    each true f later =
        let here : assignment_of (first ∷ rest) g ≡ Some (term_put first) = ap (λ b. if b then Some (term_put first) else assignment_of rest g) f in
        subst₂ P (eqb-true first.assigned_goal g f) (Some-Some (sym here ∙ e)) (All-head (λ x. P x.assigned_goal (term_put x)) first rest all)
    each false f later =
        let there : assignment_of (first ∷ rest) g ≡ assignment_of rest g = ap (λ b. if b then Some (term_put first) else assignment_of rest g) f in
        later (sym there ∙ e)

-- An assignment meets an entry where it makes of its metavariable what it makes of its term.
abbrev pub Meets : Scope → Assignment → LfAssigned → Type 0
Meets Γ θ e = (s : SimpleType) → Γ (metavariable e.assigned_goal) ≡ Some s → Instantiated θ (term_put e) (value_of θ e.assigned_goal s)

pub instance_from : (Γ : Scope) (θ : Assignment) (entries : List LfAssigned) → All (Meets Γ θ) entries → IsInstanceOf Γ (assignment_of entries) θ
instance_from Γ θ entries all g s u known e = found_entry (λ m x. (c : SimpleType) → Γ (metavariable m) ≡ Some c → Instantiated θ x (value_of θ m c)) entries all g u e s known

found_first : (e : LfAssigned) (rest : List LfAssigned) → assignment_of (e ∷ rest) e.assigned_goal ≡ Some (term_put e)
found_first e rest = ap (λ b. if b then Some (term_put e) else assignment_of rest e.assigned_goal) (eq-eqb e.assigned_goal e.assigned_goal refl)

-- where no metavariable has two entries
pub meets_each : (Γ : Scope) (θ : Assignment) (entries : List LfAssigned) → AllPairs (λ e f. e.assigned_goal ≢ f.assigned_goal) entries → IsInstanceOf Γ (assignment_of entries) θ → All (Meets Γ θ) entries
meets_each Γ θ [] once instance = All-nil (Meets Γ θ)
meets_each Γ θ (e ∷ rest) once instance =
    All-cons (Meets Γ θ) e rest
    (λ s known. instance e.assigned_goal s (term_put e) known (found_first e rest))
    (meets_each Γ θ rest (AllPairs-tail (λ x y. x.assigned_goal ≢ y.assigned_goal) e rest once) (λ g s u known f. instance g s u known (later g u f)))
  where
    later : (g : ℕ) (u : LfTerm) → assignment_of rest g ≡ Some u → assignment_of (e ∷ rest) g ≡ Some u
    later g u f =
        let differ : e.assigned_goal ≢ g = found_entry (λ m x. e.assigned_goal ≢ m) rest (AllPairs-head (λ x y. x.assigned_goal ≢ y.assigned_goal) e rest once) g u f in
        ap (λ b. if b then Some (term_put e) else assignment_of rest g) (ne_eqb e.assigned_goal g differ) ∙ f

-- Shaped entries put closed terms, and go from a scope to itself.
pub Shaped-with_variables : {Γ : Scope} {t : LfTerm} {s : SimpleType} → Shaped (without_variables Γ) t s → Shaped Γ t s
Shaped-with_variables {Γ} {t} {s} p = subst (λ x. Shaped Γ x s) (rename-same_head t) (Shaped-rename p same_head Γ keeps)
  where
    keeps : (h : LfHead) (c : SimpleType) → without_variables Γ h ≡ Some c → Γ h ≡ Some c
    keeps (bound n) c e = absurd cc
    keeps (constant k) c e = e
    keeps (metavariable g) c e = e

pub entries_closed : (Γ : Scope) (entries : List LfAssigned) → All (ShapedEntry Γ) entries → AssignsClosedTerms (assignment_of entries)
entries_closed Γ entries all g n u e =
    found_entry (λ m x. OccursIn (bound n) x → ⊥) entries (All-weaker (ShapedEntry Γ) (λ f. OccursIn (bound n) (term_put f) → ⊥) (λ f shaped o. none (known_term shaped.2 (bound n) o).1) entries all) g u e
  where
    none : {c : SimpleType} → None ≡ Some c → ⊥
    none f = cc

abbrev FitsBelow : Scope → ℕ → LfAssigned → Type 0
FitsBelow Γ q e = (s : SimpleType) → Γ (metavariable e.assigned_goal) ≡ Some s → Fits Γ q (becomes (term_put e)) s

fits_more : (Γ : Scope) (q m : ℕ) (e : LfAssigned) → FitsBelow Γ q e → FitsBelow Γ (q + m) e
fits_more Γ q m e below s known = each (below s known)
  where
    each : Fits Γ q (becomes (term_put e)) s → Fits Γ (q + m) (becomes (term_put e)) s
    each (fits_becomes shaped small) = fits_becomes shaped (omega arith)

fits_entry : (Γ : Scope) (q : ℕ) (e : LfAssigned) (shaped : ShapedEntry Γ e) → FitsBelow Γ (q + suc (shape_size shaped.0)) e
fits_entry Γ q e shaped s known =
    let same : shaped.0 ≡ s = Some-Some (sym shaped.1 ∙ known) in
    subst (Fits Γ (q + suc (shape_size shaped.0)) (becomes (term_put e))) same (fits_becomes (Shaped-with_variables shaped.2) (omega arith))

fit_below : (Γ : Scope) (entries : List LfAssigned) → All (ShapedEntry Γ) entries → (q : ℕ) × All (FitsBelow Γ q) entries
fit_below Γ [] all = (0, All-nil (FitsBelow Γ 0))
fit_below Γ (e ∷ rest) all =
    let first = All-head (ShapedEntry Γ) e rest all in
    let later = fit_below Γ rest (All-tail (ShapedEntry Γ) e rest all) in
    let q = later.0 + suc (shape_size first.0) in
    (q, All-cons (FitsBelow Γ q) e rest (fits_entry Γ later.0 e first) (All-weaker (FitsBelow Γ later.0) (FitsBelow Γ q) (fits_more Γ later.0 (suc (shape_size first.0))) rest later.1))

pub entries_go : (Γ : Scope) (entries : List LfAssigned) → All (ShapedEntry Γ) entries → (q : ℕ) × Goes q Γ Γ (instantiating (assignment_of entries))
entries_go Γ entries all = let below = fit_below Γ entries all in (below.0, goes below.0 below.1)
  where
    goes : (q : ℕ) → All (FitsBelow Γ q) entries → Goes q Γ Γ (instantiating (assignment_of entries))
    goes q fits (bound n) s known = fits_stays known
    goes q fits (constant c) s known = fits_stays known
    goes q fits (metavariable g) s known = each (assignment_of entries g) refl
      where
        each : (v : Option LfTerm) → assignment_of entries g ≡ v → Fits Γ q (assigned g v) s
        each None e = fits_stays known
        each (Some u) e = found_entry (λ m x. (c : SimpleType) → Γ (metavariable m) ≡ Some c → Fits Γ q (becomes x) c) entries fits g u e s known
