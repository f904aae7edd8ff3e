-- Arguments of opened types, types of constants, and equations: that they are shaped, and what they mention.
use Rattle.std.proofs.Common.{◌≡◌, ◌⊎◌, inl, inr, ℕ, zero, suc, ◌<◌, ◌≤◌, Bool, true, false, Option, Some, None, List, [], ◌∷◌, All, AllPairs, take, refl, sym, ap, ◌∙◌, subst, arith}
use Rattle.std.specs.Prelude.{if◌then◌else◌}
use Rattle.std.proofs.lemmas.List.Elements.{All-nil, All-cons, All-head, All-tail, All-weaker}
use Rattle.std.proofs.lemmas.List.Kept.{AllPairs-cons}
use Rattle.lf_definitions.specs.Syntax.{LfHead, bound, constant, metavariable, at, Spine, no_args, arg, SimpleType, base, arrows, LfType, pi, family, LfAtom, atomic, Context, pis, shape_of, shapes_of_types, binders_of, conclusion_atom}
use Rattle.lf_definitions.specs.Renaming.{next}
use Rattle.lf_definitions.specs.Shaping.{Scope, under, under_all, shape_at, ShapedSpine, shaped_none, shaped_arg, ShapedType, shaped_pi, shaped_family}
use Rattle.lf_definitions.specs.ShapedGoals.{scope_in, ShapedTypeIn, ShapedSignature}
use Rattle.lf_definitions.specs.Occurrence.{OccursIn, occurs_head, occurs_args, OccursInSpine, occurs_first, occurs_later, OccursInType, occurs_binder, occurs_rest, occurs_family, OccursInContext, occurs_entry, occurs_after}
use Rattle.lf_definitions.specs.Typing.{LfGoal, type_at}
use Rattle.lf_definitions.specs.Signatures.{LfSignature, constant_types}
use Rattle.lf_definitions.proofs.ShapedGoals.{ScopeGrows, ShapedType-grown}
use Rattle.typing_laws.proofs.Occurring.{HasShape-OccursInType}
use Rattle.head_laws.specs.Mentions.{occurs_in_type}
use Rattle.unification.specs.Equations.{of_atoms, numbered_from}
use Rattle.unification.specs.Solutions.{ShapedEquation, ShapedEquations, in_first, in_rest, MentionedBy}
use Rattle.lf_functions.specs.Instances.{result_of_type}
use Rattle.lf_functions.proofs.Results.{results_are_the_one_result}
use Rattle.lf_functions.proofs.InstanceLaws.{results_go_part_by_part}
use Rattle.lf_functions.proofs.MentionLaws.{results_mention_what_is_put}
use Rattle.applications.specs.Candidates.{is_atomic, premises_from, first_args, argument_atom}

-- a type without binders
pub atom_shape : (a : LfType) → is_atomic a ≡ true → shape_of a ≡ base
atom_shape (pi a b) is = absurd cc
atom_shape (family f args) is = refl

pub whole_atom : (a : LfType) → is_atomic a ≡ true → atomic (conclusion_atom a) ≡ a
whole_atom (pi a b) is = absurd cc
whole_atom (family f args) is = refl

-- A binder of a shaped type is shaped under those before it, and the first of its arguments are shaped for these.
pub binder_is_shaped : {kinds : ℕ → Option SimpleType} {Γ : Scope} {type : LfType} → ShapedType kinds Γ type → (k : ℕ) (a : LfType) → type_at (binders_of type) k ≡ Some a →
    ShapedType kinds (under_all (shapes_of_types (take k (binders_of type))) Γ) a
binder_is_shaped (shaped_family s e ps) k a is = absurd cc
binder_is_shaped {kinds} {Γ} (shaped_pi {a = b} p q) zero a is = let same : b ≡ a = cc in subst (ShapedType kinds Γ) same p
binder_is_shaped (shaped_pi p q) (suc k) a is = binder_is_shaped q k a is

pub first_are_shaped : {Γ : Scope} (type : LfType) (k : ℕ) (a : LfType) (ts : Spine) → type_at (binders_of type) k ≡ Some a → ShapedSpine Γ ts (shape_of type) →
    ShapedSpine Γ (first_args k ts) (arrows (shapes_of_types (take k (binders_of type))) base)
first_are_shaped (family f args) k a ts is p = absurd cc
first_are_shaped (pi b c) zero a ts is p = shaped_none
first_are_shaped (pi b c) (suc k) a no_args is p = elim p [ ]
first_are_shaped (pi b c) (suc k) a (arg t ts) is (shaped_arg p ps) = shaped_arg p (first_are_shaped c k a ts is ps)

pub first_mention : (h : LfHead) (k : ℕ) (ts : Spine) → OccursInSpine h (first_args k ts) → OccursInSpine h ts
first_mention h zero ts o = elim o [ ]
first_mention h (suc k) no_args o = o
first_mention h (suc k) (arg t ts) (occurs_first _ _ _ o) = occurs_first h t ts o
first_mention h (suc k) (arg t ts) (occurs_later _ _ _ o) = occurs_later h t ts (first_mention h k ts o)

pub binder_mentions : (m : ℕ) (type : LfType) (k : ℕ) (a : LfType) → type_at (binders_of type) k ≡ Some a → OccursInType (metavariable m) a → OccursInType (metavariable m) type
binder_mentions m (family f args) k a is o = absurd cc
binder_mentions m (pi b c) zero a is o = let same : a ≡ b = cc in occurs_binder (metavariable m) b c (subst (OccursInType (metavariable m)) same o)
binder_mentions m (pi b c) (suc k) a is o = occurs_rest (metavariable m) b c (binder_mentions m c k a is o)

-- An argument without binders, with the terms before it substituted.
result_atom : (shapes : List SimpleType) (sub : Spine) (a : LfType) → is_atomic a ≡ true → atomic (conclusion_atom (result_of_type shapes sub a)) ≡ result_of_type shapes sub a
result_atom shapes sub (pi a b) is = absurd cc
result_atom shapes sub (family f args) is =
    let parts = results_go_part_by_part shapes sub in
    ap (λ x. atomic (conclusion_atom x)) (parts.2 f args) ∙ sym (parts.2 f args)

pub argument_is : (o : Option LfType) (shapes : List SimpleType) (sub : Spine) (other : LfAtom) (a : LfType) → o ≡ Some a → is_atomic a ≡ true →
    atomic (argument_atom o shapes sub other) ≡ result_of_type shapes sub a
argument_is o shapes sub other a is atom = ap (λ x. atomic (argument_atom x shapes sub other)) is ∙ result_atom shapes sub a atom

pub argument_is_shaped : (kinds : ℕ → Option SimpleType) (Γ : Scope) (type : LfType) (ts : Spine) (other : LfAtom) (k : ℕ) (a : LfType) → ShapedType kinds Γ type → ShapedSpine Γ ts (shape_of type) →
    type_at (binders_of type) k ≡ Some a → is_atomic a ≡ true →
    ShapedType kinds Γ (atomic (argument_atom (type_at (binders_of type) k) (shapes_of_types (take k (binders_of type))) (first_args k ts) other))
argument_is_shaped kinds Γ type ts other k a shaped terms is atom =
    let shapes = shapes_of_types (take k (binders_of type)) in
    let r = results_are_the_one_result kinds Γ shapes (first_args k ts) (first_are_shaped type k a ts is terms) in
    subst (ShapedType kinds Γ) (sym (argument_is (type_at (binders_of type) k) shapes (first_args k ts) other a is atom)) (r.2 a (binder_is_shaped shaped k a is)).1

pub argument_mentions : (m : ℕ) (type : LfType) (ts : Spine) (other : LfAtom) (k : ℕ) (a : LfType) → type_at (binders_of type) k ≡ Some a → is_atomic a ≡ true →
    OccursInType (metavariable m) (atomic (argument_atom (type_at (binders_of type) k) (shapes_of_types (take k (binders_of type))) (first_args k ts) other)) →
    OccursInType (metavariable m) type ⊎ OccursInSpine (metavariable m) ts
argument_mentions m type ts other k a is atom o =
    let shapes = shapes_of_types (take k (binders_of type)) in
    each ((results_mention_what_is_put shapes (first_args k ts) m).2 a (subst (OccursInType (metavariable m)) (argument_is (type_at (binders_of type) k) shapes (first_args k ts) other a is atom) o))
  where
    each : OccursInType (metavariable m) a ⊎ OccursInSpine (metavariable m) (first_args k ts) → OccursInType (metavariable m) type ⊎ OccursInSpine (metavariable m) ts
    each (inl p) = inl (binder_mentions m type k a is p)
    each (inr p) = inr (first_mention (metavariable m) k ts p)

-- What a spine mentions is its head, or mentioned by an argument.
pub head_or_argument : (h k : LfHead) (ts : Spine) → OccursIn h (at k ts) → (h ≡ k) ⊎ OccursInSpine h ts
head_or_argument h k ts (occurs_head _ _) = inl refl
head_or_argument h k ts (occurs_args _ _ _ o) = inr o

-- what a goal mentions
pub in_context : (h : LfHead) (ctx : Context) (end : LfType) → OccursInContext h ctx → OccursInType h (pis ctx end)
in_context h [] end o = elim o [ ]
in_context h (a ∷ ctx) end (occurs_entry _ _ _ o) = occurs_binder h a (pis ctx end) o
in_context h (a ∷ ctx) end (occurs_after _ _ _ o) = occurs_rest h a (pis ctx end) (in_context (next h) ctx end o)

pub in_target : (m : ℕ) (ctx : Context) (a : LfAtom) → OccursInSpine (metavariable m) a.atom_args → OccursInType (metavariable m) (pis ctx (atomic a))
in_target m [] a o = occurs_family (metavariable m) a.atom_family a.atom_args o
in_target m (b ∷ ctx) a o = occurs_rest (metavariable m) b (pis ctx (atomic a)) (in_target m ctx a o)

pub of_atom : (h : LfHead) (a : LfAtom) → OccursInType h (atomic a) → OccursInSpine h a.atom_args
of_atom h a (occurs_family _ _ _ o) = o

-- constants
constant_under_all : (ss : List SimpleType) (Γ : Scope) (c : ℕ) → under_all ss Γ (constant c) ≡ Γ (constant c)
constant_under_all [] Γ c = refl
constant_under_all (s ∷ ss) Γ c = constant_under_all ss (under s Γ) c

shape_of_constant : (types : List LfType) (c : ℕ) (a : LfType) → type_at types c ≡ Some a → shape_at (shapes_of_types types) c ≡ Some (shape_of a)
shape_of_constant [] c a is = absurd cc
shape_of_constant (b ∷ rest) zero a is = let same : b ≡ a = cc in ap (λ x. Some (shape_of x)) same
shape_of_constant (b ∷ rest) (suc c) a is = shape_of_constant rest c a is

All-type_at : (P : LfType → Type 0) (types : List LfType) (c : ℕ) (a : LfType) → All P types → type_at types c ≡ Some a → P a
All-type_at P [] c a all is = absurd cc
All-type_at P (b ∷ rest) zero a all is = let same : b ≡ a = cc in subst P same (All-head P b rest all)
All-type_at P (b ∷ rest) (suc c) a all is = All-type_at P rest c a (All-tail P b rest all) is

module _ (sig : LfSignature) (shaped : ShapedSignature sig) (c : ℕ) (type : LfType) (is : type_at (constant_types sig) c ≡ Some type) where
  pub constant_has_shape : (goals : List LfGoal) (ctx : Context) → scope_in sig goals ctx (constant c) ≡ Some (shape_of type)
  constant_has_shape goals ctx = constant_under_all (shapes_of_types ctx) (scope_in sig goals []) c ∙ shape_of_constant (constant_types sig) c type is

  pub constant_is_closed : ShapedTypeIn sig [] [] type
  constant_is_closed = All-type_at (ShapedTypeIn sig [] []) (constant_types sig) c type shaped.1 is

  pub constant_is_shaped : (goals : List LfGoal) (ctx : Context) → ShapedTypeIn sig goals ctx type
  constant_is_shaped goals ctx = ShapedType-grown constant_is_closed (scope_in sig goals ctx) grows
    where
      grows : ScopeGrows (scope_in sig [] []) (scope_in sig goals ctx)
      grows (bound n) s e = absurd cc
      grows (constant d) s e = constant_under_all (shapes_of_types ctx) (scope_in sig goals []) d ∙ e
      grows (metavariable m) s e = absurd cc

  pub constant_mentions_none : (m : ℕ) → OccursInType (metavariable m) type → ⊥
  constant_mentions_none m o = let x = HasShape-OccursInType constant_is_closed o in nothing x.1
    where
      nothing : {s : SimpleType} → None ≡ Some s → ⊥
      nothing e = absurd cc

-- equations between atoms
abbrev pub BothAre : (LfAtom → Type 0) → LfAtom × LfAtom → Type 0
BothAre P pair = P pair.0 × P pair.1

pub equations_shaped : (kinds : ℕ → Option SimpleType) (Γ : Scope) (i : ℕ) (equations : List (LfAtom × LfAtom)) → All (BothAre (λ a. ShapedType kinds Γ (atomic a))) equations →
    ShapedEquations kinds Γ (numbered_from i equations)
equations_shaped kinds Γ i [] all = All-nil (ShapedEquation kinds Γ)
equations_shaped kinds Γ i (pair ∷ rest) all =
    All-cons (ShapedEquation kinds Γ) (of_atoms (i ∷ []) pair.0 pair.1) (numbered_from (suc i) rest)
    (All-head (BothAre (λ a. ShapedType kinds Γ (atomic a))) pair rest all)
    (equations_shaped kinds Γ (suc i) rest (All-tail (BothAre (λ a. ShapedType kinds Γ (atomic a))) pair rest all))

abbrev pub MentionsOnly : (ℕ → Type 0) → LfAtom → Type 0
MentionsOnly P a = (m : ℕ) → OccursInSpine (metavariable m) a.atom_args → P m

pub equations_mention_only : (P : ℕ → Type 0) (i : ℕ) (equations : List (LfAtom × LfAtom)) → All (BothAre (MentionsOnly P)) equations → (m : ℕ) → MentionedBy (numbered_from i equations) m → P m
equations_mention_only P i [] all m o = elim o [ ]
equations_mention_only P i (pair ∷ rest) all m (in_first o) = each o
  where
    each : OccursInSpine (metavariable m) pair.0.atom_args ⊎ OccursInSpine (metavariable m) pair.1.atom_args → P m
    each (inl p) = (All-head (BothAre (MentionsOnly P)) pair rest all).0 m p
    each (inr p) = (All-head (BothAre (MentionsOnly P)) pair rest all).1 m p
equations_mention_only P i (pair ∷ rest) all m (in_rest o) = equations_mention_only P (suc i) rest (All-tail (BothAre (MentionsOnly P)) pair rest all) m o

-- The premises of a type stand in order.
pub premises_after : (i : ℕ) (type : LfType) → All (λ k. i ≤ k) (premises_from i type)
premises_after i (family f args) = All-nil (λ k. i ≤ k)
premises_after i (pi a b) =
    step (occurs_in_type (bound zero) b) (All-weaker (λ k. suc i ≤ k) (λ k. i ≤ k) (λ k less. omega (arith, less)) (premises_from (suc i) b) (premises_after (suc i) b))
  where
    step : (c : Bool) → All (λ k. i ≤ k) (premises_from (suc i) b) → All (λ k. i ≤ k) (if c then premises_from (suc i) b else i ∷ premises_from (suc i) b)
    step true later = later
    step false later = All-cons (λ k. i ≤ k) i (premises_from (suc i) b) (omega arith) later

pub premises_rise : (i : ℕ) (type : LfType) → AllPairs (λ x y. x < y) (premises_from i type)
premises_rise i (family f args) = λ a b d less within. absurd (omega (arith, within))
premises_rise i (pi a b) = step (occurs_in_type (bound zero) b) (premises_rise (suc i) b)
  where
    step : (c : Bool) → AllPairs (λ x y. x < y) (premises_from (suc i) b) → AllPairs (λ x y. x < y) (if c then premises_from (suc i) b else i ∷ premises_from (suc i) b)
    step true rise = rise
    step false rise =
        AllPairs-cons (λ x y. x < y) i (premises_from (suc i) b) (All-weaker (λ k. suc i ≤ k) (λ k. i < k) (λ k less. omega (arith, less)) (premises_from (suc i) b) (premises_after (suc i) b)) rise
