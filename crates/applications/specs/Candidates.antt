-- What rules offer for a goal, from the goal alone.
use Rattle.std.specs.Prelude.{ℕ, zero, suc, List, [], ◌∷◌, ◌++◌, map, length, take, Bool, true, false, not, ◌&&◌, ◌||◌, Option, Some, None, if◌then◌else◌, nat_eq}
use Rattle.std.specs.List.{list_any}
use Rattle.lf_definitions.specs.Syntax.{LfHead, bound, constant, Spine, no_args, arg, SimpleType, LfType, pi, family, LfAtom, Context, binders_of, conclusion_atom, shapes_of_types}
use Rattle.lf_definitions.specs.Renaming.{next, next_by, rename_type}
use Rattle.lf_definitions.specs.Typing.{LfGoal, type_at}
use Rattle.lf_definitions.specs.Signatures.{LfSignature, constant_types}
use Rattle.head_laws.specs.Mentions.{occurs_in_type, occurs_in_spine, occurs_in_context}
use Rattle.lf_functions.specs.Instances.{result_of_type}
use Rattle.opening_laws.specs.Openings.{LfOpened, context_variable, is_kept, fixed_to}
use Rattle.applications.specs.OpenedTypes.{opening_of}
use Rattle.applications.specs.Methods.{Method, applies, constructs, splits, goes_forward, takes_apart, assumes, uses_hypotheses, LfLabel, closes, adds, LfCandidate}

-- the numbers below another, the least first
abbrev pub counting_from : ℕ → ℕ → List ℕ
counting_from n zero = []
counting_from n (suc count) = n ∷ counting_from (suc n) count

-- the places of a context
abbrev pub places_of : Context → List ℕ
places_of ctx = counting_from 0 (length ctx)

-- For each binder of a type, whether it is a premise: it occurs in no later binder and not in the conclusion.
abbrev pub premise_marks : LfType → List Bool
premise_marks (family f args) = []
premise_marks (pi a b) = not (occurs_in_type (bound zero) b) ∷ premise_marks b

abbrev pub skipping : Option ℕ → Bool → List Bool → List Bool
skipping None mark rest = mark ∷ rest
skipping (Some place) mark rest = rest

-- the marks of the arguments from the i-th on that aren't fixed
abbrev pub unfixed_marks : List (ℕ × ℕ) → ℕ → List Bool → List Bool
unfixed_marks fixed i [] = []
unfixed_marks fixed i (mark ∷ rest) = skipping (fixed_to fixed i) mark (unfixed_marks fixed (suc i) rest)

-- the numbers of the premises, from the i-th binder on
abbrev pub premises_from : ℕ → LfType → List ℕ
premises_from i (family f args) = []
premises_from i (pi a b) = if occurs_in_type (bound zero) b then premises_from (suc i) b else i ∷ premises_from (suc i) b

abbrev pub is_atomic : LfType → Bool
is_atomic (pi a b) = false
is_atomic (family f args) = true

-- a hypothesis with its type, as it is seen from the whole context
pub record LfHypothesis : Type 0 where
  pub place : ℕ
  pub type : LfType

-- those of the entries from a place on
abbrev pub hypotheses_from : ℕ → Context → List LfHypothesis
hypotheses_from place [] = []
hypotheses_from place (a ∷ rest) = record { place = place; type = rename_type (next_by (suc (length rest))) a } ∷ hypotheses_from (suc place) rest

abbrev pub hypotheses_of : Context → List LfHypothesis
hypotheses_of ctx = hypotheses_from 0 ctx

abbrev pub are_atomic : List LfHypothesis → List LfHypothesis
are_atomic [] = []
are_atomic (h ∷ rest) = if is_atomic h.type then h ∷ are_atomic rest else are_atomic rest

abbrev pub have_binders : List LfHypothesis → List LfHypothesis
have_binders [] = []
have_binders (h ∷ rest) = if is_atomic h.type then have_binders rest else h ∷ have_binders rest

-- The equations between what an opened type ends in and the target.
abbrev pub meets_target : LfGoal → LfOpened → List (LfAtom × LfAtom)
meets_target g opened = (opened.end, g.target) ∷ []

-- A head with all of the context kept and nothing fixed, whose conclusion is to be the target.
abbrev pub backward : LfLabel → LfHead → LfType → LfGoal → ℕ → LfCandidate
backward label h type g n =
    let opened = opening_of g.context (places_of g.context) [] n type in
    record { label = label; head = h; opened = opened; are_proofs = premise_marks type; equations = meets_target g opened; outcome = closes }

-- the type of a constant, as a list of none or one
abbrev pub where_some : {A B : Type 0} → Option A → (A → List B) → List B
where_some None f = []
where_some (Some a) f = f a

abbrev pub each : {A B : Type 0} → List A → (A → List B) → List B
each [] f = []
each (a ∷ rest) f = f a ++ each rest f

-- The constants of a list of constructors, each as `applies`, by their places in the list.
abbrev pub constructed : ℕ → LfSignature → ℕ → List ℕ → LfGoal → ℕ → List LfCandidate
constructed rule sig place [] g n = []
constructed rule sig place (c ∷ rest) g n =
    where_some (type_at (constant_types sig) c) (λ type. backward (record { of_rule = rule; choice = place; hypotheses = [] }) (constant c) type g n ∷ [])
    ++ constructed rule sig (suc place) rest g n

-- a hypothesis as a head
abbrev pub by_hypothesis : ℕ → LfGoal → ℕ → LfHypothesis → List LfCandidate
by_hypothesis rule g n h =
    backward (record { of_rule = rule; choice = 0; hypotheses = h.place ∷ [] }) (context_variable (length g.context) h.place) h.type g n ∷ []

-- the first terms of a spine
abbrev pub first_args : ℕ → Spine → Spine
first_args zero ts = no_args
first_args (suc k) no_args = no_args
first_args (suc k) (arg t ts) = arg t (first_args k ts)

abbrev pub argument_atom : Option LfType → List SimpleType → Spine → LfAtom → LfAtom
argument_atom None shapes ts other = other
argument_atom (Some a) shapes ts other = conclusion_atom (result_of_type shapes ts a)

-- The type of an argument of an opened type, which has no binders, with the terms before it substituted.
abbrev pub argument_type : LfType → LfOpened → ℕ → LfAtom
argument_type type opened k = argument_atom (type_at (binders_of type) k) (shapes_of_types (take k (binders_of type))) (first_args k opened.terms) opened.end

-- Some hypothesis but this one mentions the variable at a place.
abbrev pub mentioned_by_others : Context → ℕ → Bool
mentioned_by_others ctx place =
    list_any (λ h. not (nat_eq h.place place) && occurs_in_type (context_variable (length ctx) place) h.type) (hypotheses_of ctx)

-- The binder of a type at a place occurs in a later binder.
abbrev pub occurs_later : LfType → ℕ → Bool
occurs_later (family f args) k = false
occurs_later (pi a b) zero = occurs_in_context (bound zero) (binders_of b)
occurs_later (pi a b) (suc k) = occurs_later b k

-- A head occurs in what a type ends in, under its binders.
abbrev pub occurs_under : LfHead → LfType → Bool
occurs_under h (family f args) = occurs_in_spine h args
occurs_under h (pi a b) = occurs_under (next h) b

-- It occurs in the conclusion.
abbrev pub occurs_at_end : LfType → ℕ → Bool
occurs_at_end (family f args) k = false
occurs_at_end (pi a b) zero = occurs_under (bound zero) b
occurs_at_end (pi a b) (suc k) = occurs_at_end b k

-- All places but those of `dropped`.
abbrev pub without : List ℕ → List ℕ → List ℕ
without dropped [] = []
without dropped (place ∷ rest) = if is_kept dropped place then without dropped rest else place ∷ without dropped rest

-- Splitting a hypothesis drops it from the context exactly where no other hypothesis mentions it, the major argument occurs in no later one, and the major argument occurs
-- in the conclusion, or the target does not mention the hypothesis.
abbrev pub drops : LfType → ℕ → LfGoal → ℕ → Bool
drops type major g place =
    not (mentioned_by_others g.context place)
    && (not (occurs_later type major)
    && (occurs_at_end type major || not (occurs_in_spine (context_variable (length g.context) place) g.target.atom_args)))

abbrev pub kept_by_splitting : LfType → ℕ → LfGoal → ℕ → List ℕ
kept_by_splitting type major g place = if drops type major g place then without (place ∷ []) (places_of g.context) else places_of g.context

-- A constant whose major argument is a hypothesis without binders.
abbrev pub split : ℕ → ℕ → LfType → ℕ → LfGoal → ℕ → LfHypothesis → List LfCandidate
split rule c type major g n h =
    let opened = opening_of g.context (kept_by_splitting type major g h.place) ((major, h.place) ∷ []) n type in
    record {
      label = record { of_rule = rule; choice = 0; hypotheses = h.place ∷ [] };
      head = constant c;
      opened = opened;
      are_proofs = unfixed_marks ((major, h.place) ∷ []) 0 (premise_marks type);
      equations = (argument_type type opened major, conclusion_atom h.type) ∷ meets_target g opened;
      outcome = closes;
    } ∷ []

-- tuples of hypotheses, in lexicographic order
abbrev pub tuples : ℕ → List LfHypothesis → List (List LfHypothesis)
tuples zero hypotheses = [] ∷ []
tuples (suc count) hypotheses = each hypotheses (λ h. map (λ rest. h ∷ rest) (tuples count hypotheses))

abbrev pub paired : List ℕ → List LfHypothesis → List (ℕ × ℕ)
paired [] hs = []
paired (i ∷ rest) [] = []
paired (i ∷ rest) (h ∷ hs) = (i, h.place) ∷ paired rest hs

-- each premise with its hypothesis
abbrev pub premise_equations : LfType → LfOpened → List ℕ → List LfHypothesis → List (LfAtom × LfAtom)
premise_equations type opened [] hs = []
premise_equations type opened (i ∷ rest) [] = []
premise_equations type opened (i ∷ rest) (h ∷ hs) = (argument_type type opened i, conclusion_atom h.type) ∷ premise_equations type opened rest hs

-- A constant whose premises are a tuple of hypotheses, so that its conclusion is one more, with these places kept then.
abbrev pub onward : ℕ → ℕ → LfType → LfGoal → ℕ → List ℕ → List LfHypothesis → LfCandidate
onward rule c type g n kept hs =
    let fixed = paired (premises_from 0 type) hs in
    let opened = opening_of g.context (places_of g.context) fixed n type in
    record {
      label = record { of_rule = rule; choice = 0; hypotheses = map (λ h. h.place) hs };
      head = constant c;
      opened = opened;
      are_proofs = unfixed_marks fixed 0 (premise_marks type);
      equations = premise_equations type opened (premises_from 0 type) hs;
      outcome = adds kept;
    }

-- What a rule of this number and method offers for a goal, in order, with fresh numbers from `n` on.
abbrev pub candidates : LfSignature → ℕ → Method → LfGoal → ℕ → List LfCandidate
candidates sig rule (applies c) g n =
    where_some (type_at (constant_types sig) c) (λ type. backward (record { of_rule = rule; choice = 0; hypotheses = [] }) (constant c) type g n ∷ [])
candidates sig rule (constructs constants) g n = constructed rule sig 0 constants g n
candidates sig rule (splits c major) g n = where_some (type_at (constant_types sig) c) (λ type. each (are_atomic (hypotheses_of g.context)) (split rule c type major g n))
candidates sig rule (goes_forward c) g n =
    where_some (type_at (constant_types sig) c) (λ type.
    map (onward rule c type g n (places_of g.context)) (tuples (length (premises_from 0 type)) (are_atomic (hypotheses_of g.context))))
candidates sig rule (takes_apart c) g n =
    where_some (type_at (constant_types sig) c) (λ type.
    map (λ hs. onward rule c type g n (without (map (λ h. h.place) hs) (places_of g.context)) hs) (tuples (length (premises_from 0 type)) (are_atomic (hypotheses_of g.context))))
candidates sig rule assumes g n = each (are_atomic (hypotheses_of g.context)) (by_hypothesis rule g n)
candidates sig rule uses_hypotheses g n = each (have_binders (hypotheses_of g.context)) (by_hypothesis rule g n)
