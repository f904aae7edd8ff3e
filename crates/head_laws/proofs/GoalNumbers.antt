-- Lists of goals: the metavariables that they mention are their own where they are well formed, and goals under other numbers.
use Rattle.std.proofs.Common.{◌≡◌, ◌≢◌, ℕ, zero, suc, ◌<◌, Bool, true, false, Some, List, [], ◌∷◌, map, length, All, AllPairs, refl, sym, ap, ap₂, ◌∙◌, subst, arith}
use Rattle.std.specs.Prelude.{Contains, nat_eq, if◌then◌else◌, slice_get, slice_index_or, option_map}
use Rattle.std.proofs.lemmas.Bool.{eqb-true}
use Rattle.std.proofs.lemmas.List.Elements.{All-nil, All-cons, All-head, All-tail, All-weaker, All-map}
use Rattle.std.proofs.lemmas.List.Kept.{AllPairs-cons}
use mathlib.Core.Path.{fun_ext}
use Rattle.lf_definitions.specs.Syntax.{LfHead, bound, constant, metavariable, Spine, LfType, atomic, Context, pis}
use Rattle.lf_definitions.specs.Renaming.{Renaming, lifted, rename_spine, rename_context}
use Rattle.lf_definitions.specs.Occurrence.{OccursInSpine, OccursInType, occurs_binder, occurs_rest, occurs_family, OccursInContext, occurs_entry, occurs_after, OccursInGoal}
use Rattle.lf_definitions.specs.Typing.{Typing, with_context, Kinds, Formed, formed_pi, FormedContext, formed_empty, formed_entry, LfGoal, goal_type, type_of_metavariable}
use Rattle.lf_definitions.specs.Signatures.{LfSignature, kinds_in, typing_in}
use Rattle.lf_definitions.specs.GoalLists.{ids, AreDistinct, AreClosed, FormedGoal, FormedGoals}
use Rattle.lf_definitions.specs.Instantiation.{metavariables, rename_goal, IsInjective}
use Rattle.lf_definitions.proofs.Renaming.{after, lifted-after, same_head, rename_spine-rename_spine, rename_type-rename_type, rename_spine-same_head, rename_type-same_head, lifted-same_head}
use Rattle.head_laws.specs.Renumbering.{place_of_number, canon, up_to}
use Rattle.head_laws.proofs.Occurrence.{rename_spine-agree, rename_context-agree, came_type}
use Rattle.head_laws.proofs.Metavariables.{goal_type-rename_goal}
use Rattle.head_laws.proofs.Lookups.{has_type_type}
use Rattle.head_laws.proofs.Numbers.{Contains-here, Contains-later, up_to-place_of_number, place_of_number-map, AllPairs-head, AllPairs-tail, place_of_number-at}

-- well-formed binders over a well-formed type
pub Formed-pis : {kinds : Kinds} {Γ : Typing} {ctx : Context} → FormedContext kinds Γ ctx → (a : LfType) → Formed kinds (with_context ctx Γ) a → Formed kinds Γ (pis ctx a)
Formed-pis formed_empty a q = q
Formed-pis (formed_entry p ps) a q = formed_pi p (Formed-pis ps a q)

-- a number whose goal is known
Contains-type_of_metavariable : (goals : List LfGoal) (n : ℕ) (a : LfType) → type_of_metavariable goals n ≡ Some a → Contains (ids goals) n
Contains-type_of_metavariable [] n a e = absurd cc
Contains-type_of_metavariable (g ∷ rest) n a e = each (nat_eq g.id n) refl (λ f. Contains-type_of_metavariable rest n a f)
  where
    each : (b : Bool) → nat_eq g.id n ≡ b → (type_of_metavariable rest n ≡ Some a → Contains (ids rest) n) → Contains (ids (g ∷ rest)) n
    each true is later = subst (Contains (ids (g ∷ rest))) (eqb-true g.id n is) (Contains-here g.id (ids rest))
    each false is later =
        Contains-later g.id (ids rest) n (later (sym (ap (λ b. if b then Some (goal_type g) else type_of_metavariable rest n) is) ∙ e))

pub AreClosed-FormedGoals : (sig : LfSignature) (goals : List LfGoal) → FormedGoals sig goals → AreClosed goals
AreClosed-FormedGoals sig goals formed =
    All-weaker (FormedGoal sig goals) (λ g. (n : ℕ) → OccursInGoal (metavariable n) g → Contains (ids goals) n) each goals formed.1
  where
    each : (g : LfGoal) → FormedGoal sig goals g → (n : ℕ) → OccursInGoal (metavariable n) g → Contains (ids goals) n
    each g p n o =
        let whole : Formed (kinds_in sig) (typing_in sig goals []) (goal_type g) = Formed-pis p.0 (atomic g.target) p.1 in
        let known = has_type_type whole (metavariable n) o in
        Contains-type_of_metavariable goals n known.0 known.1

-- one renaming after another, in a context and in a goal
rename_context-rename_context : (ctx : Context) (ζ ξ : Renaming) → rename_context ζ (rename_context ξ ctx) ≡ rename_context (after ζ ξ) ctx
rename_context-rename_context [] ζ ξ = refl
rename_context-rename_context (a ∷ rest) ζ ξ =
    ap₂ (λ b more. b ∷ more) (rename_type-rename_type a ζ ξ)
    (rename_context-rename_context rest (lifted ζ) (lifted ξ) ∙ ap (λ θ. rename_context θ rest) (fun_ext (lifted-after ζ ξ)))

pub rename_context-same_head : (ctx : Context) → rename_context same_head ctx ≡ ctx
rename_context-same_head [] = refl
rename_context-same_head (a ∷ rest) = ap₂ (λ b more. b ∷ more) (rename_type-same_head a) (ap (λ θ. rename_context θ rest) (fun_ext lifted-same_head) ∙ rename_context-same_head rest)

metavariables-after : (ζ ρ : ℕ → ℕ) (h : LfHead) → metavariables ζ (metavariables ρ h) ≡ metavariables (λ n. ζ (ρ n)) h
metavariables-after ζ ρ (bound n) = refl
metavariables-after ζ ρ (constant c) = refl
metavariables-after ζ ρ (metavariable g) = refl

abbrev goal_of : ℕ → Context → ℕ → Spine → LfGoal
goal_of id context f args = record { id = id; context = context; target = record { atom_family = f; atom_args = args } }

pub rename_goal-rename_goal : (ζ ρ : ℕ → ℕ) (g : LfGoal) → rename_goal ζ (rename_goal ρ g) ≡ rename_goal (λ n. ζ (ρ n)) g
rename_goal-rename_goal ζ ρ g =
    let both : after (metavariables ζ) (metavariables ρ) ≡ metavariables (λ n. ζ (ρ n)) = fun_ext (metavariables-after ζ ρ) in
    ap₂ (λ context args. goal_of (ζ (ρ g.id)) context g.target.atom_family args)
    (rename_context-rename_context g.context (metavariables ζ) (metavariables ρ) ∙ ap (λ ξ. rename_context ξ g.context) both)
    (rename_spine-rename_spine g.target.atom_args (metavariables ζ) (metavariables ρ) ∙ ap (λ ξ. rename_spine ξ g.target.atom_args) both)

-- what a goal's context and its target mention
OccursInType-pis : (ctx : Context) (a : LfType) (g : ℕ) → OccursInContext (metavariable g) ctx → OccursInType (metavariable g) (pis ctx a)
OccursInType-pis [] a g o = elim o [ ]
OccursInType-pis (b ∷ rest) a g (occurs_entry _ _ _ o) = occurs_binder (metavariable g) b (pis rest a) o
OccursInType-pis (b ∷ rest) a g (occurs_after _ _ _ o) = occurs_rest (metavariable g) b (pis rest a) (OccursInType-pis rest a g o)

OccursInType-pis_end : (ctx : Context) (a : LfType) (g : ℕ) → OccursInType (metavariable g) a → OccursInType (metavariable g) (pis ctx a)
OccursInType-pis_end [] a g o = o
OccursInType-pis_end (b ∷ rest) a g o = occurs_rest (metavariable g) b (pis rest a) (OccursInType-pis_end rest a g o)

-- A goal stays as it is where the numbers that it mentions do, and its own.
pub rename_goal-stays : (ρ : ℕ → ℕ) (g : LfGoal) → ρ g.id ≡ g.id → ((n : ℕ) → OccursInGoal (metavariable n) g → ρ n ≡ n) → rename_goal ρ g ≡ g
rename_goal-stays ρ g own stay =
    ap (λ id. goal_of id (rename_context (metavariables ρ) g.context) g.target.atom_family (rename_spine (metavariables ρ) g.target.atom_args)) own
    ∙ ap₂ (λ context args. goal_of g.id context g.target.atom_family args)
    (rename_context-agree g.context (metavariables ρ) same_head in_context ∙ rename_context-same_head g.context)
    (rename_spine-agree g.target.atom_args (metavariables ρ) same_head in_target ∙ rename_spine-same_head g.target.atom_args)
  where
    in_context : (h : LfHead) → OccursInContext h g.context → metavariables ρ h ≡ same_head h
    in_context (bound n) o = refl
    in_context (constant c) o = refl
    in_context (metavariable n) o = ap metavariable (stay n (OccursInType-pis g.context (atomic g.target) n o))

    in_target : (h : LfHead) → OccursInSpine h g.target.atom_args → metavariables ρ h ≡ same_head h
    in_target (bound n) o = refl
    in_target (constant c) o = refl
    in_target (metavariable n) o =
        ap metavariable (stay n (OccursInType-pis_end g.context (atomic g.target) n (occurs_family (metavariable n) g.target.atom_family g.target.atom_args o)))

-- numbers
pub ids-rename_goal : (ρ : ℕ → ℕ) (goals : List LfGoal) → ids (map (rename_goal ρ) goals) ≡ map ρ (ids goals)
ids-rename_goal ρ [] = refl
ids-rename_goal ρ (g ∷ rest) = ap (λ ns. ρ g.id ∷ ns) (ids-rename_goal ρ rest)

own_numbers : (goals : List LfGoal) → All (λ g. Contains (ids goals) g.id) goals
own_numbers [] = All-nil (λ g. Contains (ids []) g.id)
own_numbers (g ∷ rest) =
    All-cons (λ m. Contains (ids (g ∷ rest)) m.id) g rest (Contains-here g.id (ids rest))
    (All-weaker (λ m. Contains (ids rest) m.id) (λ m. Contains (ids (g ∷ rest)) m.id) (λ m has. Contains-later g.id (ids rest) m.id has) rest (own_numbers rest))

map_map-stays : (ζ ρ : ℕ → ℕ) (xs : List LfGoal) → All (λ g. rename_goal ζ (rename_goal ρ g) ≡ g) xs → map (rename_goal ζ) (map (rename_goal ρ) xs) ≡ xs
map_map-stays ζ ρ [] all = refl
map_map-stays ζ ρ (g ∷ rest) all =
    ap₂ (λ x xs. x ∷ xs) (All-head (λ m. rename_goal ζ (rename_goal ρ m) ≡ m) g rest all) (map_map-stays ζ ρ rest (All-tail (λ m. rename_goal ζ (rename_goal ρ m) ≡ m) g rest all))

pub canon-undone : (goals : List LfGoal) (n : ℕ) → AreClosed goals → map (rename_goal (up_to (ids goals) n)) (canon goals) ≡ goals
canon-undone goals n closed = map_map-stays (up_to (ids goals) n) (place_of_number (ids goals)) goals each
  where
    each : All (λ g. rename_goal (up_to (ids goals) n) (rename_goal (place_of_number (ids goals)) g) ≡ g) goals
    each k d within =
        let g = slice_index_or goals k d in
        rename_goal-rename_goal (up_to (ids goals) n) (place_of_number (ids goals)) g
        ∙ rename_goal-stays (λ m. up_to (ids goals) n (place_of_number (ids goals) m)) g
        (up_to-place_of_number (ids goals) n g.id (own_numbers goals k d within))
        (λ m o. up_to-place_of_number (ids goals) n m (closed k d within m o))

map_map : (ζ ρ : ℕ → ℕ) (xs : List LfGoal) → map (rename_goal ζ) (map (rename_goal ρ) xs) ≡ map (rename_goal (λ n. ζ (ρ n))) xs
map_map ζ ρ [] = refl
map_map ζ ρ (g ∷ rest) = ap₂ (λ x xs. x ∷ xs) (rename_goal-rename_goal ζ ρ g) (map_map ζ ρ rest)

pub canon-rename_goal : (ρ : ℕ → ℕ) → IsInjective ρ → (goals : List LfGoal) → canon (map (rename_goal ρ) goals) ≡ canon goals
canon-rename_goal ρ injective goals =
    ap (λ ns. map (rename_goal (place_of_number ns)) (map (rename_goal ρ) goals)) (ids-rename_goal ρ goals)
    ∙ map_map (place_of_number (map ρ (ids goals))) ρ goals
    ∙ ap (λ π. map (rename_goal π) goals) (fun_ext (place_of_number-map ρ injective (ids goals)))

-- numbers that differ
pub distinct_ids : (goals : List LfGoal) → AreDistinct goals → AllPairs (λ m k. m ≢ k) (ids goals)
distinct_ids [] distinct = λ i j d less within. absurd (omega arith)
distinct_ids (g ∷ rest) distinct =
    AllPairs-cons (λ m k. m ≢ k) g.id (ids rest) (All-map (λ k. g.id ≢ k) (λ m. m.id) rest (AllPairs-head (λ x y. x.id ≢ y.id) g rest distinct))
    (distinct_ids rest (AllPairs-tail (λ x y. x.id ≢ y.id) g rest distinct))

goal_of_id : (goals : List LfGoal) (i : ℕ) → i < length (ids goals) → (m : ℕ) × (slice_get (ids goals) i ≡ Some m)
goal_of_id [] i less = absurd (omega arith)
goal_of_id (g ∷ rest) zero less = (g.id, refl)
goal_of_id (g ∷ rest) (suc i) less = goal_of_id rest i (omega arith)

slice_get-map : (f : ℕ → ℕ) (ns : List ℕ) (i m : ℕ) → slice_get ns i ≡ Some m → slice_get (map f ns) i ≡ Some (f m)
slice_get-map f [] i m e = absurd cc
slice_get-map f (n ∷ ns) zero m e = ap (option_map f) e
slice_get-map f (n ∷ ns) (suc i) m e = slice_get-map f ns i m e

length-ids : (goals : List LfGoal) → length (ids goals) ≡ length goals
length-ids [] = refl
length-ids (g ∷ rest) = ap suc (length-ids rest)

pub canon-numbers : (goals : List LfGoal) → AreDistinct goals → (i : ℕ) → i < length goals → slice_get (ids (canon goals)) i ≡ Some i
canon-numbers goals distinct i less =
    let counted = length-ids goals in
    let within : i < length (ids goals) = omega arith in
    let found = goal_of_id goals i within in
    ap (λ ns. slice_get ns i) (ids-rename_goal (place_of_number (ids goals)) goals)
    ∙ slice_get-map (place_of_number (ids goals)) (ids goals) i found.0 found.1
    ∙ ap Some (place_of_number-at (ids goals) i found.0 (distinct_ids goals distinct) within found.1)

-- goals that are closed stay so
Contains-map : (f : ℕ → ℕ) (ns : List ℕ) (n : ℕ) → Contains ns n → Contains (map f ns) (f n)
Contains-map f [] n has = let less = has.1 in absurd (omega arith)
Contains-map f (m ∷ rest) n (zero, less, same) = subst (λ k. Contains (map f (m ∷ rest)) k) (ap f same) (Contains-here (f m) (map f rest))
Contains-map f (m ∷ rest) n (suc i, less, same) = Contains-later (f m) (map f rest) (f n) (Contains-map f rest n (i, omega arith, same))

pub AreClosed-rename_goal : (ρ : ℕ → ℕ) (goals : List LfGoal) → AreClosed goals → AreClosed (map (rename_goal ρ) goals)
AreClosed-rename_goal ρ goals closed =
    All-map (λ g. (n : ℕ) → OccursInGoal (metavariable n) g → Contains (ids (map (rename_goal ρ) goals)) n) (rename_goal ρ) goals
    (All-weaker (λ g. (n : ℕ) → OccursInGoal (metavariable n) g → Contains (ids goals) n)
    (λ g. (n : ℕ) → OccursInGoal (metavariable n) (rename_goal ρ g) → Contains (ids (map (rename_goal ρ) goals)) n) each goals closed)
  where
    head_of : (n : ℕ) (k : LfHead) → metavariable n ≡ metavariables ρ k → (m : ℕ) × (k ≡ metavariable m) × (n ≡ ρ m)
    head_of n (bound m) e = absurd cc
    head_of n (constant c) e = absurd cc
    head_of n (metavariable m) e = (m, refl, cc)

    each : (g : LfGoal) → ((n : ℕ) → OccursInGoal (metavariable n) g → Contains (ids goals) n) → (n : ℕ) → OccursInGoal (metavariable n) (rename_goal ρ g) → Contains (ids (map (rename_goal ρ) goals)) n
    each g mentions n o =
        let came = came_type (goal_type g) (metavariables ρ) (metavariable n) (subst (OccursInType (metavariable n)) (goal_type-rename_goal ρ g) o) in
        let head = head_of n came.0 came.2 in
        let old : Contains (ids goals) head.0 = mentions head.0 (subst (λ k. OccursInType k (goal_type g)) head.1 came.1) in
        subst (λ ns. Contains ns n) (sym (ids-rename_goal ρ goals)) (subst (Contains (map ρ (ids goals))) (sym head.2) (Contains-map ρ (ids goals) head.0 old))

pub AreDistinct-rename_goal : (ρ : ℕ → ℕ) → IsInjective ρ → (goals : List LfGoal) → AreDistinct goals → AreDistinct (map (rename_goal ρ) goals)
AreDistinct-rename_goal ρ injective [] distinct = λ i j d less within. absurd (omega arith)
AreDistinct-rename_goal ρ injective (g ∷ rest) distinct =
    AllPairs-cons (λ x y. x.id ≢ y.id) (rename_goal ρ g) (map (rename_goal ρ) rest)
    (All-map (λ y. ρ g.id ≢ y.id) (rename_goal ρ) rest
    (All-weaker (λ y. g.id ≢ y.id) (λ y. ρ g.id ≢ ρ y.id) (λ y differ e. differ (injective g.id y.id e)) rest (AllPairs-head (λ x y. x.id ≢ y.id) g rest distinct)))
    (AreDistinct-rename_goal ρ injective rest (AllPairs-tail (λ x y. x.id ≢ y.id) g rest distinct))

-- so do those whose numbers can be told from the new ones
AreDistinct-undone : (υ ρ : ℕ → ℕ) (goals : List LfGoal) → All (λ g. υ (ρ g.id) ≡ g.id) goals → AreDistinct goals → AreDistinct (map (rename_goal ρ) goals)
AreDistinct-undone υ ρ [] undone distinct = λ i j d less within. absurd (omega arith)
AreDistinct-undone υ ρ (g ∷ rest) undone distinct =
    let own : υ (ρ g.id) ≡ g.id = All-head (λ x. υ (ρ x.id) ≡ x.id) g rest undone in
    let others : All (λ x. υ (ρ x.id) ≡ x.id) rest = All-tail (λ x. υ (ρ x.id) ≡ x.id) g rest undone in
    let apart : All (λ y. g.id ≢ y.id) rest = AllPairs-head (λ x y. x.id ≢ y.id) g rest distinct in
    AllPairs-cons (λ x y. x.id ≢ y.id) (rename_goal ρ g) (map (rename_goal ρ) rest)
    (All-map (λ y. ρ g.id ≢ y.id) (rename_goal ρ) rest (λ k d within e. apart k d within (sym own ∙ ap υ e ∙ others k d within)))
    (AreDistinct-undone υ ρ rest others (AllPairs-tail (λ x y. x.id ≢ y.id) g rest distinct))

pub AreDistinct-canon : (goals : List LfGoal) → AreDistinct goals → AreDistinct (canon goals)
AreDistinct-canon goals =
    AreDistinct-undone (up_to (ids goals) 0) (place_of_number (ids goals)) goals
    (All-weaker (λ g. Contains (ids goals) g.id) (λ g. up_to (ids goals) 0 (place_of_number (ids goals) g.id) ≡ g.id) (λ g has. up_to-place_of_number (ids goals) 0 g.id has) goals (own_numbers goals))
