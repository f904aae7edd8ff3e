-- Terms, types and goals with other numbers for their metavariables, part by part, and lists that are numbered.
use Rattle.std.proofs.Common.{◌≡◌, ◌≢◌, ℕ, zero, suc, ◌+◌, ◌<◌, Bool, false, List, [], ◌∷◌, ◌++◌, length, get_or, take, map, length-append, AllPairs, refl, sym, ap, ap₂, ◌∙◌, subst, arith}
use Rattle.std.specs.Prelude.{Contains, nat_eq, ◌||◌}
use Rattle.std.specs.List.{list_any}
use Rattle.std.proofs.lemmas.Bool.{ne_eqb}
use Rattle.std.proofs.lemmas.List.{map-append, append_assoc}
use Rattle.std.proofs.lemmas.List.Elements.{All-contains, Contains-append_right}
use Rattle.lf_definitions.specs.Syntax.{LfHead, bound, constant, metavariable, LfTerm, lam, at, Spine, no_args, arg, joined, LfType, family, pis, Context}
use Rattle.lf_definitions.specs.Renaming.{rename, rename_spine, rename_type, rename_context}
use Rattle.lf_definitions.specs.Typing.{LfGoal}
use Rattle.lf_definitions.specs.GoalLists.{LfGoals, all_goals, ids, AreDistinct}
use Rattle.lf_definitions.specs.Instantiation.{metavariables, rename_goal}
use Rattle.lf_definitions.proofs.Renaming.{same_head, rename-same_head, rename_spine-same_head}
use Rattle.head_laws.proofs.GoalNumbers.{rename_context-same_head, distinct_ids}
use Rattle.head_laws.proofs.Metavariables.{lifted-metavariables, rename_type-pis_metavariables}
use Rattle.head_laws.proofs.Numbers.{Contains-here, Contains-later, AllPairs-head, AllPairs-tail}
use Rattle.head_laws.proofs.Occurrence.{rename-agree, rename_spine-agree, rename_context-agree}
use Rattle.lf_terms.specs.declared.goal.Goal.{Goal}
use Rattle.lf_terms.specs.declared.term.Term.{Term}
use Rattle.lf_terms.specs.declared.ty.Ty.{Ty}
use Rattle.lf_terms.specs.Targets.{goal_of}
use Rattle.lf_terms.specs.Terms.{term_of, spine_of}
use Rattle.lf_terms.specs.Types.{type_of, types_of}
use Rattle.lf_terms.specs.Extents.{ExcludesMetavariables, InTerm, InSpine, InContext}
use Rattle.lf_terms.proofs.Spines.{take_more_spine, spine_of-append}
use Rattle.lf_terms.proofs.TypeLists.{types_of-append, types_of-take_more}
use Rattle.lf_terms.proofs.ShapeLists.{take_read}
use Rattle.goal_lists.specs.Numbering.{renumbered, numbered_pairs}
use Rattle.meta_goals.proofs.LeftGoals.{All-first}
use Rattle.head_laws.specs.Renumbering.{place_of_number}
use Rattle.std.proofs.lemmas.List.Kept.{AllPairs-cons}

module _ (ρ : ℕ → ℕ) where
  kept : (Occurring : LfHead → Type 0) → ExcludesMetavariables Occurring → (h : LfHead) → Occurring h → metavariables ρ h ≡ same_head h
  kept Occurring none (bound n) here = refl
  kept Occurring none (constant c) here = refl
  kept Occurring none (metavariable g) here = absurd (none g here)

  -- What has no metavariable stays.
  pub term_kept : (t : LfTerm) → ExcludesMetavariables (InTerm t) → t ≡ rename (metavariables ρ) t
  term_kept t none = sym (rename-agree t (metavariables ρ) same_head (kept (InTerm t) none) ∙ rename-same_head t)

  pub spine_kept : (ts : Spine) → ExcludesMetavariables (InSpine ts) → ts ≡ rename_spine (metavariables ρ) ts
  spine_kept ts none = sym (rename_spine-agree ts (metavariables ρ) same_head (kept (InSpine ts) none) ∙ rename_spine-same_head ts)

  pub context_kept : (ctx : Context) → ExcludesMetavariables (InContext ctx) → ctx ≡ rename_context (metavariables ρ) ctx
  context_kept ctx none = sym (rename_context-agree ctx (metavariables ρ) same_head (kept (InContext ctx) none) ∙ rename_context-same_head ctx)

  pub lam_renamed : (t b r made : LfTerm) → t ≡ lam b → r ≡ rename (metavariables ρ) b → made ≡ r → lam made ≡ rename (metavariables ρ) t
  lam_renamed t b r made is here same = ap lam (same ∙ here) ∙ sym (ap (rename (metavariables ρ)) is ∙ ap (λ ξ. lam (rename ξ b)) (lifted-metavariables ρ))

  pub at_renamed : (t : LfTerm) (h k : LfHead) (ts rs : Spine) → t ≡ at h ts → k ≡ metavariables ρ h → rs ≡ rename_spine (metavariables ρ) ts → at k rs ≡ rename (metavariables ρ) t
  at_renamed t h k ts rs is head args = ap₂ at head args ∙ sym (ap (rename (metavariables ρ)) is)

  rename_spine-joined : (ts : Spine) (t : LfTerm) → rename_spine (metavariables ρ) (joined ts (arg t no_args)) ≡ joined (rename_spine (metavariables ρ) ts) (arg (rename (metavariables ρ) t) no_args)
  rename_spine-joined no_args t = refl
  rename_spine-joined (arg u ts) t = ap (arg (rename (metavariables ρ) u)) (rename_spine-joined ts t)

  pub one_more_renamed : (xs results new : List Term) (i : ℕ) (x r : Term) → i < length xs → x ≡ get_or xs i x → new ≡ results ++ r ∷ [] →
      spine_of results ≡ rename_spine (metavariables ρ) (spine_of (take i xs)) → term_of r ≡ rename (metavariables ρ) (term_of x) → spine_of new ≡ rename_spine (metavariables ρ) (spine_of (take (i + 1) xs))
  one_more_renamed xs results new i x r within is pushed before here =
      ap spine_of pushed ∙ spine_of-append results r ∙ ap₂ (λ ts t. joined ts (arg t no_args)) before here
      ∙ sym (ap (rename_spine (metavariables ρ)) (take_more_spine xs i x within is) ∙ rename_spine-joined (spine_of (take i xs)) (term_of x))

  pub type_renamed : (bs rs : Context) (f : ℕ) (ts us : Spine) → rs ≡ rename_context (metavariables ρ) bs → us ≡ rename_spine (metavariables ρ) ts →
      pis rs (family f us) ≡ rename_type (metavariables ρ) (pis bs (family f ts))
  type_renamed bs rs f ts us binders args = ap₂ (λ l us. pis l (family f us)) binders args ∙ sym (rename_type-pis_metavariables ρ bs (family f ts))

  rename_context-last : (bs : Context) (b : LfType) → rename_context (metavariables ρ) (bs ++ b ∷ []) ≡ rename_context (metavariables ρ) bs ++ rename_type (metavariables ρ) b ∷ []
  rename_context-last [] b = refl
  rename_context-last (a ∷ bs) b =
      ap (λ rest. rename_type (metavariables ρ) a ∷ rest)
      (ap (λ ξ. rename_context ξ (bs ++ b ∷ [])) (lifted-metavariables ρ) ∙ rename_context-last bs b
      ∙ ap (λ ξ. rename_context ξ bs ++ rename_type (metavariables ρ) b ∷ []) (sym (lifted-metavariables ρ)))

  pub one_more_type_renamed : (xs results new : List Ty) (i : ℕ) (x r : Ty) → i < length xs → x ≡ get_or xs i x → new ≡ results ++ r ∷ [] →
      types_of results ≡ rename_context (metavariables ρ) (types_of (take i xs)) → type_of r ≡ rename_type (metavariables ρ) (type_of x) → types_of new ≡ rename_context (metavariables ρ) (types_of (take (i + 1) xs))
  one_more_type_renamed xs results new i x r within is pushed before here =
      ap types_of pushed ∙ types_of-append results r ∙ ap₂ (λ ts t. ts ++ t ∷ []) before here
      ∙ sym (ap (rename_context (metavariables ρ)) (types_of-take_more xs i x within is) ∙ rename_context-last (types_of (take i xs)) (type_of x))

  abbrev goal_with : ℕ → Context → ℕ → Spine → LfGoal
  goal_with id ctx f ts = record { id = id; context = ctx; target = record { atom_family = f; atom_args = ts } }

  pub goal_renamed : (id f new : ℕ) (ctx results : Context) (ts us : Spine) → new ≡ ρ id → results ≡ rename_context (metavariables ρ) ctx → us ≡ rename_spine (metavariables ρ) ts →
      goal_with new results f us ≡ rename_goal ρ (goal_with id ctx f ts)
  goal_renamed id f new ctx results ts us number context args =
      ap (λ n. goal_with n results f us) number ∙ ap₂ (λ c s. goal_with (ρ id) c f s) context args

  pub one_more_goal_renamed : (xs results new : List Goal) (i : ℕ) (x r : Goal) → i < length xs → x ≡ get_or xs i x → new ≡ results ++ r ∷ [] →
      map goal_of results ≡ map (rename_goal ρ) (map goal_of (take i xs)) → goal_of r ≡ rename_goal ρ (goal_of x) → map goal_of new ≡ map (rename_goal ρ) (map goal_of (take (i + 1) xs))
  one_more_goal_renamed xs results new i x r within is pushed before here =
      ap (map goal_of) pushed ∙ map-append goal_of results (r ∷ []) ∙ ap₂ (λ gs g. gs ++ g ∷ []) before here
      ∙ sym (ap (λ l. map (rename_goal ρ) (map goal_of l)) (take_read xs i x within is) ∙ ap (map (rename_goal ρ)) (map-append goal_of (take i xs) (x ∷ []))
      ∙ map-append (rename_goal ρ) (map goal_of (take i xs)) (goal_of x ∷ []))

-- the numbers of the goals before a place, with the one at it
pub ids_more : (xs : List Goal) (i : ℕ) (x : Goal) → i < length xs → x ≡ get_or xs i x → ids (map goal_of (take (i + 1) xs)) ≡ ids (map goal_of (take i xs)) ++ x.id ∷ []
ids_more xs i x within is =
    ap (λ l. ids (map goal_of l)) (take_read xs i x within is) ∙ ap ids (map-append goal_of (take i xs) (x ∷ [])) ∙ map-append (λ g. g.id) (map goal_of (take i xs)) (goal_of x ∷ [])

-- A number that comes later is none of those before.
number_read : (xs : List Goal) (i : ℕ) (x : Goal) → i < length xs → x ≡ get_or xs i x → Contains (ids (map goal_of xs)) x.id
number_read [] i x within is = absurd (omega arith)
number_read (y ∷ xs) zero x within is = subst (λ n. Contains (y.id ∷ ids (map goal_of xs)) n) (sym (ap (λ z. z.id) is)) (Contains-here y.id (ids (map goal_of xs)))
number_read (y ∷ xs) (suc i) x within is = Contains-later y.id (ids (map goal_of xs)) x.id (number_read xs i x (omega arith) is)

none_step : (n m : ℕ) (rest : Bool) → m ≢ n → rest ≡ false → (nat_eq n m || rest) ≡ false
none_step n m rest differ none = ap (λ b. b || rest) (ne_eqb n m (λ e. differ (sym e))) ∙ none

none_of_first : (xs : List Goal) (i : ℕ) (x : Goal) → i < length xs → x ≡ get_or xs i x → AllPairs (λ m n. m ≢ n) (ids (map goal_of xs)) → list_any (nat_eq x.id) (ids (map goal_of (take i xs))) ≡ false
none_of_first [] i x within is apart = absurd (omega arith)
none_of_first (y ∷ xs) zero x within is apart = refl
none_of_first (y ∷ xs) (suc i) x within is apart =
    none_step x.id y.id (list_any (nat_eq x.id) (ids (map goal_of (take i xs))))
    (All-contains (λ n. y.id ≢ n) (ids (map goal_of xs)) x.id (AllPairs-head (λ m n. m ≢ n) y.id (ids (map goal_of xs)) apart) (number_read xs i x (omega arith) is))
    (none_of_first xs i x (omega arith) is (AllPairs-tail (λ m n. m ≢ n) y.id (ids (map goal_of xs)) apart))

pub none_before : (before : List ℕ) (xs : List Goal) (i : ℕ) (x : Goal) → i < length xs → x ≡ get_or xs i x → AllPairs (λ m n. m ≢ n) (before ++ ids (map goal_of xs)) →
    list_any (nat_eq x.id) (before ++ ids (map goal_of (take i xs))) ≡ false
none_before [] xs i x within is apart = none_of_first xs i x within is apart
none_before (m ∷ before) xs i x within is apart =
    none_step x.id m (list_any (nat_eq x.id) (before ++ ids (map goal_of (take i xs))))
    (All-contains (λ n. m ≢ n) (before ++ ids (map goal_of xs)) x.id (AllPairs-head (λ k n. k ≢ n) m (before ++ ids (map goal_of xs)) apart)
    (Contains-append_right before (ids (map goal_of xs)) x.id (number_read xs i x within is)))
    (none_before before xs i x within is (AllPairs-tail (λ k n. k ≢ n) m (before ++ ids (map goal_of xs)) apart))

-- Pairs of old and new numbers.
pub numbered_pairs-append : (n : ℕ) (xs ys : List ℕ) → numbered_pairs n (xs ++ ys) ≡ numbered_pairs n xs ++ numbered_pairs (n + length xs) ys
numbered_pairs-append n [] ys = ap (λ k. numbered_pairs k ys) (omega arith)
numbered_pairs-append n (x ∷ xs) ys =
    let k : suc n + length xs ≡ n + suc (length xs) = omega arith in
    ap (λ l. (x, n) ∷ l) (numbered_pairs-append (suc n) xs ys ∙ ap (λ m. numbered_pairs (suc n) xs ++ numbered_pairs m ys) k)

module _ (xs : List Goal) (i : ℕ) (x : Goal) (within : i < length xs) (is : x ≡ get_or xs i x) where
  pub places_more : (before now new : List ℕ) → now ≡ before ++ ids (map goal_of (take i xs)) → new ≡ now ++ x.id ∷ [] → new ≡ before ++ ids (map goal_of (take (i + 1) xs))
  places_more before now new so_far added =
      added ∙ ap (λ l. l ++ x.id ∷ []) so_far ∙ append_assoc before (ids (map goal_of (take i xs))) (x.id ∷ []) ∙ ap (λ l. before ++ l) (sym (ids_more xs i x within is))

  pub pairs_more : (before now : List ℕ) (pairs now_pairs new : List (ℕ × ℕ)) → now ≡ before ++ ids (map goal_of (take i xs)) →
      now_pairs ≡ pairs ++ numbered_pairs (length before) (ids (map goal_of (take i xs))) → new ≡ now_pairs ++ (x.id, length now) ∷ [] →
      new ≡ pairs ++ numbered_pairs (length before) (ids (map goal_of (take (i + 1) xs)))
  pairs_more before now pairs now_pairs new so_far so_far_pairs added =
      let numbers = ids (map goal_of (take i xs)) in
      let n = length before in
      let count : length now ≡ n + length numbers = ap length so_far ∙ length-append before numbers in
      added ∙ ap₂ (λ l k. l ++ (x.id, k) ∷ []) so_far_pairs count ∙ append_assoc pairs (numbered_pairs n numbers) ((x.id, n + length numbers) ∷ [])
      ∙ ap (λ l. pairs ++ l) (sym (ap (numbered_pairs n) (ids_more xs i x within is) ∙ numbered_pairs-append n numbers (x.id ∷ [])))

-- The numbers of both parts of a list.
AllPairs-first : {X : Type 0} (R : X → X → Type 0) (xs ys : List X) → AllPairs R (xs ++ ys) → AllPairs R xs
AllPairs-first R [] ys pairs = λ i j d less within. absurd (omega arith)
AllPairs-first R (x ∷ xs) ys pairs =
    AllPairs-cons R x xs (All-first (R x) xs ys (AllPairs-head R x (xs ++ ys) pairs)) (AllPairs-first R xs ys (AllPairs-tail R x (xs ++ ys) pairs))

module _ (goals : LfGoals) (distinct : AreDistinct (all_goals goals)) where
  both_ids : ids (all_goals goals) ≡ ids goals.proofs ++ ids goals.witnesses
  both_ids = map-append (λ g. g.id) goals.proofs goals.witnesses

  pub numbers_apart : AllPairs (λ m n. m ≢ n) (ids goals.proofs ++ ids goals.witnesses)
  numbers_apart = subst (AllPairs (λ m n. m ≢ n)) both_ids (distinct_ids (all_goals goals) distinct)

  pub first_numbers_apart : AllPairs (λ m n. m ≢ n) (ids goals.proofs)
  first_numbers_apart = AllPairs-first (λ m n. m ≢ n) (ids goals.proofs) (ids goals.witnesses) numbers_apart

pub all_numbers : (goals : LfGoals) (none first all : List ℕ) → none ≡ [] → first ≡ none ++ ids goals.proofs → all ≡ first ++ ids goals.witnesses → all ≡ ids (all_goals goals)
all_numbers goals none first all empty added then_added =
    then_added ∙ ap (λ l. l ++ ids goals.witnesses) (added ∙ ap (λ l. l ++ ids goals.proofs) empty) ∙ sym (map-append (λ g. g.id) goals.proofs goals.witnesses)

pub all_pairs : (goals : LfGoals) (none first : List ℕ) (no_pairs first_pairs pairs : List (ℕ × ℕ)) → none ≡ [] → no_pairs ≡ [] → first ≡ none ++ ids goals.proofs →
    first_pairs ≡ no_pairs ++ numbered_pairs (length none) (ids goals.proofs) → pairs ≡ first_pairs ++ numbered_pairs (length first) (ids goals.witnesses) → pairs ≡ numbered_pairs 0 (ids (all_goals goals))
all_pairs goals none first no_pairs first_pairs pairs empty no_pair added first_added then_added =
    let count : length first ≡ length (ids goals.proofs) = ap length (added ∙ ap (λ l. l ++ ids goals.proofs) empty) in
    let before : first_pairs ≡ numbered_pairs 0 (ids goals.proofs) = first_added ∙ ap₂ (λ l n. l ++ numbered_pairs n (ids goals.proofs)) no_pair (ap length empty) in
    then_added ∙ ap₂ (λ l n. l ++ numbered_pairs n (ids goals.witnesses)) before count
    ∙ sym (ap (numbered_pairs 0) (map-append (λ g. g.id) goals.proofs goals.witnesses) ∙ numbered_pairs-append 0 (ids goals.proofs) (ids goals.witnesses)
    ∙ ap (λ n. numbered_pairs 0 (ids goals.proofs) ++ numbered_pairs n (ids goals.witnesses)) (omega arith))

goals_with : List LfGoal → List LfGoal → LfGoals
goals_with proofs witnesses = record { proofs = proofs; witnesses = witnesses }

pub goals_renumbered : (goals : LfGoals) (numbers : List ℕ) (proofs witnesses : List LfGoal) → numbers ≡ ids (all_goals goals) → proofs ≡ map (rename_goal (place_of_number numbers)) goals.proofs →
    witnesses ≡ map (rename_goal (place_of_number numbers)) goals.witnesses → (record { proofs = proofs; witnesses = witnesses }) ≡ renumbered goals
unfolding goals_with
goals_renumbered goals numbers proofs witnesses all first last =
    ap₂ goals_with (first ∙ ap (λ ns. map (rename_goal (place_of_number ns)) goals.proofs) all) (last ∙ ap (λ ns. map (rename_goal (place_of_number ns)) goals.witnesses) all)
