-- Numbers of goals: which are known, which are left, and which are assigned.
use Rattle.std.proofs.Common.{◌≡◌, ◌⊎◌, inl, inr, ℕ, zero, suc, ◌+◌, ◌<◌, ◌≤◌, Bool, true, false, Option, Some, None, List, [], ◌∷◌, ◌++◌, map, All, length, refl, sym, ap, ◌∙◌, subst, arith}
use Rattle.std.specs.Prelude.{nat_eq, not, ◌&&◌, ◌||◌, is_some, if◌then◌else◌, Contains, slice_get}
use Rattle.std.specs.List.{list_any}
use Rattle.std.proofs.lemmas.Bool.{eqb-true, eq-eqb}
use Rattle.std.proofs.lemmas.List.Elements.{All-nil, All-cons, All-head, All-tail}
use Rattle.head_laws.proofs.Numbers.{Contains-here, Contains-later}
use Rattle.lf_definitions.specs.Syntax.{metavariable, LfTerm, lams, LfType, SimpleType, shape_of}
use Rattle.lf_definitions.specs.Occurrence.{OccursIn, occurs_lam}
use Rattle.lf_definitions.specs.Shaping.{shape_of_metavariable}
use Rattle.lf_definitions.specs.ShapedGoals.{shapes_of_goals}
use Rattle.lf_definitions.specs.Signatures.{LfSignature}
use Rattle.lf_definitions.specs.Typing.{LfGoal, goal_type, type_of_metavariable}
use Rattle.lf_definitions.specs.GoalLists.{ids}
use Rattle.lf_definitions.specs.Instantiation.{Assignment, LfAssigned, assignment_of}
use Rattle.lf_functions.specs.Instances.{instance_of_goal}
use Rattle.lf_functions.specs.Checking.{has_type}
use Rattle.lf_functions.proofs.InstanceLaws.{instances_go_part_by_part}
use Rattle.opening_laws.proofs.Numbers.{Numbered}
use Rattle.applications.specs.Applications.{put_into, goals_left, fresh_left, is_typed_entry, entries_are_typed, entries_among}

-- A number is in a list, as a test.
abbrev pub IsIn : ℕ → List ℕ → Type 0
IsIn m ns = list_any (nat_eq m) ns ≡ true

or_left : (a b : Bool) → a ≡ true → a || b ≡ true
or_left true b e = refl
or_left false b e = absurd cc

or_right : (a b : Bool) → b ≡ true → a || b ≡ true
or_right true b e = refl
or_right false b e = e

pub in_here : (m : ℕ) (ns : List ℕ) → IsIn m (m ∷ ns)
in_here m ns = or_left (nat_eq m m) (list_any (nat_eq m) ns) (eq-eqb m m refl)

pub in_later : (m k : ℕ) (ns : List ℕ) → IsIn m ns → IsIn m (k ∷ ns)
in_later m k ns is = or_right (nat_eq m k) (list_any (nat_eq m) ns) is

pub in_cases : (m k : ℕ) (ns : List ℕ) → IsIn m (k ∷ ns) → (m ≡ k) ⊎ IsIn m ns
in_cases m k ns is = step (nat_eq m k) refl is
  where
    step : (b : Bool) → nat_eq m k ≡ b → b || list_any (nat_eq m) ns ≡ true → (m ≡ k) ⊎ IsIn m ns
    step true same e = inl (eqb-true m k same)
    step false same e = inr e

pub in_left : (m : ℕ) (xs ys : List LfGoal) → IsIn m (ids xs) → IsIn m (ids (xs ++ ys))
in_left m [] ys is = absurd cc
in_left m (x ∷ xs) ys is = step (in_cases m x.id (ids xs) is) (in_left m xs ys)
  where
    step : (m ≡ x.id) ⊎ IsIn m (ids xs) → (IsIn m (ids xs) → IsIn m (ids (xs ++ ys))) → IsIn m (x.id ∷ ids (xs ++ ys))
    step (inl same) later = subst (λ k. IsIn m (k ∷ ids (xs ++ ys))) same (in_here m (ids (xs ++ ys)))
    step (inr there) later = in_later m x.id (ids (xs ++ ys)) (later there)

pub in_right : (m : ℕ) (xs ys : List LfGoal) → IsIn m (ids ys) → IsIn m (ids (xs ++ ys))
in_right m [] ys is = is
in_right m (x ∷ xs) ys is = in_later m x.id (ids (xs ++ ys)) (in_right m xs ys is)

pub in_either : (m : ℕ) (xs ys : List LfGoal) → IsIn m (ids (xs ++ ys)) → IsIn m (ids xs) ⊎ IsIn m (ids ys)
in_either m [] ys is = inr is
in_either m (x ∷ xs) ys is = step (in_cases m x.id (ids (xs ++ ys)) is) (in_either m xs ys)
  where
    step : (m ≡ x.id) ⊎ IsIn m (ids (xs ++ ys)) → (IsIn m (ids (xs ++ ys)) → IsIn m (ids xs) ⊎ IsIn m (ids ys)) → IsIn m (x.id ∷ ids xs) ⊎ IsIn m (ids ys)
    step (inl same) later = inl (subst (λ k. IsIn m (k ∷ ids xs)) same (in_here m (ids xs)))
    step (inr there) later = further (later there)
      where
        further : IsIn m (ids xs) ⊎ IsIn m (ids ys) → IsIn m (x.id ∷ ids xs) ⊎ IsIn m (ids ys)
        further (inl p) = inl (in_later m x.id (ids xs) p)
        further (inr p) = inr p

pub contains_in : (m : ℕ) (ns : List ℕ) → IsIn m ns → Contains ns m
contains_in m [] is = absurd cc
contains_in m (k ∷ ns) is = step (in_cases m k ns is) (contains_in m ns)
  where
    step : (m ≡ k) ⊎ IsIn m ns → (IsIn m ns → Contains ns m) → Contains (k ∷ ns) m
    step (inl same) later = subst (λ j. Contains (j ∷ ns) m) same (Contains-here m ns)
    step (inr there) later = Contains-later k ns m (later there)

pub in_contained : (m : ℕ) (ns : List ℕ) → Contains ns m → IsIn m ns
in_contained m [] (k, less, e) = absurd (omega (arith, less))
in_contained m (j ∷ ns) (zero, less, e) = subst (λ k. IsIn m (k ∷ ns)) (sym e) (in_here m ns)
in_contained m (j ∷ ns) (suc k, less, e) = in_later m j ns (in_contained m ns (k, omega (arith, less), e))

pub goal_is_in : (goals : List LfGoal) (g : LfGoal) → Contains goals g → IsIn g.id (ids goals)
goal_is_in [] g (k, less, e) = absurd (omega (arith, less))
goal_is_in (h ∷ goals) g (zero, less, e) = subst (λ k. IsIn g.id (k ∷ ids goals)) (ap (λ x. x.id) (sym e)) (in_here g.id (ids goals))
goal_is_in (h ∷ goals) g (suc k, less, e) = in_later g.id h.id (ids goals) (goal_is_in goals g (k, omega (arith, less), e))

pub in_below : (m n : ℕ) (goals : List LfGoal) → All (λ h. h.id < n) goals → IsIn m (ids goals) → m < n
in_below m n [] all is = absurd cc
in_below m n (h ∷ goals) all is = step (in_cases m h.id (ids goals) is) (in_below m n goals (All-tail (λ x. x.id < n) h goals all))
  where
    step : (m ≡ h.id) ⊎ IsIn m (ids goals) → (IsIn m (ids goals) → m < n) → m < n
    step (inl same) later = subst (λ k. k < n) (sym same) (All-head (λ x. x.id < n) h goals all)
    step (inr there) later = later there

-- A metavariable with a type, or with a shape, is one of the goals.
pub typed_is_in : (goals : List LfGoal) (m : ℕ) (b : LfType) → type_of_metavariable goals m ≡ Some b → IsIn m (ids goals)
typed_is_in [] m b e = absurd cc
typed_is_in (h ∷ goals) m b e = step (nat_eq h.id m) refl e (typed_is_in goals m b)
  where
    step : (c : Bool) → nat_eq h.id m ≡ c → (if c then Some (goal_type h) else type_of_metavariable goals m) ≡ Some b → (type_of_metavariable goals m ≡ Some b → IsIn m (ids goals)) → IsIn m (h.id ∷ ids goals)
    step true same f later = subst (λ k. IsIn m (k ∷ ids goals)) (sym (eqb-true h.id m same)) (in_here m (ids goals))
    step false same f later = in_later m h.id (ids goals) (later f)

pub shaped_is_in : (goals : List LfGoal) (m : ℕ) (s : SimpleType) → shape_of_metavariable (shapes_of_goals goals) m ≡ Some s → IsIn m (ids goals)
shaped_is_in [] m s e = absurd cc
shaped_is_in (h ∷ goals) m s e = step (nat_eq h.id m) refl e (shaped_is_in goals m s)
  where
    step : (c : Bool) → nat_eq h.id m ≡ c → (if c then Some (shape_of (goal_type h)) else shape_of_metavariable (shapes_of_goals goals) m) ≡ Some s →
        (shape_of_metavariable (shapes_of_goals goals) m ≡ Some s → IsIn m (ids goals)) → IsIn m (h.id ∷ ids goals)
    step true same f later = subst (λ k. IsIn m (k ∷ ids goals)) (sym (eqb-true h.id m same)) (in_here m (ids goals))
    step false same f later = in_later m h.id (ids goals) (later f)

pub instance_id : (goals : List LfGoal) (σ : Assignment) (h : LfGoal) → (instance_of_goal goals σ h).id ≡ h.id
instance_id goals σ h = (instances_go_part_by_part goals σ).4 h

-- The goals that are left are those without an entry.
pub left_is_in : (goals : List LfGoal) (σ : Assignment) (list : List LfGoal) (m : ℕ) → IsIn m (ids (goals_left goals σ list)) → IsIn m (ids list) × (σ m ≡ None)
left_is_in goals σ [] m is = absurd cc
left_is_in goals σ (h ∷ rest) m is = step (σ h.id) refl is (left_is_in goals σ rest m)
  where
    step : (o : Option LfTerm) → σ h.id ≡ o → IsIn m (ids (if is_some o then goals_left goals σ rest else instance_of_goal goals σ h ∷ goals_left goals σ rest)) →
        (IsIn m (ids (goals_left goals σ rest)) → IsIn m (ids rest) × (σ m ≡ None)) → IsIn m (h.id ∷ ids rest) × (σ m ≡ None)
    step (Some u) e is later = let r = later is in (in_later m h.id (ids rest) r.0, r.1)
    step None e is later = further (in_cases m (instance_of_goal goals σ h).id (ids (goals_left goals σ rest)) is)
      where
        further : (m ≡ (instance_of_goal goals σ h).id) ⊎ IsIn m (ids (goals_left goals σ rest)) → IsIn m (h.id ∷ ids rest) × (σ m ≡ None)
        further (inl same) = let same_id = same ∙ instance_id goals σ h in (subst (λ k. IsIn m (k ∷ ids rest)) same_id (in_here m (ids rest)), ap σ same_id ∙ e)
        further (inr there) = let r = later there in (in_later m h.id (ids rest) r.0, r.1)

-- A fresh goal that has no entry is new.
abbrev pub IsNewIn : List LfGoal → Assignment → List LfGoal → List Bool → ℕ → Type 0
IsNewIn goals σ fresh marks m = IsIn m (ids (fresh_left (λ mark. mark) goals σ fresh marks)) ⊎ IsIn m (ids (fresh_left not goals σ fresh marks))

pub fresh_is_new : (goals : List LfGoal) (σ : Assignment) (fresh : List LfGoal) (marks : List Bool) → length marks ≡ length fresh → (m : ℕ) → IsIn m (ids fresh) → σ m ≡ None → IsNewIn goals σ fresh marks m
fresh_is_new goals σ [] marks same m is none = absurd cc
fresh_is_new goals σ (h ∷ rest) [] same m is none = absurd (omega (arith, same))
fresh_is_new goals σ (h ∷ rest) (mark ∷ marks) same m is none =
    step (σ h.id) refl mark (in_cases m h.id (ids rest) is) (let less : length marks ≡ length rest = omega (arith, same) in λ there. fresh_is_new goals σ rest marks less m there none)
  where
    here : (m ≡ h.id) → (more : List LfGoal) → IsIn m (ids (instance_of_goal goals σ h ∷ more))
    here same more = subst (λ k. IsIn m (k ∷ ids more)) (same ∙ sym (instance_id goals σ h)) (in_here m (ids more))

    step : (o : Option LfTerm) → σ h.id ≡ o → (mark : Bool) → (m ≡ h.id) ⊎ IsIn m (ids rest) → (IsIn m (ids rest) → IsNewIn goals σ rest marks m) →
        IsIn m (ids (if is_some o then fresh_left (λ mark. mark) goals σ rest marks else (if mark then instance_of_goal goals σ h ∷ fresh_left (λ mark. mark) goals σ rest marks else fresh_left (λ mark. mark) goals σ rest marks)))
        ⊎ IsIn m (ids (if is_some o then fresh_left not goals σ rest marks else (if not mark then instance_of_goal goals σ h ∷ fresh_left not goals σ rest marks else fresh_left not goals σ rest marks)))
    step (Some u) e mark (inl same) later = absurd (clash (sym none ∙ ap σ same ∙ e))
      where
        clash : None ≡ Some u → ⊥
        clash f = absurd cc
    step (Some u) e mark (inr there) later = later there
    step None e true (inl same) later = inl (here same (fresh_left (λ mark. mark) goals σ rest marks))
    step None e false (inl same) later = inr (here same (fresh_left not goals σ rest marks))
    step None e true (inr there) later = further (later there)
      where
        further : IsNewIn goals σ rest marks m → IsIn m (ids (instance_of_goal goals σ h ∷ fresh_left (λ mark. mark) goals σ rest marks)) ⊎ IsIn m (ids (fresh_left not goals σ rest marks))
        further (inl p) = inl (in_later m (instance_of_goal goals σ h).id (ids (fresh_left (λ mark. mark) goals σ rest marks)) p)
        further (inr p) = inr p
    step None e false (inr there) later = further (later there)
      where
        further : IsNewIn goals σ rest marks m → IsIn m (ids (fresh_left (λ mark. mark) goals σ rest marks)) ⊎ IsIn m (ids (instance_of_goal goals σ h ∷ fresh_left not goals σ rest marks))
        further (inl p) = inl p
        further (inr p) = inr (in_later m (instance_of_goal goals σ h).id (ids (fresh_left not goals σ rest marks)) p)

-- What is true of the instance of each goal without an entry is true of the new ones.
pub All-fresh_left : (P : LfGoal → Type 0) (test : Bool → Bool) (goals : List LfGoal) (σ : Assignment) (fresh : List LfGoal) (marks : List Bool) →
    All (λ h. σ h.id ≡ None → P (instance_of_goal goals σ h)) fresh → All P (fresh_left test goals σ fresh marks)
All-fresh_left P test goals σ [] marks all = All-nil P
All-fresh_left P test goals σ (h ∷ rest) [] all = All-nil P
All-fresh_left P test goals σ (h ∷ rest) (mark ∷ marks) all =
    step (σ h.id) refl (test mark) (All-fresh_left P test goals σ rest marks (All-tail (λ h. σ h.id ≡ None → P (instance_of_goal goals σ h)) h rest all))
  where
    step : (o : Option LfTerm) → σ h.id ≡ o → (b : Bool) → All P (fresh_left test goals σ rest marks) →
        All P (if is_some o then fresh_left test goals σ rest marks else (if b then instance_of_goal goals σ h ∷ fresh_left test goals σ rest marks else fresh_left test goals σ rest marks))
    step (Some u) e b later = later
    step None e true later =
        All-cons P (instance_of_goal goals σ h) (fresh_left test goals σ rest marks) (All-head (λ h. σ h.id ≡ None → P (instance_of_goal goals σ h)) h rest all e) later
    step None e false later = later

-- The entry of a goal was tested.
pub tested_entry : (sig : LfSignature) (goals : List LfGoal) (σ : Assignment) (left list : List LfGoal) → entries_are_typed sig goals σ left list ≡ true → (k : ℕ) (u : LfTerm) → IsIn k (ids list) → σ k ≡ Some u →
    (h : LfGoal) × (has_type sig left [] u (goal_type (instance_of_goal goals σ h)) ≡ true)
tested_entry sig goals σ left [] e k u is found = absurd cc
tested_entry sig goals σ left (h ∷ rest) e k u is found =
    step (in_cases k h.id (ids rest) is) (parts (is_typed_entry sig left (σ h.id) (instance_of_goal goals σ h)) (entries_are_typed sig goals σ left rest) e) (λ typed there. tested_entry sig goals σ left rest typed k u there found)
  where
    parts : (a b : Bool) → a && b ≡ true → (a ≡ true) × (b ≡ true)
    parts true b e = (refl, e)
    parts false b e = absurd cc

    step : (k ≡ h.id) ⊎ IsIn k (ids rest) → (is_typed_entry sig left (σ h.id) (instance_of_goal goals σ h) ≡ true) × (entries_are_typed sig goals σ left rest ≡ true) →
        (entries_are_typed sig goals σ left rest ≡ true → IsIn k (ids rest) → (h : LfGoal) × (has_type sig left [] u (goal_type (instance_of_goal goals σ h)) ≡ true)) →
        (h : LfGoal) × (has_type sig left [] u (goal_type (instance_of_goal goals σ h)) ≡ true)
    step (inl same) both later = (h, sym (ap (λ o. is_typed_entry sig left o (instance_of_goal goals σ h)) (ap σ (sym same) ∙ found)) ∙ both.0)
    step (inr there) both later = later both.1 there

-- Entries of goals of before: they assign what all entries assign to these, and nothing else.
pub among_same : (ns : List ℕ) (es : List LfAssigned) (k : ℕ) → IsIn k ns → assignment_of (entries_among ns es) k ≡ assignment_of es k
among_same ns [] k is = refl
among_same ns (e ∷ rest) k is = step (list_any (nat_eq e.assigned_goal) ns) refl (among_same ns rest k is)
  where
    step : (b : Bool) → list_any (nat_eq e.assigned_goal) ns ≡ b → assignment_of (entries_among ns rest) k ≡ assignment_of rest k →
        assignment_of (if b then e ∷ entries_among ns rest else entries_among ns rest) k ≡ assignment_of (e ∷ rest) k
    step true kept later = ap (λ o. if nat_eq e.assigned_goal k then Some (lams e.binders_count e.body) else o) later
    step false kept later = later ∙ passed (nat_eq e.assigned_goal k) refl
      where
        passed : (b : Bool) → nat_eq e.assigned_goal k ≡ b → assignment_of rest k ≡ (if b then Some (lams e.binders_count e.body) else assignment_of rest k)
        passed true same = absurd (clash (sym kept ∙ ap (λ j. list_any (nat_eq j) ns) (eqb-true e.assigned_goal k same) ∙ is))
          where
            clash : false ≡ true → ⊥
            clash f = absurd cc
        passed false same = refl

pub among_only : (ns : List ℕ) (es : List LfAssigned) (k : ℕ) (u : LfTerm) → assignment_of (entries_among ns es) k ≡ Some u → IsIn k ns
among_only ns [] k u found = absurd cc
among_only ns (e ∷ rest) k u found = step (list_any (nat_eq e.assigned_goal) ns) refl found (among_only ns rest k u)
  where
    step : (b : Bool) → list_any (nat_eq e.assigned_goal) ns ≡ b → assignment_of (if b then e ∷ entries_among ns rest else entries_among ns rest) k ≡ Some u →
        (assignment_of (entries_among ns rest) k ≡ Some u → IsIn k ns) → IsIn k ns
    step true kept f later = further (nat_eq e.assigned_goal k) refl f
      where
        further : (c : Bool) → nat_eq e.assigned_goal k ≡ c → (if c then Some (lams e.binders_count e.body) else assignment_of (entries_among ns rest) k) ≡ Some u → IsIn k ns
        further true same g = subst (λ j. IsIn j ns) (eqb-true e.assigned_goal k same) kept
        further false same g = later g
    step false kept f later = later f

-- Putting something into all bodies changes no key.
pub put_keeps : (goals : List LfGoal) (e : LfAssigned) (es : List LfAssigned) (k : ℕ) (u : LfTerm) → assignment_of (map (put_into goals e) es) k ≡ Some u → (v : LfTerm) × (assignment_of es k ≡ Some v)
put_keeps goals e [] k u found = absurd cc
put_keeps goals e (f ∷ rest) k u found = step (nat_eq f.assigned_goal k) refl found (put_keeps goals e rest k u)
  where
    step : (b : Bool) → nat_eq f.assigned_goal k ≡ b → (if b then Some (lams f.binders_count (put_into goals e f).body) else assignment_of (map (put_into goals e) rest) k) ≡ Some u →
        (assignment_of (map (put_into goals e) rest) k ≡ Some u → (v : LfTerm) × (assignment_of rest k ≡ Some v)) →
        (v : LfTerm) × ((if b then Some (lams f.binders_count f.body) else assignment_of rest k) ≡ Some v)
    step true same found later = (lams f.binders_count f.body, refl)
    step false same found later = later found

pub put_keeps_none : (goals : List LfGoal) (e : LfAssigned) (es : List LfAssigned) (k : ℕ) → assignment_of es k ≡ None → assignment_of (map (put_into goals e) es) k ≡ None
put_keeps_none goals e es k none = step (assignment_of (map (put_into goals e) es) k) refl
  where
    step : (o : Option LfTerm) → assignment_of (map (put_into goals e) es) k ≡ o → o ≡ None
    step None is = refl
    step (Some u) is = absurd (clash (put_keeps goals e es k u is))
      where
        clash : (v : LfTerm) × (assignment_of es k ≡ Some v) → ⊥
        clash (v, f) = nothing (sym none ∙ f)
          where
            nothing : None ≡ Some v → ⊥
            nothing x = absurd cc

-- numbers that follow one another
pub numbered_from_places : (n : ℕ) (goals : List LfGoal) → ((k : ℕ) (h : LfGoal) → slice_get goals k ≡ Some h → h.id ≡ n + k) → Numbered n goals
numbered_from_places n [] at_place = tt
numbered_from_places n (h ∷ rest) at_place =
    let here : n + 0 ≡ n = omega arith in
    (at_place 0 h refl ∙ here, numbered_from_places (suc n) rest (λ k x is. let there : n + suc k ≡ suc n + k = omega arith in at_place (suc k) x is ∙ there))

pub between_is_in : (n : ℕ) (goals : List LfGoal) → Numbered n goals → (m : ℕ) → n ≤ m → m < n + length goals → IsIn m (ids goals)
between_is_in n [] numbered m low high = absurd (omega (arith, low, high))
between_is_in n (h ∷ rest) numbered m low high = step (nat_eq m n) refl (between_is_in (suc n) rest numbered.1 m)
  where
    step : (b : Bool) → nat_eq m n ≡ b → (suc n ≤ m → m < suc n + length rest → IsIn m (ids rest)) → IsIn m (h.id ∷ ids rest)
    step true same later = subst (λ k. IsIn m (k ∷ ids rest)) (eqb-true m n same ∙ sym numbered.0) (in_here m (ids rest))
    step false same later = in_later m h.id (ids rest) (later (grind (arith, same, low)) (omega (arith, high)))

pub in_is_between : (n : ℕ) (goals : List LfGoal) → Numbered n goals → (m : ℕ) → IsIn m (ids goals) → (n ≤ m) × (m < n + length goals)
in_is_between n [] numbered m is = absurd cc
in_is_between n (h ∷ rest) numbered m is = step (in_cases m h.id (ids rest) is) (in_is_between (suc n) rest numbered.1 m)
  where
    step : (m ≡ h.id) ⊎ IsIn m (ids rest) → (IsIn m (ids rest) → (suc n ≤ m) × (m < suc n + length rest)) → (n ≤ m) × (m < n + suc (length rest))
    step (inl same) later = let e = same ∙ numbered.0 in (omega (arith, e), omega (arith, e))
    step (inr there) later = let r = later there in let low = r.0 in let high = r.1 in (omega (arith, low), omega (arith, high))

pub under_lams : (m count : ℕ) (t : LfTerm) → OccursIn (metavariable m) t → OccursIn (metavariable m) (lams count t)
under_lams m zero t o = o
under_lams m (suc count) t o = occurs_lam (metavariable m) (lams count t) (under_lams m count t o)
