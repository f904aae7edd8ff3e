-- What is left of fresh goals, one after another.
use Rattle.std.proofs.Common.{◌≡◌, ℕ, ◌+◌, ◌<◌, ◌≤◌, Bool, true, false, Some, None, List, [], ◌∷◌, ◌++◌, length, get_or, take, take_all, map, All, refl, sym, ap, ap₂, ◌∙◌, subst, subst₂, arith}
use Rattle.std.specs.Prelude.{not, is_some, if◌then◌else◌}
use Rattle.std.proofs.lemmas.List.{take_more, map-append, append-nil, append_assoc, length-map, length-take-le}
use Rattle.lf_definitions.specs.Syntax.{LfTerm}
use Rattle.lf_definitions.specs.Typing.{LfGoal}
use Rattle.lf_definitions.specs.Instantiation.{Assignment}
use Rattle.lf_terms.specs.declared.goal.Goal.{Goal}
use Rattle.lf_terms.specs.Targets.{goal_of}
use Rattle.lf_terms.proofs.ShapeLists.{take_read}
use Rattle.lf_functions.specs.Instances.{instance_of_goal}
use Rattle.applications.specs.Applications.{goals_left, fresh_left}
use Rattle.build_shared.specs.declared.remaining.FreshGoals.{FreshGoals}
use Rattle.meta_goals.proofs.LeftGoals.{All-read}
use Rattle.build_shared.specs.Remaining.{AreFresh, AddsFresh}

module _ (goals : List LfGoal) (σ : Assignment) where
  pub goals_left-append : (xs ys : List LfGoal) → goals_left goals σ (xs ++ ys) ≡ goals_left goals σ xs ++ goals_left goals σ ys
  goals_left-append [] ys = refl
  goals_left-append (h ∷ rest) ys = step (is_some (σ h.id)) (goals_left-append rest ys)
    where
      step : (b : Bool) → goals_left goals σ (rest ++ ys) ≡ goals_left goals σ rest ++ goals_left goals σ ys →
          (if b then goals_left goals σ (rest ++ ys) else instance_of_goal goals σ h ∷ goals_left goals σ (rest ++ ys))
          ≡ (if b then goals_left goals σ rest else instance_of_goal goals σ h ∷ goals_left goals σ rest) ++ goals_left goals σ ys
      step true later = later
      step false later = ap (λ l. instance_of_goal goals σ h ∷ l) later

  fresh_left-append : (test : Bool → Bool) (xs : List LfGoal) (ms : List Bool) (g : LfGoal) (mark : Bool) → length xs ≡ length ms →
      fresh_left test goals σ (xs ++ g ∷ []) (ms ++ mark ∷ []) ≡ fresh_left test goals σ xs ms ++ fresh_left test goals σ (g ∷ []) (mark ∷ [])
  fresh_left-append test [] [] g mark same = refl
  fresh_left-append test [] (m ∷ ms) g mark same = absurd (omega (arith, same))
  fresh_left-append test (h ∷ rest) [] g mark same = absurd (omega (arith, same))
  fresh_left-append test (h ∷ rest) (m ∷ ms) g mark same = step (is_some (σ h.id)) (test m) (fresh_left-append test rest ms g mark (omega (arith, same)))
    where
      step : (b kept : Bool) → fresh_left test goals σ (rest ++ g ∷ []) (ms ++ mark ∷ []) ≡ fresh_left test goals σ rest ms ++ fresh_left test goals σ (g ∷ []) (mark ∷ []) →
          (if b then fresh_left test goals σ (rest ++ g ∷ []) (ms ++ mark ∷ []) else (if kept then instance_of_goal goals σ h ∷ fresh_left test goals σ (rest ++ g ∷ []) (ms ++ mark ∷ []) else fresh_left test goals σ (rest ++ g ∷ []) (ms ++ mark ∷ [])))
          ≡ (if b then fresh_left test goals σ rest ms else (if kept then instance_of_goal goals σ h ∷ fresh_left test goals σ rest ms else fresh_left test goals σ rest ms)) ++ fresh_left test goals σ (g ∷ []) (mark ∷ [])
      step true kept later = later
      step false true later = ap (λ l. instance_of_goal goals σ h ∷ l) later
      step false false later = later

  -- one goal more
  pub fresh_more : (xs : List Goal) (ms : List Bool) (i : ℕ) (x : Goal) (mark : Bool) (old new : FreshGoals) → i < length xs → i < length ms → x ≡ get_or xs i x → mark ≡ get_or ms i false →
      AreFresh goals σ (map goal_of (take i xs)) (take i ms) old → AddsFresh goals σ (goal_of x) mark old new → AreFresh goals σ (map goal_of (take (i + 1) xs)) (take (i + 1) ms) new
  fresh_more xs ms i x mark old new within marked is is_mark so_far adds =
      let first = map goal_of (take i xs) in
      let counts : length first ≡ length (take i ms) = length-map (take i xs) goal_of ∙ length-take-le i xs (omega arith) ∙ sym (length-take-le i ms (omega arith)) in
      let goals_are : map goal_of (take (i + 1) xs) ≡ first ++ goal_of x ∷ [] = ap (map goal_of) (take_read xs i x within is) ∙ map-append goal_of (take i xs) (x ∷ []) in
      let marks_are : take (i + 1) ms ≡ take i ms ++ mark ∷ [] = take_more ms i false marked ∙ ap (λ b. take i ms ++ b ∷ []) (sym is_mark) in
      record {
        all_are = adds.adds_to_all ∙ ap (λ l. l ++ goals_left goals σ (goal_of x ∷ [])) so_far.all_are ∙ sym (goals_left-append first (goal_of x ∷ [])) ∙ sym (ap (goals_left goals σ) goals_are);
        proofs_are = adds.adds_to_proofs ∙ ap (λ l. l ++ fresh_left (λ b. b) goals σ (goal_of x ∷ []) (mark ∷ [])) so_far.proofs_are ∙ sym (fresh_left-append (λ b. b) first (take i ms) (goal_of x) mark counts)
            ∙ sym (ap₂ (fresh_left (λ b. b) goals σ) goals_are marks_are);
        witnesses_are = adds.adds_to_witnesses ∙ ap (λ l. l ++ fresh_left not goals σ (goal_of x ∷ []) (mark ∷ [])) so_far.witnesses_are ∙ sym (fresh_left-append not first (take i ms) (goal_of x) mark counts)
            ∙ sym (ap₂ (fresh_left not goals σ) goals_are marks_are);
      }

  pub fresh_all : (xs : List Goal) (ms : List Bool) (i : ℕ) (fresh : List LfGoal) (left : FreshGoals) → length xs ≤ i → length ms ≤ i → map goal_of xs ≡ fresh → AreFresh goals σ (map goal_of (take i xs)) (take i ms) left →
      AreFresh goals σ fresh ms left
  fresh_all xs ms i fresh left end marked are so_far = subst₂ (λ l marks. AreFresh goals σ l marks left) (ap (map goal_of) (take_all i xs end) ∙ are) (take_all i ms marked) so_far

  -- An assigned goal adds nothing.
  pub adds_nothing : (g : LfGoal) (mark : Bool) (u : LfTerm) (old : FreshGoals) → σ g.id ≡ Some u → AddsFresh goals σ g mark old old
  adds_nothing g mark u old e =
      record {
        adds_to_all = sym (append-nil old.all) ∙ ap (λ l. old.all ++ l) (sym (ap (λ o. if is_some o then [] else instance_of_goal goals σ g ∷ []) e));
        adds_to_proofs = sym (append-nil old.proofs) ∙ ap (λ l. old.proofs ++ l) (sym (ap (λ o. if is_some o then [] else (if mark then instance_of_goal goals σ g ∷ [] else [])) e));
        adds_to_witnesses = sym (append-nil old.witnesses) ∙ ap (λ l. old.witnesses ++ l) (sym (ap (λ o. if is_some o then [] else (if not mark then instance_of_goal goals σ g ∷ [] else [])) e));
      }

  module _ (g h : LfGoal) (none : σ g.id ≡ None) (is : h ≡ instance_of_goal goals σ g) where
    pub left_one : h ∷ [] ≡ goals_left goals σ (g ∷ [])
    left_one = ap (λ k. k ∷ []) is ∙ sym (ap (λ o. if is_some o then [] else instance_of_goal goals σ g ∷ []) none)

    pub kept_one : (test : Bool → Bool) (mark : Bool) → test mark ≡ true → h ∷ [] ≡ fresh_left test goals σ (g ∷ []) (mark ∷ [])
    kept_one test mark passes =
        ap (λ k. k ∷ []) is ∙ sym (ap₂ (λ o b. if is_some o then [] else (if b then instance_of_goal goals σ g ∷ [] else [])) none passes)

    pub passed_one : (test : Bool → Bool) (mark : Bool) (old : List LfGoal) → test mark ≡ false → old ≡ old ++ fresh_left test goals σ (g ∷ []) (mark ∷ [])
    passed_one test mark old fails =
        sym (append-nil old) ∙ ap (λ l. old ++ l) (sym (ap₂ (λ o b. if is_some o then [] else (if b then instance_of_goal goals σ g ∷ [] else [])) none fails))

pub goals_more : (xs : List Goal) (i : ℕ) (x : Goal) (old list new : List LfGoal) (copy : LfGoal) → i < length xs → x ≡ get_or xs i x → list ≡ old ++ map goal_of (take i xs) → new ≡ list ++ copy ∷ [] → copy ≡ goal_of x →
    new ≡ old ++ map goal_of (take (i + 1) xs)
goals_more xs i x old list new copy within is so_far pushed same =
    pushed ∙ ap₂ (λ l g. l ++ g ∷ []) so_far same ∙ append_assoc old (map goal_of (take i xs)) (goal_of x ∷ [])
    ∙ ap (λ l. old ++ l) (sym (ap (map goal_of) (take_read xs i x within is) ∙ map-append goal_of (take i xs) (x ∷ [])))

pub remains_made : (among : List LfGoal) (σ : Assignment) (gs fs more proofs witnesses fresh l1 l2 l3 list : List LfGoal) (h k : LfGoal) → proofs ++ witnesses ≡ goals_left among σ gs → fresh ≡ goals_left among σ fs →
    l1 ≡ proofs ++ witnesses → l2 ≡ l1 ++ fresh → l3 ≡ l2 ++ more → list ≡ l3 ++ h ∷ [] → h ≡ k → list ≡ (goals_left among σ (gs ++ fs) ++ more) ++ k ∷ []
remains_made among σ gs fs more proofs witnesses fresh l1 l2 l3 list h k left_is fresh_is one two three is same =
    is ∙ ap₂ (λ l x. l ++ x ∷ []) (three ∙ ap (λ l. l ++ more) (two ∙ ap₂ (λ l m. l ++ m) (one ∙ left_is) fresh_is ∙ sym (goals_left-append among σ gs fs))) same

pub goal_read : (P : LfGoal → Type 0) (xs : List Goal) (i : ℕ) (x : Goal) (goals : List LfGoal) → i < length xs → x ≡ get_or xs i x → map goal_of xs ≡ goals → All P goals → P (goal_of x)
goal_read P xs i x goals within is are all = All-read P xs i x within is (subst (All P) (sym are) all)
