-- Entries that are put into a table: what is found in it then, and that it assigns what the build and then the table assign.
use Rattle.std.proofs.Common.{◌≡◌, ◌≢◌, ℕ, Bool, true, false, Option, Some, None, option_map, List, [], ◌∷◌, length, map, All, AllPairs, refl, sym, ap, ◌∙◌, if◌then◌else◌}
use Rattle.std.specs.Prelude.{nat_eq}
use Rattle.std.proofs.lemmas.Bool.{eq-eqb, eqb-true, ne_eqb}
use Rattle.std.proofs.lemmas.List.Elements.{All-head, All-tail}
use Rattle.lf_definitions.specs.Typing.{LfGoal}
use Rattle.head_laws.specs.AssignmentLaws.{AssignsClosedTerms}
use Rattle.head_laws.proofs.Numbers.{AllPairs-head, AllPairs-tail}
use Rattle.lf_functions.specs.CompositionLaws.{instance_of_assigned, followed_by}
use Rattle.build_laws.proofs.Entries.{instance-lams, AreOfTwo}
use Rattle.meta_goals.specs.Bindings.{LfBinding, assigned_of, assigning, binding_for, bound_again}
use Rattle.meta_goals.proofs.ChangedTerms.{put_by, assigning-binding_for}
use Rattle.proof_replay.specs.Putting.{put_into, all_again}

clash : true ≡ false → ⊥
clash e = absurd cc

-- the first of two that is there
abbrev pub first_known : Option LfBinding → Option LfBinding → Option LfBinding
first_known None o = o
first_known (Some b) o = Some b

again_step : (x y z : Bool) (c b : LfBinding) (rest : List LfBinding) (m : ℕ) → nat_eq c.number b.number ≡ x → nat_eq b.number m ≡ y → nat_eq c.number m ≡ z →
    binding_for (bound_again rest b) m ≡ (if y then Some b else binding_for rest m) →
    binding_for (if x then b ∷ rest else c ∷ bound_again rest b) m ≡ (if y then Some b else (if z then Some c else binding_for rest m))
again_step true true z c b rest m same is other later = ap (λ t. if t then Some b else binding_for rest m) is
again_step true false true c b rest m same is other later =
    absurd (clash (sym (eq-eqb b.number m (sym (eqb-true c.number b.number same) ∙ eqb-true c.number m other)) ∙ is))
again_step true false false c b rest m same is other later = ap (λ t. if t then Some b else binding_for rest m) is
again_step false true true c b rest m same is other later =
    absurd (clash (sym (eq-eqb c.number b.number (eqb-true c.number m other ∙ sym (eqb-true b.number m is))) ∙ same))
again_step false true false c b rest m same is other later = ap (λ t. if t then Some c else binding_for (bound_again rest b) m) other ∙ later
again_step false false true c b rest m same is other later = ap (λ t. if t then Some c else binding_for (bound_again rest b) m) other
again_step false false false c b rest m same is other later = ap (λ t. if t then Some c else binding_for (bound_again rest b) m) other ∙ later

found_again : (finals : List LfBinding) (b : LfBinding) (m : ℕ) → binding_for (bound_again finals b) m ≡ (if nat_eq b.number m then Some b else binding_for finals m)
found_again [] b m = refl
found_again (c ∷ rest) b m = again_step (nat_eq c.number b.number) (nat_eq b.number m) (nat_eq c.number m) c b rest m refl refl refl (found_again rest b m)

none_other : (rest : List LfBinding) (k m : ℕ) → All (λ e. k ≢ e.assigned_goal) (map assigned_of rest) → k ≡ m → binding_for rest m ≡ None
none_other [] k m all same = refl
none_other (c ∷ rest) k m all same =
    ap (λ t. if t then Some c else binding_for rest m)
    (ne_eqb c.number m (λ e. All-head (λ x. k ≢ x.assigned_goal) (assigned_of c) (map assigned_of rest) all (same ∙ sym e)))
    ∙ none_other rest k m (All-tail (λ x. k ≢ x.assigned_goal) (assigned_of c) (map assigned_of rest) all) same

module _ (goals : List LfGoal) (finals : List LfBinding) where
  put_step : (t : Bool) (b : LfBinding) (rest : Option LfBinding) (old : Option LfBinding) → (t ≡ true → rest ≡ None) →
      first_known (option_map (put_into goals finals) rest) (if t then Some (put_into goals finals b) else old) ≡ first_known (option_map (put_into goals finals) (if t then Some b else rest)) old
  put_step true b rest old none = ap (λ o. first_known (option_map (put_into goals finals) o) (Some (put_into goals finals b))) (none refl)
  put_step false b rest old none = refl

  -- An entry of a build, where there is one, and else what was there before.
  pub put_found : (build old : List LfBinding) (m : ℕ) → AllPairs AreOfTwo (map assigned_of build) →
      binding_for (all_again old (map (put_into goals finals) build)) m ≡ first_known (option_map (put_into goals finals) (binding_for build m)) (binding_for old m)
  put_found [] old m differ = refl
  put_found (b ∷ rest) old m differ =
      put_found rest (bound_again old (put_into goals finals b)) m (AllPairs-tail AreOfTwo (assigned_of b) (map assigned_of rest) differ)
      ∙ ap (first_known (option_map (put_into goals finals) (binding_for rest m))) (found_again old (put_into goals finals b) m)
      ∙ put_step (nat_eq b.number m) b (binding_for rest m) (binding_for old m)
      (λ is. none_other rest b.number m (AllPairs-head AreOfTwo (assigned_of b) (map assigned_of rest) differ) (eqb-true b.number m is))

  module _ (closed : AssignsClosedTerms (assigning finals)) where
    agree_step : (m : ℕ) (o : Option LfBinding) → option_map put_by (first_known (option_map (put_into goals finals) o) (binding_for finals m)) ≡ instance_of_assigned goals (assigning finals) m (option_map put_by o)
    agree_step m None = sym (assigning-binding_for finals m)
    agree_step m (Some b) = ap Some (sym (instance-lams goals (assigning finals) closed (length b.shapes) b.bound_body))

    -- So it assigns what the build and then the table before assign.
    pub put_agrees : (build : List LfBinding) (m : ℕ) → AllPairs AreOfTwo (map assigned_of build) →
        assigning (all_again finals (map (put_into goals finals) build)) m ≡ followed_by goals (assigning build) (assigning finals) m
    put_agrees build m differ =
        assigning-binding_for (all_again finals (map (put_into goals finals) build)) m ∙ ap (option_map put_by) (put_found build finals m differ) ∙ agree_step m (binding_for build m)
        ∙ ap (instance_of_assigned goals (assigning finals) m) (sym (assigning-binding_for build m))
