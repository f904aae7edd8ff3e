-- Opening goes along with a renaming of metavariables.
use Rattle.std.proofs.Common.{◌≡◌, ℕ, zero, suc, ◌+◌, Bool, true, false, if◌then◌else◌, List, [], ◌∷◌, ◌++◌, map, length, refl, sym, ap, ap₂, ◌∙◌, subst, arith}
use mathlib.Core.Path.{fun_ext}
use Rattle.lf_definitions.specs.Syntax.{LfHead, bound, constant, metavariable, LfTerm, Spine, arg, SimpleType, base, arrows, LfType, pi, family, LfAtom, Context, shape_of, shapes_of_types, binders_of, conclusion_atom, arity}
use Rattle.lf_definitions.specs.Renaming.{next, Renaming, lifted, rename, rename_spine, rename_type, rename_context}
use Rattle.lf_definitions.specs.Substitution.{stays, Replacement, push, SubstitutedType}
use Rattle.lf_definitions.specs.Expansion.{own_variables, eta}
use Rattle.lf_definitions.specs.Typing.{LfGoal}
use Rattle.lf_definitions.specs.Instantiation.{metavariables, rename_goal}
use Rattle.lf_definitions.proofs.Renaming.{each_head, rename_spine-rename_spine, rename_type-rename_type, Follows, Follows-push, SubstitutedSpine-rename_spine, SubstitutedType-rename_type}
use Rattle.lf_definitions.proofs.Expansion.{rename-eta}
use Rattle.lf_definitions.proofs.Types.{shape_of-rename_type}
use Rattle.lf_definitions.proofs.TypedSpines.{length-rename_context, rename_context-append}
use Rattle.head_laws.proofs.Heads.{lifted-next}
use Rattle.head_laws.proofs.Metavariables.{lifted-metavariables, lifted_by-metavariables}
use Rattle.typing_laws.specs.EtaLaws.{expanded}
use Rattle.opening_laws.specs.Openings.{context_variable, is_kept, keeping, AreKept, kept_nothing, kept_entry, dropped_entry, fresh_goal, kept_variables, IsOpenedFrom, opens_conclusion, opens_fixed, opens_fresh, IsOpened, rename_opened}
use Rattle.opening_laws.specs.Laws.{OpeningsAreRenamed}
use Rattle.opening_laws.proofs.Expanded.{own_variables_renamed, rename-expanded}
use Rattle.opening_laws.proofs.Uniqueness.{openings_are_unique}

-- It makes no difference whether metavariables are renamed before heads are seen from the whole context, or afterwards.
metavariables-next : (ρ : ℕ → ℕ) (h : LfHead) → metavariables ρ (next h) ≡ next (metavariables ρ h)
metavariables-next ρ (bound n) = refl
metavariables-next ρ (constant c) = refl
metavariables-next ρ (metavariable g) = refl

metavariables-keeping : (kept : List ℕ) (count : ℕ) (ρ : ℕ → ℕ) (h : LfHead) → metavariables ρ (keeping kept count h) ≡ keeping kept count (metavariables ρ h)
metavariables-keeping kept zero ρ h = refl
metavariables-keeping kept (suc count) ρ h = step (is_kept kept count) (metavariables-keeping kept count ρ) h
  where
    step : (b : Bool) → ((k : LfHead) → metavariables ρ (keeping kept count k) ≡ keeping kept count (metavariables ρ k)) → (k : LfHead) →
        metavariables ρ ((if b then lifted (keeping kept count) else (λ x. next (keeping kept count x))) k) ≡ (if b then lifted (keeping kept count) else (λ x. next (keeping kept count x))) (metavariables ρ k)
    step true before =
        each_head (λ k. metavariables ρ (lifted (keeping kept count) k) ≡ lifted (keeping kept count) (metavariables ρ k)) refl
        (λ k. ap (metavariables ρ) (lifted-next (keeping kept count) k) ∙ metavariables-next ρ (keeping kept count k) ∙ ap next (before k)
        ∙ sym (lifted-next (keeping kept count) (metavariables ρ k)) ∙ ap (lifted (keeping kept count)) (sym (metavariables-next ρ k)))
    step false before = λ k. metavariables-next ρ (keeping kept count k) ∙ ap next (before k)

module _ (ρ : ℕ → ℕ) (kept : List ℕ) where
  abbrev as_renamed : Renaming
  as_renamed = metavariables ρ

  renamed_type : (count : ℕ) (a : LfType) → rename_type as_renamed (rename_type (keeping kept count) a) ≡ rename_type (keeping kept count) (rename_type as_renamed a)
  renamed_type count a =
      rename_type-rename_type a as_renamed (keeping kept count) ∙ ap (λ θ. rename_type θ a) (fun_ext (metavariables-keeping kept count ρ)) ∙ sym (rename_type-rename_type a (keeping kept count) as_renamed)

  renamed_spine : (count : ℕ) (ts : Spine) → rename_spine as_renamed (rename_spine (keeping kept count) ts) ≡ rename_spine (keeping kept count) (rename_spine as_renamed ts)
  renamed_spine count ts =
      rename_spine-rename_spine ts as_renamed (keeping kept count) ∙ ap (λ θ. rename_spine θ ts) (fun_ext (metavariables-keeping kept count ρ)) ∙ sym (rename_spine-rename_spine ts (keeping kept count) as_renamed)

  same_own_variables : (s : SimpleType) → rename_spine as_renamed (own_variables s) ≡ own_variables s
  same_own_variables s = ap (λ θ. rename_spine θ (own_variables s)) (sym (lifted_by-metavariables (arity s) ρ)) ∙ own_variables_renamed s as_renamed

  shapes_stay : (ctx : Context) (ξ : Renaming) → shapes_of_types (rename_context ξ ctx) ≡ shapes_of_types ctx
  shapes_stay [] ξ = refl
  shapes_stay (a ∷ ctx) ξ = ap₂ (λ s ss. s ∷ ss) (shape_of-rename_type a ξ) (shapes_stay ctx (lifted ξ))

  renamed_variables : (count : ℕ) (entries : Context) → rename_spine as_renamed (kept_variables kept count entries) ≡ kept_variables kept count (rename_context as_renamed entries)
  renamed_variables count entries =
      renamed_spine count (own_variables (arrows (shapes_of_types entries) base))
      ∙ ap (rename_spine (keeping kept count)) (same_own_variables (arrows (shapes_of_types entries) base) ∙ ap (λ ss. own_variables (arrows ss base)) (sym (shapes_stay entries as_renamed)))

  renamed_entries : {place : ℕ} {ctx entries : Context} → AreKept kept place ctx entries → AreKept kept place (rename_context as_renamed ctx) (rename_context as_renamed entries)
  renamed_entries kept_nothing = kept_nothing
  renamed_entries (kept_entry {place = place} {a = a} {b = b} {ctx = ctx} {entries = entries} is e rest) =
      subst (λ θ. AreKept kept place (rename_type as_renamed a ∷ rename_context θ ctx) (rename_type as_renamed b ∷ rename_context θ entries)) (sym (lifted-metavariables ρ))
      (kept_entry is (sym (renamed_type place b) ∙ ap (rename_type as_renamed) e) (renamed_entries rest))
  renamed_entries (dropped_entry {place = place} {a = a} {ctx = ctx} {entries = entries} is rest) =
      subst (λ θ. AreKept kept place (rename_type as_renamed a ∷ rename_context θ ctx) (rename_context as_renamed entries)) (sym (lifted-metavariables ρ)) (dropped_entry is (renamed_entries rest))

  -- fresh goals
  abbrev renamed_atom : LfAtom → LfAtom
  renamed_atom c = record { atom_family = c.atom_family; atom_args = rename_spine as_renamed c.atom_args }

  renamed_binders_of : (a : LfType) (ξ : Renaming) → rename_context ξ (binders_of a) ≡ binders_of (rename_type ξ a)
  renamed_binders_of (pi a b) ξ = ap (λ bs. rename_type ξ a ∷ bs) (renamed_binders_of b (lifted ξ))
  renamed_binders_of (family f args) ξ = refl

  renamed_conclusion : (a : LfType) → renamed_atom (conclusion_atom a) ≡ conclusion_atom (rename_type as_renamed a)
  renamed_conclusion (pi a b) = renamed_conclusion b ∙ ap (λ θ. conclusion_atom (rename_type θ b)) (sym (lifted-metavariables ρ))
  renamed_conclusion (family f args) = refl

  abbrev goal_with : ℕ → Context → LfAtom → LfGoal
  goal_with g ctx target = record { id = g; context = ctx; target = target }

  renamed_goal : (first other : ℕ) (entries : Context) (inside : LfType) → ρ first ≡ other → rename_goal ρ (fresh_goal first entries inside) ≡ fresh_goal other (rename_context as_renamed entries) (rename_type as_renamed inside)
  renamed_goal first other entries inside e =
      let context : rename_context as_renamed (entries ++ binders_of inside) ≡ rename_context as_renamed entries ++ binders_of (rename_type as_renamed inside) =
      rename_context-append entries (binders_of inside) as_renamed
      ∙ ap (λ θ. rename_context as_renamed entries ++ rename_context θ (binders_of inside)) (lifted_by-metavariables (length entries) ρ)
      ∙ ap (λ bs. rename_context as_renamed entries ++ bs) (renamed_binders_of inside as_renamed) in
      ap (λ g. goal_with g (rename_context as_renamed (entries ++ binders_of inside)) (renamed_atom (conclusion_atom inside))) e
      ∙ ap₂ (goal_with other) context (renamed_conclusion inside)

  module _ (count : ℕ) (entries : Context) (fixed : List (ℕ × ℕ)) where
    abbrev Before : Replacement → ℕ → ℕ → LfType → Spine → List LfGoal → LfAtom → Type 0
    Before = IsOpenedFrom kept count entries fixed

    abbrev After : Replacement → ℕ → ℕ → LfType → Spine → List LfGoal → LfAtom → Type 0
    After = IsOpenedFrom kept count (rename_context as_renamed entries) fixed

    renamed_put : (u : LfTerm) (σ τ : Replacement) → Follows as_renamed as_renamed σ τ → Follows as_renamed as_renamed (push u σ) (push (rename as_renamed u) τ)
    renamed_put u σ τ follows = subst (λ θ. Follows θ as_renamed (push u σ) (push (rename as_renamed u) τ)) (lifted-metavariables ρ) (Follows-push as_renamed as_renamed σ τ u follows)

    renamed_from : {σ : Replacement} {i first : ℕ} {type : LfType} {ts : Spine} {goals : List LfGoal} {last : LfAtom} → Before σ i first type ts goals last →
        (other : ℕ) → ((k : ℕ) → ρ (first + k) ≡ other + k) → (τ : Replacement) → Follows as_renamed as_renamed σ τ →
        After τ i other (rename_type as_renamed type) (rename_spine as_renamed ts) (map (rename_goal ρ) goals) (renamed_atom last)
    renamed_from (opens_conclusion put) other numbers τ follows = opens_conclusion (SubstitutedSpine-rename_spine put as_renamed as_renamed τ follows)
    renamed_from (opens_fixed {σ = σ} {i = i} {a = a} {b = b} {ts = ts} {goals = goals} {end = last} place e rest) other numbers τ follows =
        let v = context_variable count place in
        let u = eta v (shape_of a) in
        let same : eta v (shape_of (rename_type as_renamed a)) ≡ rename as_renamed u = ap (eta v) (shape_of-rename_type a as_renamed) ∙ sym (rename-eta as_renamed v (shape_of a)) in
        let later = renamed_from rest other numbers (push (rename as_renamed u) τ) (renamed_put u σ τ follows) in
        subst (λ θ. After τ i other (pi (rename_type as_renamed a) (rename_type θ b)) (arg (rename as_renamed u) (rename_spine as_renamed ts)) (map (rename_goal ρ) goals) (renamed_atom last)) (sym (lifted-metavariables ρ))
        (subst (λ w. After (push w τ) (suc i) other (rename_type as_renamed b) (rename_spine as_renamed ts) (map (rename_goal ρ) goals) (renamed_atom last) →
        After τ i other (pi (rename_type as_renamed a) (rename_type as_renamed b)) (arg w (rename_spine as_renamed ts)) (map (rename_goal ρ) goals) (renamed_atom last)) same
        (opens_fixed place e) later)
    renamed_from (opens_fresh {σ = σ} {i = i} {first = first} {a = a} {b = b} {ts = ts} {goals = goals} {end = last} inside e put rest) other numbers τ follows =
        let number : ρ first ≡ other = ap ρ (none_past first) ∙ numbers 0 ∙ sym (none_past other) in
        let u = expanded (metavariable first) (kept_variables kept count entries) (shape_of a) in
        let w = expanded (metavariable other) (kept_variables kept count (rename_context as_renamed entries)) (shape_of (rename_type as_renamed a)) in
        let same : w ≡ rename as_renamed u =
        ap (expanded (metavariable other) (kept_variables kept count (rename_context as_renamed entries))) (shape_of-rename_type a as_renamed)
        ∙ ap₂ (λ g vs. expanded (metavariable g) vs (shape_of a)) (sym number) (sym (renamed_variables count entries))
        ∙ sym (rename-expanded as_renamed (metavariable first) (kept_variables kept count entries) (shape_of a)) in
        let goal = fresh_goal other (rename_context as_renamed entries) (rename_type as_renamed inside) in
        let later = renamed_from rest (suc other) (λ k. ap ρ (one_past first k) ∙ numbers (suc k) ∙ sym (one_past other k)) (push (rename as_renamed u) τ) (renamed_put u σ τ follows) in
        let fits : SubstitutedType τ (rename_type as_renamed a) (rename_type (keeping kept count) (rename_type as_renamed inside)) =
        subst (SubstitutedType τ (rename_type as_renamed a)) (renamed_type count inside) (SubstitutedType-rename_type put as_renamed as_renamed τ follows) in
        subst (λ g. After τ i other (rename_type as_renamed (pi a b)) (arg (rename as_renamed u) (rename_spine as_renamed ts)) (g ∷ map (rename_goal ρ) goals) (renamed_atom last)) (sym (renamed_goal first other entries inside number))
        (subst (λ θ. After τ i other (pi (rename_type as_renamed a) (rename_type θ b)) (arg (rename as_renamed u) (rename_spine as_renamed ts)) (goal ∷ map (rename_goal ρ) goals) (renamed_atom last)) (sym (lifted-metavariables ρ))
        (subst (λ x. After (push x τ) (suc i) (suc other) (rename_type as_renamed b) (rename_spine as_renamed ts) (map (rename_goal ρ) goals) (renamed_atom last) →
        After τ i other (pi (rename_type as_renamed a) (rename_type as_renamed b)) (arg x (rename_spine as_renamed ts)) (goal ∷ map (rename_goal ρ) goals) (renamed_atom last)) same
        (opens_fresh (rename_type as_renamed inside) e fits) later))
      where
        none_past : (n : ℕ) → n ≡ n + 0
        none_past n = omega arith

        one_past : (n k : ℕ) → suc n + k ≡ n + suc k
        one_past n k = omega arith

pub openings_are_renamed : OpeningsAreRenamed
openings_are_renamed ρ first other numbers ctx kept fixed type result p =
    let as_renamed = metavariables ρ in
    let q : IsOpened (rename_context as_renamed ctx) kept fixed other (rename_type as_renamed type) (rename_opened ρ result) = record {
      entries = rename_context as_renamed p.entries;
      are_kept = renamed_entries ρ kept p.are_kept;
      opened = subst (λ n. IsOpenedFrom kept n (rename_context as_renamed p.entries) fixed stays 0 other (rename_type as_renamed type) (rename_spine as_renamed result.terms) (map (rename_goal ρ) result.fresh)
          (rename_opened ρ result).end) (sym (length-rename_context as_renamed ctx))
          (renamed_from ρ kept (length ctx) p.entries fixed p.opened other numbers stays (λ h. refl));
    } in
    (q, λ x r. openings_are_unique (rename_context as_renamed ctx) kept fixed other (rename_type as_renamed type) (rename_opened ρ result) x q r)
