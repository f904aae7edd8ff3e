-- Opening a type in a context: a term for each argument, and a fresh goal for each argument that isn't fixed to a hypothesis.
use Rattle.std.specs.Prelude.{◌≡◌, ℕ, zero, suc, ◌-◌, Bool, true, false, if◌then◌else◌, nat_eq, List, [], ◌∷◌, ◌++◌, map, length, Option, Some, None}
use Rattle.std.specs.List.{list_any}
use Rattle.lf_definitions.specs.Syntax.{LfHead, bound, metavariable, Spine, no_args, arg, base, arrows, LfType, pi, family, LfAtom, Context, shape_of, shapes_of_types, binders_of, conclusion_atom}
use Rattle.lf_definitions.specs.Renaming.{next, extended, Renaming, lifted, rename_spine, rename_type}
use Rattle.lf_definitions.specs.Substitution.{stays, Replacement, push, SubstitutedSpine, SubstitutedType}
use Rattle.lf_definitions.specs.Expansion.{own_variables, eta}
use Rattle.lf_definitions.specs.Typing.{LfGoal}
use Rattle.lf_definitions.specs.Instantiation.{metavariables, rename_goal}
use Rattle.typing_laws.specs.EtaLaws.{expanded}

-- the variable at a place of a context with so many entries, where the oldest entry has the place 0
abbrev pub context_variable : ℕ → ℕ → LfHead
context_variable count place = bound (count - suc place)

-- Some places of a context are kept, and the others are dropped.
abbrev pub is_kept : List ℕ → ℕ → Bool
is_kept kept place = list_any (nat_eq place) kept

-- A head among the kept ones of a context's first entries, as it is seen from all of these: a kept entry is a binder here and there, and a dropped one is passed.
abbrev pub keeping : List ℕ → ℕ → Renaming
keeping kept zero = λ h. h
keeping kept (suc place) = if is_kept kept place then lifted (keeping kept place) else (λ h. next (keeping kept place h))

-- The way back, where a dropped variable becomes some other head.
abbrev pub returning : List ℕ → ℕ → Renaming
returning kept zero = λ h. h
returning kept (suc place) = if is_kept kept place then lifted (returning kept place) else extended (bound zero) (returning kept place)

-- The entries at the kept places by themselves, from a place on: each, seen from the whole context, is the entry there.
pub data AreKept (kept : List ℕ) : ℕ → Context → Context → Type 0 where
  kept_nothing : {place : ℕ} → AreKept kept place [] []
  kept_entry : {place : ℕ} {a b : LfType} {ctx entries : Context} → is_kept kept place ≡ true → rename_type (keeping kept place) b ≡ a → AreKept kept (suc place) ctx entries →
      AreKept kept place (a ∷ ctx) (b ∷ entries)
  dropped_entry : {place : ℕ} {a : LfType} {ctx entries : Context} → is_kept kept place ≡ false → AreKept kept (suc place) ctx entries → AreKept kept place (a ∷ ctx) entries

-- the place of the hypothesis that an argument is fixed to, by the argument's number from 0
abbrev pub fixed_to : List (ℕ × ℕ) → ℕ → Option ℕ
fixed_to [] i = None
fixed_to (pair ∷ rest) i = if nat_eq pair.0 i then Some pair.1 else fixed_to rest i

-- A fresh goal's context is the kept entries and then the binders of its argument's type.
abbrev pub fresh_goal : ℕ → Context → LfType → LfGoal
fresh_goal g entries inside = record { id = g; context = entries ++ binders_of inside; target = conclusion_atom inside }

-- the variables of the kept entries, each in its eta-long form, as they are seen from a context with so many entries
abbrev pub kept_variables : List ℕ → ℕ → Context → Spine
kept_variables kept count entries = rename_spine (keeping kept count) (own_variables (arrows (shapes_of_types entries) base))

-- The arguments of a type from the i-th on, where `σ` puts the terms of those before: their terms, the fresh goals, which have the numbers from `first` on, and the
-- conclusion.
pub data IsOpenedFrom (kept : List ℕ) (count : ℕ) (entries : Context) (fixed : List (ℕ × ℕ)) : Replacement → ℕ → ℕ → LfType → Spine → List LfGoal → LfAtom → Type 0 where
  -- The conclusion has all terms substituted.
  opens_conclusion : {σ : Replacement} {i first f : ℕ} {args results : Spine} → SubstitutedSpine σ args results →
      IsOpenedFrom kept count entries fixed σ i first (family f args) no_args [] (record { atom_family = f; atom_args = results })
  -- The term of a fixed argument is the eta-long form of its hypothesis.
  opens_fixed : {σ : Replacement} {i first : ℕ} {a b : LfType} {ts : Spine} {goals : List LfGoal} {end : LfAtom} (place : ℕ) → fixed_to fixed i ≡ Some place →
      IsOpenedFrom kept count entries fixed (push (eta (context_variable count place) (shape_of a)) σ) (suc i) first b ts goals end →
      IsOpenedFrom kept count entries fixed σ i first (pi a b) (arg (eta (context_variable count place) (shape_of a)) ts) goals end
  -- For any other argument there is a fresh goal. Its type in the kept entries, seen from the whole context, is the argument's type with the terms before substituted.
  -- The term is the abstraction, over the binders of that type, of the goal's metavariable applied to the kept entries and these binders.
  opens_fresh : {σ : Replacement} {i first : ℕ} {a b : LfType} {ts : Spine} {goals : List LfGoal} {end : LfAtom} (inside : LfType) → fixed_to fixed i ≡ None →
      SubstitutedType σ a (rename_type (keeping kept count) inside) →
      IsOpenedFrom kept count entries fixed (push (expanded (metavariable first) (kept_variables kept count entries) (shape_of a)) σ) (suc i) (suc first) b ts goals end →
      IsOpenedFrom kept count entries fixed σ i first (pi a b) (arg (expanded (metavariable first) (kept_variables kept count entries) (shape_of a)) ts)
      (fresh_goal first entries inside ∷ goals) end

-- What a type is opened to: the terms of its arguments, the fresh goals, and its conclusion.
pub record LfOpened : Type 0 where
  pub terms : Spine
  pub fresh : List LfGoal
  pub end : LfAtom

-- A type is opened in a context, with some places kept and some arguments fixed to hypotheses, and fresh numbers from `first` on.
pub record IsOpened (ctx : Context) (kept : List ℕ) (fixed : List (ℕ × ℕ)) (first : ℕ) (type : LfType) (result : LfOpened) : Type 0 where
  pub entries : Context
  pub are_kept : AreKept kept 0 ctx entries
  pub opened : IsOpenedFrom kept (length ctx) entries fixed stays 0 first type result.terms result.fresh result.end

-- the numbers of the arguments from the i-th on that aren't fixed
abbrev pub skip_fixed : Option ℕ → ℕ → List ℕ → List ℕ
skip_fixed None i later = i ∷ later
skip_fixed (Some place) i later = later

abbrev pub unfixed_from : List (ℕ × ℕ) → ℕ → LfType → List ℕ
unfixed_from fixed i (family f args) = []
unfixed_from fixed i (pi a b) = skip_fixed (fixed_to fixed i) i (unfixed_from fixed (suc i) b)

-- with metavariables renamed
abbrev pub rename_opened : (ℕ → ℕ) → LfOpened → LfOpened
rename_opened ρ result = record {
  terms = rename_spine (metavariables ρ) result.terms;
  fresh = map (rename_goal ρ) result.fresh;
  end = record { atom_family = result.end.atom_family; atom_args = rename_spine (metavariables ρ) result.end.atom_args };
}
