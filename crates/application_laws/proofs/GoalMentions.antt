-- What a new goal mentions that has one hypothesis more.
use Rattle.std.proofs.Common.{◌≡◌, ◌⊎◌, inl, inr, ℕ, suc, Bool, true, false, List, [], ◌∷◌, ◌++◌, length, sym, ◌∙◌, subst}
use Rattle.std.specs.Prelude.{if◌then◌else◌}
use Rattle.lf_definitions.specs.Syntax.{LfHead, bound, constant, metavariable, Spine, LfType, LfAtom, atomic, Context, pis}
use Rattle.lf_definitions.specs.Renaming.{next, rename_spine, rename_type, raise_spine}
use Rattle.lf_definitions.specs.Occurrence.{OccursInSpine, OccursInType, occurs_binder, occurs_rest, occurs_family, OccursInContext, occurs_entry, occurs_after, OccursInGoal}
use Rattle.lf_definitions.specs.Typing.{LfGoal}
use Rattle.head_laws.proofs.Occurrence.{came_spine, came_type}
use Rattle.opening_laws.specs.Openings.{is_kept, returning}
use Rattle.opening_laws.proofs.Kept.{returning-bound, returning-constant, returning-metavariable}
use Rattle.applications.specs.OpenedTypes.{kept_entries}
use Rattle.applications.specs.Applications.{returned, goal_with}
use Rattle.application_laws.proofs.Arguments.{in_context, in_target, of_atom}

pub in_parts : (m : ℕ) (ctx : Context) (end : LfType) → OccursInType (metavariable m) (pis ctx end) → OccursInContext (metavariable m) ctx ⊎ OccursInType (metavariable m) end
in_parts m [] end o = inr o
in_parts m (a ∷ ctx) end (occurs_binder _ _ _ o) = inl (occurs_entry (metavariable m) a ctx o)
in_parts m (a ∷ ctx) end (occurs_rest _ _ _ o) = each (in_parts m ctx end o)
  where
    each : OccursInContext (metavariable m) ctx ⊎ OccursInType (metavariable m) end → OccursInContext (metavariable m) (a ∷ ctx) ⊎ OccursInType (metavariable m) end
    each (inl p) = inl (occurs_after (metavariable m) a ctx p)
    each (inr p) = inr p

in_last : (m : ℕ) (ctx : Context) (a : LfType) → OccursInContext (metavariable m) (ctx ++ a ∷ []) → OccursInContext (metavariable m) ctx ⊎ OccursInType (metavariable m) a
in_last m [] a (occurs_entry _ _ _ o) = inr o
in_last m [] a (occurs_after _ _ _ o) = elim o [ ]
in_last m (b ∷ ctx) a (occurs_entry _ _ _ o) = inl (occurs_entry (metavariable m) b ctx o)
in_last m (b ∷ ctx) a (occurs_after _ _ _ o) = each (in_last m ctx a o)
  where
    each : OccursInContext (metavariable m) ctx ⊎ OccursInType (metavariable m) a → OccursInContext (metavariable m) (b ∷ ctx) ⊎ OccursInType (metavariable m) a
    each (inl p) = inl (occurs_after (metavariable m) b ctx p)
    each (inr p) = inr p

-- Renamings of variables keep metavariables.
returned_number : (kept : List ℕ) (count m : ℕ) (k : LfHead) → metavariable m ≡ returning kept count k → k ≡ metavariable m
returned_number kept count m (bound i) e = absurd (clash (returning-bound kept count i))
  where
    clash : (j : ℕ) × (returning kept count (bound i) ≡ bound j) → ⊥
    clash (j, f) = apart (e ∙ f)
      where
        apart : metavariable m ≡ bound j → ⊥
        apart x = absurd cc
returned_number kept count m (constant c) e = absurd (clash (e ∙ returning-constant kept count c))
  where
    clash : metavariable m ≡ constant c → ⊥
    clash x = absurd cc
returned_number kept count m (metavariable i) e = sym (e ∙ returning-metavariable kept count i)

next_number : (m : ℕ) (k : LfHead) → metavariable m ≡ next k → k ≡ metavariable m
next_number m (bound i) e = absurd cc
next_number m (constant c) e = absurd cc
next_number m (metavariable i) e = sym e

returned_spine : (kept : List ℕ) (count m : ℕ) (ts : Spine) → OccursInSpine (metavariable m) (rename_spine (returning kept count) ts) → OccursInSpine (metavariable m) ts
returned_spine kept count m ts o = let c = came_spine ts (returning kept count) (metavariable m) o in subst (λ h. OccursInSpine h ts) (returned_number kept count m c.0 c.2) c.1

raised_spine : (m : ℕ) (ts : Spine) → OccursInSpine (metavariable m) (raise_spine ts) → OccursInSpine (metavariable m) ts
raised_spine m ts o = let c = came_spine ts next (metavariable m) o in subst (λ h. OccursInSpine h ts) (next_number m c.0 c.2) c.1

kept_mention : (kept : List ℕ) (place m : ℕ) (ctx : Context) → OccursInContext (metavariable m) (kept_entries kept place ctx) → OccursInContext (metavariable m) ctx
kept_mention kept place m [] o = elim o [ ]
kept_mention kept place m (a ∷ ctx) o = step (is_kept kept place) o (kept_mention kept (suc place) m ctx)
  where
    entry : OccursInContext (metavariable m) (rename_type (returning kept place) a ∷ kept_entries kept (suc place) ctx) → (OccursInContext (metavariable m) (kept_entries kept (suc place) ctx) → OccursInContext (metavariable m) ctx) →
        OccursInContext (metavariable m) (a ∷ ctx)
    entry (occurs_entry _ _ _ p) later =
        let c = came_type a (returning kept place) (metavariable m) p in occurs_entry (metavariable m) a ctx (subst (λ h. OccursInType h a) (returned_number kept place m c.0 c.2) c.1)
    entry (occurs_after _ _ _ p) later = occurs_after (metavariable m) a ctx (later p)

    step : (b : Bool) → OccursInContext (metavariable m) (if b then rename_type (returning kept place) a ∷ kept_entries kept (suc place) ctx else kept_entries kept (suc place) ctx) →
        (OccursInContext (metavariable m) (kept_entries kept (suc place) ctx) → OccursInContext (metavariable m) ctx) → OccursInContext (metavariable m) (a ∷ ctx)
    step true p later = entry p later
    step false p later = occurs_after (metavariable m) a ctx (later p)

-- A goal with one hypothesis more mentions what the goal mentions, and what the hypothesis mentions.
pub goal_with_mentions : (id : ℕ) (g : LfGoal) (kept : List ℕ) (fact : LfAtom) (m : ℕ) → OccursInGoal (metavariable m) (goal_with id g kept fact) → OccursInGoal (metavariable m) g ⊎ OccursInType (metavariable m) (atomic fact)
goal_with_mentions id g kept fact m o = whole (in_parts m (goal_with id g kept fact).context (atomic (goal_with id g kept fact).target) o)
  where
    from_context : OccursInContext (metavariable m) (kept_entries kept 0 g.context) ⊎ OccursInType (metavariable m) (atomic (returned kept g.context fact)) →
        OccursInGoal (metavariable m) g ⊎ OccursInType (metavariable m) (atomic fact)
    from_context (inl p) = inl (in_context (metavariable m) g.context (atomic g.target) (kept_mention kept 0 m g.context p))
    from_context (inr p) =
        inr (occurs_family (metavariable m) fact.atom_family fact.atom_args (returned_spine kept (length g.context) m fact.atom_args (of_atom (metavariable m) (returned kept g.context fact) p)))

    whole : OccursInContext (metavariable m) (goal_with id g kept fact).context ⊎ OccursInType (metavariable m) (atomic (goal_with id g kept fact).target) →
        OccursInGoal (metavariable m) g ⊎ OccursInType (metavariable m) (atomic fact)
    whole (inl p) = from_context (in_last m (kept_entries kept 0 g.context) (atomic (returned kept g.context fact)) p)
    whole (inr p) =
        inl (in_target m g.context g.target
        (returned_spine kept (length g.context) m g.target.atom_args (raised_spine m (returned kept g.context g.target).atom_args (of_atom (metavariable m) (goal_with id g kept fact).target p))))
