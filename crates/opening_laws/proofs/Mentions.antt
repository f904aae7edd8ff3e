-- The metavariables that terms, fresh goals and the conclusion mention.
use Rattle.std.proofs.Common.{◌≡◌, ℕ, zero, suc, ◌+◌, ◌<◌, ◌≤◌, ◌⊎◌, inl, inr, Some, List, [], ◌∷◌, length, sym, ap, ◌∙◌, subst, arith}
use Rattle.std.specs.Prelude.{slice_get}
use Rattle.lf_definitions.specs.Syntax.{LfHead, bound, metavariable, LfTerm, Spine, arg, SimpleType, base, arrow, arrows, LfType, pi, family, LfAtom, atomic, Context, pis, shape_of, shapes_of_types, arity}
use Rattle.lf_definitions.specs.Renaming.{next, next_by, rename_type}
use Rattle.lf_definitions.specs.Substitution.{stays, becomes, Replacement, push}
use Rattle.lf_definitions.specs.Expansion.{own_variables, eta}
use Rattle.lf_definitions.specs.Occurrence.{OccursIn, OccursInSpine, occurs_first, occurs_later, OccursInType, occurs_binder, occurs_rest, occurs_family, OccursInContext, occurs_entry, occurs_after, OccursInGoal}
use Rattle.lf_definitions.specs.Typing.{LfGoal}
use Rattle.lf_definitions.proofs.Renaming.{extended-next, each_head}
use Rattle.lf_definitions.proofs.Telescopes.{next_by-bound}
use Rattle.head_laws.specs.Mentions.{ComesFrom}
use Rattle.head_laws.proofs.Occurrence.{came_spine, OccursInType-rename_type}
use Rattle.head_laws.proofs.Replacing.{mentioned_spine, mentioned_type}
use Rattle.typing_laws.specs.EtaLaws.{expanded}
use Rattle.opening_laws.specs.Openings.{context_variable, keeping, AreKept, kept_nothing, kept_entry, dropped_entry, fresh_goal, kept_variables, IsOpenedFrom, opens_conclusion, opens_fixed, opens_fresh}
use Rattle.opening_laws.specs.Laws.{IsOfTypeOrFresh, OpeningsMention}
use Rattle.opening_laws.proofs.Kept.{keeping-bound, keeping-metavariable}
use Rattle.opening_laws.proofs.Expanded.{head_of_eta, heads_of_expanded}
use Rattle.opening_laws.proofs.Shapes.{goal_type-fresh_goal}
use Rattle.opening_laws.proofs.Existence.{comes_of_term, comes_of_head}

own_variables_are_bound : (s : SimpleType) (k : LfHead) → OccursInSpine k (own_variables s) → (n : ℕ) × (k ≡ bound n)
own_variables_are_bound base k o = elim o [ ]
own_variables_are_bound (arrow a s) k (occurs_first _ _ _ o) = (arity s + zero, head_of_eta k (next_by (arity s) (bound zero)) a o ∙ next_by-bound (arity s) zero)
own_variables_are_bound (arrow a s) k (occurs_later _ _ _ o) = own_variables_are_bound s k o

bound_or_metavariable : {n m : ℕ} → metavariable m ≡ bound n → ⊥
bound_or_metavariable e = cc

kept_variables_mention_none : (kept : List ℕ) (count : ℕ) (entries : Context) (m : ℕ) → OccursInSpine (metavariable m) (kept_variables kept count entries) → ⊥
kept_variables_mention_none kept count entries m o =
    let shape = arrows (shapes_of_types entries) base in
    let c = came_spine (own_variables shape) (keeping kept count) (metavariable m) o in
    let n = own_variables_are_bound shape c.0 c.1 in
    let j = keeping-bound kept count n.0 in
    bound_or_metavariable (c.2 ∙ ap (keeping kept count) n.1 ∙ j.1)

fixed_terms_mention_none : (count place m : ℕ) (s : SimpleType) → OccursIn (metavariable m) (eta (context_variable count place) s) → ⊥
fixed_terms_mention_none count place m s o = bound_or_metavariable (head_of_eta (metavariable m) (context_variable count place) s o)

metavariable_inj : {m g : ℕ} → metavariable m ≡ metavariable g → m ≡ g
metavariable_inj e = cc

fresh_term_mentions : (kept : List ℕ) (count : ℕ) (entries : Context) (g m : ℕ) (s : SimpleType) → OccursIn (metavariable m) (expanded (metavariable g) (kept_variables kept count entries) s) → m ≡ g
fresh_term_mentions kept count entries g m s o = either (heads_of_expanded (metavariable m) (metavariable g) (kept_variables kept count entries) s o)
  where
    either : (metavariable m ≡ metavariable g) ⊎ OccursInSpine (metavariable m) (kept_variables kept count entries) → m ≡ g
    either (inl e) = metavariable_inj e
    either (inr p) = absurd (kept_variables_mention_none kept count entries m p)

-- What a type under binders mentions.
in_binders_or_under : (bs : Context) (a : LfType) (m : ℕ) → OccursInType (metavariable m) (pis bs a) → OccursInContext (metavariable m) bs ⊎ OccursInType (metavariable m) a
in_binders_or_under [] a m o = inr o
in_binders_or_under (b ∷ bs) a m (occurs_binder _ _ _ o) = inl (occurs_entry (metavariable m) b bs o)
in_binders_or_under (b ∷ bs) a m (occurs_rest _ _ _ o) = either (in_binders_or_under bs a m o)
  where
    either : OccursInContext (metavariable m) bs ⊎ OccursInType (metavariable m) a → OccursInContext (metavariable m) (b ∷ bs) ⊎ OccursInType (metavariable m) a
    either (inl p) = inl (occurs_after (metavariable m) b bs p)
    either (inr p) = inr p

seen_from_all : (kept : List ℕ) (count : ℕ) (b : LfType) (m : ℕ) → OccursInType (metavariable m) b → OccursInType (metavariable m) (rename_type (keeping kept count) b)
seen_from_all kept count b m o =
    subst (λ h. OccursInType h (rename_type (keeping kept count) b)) (keeping-metavariable kept count m) (OccursInType-rename_type o (keeping kept count))

kept_entries_mention : {kept : List ℕ} {place : ℕ} {ctx entries : Context} → AreKept kept place ctx entries → (m : ℕ) → OccursInContext (metavariable m) entries → OccursInContext (metavariable m) ctx
kept_entries_mention kept_nothing m o = elim o [ ]
kept_entries_mention {kept} (kept_entry {place = place} {a = a} {b = b} {ctx = ctx} is e rest) m (occurs_entry _ _ _ o) =
    occurs_entry (metavariable m) a ctx (subst (OccursInType (metavariable m)) e (seen_from_all kept place b m o))
kept_entries_mention (kept_entry {a = a} {ctx = ctx} is e rest) m (occurs_after _ _ _ o) = occurs_after (metavariable m) a ctx (kept_entries_mention rest m o)
kept_entries_mention (dropped_entry {a = a} {ctx = ctx} is rest) m o = occurs_after (metavariable m) a ctx (kept_entries_mention rest m o)

-- A replacement brings in no metavariable but those with numbers from `start` to before `first`.
abbrev BringsIn : ℕ → ℕ → Replacement → Type 0
BringsIn start first σ = (k : LfHead) (m : ℕ) → ComesFrom (metavariable m) (σ k) → (metavariable m ≡ k) ⊎ ((start ≤ m) × (m < first))

brings_push : (start first : ℕ) (u : LfTerm) (σ : Replacement) → ((m : ℕ) → OccursIn (metavariable m) u → (start ≤ m) × (m < first)) → BringsIn start first σ → BringsIn start first (push u σ)
brings_push start first u σ of_term brings =
    each_head (λ k. (m : ℕ) → ComesFrom (metavariable m) (push u σ k) → (metavariable m ≡ k) ⊎ ((start ≤ m) × (m < first)))
    (λ m from. inr (of_term m (comes_of_term from)))
    (λ k m from. under k m (brings k m (subst (ComesFrom (metavariable m)) (extended-next (becomes u) σ k) from)))
  where
    under : (k : LfHead) (m : ℕ) → (metavariable m ≡ k) ⊎ ((start ≤ m) × (m < first)) → (metavariable m ≡ next k) ⊎ ((start ≤ m) × (m < first))
    under k m (inl e) = inl (ap next e)
    under k m (inr between) = inr between

brings_more : (start first : ℕ) (σ : Replacement) → BringsIn start first σ → BringsIn start (suc first) σ
brings_more start first σ brings k m from = either (brings k m from)
  where
    either : (metavariable m ≡ k) ⊎ ((start ≤ m) × (m < first)) → (metavariable m ≡ k) ⊎ ((start ≤ m) × (m < suc first))
    either (inl e) = inl e
    either (inr between) = inr (between.0, omega (arith, between.1))

module _ (kept : List ℕ) (count : ℕ) (entries : Context) (fixed : List (ℕ × ℕ)) (start m : ℕ) where
  abbrev OfGoals : ℕ → LfType → List LfGoal → Type 0
  OfGoals first type goals =
      (k : ℕ) (g : LfGoal) → slice_get goals k ≡ Some g → OccursInGoal (metavariable m) g → OccursInContext (metavariable m) entries ⊎ IsOfTypeOrFresh type start (first + k) m

  abbrev OfConclusion : ℕ → LfType → ℕ → LfAtom → Type 0
  OfConclusion first type more last = OccursInType (metavariable m) (atomic last) → IsOfTypeOrFresh type start (first + more) m

  abbrev OfTerms : ℕ → ℕ → Spine → Type 0
  OfTerms first more ts = OccursInSpine (metavariable m) ts → (first ≤ m) × (m < first + more)

  -- what a replaced head mentions
  of_head : (P : LfHead → Type 0) (type : LfType) (σ : Replacement) (first : ℕ) → BringsIn start first σ → (P (metavariable m) → OccursInType (metavariable m) type) →
      (k : LfHead) × P k × ComesFrom (metavariable m) (σ k) → (more : ℕ) → IsOfTypeOrFresh type start (first + more) m
  of_head P type σ first brings occurs from more = either (brings from.0 m from.2)
    where
      either : (metavariable m ≡ from.0) ⊎ ((start ≤ m) × (m < first)) → IsOfTypeOrFresh type start (first + more) m
      either (inl e) = inl (occurs (subst P (sym e) from.1))
      either (inr between) = inr (between.0, omega (arith, between.1))

  -- of the rest of a type, also of the whole
  of_rest_of_type : (a b : LfType) (last : ℕ) (to : ℕ) → last ≤ to → IsOfTypeOrFresh b start last m → IsOfTypeOrFresh (pi a b) start to m
  of_rest_of_type a b last to le (inl o) = inl (occurs_rest (metavariable m) a b o)
  of_rest_of_type a b last to le (inr between) = inr (between.0, omega (arith, between.1, le))

  of_later_goal : (a b : LfType) (last to : ℕ) → last ≤ to → OccursInContext (metavariable m) entries ⊎ IsOfTypeOrFresh b start last m → OccursInContext (metavariable m) entries ⊎ IsOfTypeOrFresh (pi a b) start to m
  of_later_goal a b last to le (inl o) = inl o
  of_later_goal a b last to le (inr o) = inr (of_rest_of_type a b last to le o)

  of_fresh_goal : (σ : Replacement) (first : ℕ) (a b inside : LfType) → BringsIn start first σ →
      ((h : LfHead) → OccursInType h (rename_type (keeping kept count) inside) → (k : LfHead) × OccursInType k a × ComesFrom h (σ k)) →
      OccursInGoal (metavariable m) (fresh_goal first entries inside) → OccursInContext (metavariable m) entries ⊎ IsOfTypeOrFresh (pi a b) start (first + 0) m
  of_fresh_goal σ first a b inside brings from o = either (in_binders_or_under entries inside m (subst (OccursInType (metavariable m)) (goal_type-fresh_goal first entries inside) o))
    where
      either : OccursInContext (metavariable m) entries ⊎ OccursInType (metavariable m) inside → OccursInContext (metavariable m) entries ⊎ IsOfTypeOrFresh (pi a b) start (first + 0) m
      either (inl p) = inl p
      either (inr p) =
          inr (of_head (λ k. OccursInType k a) (pi a b) σ first brings (λ q. occurs_binder (metavariable m) a b q) (from (metavariable m) (seen_from_all kept count inside m p)) 0)

  mention_from : {σ : Replacement} {i first : ℕ} {type : LfType} {ts : Spine} {goals : List LfGoal} {last : LfAtom} → IsOpenedFrom kept count entries fixed σ i first type ts goals last → start ≤ first → BringsIn start first σ →
      OfGoals first type goals × OfTerms first (length goals) ts × OfConclusion first type (length goals) last
  mention_from (opens_conclusion {σ = σ} {first = first} {f = f} {args = args} {results = results} put) le brings = (
    λ k g e o. absurd cc,
    λ o. elim o [ ],
    λ o. at_conclusion o,
  )
    where
      at_conclusion : OccursInType (metavariable m) (family f results) → IsOfTypeOrFresh (family f args) start (first + 0) m
      at_conclusion (occurs_family _ _ _ o) = of_head (λ k. OccursInSpine k args) (family f args) σ first brings (λ q. occurs_family (metavariable m) f args q) (mentioned_spine put (metavariable m) o) 0
  mention_from (opens_fixed {σ = σ} {first = first} {a = a} {b = b} {ts = ts} {goals = goals} {end = last} place e rest) le brings =
      let u = eta (context_variable count place) (shape_of a) in
      let r = mention_from rest le (brings_push start first u σ (λ g o. absurd (fixed_terms_mention_none count place g (shape_of a) o)) brings) in (
        λ k g is o. of_later_goal a b (first + k) (first + k) (omega arith) (r.0 k g is o),
        λ o. in_terms r.1 o,
        λ o. of_rest_of_type a b (first + length goals) (first + length goals) (omega arith) (r.2 o),
      )
    where
      in_terms : OfTerms first (length goals) ts → OccursInSpine (metavariable m) (arg (eta (context_variable count place) (shape_of a)) ts) → (first ≤ m) × (m < first + length goals)
      in_terms later (occurs_first _ _ _ o) = absurd (fixed_terms_mention_none count place m (shape_of a) o)
      in_terms later (occurs_later _ _ _ o) = later o
  mention_from (opens_fresh {σ = σ} {first = first} {a = a} {b = b} {ts = ts} {goals = goals} {end = last} inside e put rest) le brings =
      let u = expanded (metavariable first) (kept_variables kept count entries) (shape_of a) in
      let r = mention_from rest (omega (arith, le))
      (brings_push start (suc first) u σ (λ g o. between g (fresh_term_mentions kept count entries first g (shape_of a) o)) (brings_more start first σ brings)) in (
        λ k g is o. in_goals r.0 k g is o,
        λ o. in_terms r.1 o,
        λ o. of_rest_of_type a b (suc first + length goals) (first + suc (length goals)) (omega arith) (r.2 o),
      )
    where
      between : (g : ℕ) → g ≡ first → (start ≤ g) × (g < suc first)
      between g is = (omega (arith, is, le), omega (arith, is))

      in_goals : OfGoals (suc first) b goals → OfGoals first (pi a b) (fresh_goal first entries inside ∷ goals)
      in_goals later zero g is o =
          let same : g ≡ fresh_goal first entries inside = cc in
          of_fresh_goal σ first a b inside brings (mentioned_type put) (subst (OccursInGoal (metavariable m)) same o)
      in_goals later (suc k) g is o = of_later_goal a b (suc first + k) (first + suc k) (omega arith) (later k g is o)

      in_terms : OfTerms (suc first) (length goals) ts → OccursInSpine (metavariable m) (arg (expanded (metavariable first) (kept_variables kept count entries) (shape_of a)) ts) → (first ≤ m) × (m < first + suc (length goals))
      in_terms later (occurs_first _ _ _ o) = let same = fresh_term_mentions kept count entries first m (shape_of a) o in (omega (arith, same), omega (arith, same))
      in_terms later (occurs_later _ _ _ o) = let r = later o in (omega (arith, r.0), omega (arith, r.1))

brings_none : (first : ℕ) → BringsIn first first stays
brings_none first k m from = inl (comes_of_head from)

pub openings_mention : OpeningsMention
openings_mention ctx kept fixed first type result p m =
    let r = mention_from kept (length ctx) p.entries fixed first m p.opened (omega arith) (brings_none first) in
    (λ k g is o. in_context (first + k) (r.0 k g is o), r.1, r.2)
  where
    in_context : (last : ℕ) → OccursInContext (metavariable m) p.entries ⊎ IsOfTypeOrFresh type first last m → OccursInContext (metavariable m) ctx ⊎ IsOfTypeOrFresh type first last m
    in_context last (inl o) = inl (kept_entries_mention p.are_kept m o)
    in_context last (inr o) = inr o
