-- Instances and renamings of variables, and entries of contexts as they are seen.
use Rattle.std.proofs.Common.{◌≡◌, ℕ, zero, suc, ◌+◌, ◌-◌, Option, Some, None, option_map, List, [], ◌∷◌, length, All, refl, sym, ap, ◌∙◌, subst, arith}
use mathlib.Core.Path.{fun_ext}
use Rattle.std.proofs.lemmas.List.Elements.{All-head, All-tail}
use Rattle.lf_definitions.specs.Syntax.{LfHead, bound, constant, metavariable, LfTerm, LfType, pi, Context, pis}
use Rattle.lf_definitions.specs.Renaming.{next, next_by, Renaming, rename, rename_type}
use Rattle.lf_definitions.specs.Substitution.{stays, becomes, rename_image, Replacement, up_by, SubstitutedType, substituted_pi, SubstitutedContext, substituted_empty, substituted_entry}
use Rattle.lf_definitions.specs.Occurrence.{OccursIn}
use Rattle.lf_definitions.specs.Instantiation.{Assignment, assigned, instantiating, InstantiatedType, InstantiatedContext}
use Rattle.lf_definitions.specs.Typing.{Typing, with_variable, with_context, Kinds, Formed, FormedContext, formed_entry, type_at}
use Rattle.lf_definitions.specs.Signatures.{family_entry, constant_entry, LfSignature, constant_types, kinds_in, typing_in, FormedEntry}
use Rattle.lf_definitions.specs.Laws.{variables}
use Rattle.lf_definitions.specs.TypingLaws.{ClosedKinds}
use Rattle.lf_definitions.proofs.Options.{Some-Some}
use Rattle.lf_definitions.proofs.Renaming.{same_head, rename-same_head, Follows, SubstitutedType-rename_type}
use Rattle.lf_definitions.proofs.Telescopes.{next_by-bound, next_by-constant, next_by-metavariable}
use Rattle.lf_definitions.proofs.Uniqueness.{unique_type}
use Rattle.lf_definitions.proofs.Variables.{with_context-outside, with_context-constant, with_context-metavariable}
use Rattle.lf_definitions.proofs.Weakening.{Formed-rename}
use Rattle.head_laws.specs.AssignmentLaws.{AssignsClosedTerms}
use Rattle.head_laws.proofs.Assignments.{up_by-closed}
use Rattle.head_laws.proofs.Occurrence.{rename-agree}
use Rattle.typing_laws.specs.ClosedTypes.{HasClosedGlobals}
use Rattle.opening_laws.specs.Openings.{keeping, returning, AreKept, kept_nothing, kept_entry, dropped_entry}
use Rattle.opening_laws.proofs.Kept.{keeping-bound, keeping-constant, keeping-metavariable, returning-bound, returning-constant, returning-metavariable}

-- A renaming of variables alone.
abbrev pub RenamesVariables : Renaming → Type 0
RenamesVariables ξ = ((n : ℕ) → (j : ℕ) × (ξ (bound n) ≡ bound j)) × ((c : ℕ) → ξ (constant c) ≡ constant c) × ((g : ℕ) → ξ (metavariable g) ≡ metavariable g)

pub next_by_renames : (n : ℕ) → RenamesVariables (next_by n)
next_by_renames n = (λ i. (n + i, next_by-bound n i), next_by-constant n, next_by-metavariable n)

pub keeping_renames : (kept : List ℕ) (count : ℕ) → RenamesVariables (keeping kept count)
keeping_renames kept count = (keeping-bound kept count, keeping-constant kept count, keeping-metavariable kept count)

pub next_renames : RenamesVariables next
next_renames = (λ i. (suc i, refl), λ c. refl, λ g. refl)

pub returning_renames : (kept : List ℕ) (count : ℕ) → RenamesVariables (returning kept count)
returning_renames kept count = (returning-bound kept count, returning-constant kept count, returning-metavariable kept count)

-- Closed terms go along with it.
closed_renamed : (ξ : Renaming) → RenamesVariables ξ → (u : LfTerm) → ((n : ℕ) → OccursIn (bound n) u → ⊥) → rename ξ u ≡ u
closed_renamed ξ renames u closed = rename-agree u ξ same_head each ∙ rename-same_head u
  where
    each : (h : LfHead) → OccursIn h u → ξ h ≡ same_head h
    each (bound n) o = absurd (closed n o)
    each (constant c) o = renames.1 c
    each (metavariable g) o = renames.2 g

module _ (σ : Assignment) (closed : AssignsClosedTerms σ) where
  follows : (ξ : Renaming) → RenamesVariables ξ → Follows ξ ξ (instantiating σ) (instantiating σ)
  follows ξ renames (bound n) = let j = renames.0 n in ap (instantiating σ) j.1 ∙ ap stays (sym j.1)
  follows ξ renames (constant c) = ap (instantiating σ) (renames.1 c) ∙ ap stays (sym (renames.1 c))
  follows ξ renames (metavariable g) = ap (instantiating σ) (renames.2 g) ∙ each (σ g) refl
    where
      each : (o : Option LfTerm) → σ g ≡ o → assigned g o ≡ rename_image ξ (assigned g o)
      each None e = ap stays (sym (renames.2 g))
      each (Some u) e = ap becomes (sym (closed_renamed ξ renames u (λ n. closed g n u e)))

  pub instance_renamed : (ξ : Renaming) → RenamesVariables ξ → (a c : LfType) → InstantiatedType σ a c → InstantiatedType σ (rename_type ξ a) (rename_type ξ c)
  instance_renamed ξ renames a c result = SubstitutedType-rename_type result ξ ξ (instantiating σ) (follows ξ renames)

  outside_context : (n : ℕ) (ctx placed : Context) → SubstitutedContext (up_by n (instantiating σ)) ctx placed → InstantiatedContext σ ctx placed
  outside_context n ctx placed put = subst (λ τ. SubstitutedContext τ ctx placed) (up_by-closed n σ closed) put

  pub outside_type : (n : ℕ) (a c : LfType) → SubstitutedType (up_by n (instantiating σ)) a c → InstantiatedType σ a c
  outside_type n a c put = subst (λ τ. SubstitutedType τ a c) (up_by-closed n σ closed) put

  pub inside_type : (n : ℕ) (a c : LfType) → InstantiatedType σ a c → SubstitutedType (up_by n (instantiating σ)) a c
  inside_type n a c put = subst (λ τ. SubstitutedType τ a c) (sym (up_by-closed n σ closed)) put

  -- The instances of the kept entries are the kept entries of the instance.
  pub kept_instances : {kept : List ℕ} {place : ℕ} {ctx entries : Context} → AreKept kept place ctx entries → (placed among : Context) → InstantiatedContext σ ctx placed → InstantiatedContext σ entries among →
      AreKept kept place placed among
  kept_instances kept_nothing placed among substituted_empty substituted_empty = kept_nothing
  kept_instances {kept} (kept_entry {place = place} {a = a} {b = b} is e rest) placed among (substituted_entry {c = c} p ps) (substituted_entry {c = d} q qs) =
      kept_entry is
      (unique_type (subst (λ x. InstantiatedType σ x (rename_type (keeping kept place) d)) e (instance_renamed (keeping kept place) (keeping_renames kept place) b d q)) p)
      (kept_instances rest _ _ (outside_context 1 _ _ ps) (outside_context 1 _ _ qs))
  kept_instances (dropped_entry is rest) placed among (substituted_entry p ps) qs = dropped_entry is (kept_instances rest _ _ (outside_context 1 _ _ ps) qs)

  -- the instance of an entry
  pub entry_instance : (ctx placed : Context) → InstantiatedContext σ ctx placed → (k : ℕ) (a : LfType) → type_at ctx k ≡ Some a → (c : LfType) × (type_at placed k ≡ Some c) × InstantiatedType σ a c
  entry_instance [] placed put k a e = absurd cc
  entry_instance (b ∷ ctx) placed (substituted_entry {c = c} p ps) zero a e = (c, refl, subst (λ x. InstantiatedType σ x c) (Some-Some e) p)
  entry_instance (b ∷ ctx) placed (substituted_entry p ps) (suc k) a e = entry_instance ctx _ (outside_context 1 _ _ ps) k a e

-- the result of binders over a type
pub split_pis : (es : Context) (inside : LfType) {σ : Replacement} {whole : LfType} → SubstitutedType σ (pis es inside) whole →
    (cs : Context) × (end : LfType) × (whole ≡ pis cs end) × SubstitutedContext σ es cs × SubstitutedType (up_by (length es) σ) inside end
split_pis [] inside {whole = whole} p = ([], whole, refl, substituted_empty, p)
split_pis (e ∷ es) inside (substituted_pi {c = c} p q) = let r = split_pis es inside q in (c ∷ r.0, r.1, ap (pi c) r.2, substituted_entry p r.3, r.4)

-- heads from outside so many binders
numbered : (n : ℕ) (h : LfHead) → next_by n h ≡ variables (λ i. n + i) h
numbered n (bound i) = next_by-bound n i
numbered n (constant c) = next_by-constant n c
numbered n (metavariable g) = next_by-metavariable n g

-- What is well formed outside a context is so inside, as it is seen from there.
pub formed_outside : (kinds : Kinds) → ClosedKinds kinds → (ctx : Context) (B : Typing) → HasClosedGlobals B → (a : LfType) → Formed kinds B a → Formed kinds (with_context ctx B) (rename_type (next_by (length ctx)) a)
formed_outside kinds closed ctx B globals a formed =
    subst (λ ξ. Formed kinds (with_context ctx B) (rename_type ξ a)) (sym (fun_ext (numbered (length ctx))))
    (Formed-rename formed (λ i. length ctx + i) (with_context ctx B) (
      λ n b e. with_context-outside ctx B n ∙ ap (option_map (rename_type (next_by (length ctx)))) e ∙ ap (λ ξ. Some (rename_type ξ b)) (fun_ext (numbered (length ctx))),
      λ c b e. (with_context-constant ctx B c ∙ e, globals.0 c b e),
      λ g b e. (with_context-metavariable ctx B g ∙ e, globals.1 g b e),
    ) closed)

pub formed_entry_seen : (kinds : Kinds) → ClosedKinds kinds → (ctx : Context) (B : Typing) → HasClosedGlobals B → FormedContext kinds B ctx → (k : ℕ) (a : LfType) → type_at ctx k ≡ Some a →
    Formed kinds (with_context ctx B) (rename_type (next_by (length ctx - k)) a)
formed_entry_seen kinds closed [] B globals formed k a e = absurd cc
formed_entry_seen kinds closed (b ∷ ctx) B globals (formed_entry p ps) zero a e =
    let whole : suc (length ctx) ≡ suc (length ctx) - 0 = omega arith in
    subst (λ l. Formed kinds (with_context (b ∷ ctx) B) (rename_type (next_by l) a)) whole
    (subst (λ x. Formed kinds (with_context (b ∷ ctx) B) (rename_type (next_by (suc (length ctx))) x)) (Some-Some e) (formed_outside kinds closed (b ∷ ctx) B globals b p))
formed_entry_seen kinds closed (b ∷ ctx) B globals (formed_entry p ps) (suc k) a e =
    let less : length ctx - k ≡ suc (length ctx) - suc k = omega arith in
    subst (λ l. Formed kinds (with_context (b ∷ ctx) B) (rename_type (next_by l) a)) less (formed_entry_seen kinds closed ctx (with_variable b B) globals ps k a e)

-- A constant's type is well formed over the signature.
pub constant_formed : (whole sig : LfSignature) → All (FormedEntry whole) sig → (c : ℕ) (a : LfType) → type_at (constant_types sig) c ≡ Some a → Formed (kinds_in whole) (typing_in whole [] []) a
constant_formed whole [] all c a e = absurd cc
constant_formed whole (family_entry name kind ∷ rest) all c a e = constant_formed whole rest (All-tail (FormedEntry whole) (family_entry name kind) rest all) c a e
constant_formed whole (constant_entry name type ∷ rest) all zero a e = subst (Formed (kinds_in whole) (typing_in whole [] [])) (Some-Some e) (All-head (FormedEntry whole) (constant_entry name type) rest all)
constant_formed whole (constant_entry name type ∷ rest) all (suc c) a e = constant_formed whole rest (All-tail (FormedEntry whole) (constant_entry name type) rest all) c a e

-- what is true of all types is true of the one at a place
pub all_at_place : (P : LfType → Type 0) (types : List LfType) → All P types → (k : ℕ) (a : LfType) → type_at types k ≡ Some a → P a
all_at_place P [] all k a e = absurd cc
all_at_place P (b ∷ rest) all zero a e = subst P (Some-Some e) (All-head P b rest all)
all_at_place P (b ∷ rest) all (suc k) a e = all_at_place P rest (All-tail P b rest all) k a e
