-- What a term is read as, step by step.
use Rattle.std.proofs.Common.{◌≡◌, ◌≢◌, ℕ, zero, suc, ◌+◌, ◌<◌, ◌≤◌, Bool, true, false, cond, Option, Some, None, option_map, List, [], ◌∷◌, ◌++◌, length, take, drop, refl, sym, ap, ap₂, ◌∙◌, subst, subst₂, arith}
use Rattle.std.specs.Prelude.{slice_get}
use Rattle.std.specs.Str.{bytes_eq}
use Rattle.std.proofs.lemmas.List.{take-append-drop}
use Rattle.std.proofs.lemmas.List.Quantifiers.{position-Some}
use Rattle.lf_definitions.specs.Syntax.{LfHead, bound, constant, LfTerm, lam, Spine, no_args, arg, args_count, joined, SimpleType, shape_of, LfType, pi, family, pis, Context}
use Rattle.lf_definitions.specs.Renaming.{raise_type, next_by, Renaming, lifted, lifted_by, rename_spine, rename_type, rename_context}
use Rattle.lf_definitions.specs.Shaping.{Scope, ShapedType}
use Rattle.lf_definitions.specs.Substitution.{Replacement, stays, push, push_all, SubstitutedType}
use Rattle.lf_definitions.specs.Typing.{Typing, with_variable, TypedSpine, type_at, typed_globals, shapes_of}
use Rattle.lf_definitions.specs.Signatures.{LfSignature, kinds_in, constant_names, constant_types}
use Rattle.lf_definitions.specs.ShapedGoals.{ShapedContext, shaped_empty, shaped_entry, kind_shapes_in}
use Rattle.lf_definitions.proofs.Totality.{Goes-stays}
use Rattle.lf_definitions.proofs.Weakening.{rename_type-pis}
use Rattle.lf_definitions.proofs.TypedSpines.{SubstitutedType-renamed_outside}
use Rattle.lf_definitions.proofs.ShapedGoals.{shapes_of-under}
use Rattle.lf_definitions.proofs.Counts.{length-constant_names}
use Rattle.lf_definitions.proofs.Typing.{shaped_argument, shaped_result}
use Rattle.lf_terms.specs.declared.ty.Ty.{Ty}
use Rattle.lf_terms.specs.Types.{type_of, types_of}
use Rattle.basics.specs.Places.{place_of}
use Rattle.lf_kernel.specs.declared.head_type.HeadType.{HeadType}
use Rattle.lf_kernel.specs.declared.local_context.LocalContext as places
use Rattle.lf_kernel.proofs.Heads.{typing_under-constant}
use Rattle.file_trees.specs.declared.span.Span.{Span}
use Rattle.file_trees.specs.declared.span.BinderSpan.{BinderSpan}
use Rattle.file_trees.specs.Trees.{Tree, leaf, abstraction}
use Rattle.file_trees.specs.Places.{tree_place}
use Rattle.elab_terms.specs.Applied.{base_of, arguments_of}
use Rattle.elab_terms.specs.Names.{Text, text_at, binder_name, Bound, variable_of, head_or}
use Rattle.elab_terms.specs.Names as names
use Rattle.elab_terms.specs.KnownTypes.{Founded, HaveTypes, known_typing, KnownAt, IsWanted, IsRefusal}
use Rattle.typing_laws.specs.EtaLaws.{expanded}
use Rattle.elab_terms.specs.Terms.{ReadsTerm, reads_abstraction, reads_application, ReadsArguments, reads_none, reads_argument, RefusesTerm, refuses_abstraction, refuses_body, refuses_redex, refuses_result, RefusesArguments, refuses_here, refuses_later}
use Rattle.elab_terms.specs.declared.elab_fault.ElabFault.{ElabFault}
use Rattle.elab_terms.specs.declared.elab_fault.ElabFault.TheVariants.{Taken, TooMany, Unknown, Redex, IllTyped, BadRule, NoMemory}
use Rattle.elab_terms.proofs.ReadTyped.{Founded-with_variable, TypedSpine-ReadsArguments}

-- binders as they are seen from where the arguments stand
abbrev pub seen_types : ℕ → List Ty → Context
seen_types raise types = rename_context (next_by raise) (types_of types)

pub IsRefusal-map : (P Q : ElabFault → Type 0) → ((fault : ElabFault) → P fault → Q fault) → (fault : ElabFault) → IsRefusal P fault → IsRefusal Q fault
IsRefusal-map P Q f (Taken n) p = f (Taken n) p
IsRefusal-map P Q f (TooMany n) p = f (TooMany n) p
IsRefusal-map P Q f (Unknown n) p = f (Unknown n) p
IsRefusal-map P Q f (Redex n) p = f (Redex n) p
IsRefusal-map P Q f (IllTyped n) p = f (IllTyped n) p
IsRefusal-map P Q f (BadRule n) p = f (BadRule n) p
IsRefusal-map P Q f NoMemory p = tt

no_arguments : (arguments : List Tree) → length arguments ≡ 0 → arguments ≡ []
no_arguments [] none = refl
no_arguments (t ∷ ts) none = absurd (omega arith)

-- the first binder of a type, and what is left
abbrev FirstBinder : List Ty → Ty → Ty → Type 0
FirstBinder types wanted left = (a : LfType) × (type_of wanted ≡ pi a (type_of left)) × (types_of (take 1 types) ≡ a ∷ [])

pub first_binder : (types : List Ty) (wanted left : Ty) → types_of types ≡ wanted.binders → length types ≢ 0 → type_of left ≡ pis (drop 1 wanted.binders) (family wanted.family wanted.args) → FirstBinder types wanted left
first_binder [] wanted left are some is = absurd (some refl)
first_binder (t ∷ types) wanted left are some is = (
  type_of t,
  ap (λ bs. pis bs (family wanted.family wanted.args)) (sym are) ∙ ap (pi (type_of t)) (ap (λ bs. pis (drop 1 bs) (family wanted.family wanted.args)) are ∙ sym is),
  refl,
)

pub some_binder : (types : List Ty) (binders : Context) → types_of types ≡ binders → length types ≢ 0 → 1 ≤ length binders
some_binder [] binders are some = absurd (some refl)
some_binder (t ∷ types) binders are some = omega (arith, ap length are)

-- what is known under one more binder
pub have_types_under : (binders : Bound) (name : Option (List ℕ)) (Γ : Typing) (a : LfType) → HaveTypes binders Γ → HaveTypes (name ∷ binders) (with_variable a Γ)
have_types_under binders name Γ a have zero within = (raise_type a, refl)
have_types_under binders name Γ a have (suc n) within =
    let r = have n (omega arith) in
    (raise_type r.0, ap (option_map raise_type) r.1)

pub known_under : (sig : LfSignature) (Γ Δ : Typing) (binders new : Bound) (name : Option (List ℕ)) (a : LfType) → Δ ≡ with_variable a Γ → new ≡ name ∷ binders → KnownAt sig Γ binders → IsWanted sig Γ a → KnownAt sig Δ new
known_under sig Γ Δ binders new name a typing are known shaped = record {
  founded = subst (Founded (kinds_in sig)) (sym typing) (Founded-with_variable (kinds_in sig) Γ a known.founded shaped);
  have_types = subst₂ HaveTypes (sym are) (sym typing) (have_types_under binders name Γ a known.have_types);
}

pub wanted_binder : (sig : LfSignature) (Γ : Typing) (wanted a b : LfType) → wanted ≡ pi a b → IsWanted sig Γ wanted → IsWanted sig Γ a
wanted_binder sig Γ wanted a b is shaped = shaped_argument (subst (IsWanted sig Γ) is shaped)

pub wanted_under : (sig : LfSignature) (Γ Δ : Typing) (wanted a b : LfType) → Δ ≡ with_variable a Γ → wanted ≡ pi a b → IsWanted sig Γ wanted → IsWanted sig Δ b
wanted_under sig Γ Δ wanted a b typing is shaped =
    subst (λ θ. ShapedType (kind_shapes_in sig) θ b) (sym (shapes_of-under Γ a) ∙ ap shapes_of (sym typing)) (shaped_result (subst (IsWanted sig Γ) is shaped))

-- An abstraction.
module _ {text : Text} {sig : LfSignature} {binders : Bound} {Γ : Typing} {tree body : Tree} {binder : BinderSpan} (first : base_of tree ≡ abstraction binder body) where
  pub abstraction_ill : (wanted : Ty) (types : List Ty) (left : ℕ) → 0 ≡ length (arguments_of tree []) + left → types_of types ≡ wanted.binders → length types ≡ 0 →
      RefusesTerm text sig binders Γ tree (type_of wanted) (IllTyped binder.opening)
  abstraction_ill wanted types left none are empty =
      subst (λ a. RefusesTerm text sig binders Γ tree a (IllTyped binder.opening)) (ap (λ bs. pis bs (family wanted.family wanted.args)) (sym (no_types types empty) ∙ are))
      (refuses_abstraction binders Γ tree binder body wanted.family wanted.args (first, no_arguments (arguments_of tree []) (omega arith)))
    where
      no_types : (ts : List Ty) → length ts ≡ 0 → types_of ts ≡ []
      no_types [] e = refl
      no_types (t ∷ ts) e = absurd (omega arith)

  pub abstraction_redex : {argument : Tree} {wanted : LfType} → slice_get (arguments_of tree []) 0 ≡ Some argument → RefusesTerm text sig binders Γ tree wanted (Redex binder.opening)
  abstraction_redex {argument = argument} {wanted = wanted} there = by (arguments_of tree []) refl there
    where
      by : (arguments : List Tree) → arguments_of tree [] ≡ arguments → slice_get arguments 0 ≡ Some argument → RefusesTerm text sig binders Γ tree wanted (Redex binder.opening)
      by [] are e = absurd cc
      by (t ∷ ts) are e = refuses_redex binders Γ tree t binder body ts wanted (first, are)

  -- its body, whose names and types are equal to what the code has there
  module _ {new : Bound} {Δ : Typing} {wanted a c : LfType} (left : ℕ) (none : 0 ≡ length (arguments_of tree []) + left) (new_is : new ≡ binder_name text binder ∷ binders)
      (typing : Δ ≡ with_variable a Γ) (is : wanted ≡ pi a c) where
    pub abstraction_read : {t u : LfTerm} → u ≡ t → ReadsTerm text sig new Δ body c t → ReadsTerm text sig binders Γ tree wanted (lam u)
    abstraction_read {t = t} same read =
        subst₂ (λ w x. ReadsTerm text sig binders Γ tree w (lam x)) (sym is) (sym same)
        (reads_abstraction binders Γ tree binder body a c t (first, no_arguments (arguments_of tree []) (omega arith)) (subst₂ (λ b θ. ReadsTerm text sig b θ body c t) new_is typing read))

    pub abstraction_refused : (fault : ElabFault) → RefusesTerm text sig new Δ body c fault → RefusesTerm text sig binders Γ tree wanted fault
    abstraction_refused fault refused =
        subst (λ w. RefusesTerm text sig binders Γ tree w fault) (sym is)
        (refuses_body binders Γ tree binder body a c fault (first, no_arguments (arguments_of tree []) (omega arith)) (subst₂ (λ b θ. RefusesTerm text sig b θ body c fault) new_is typing refused))

-- A head that a name stands for has a type.
raised_within : (found : Option ℕ) (n count : ℕ) → option_map suc found ≡ Some n → ((m : ℕ) → found ≡ Some m → m < count) → n < suc count
raised_within None n count e inside = absurd cc
raised_within (Some m) n count e inside = let more : suc m ≡ n = cc in omega (arith, inside m refl, more)

here_within : (b : Bool) (found : Option ℕ) (n count : ℕ) → cond b (Some 0) (option_map suc found) ≡ Some n → ((m : ℕ) → found ≡ Some m → m < count) → n < suc count
here_within true found n count e inside = let here : 0 ≡ n = cc in omega (arith, here)
here_within false found n count e inside = raised_within found n count e inside

variable_within : (binders : Bound) (name : List ℕ) (n : ℕ) → variable_of binders name ≡ Some n → n < length binders
variable_within [] name n e = absurd cc
variable_within (None ∷ binders) name n e = raised_within (variable_of binders name) n (length binders) e (λ m f. variable_within binders name m f)
variable_within (Some binder ∷ binders) name n e =
    here_within (bytes_eq name binder) (variable_of binders name) n (length binders) e (λ m f. variable_within binders name m f)

some_type : (types : List LfType) (c : ℕ) → c < length types → (a : LfType) × (type_at types c ≡ Some a)
some_type [] c within = absurd (omega arith)
some_type (a ∷ types) zero within = (a, refl)
some_type (a ∷ types) (suc c) within = some_type types c (omega arith)

abbrev HasType : Typing → LfHead → Type 0
HasType Γ h = (a : LfType) × (Γ h ≡ Some a)

pub head_typed : (sig : LfSignature) (scope : places.LocalContext) (binders : Bound) (name : List ℕ) (h : LfHead) → KnownAt sig (known_typing sig scope) binders → names.named_head sig binders name ≡ Some h → HasType (known_typing sig scope) h
head_typed sig scope binders name h known e = by_variable (variable_of binders name) refl
  where
    Γ : Typing
    Γ = known_typing sig scope

    others : Option LfHead
    others = option_map constant (place_of (constant_names sig) name)

    by_constant : (found : Option ℕ) → place_of (constant_names sig) name ≡ found → option_map constant found ≡ Some h → HasType Γ h
    by_constant None is f = absurd cc
    by_constant (Some c) is f =
        let same : constant c ≡ h = cc in
        let within = (position-Some (bytes_eq name) (constant_names sig) c [] is).0 in
        let typed = some_type (constant_types sig) c (omega (arith, within, length-constant_names sig)) in
        (typed.0, ap Γ (sym same) ∙ typing_under-constant scope (typed_globals (constant_types sig) []) c ∙ typed.1)

    by_variable : (found : Option ℕ) → variable_of binders name ≡ found → HasType Γ h
    by_variable None is = by_constant (place_of (constant_names sig) name) refl (ap (head_or others) (sym is) ∙ e)
    by_variable (Some n) is =
        let other : head_or others (Some n) ≡ Some h = ap (head_or others) (sym is) ∙ e in
        let same : bound n ≡ h = cc in
        let typed = known.have_types n (variable_within binders name n is) in
        (typed.0, ap Γ (sym same) ∙ typed.1)

pub head_is : (Γ : Typing) (h : LfHead) → HasType Γ h → ◌≡◌ {A = Option LfType} None (Γ h) → ⊥
head_is Γ h (a, e) none = absurd (apart (none ∙ e))
  where
    apart : ◌≡◌ {A = Option LfType} None (Some a) → ⊥
    apart f = cc

-- The arguments one by one.
pub ReadsArguments-more : {text : Text} {sig : LfSignature} {binders : Bound} {Γ : Typing} {σ : Replacement} {trees : List Tree} {domains : Context} {ts : Spine} → ReadsArguments text sig binders Γ σ trees domains ts →
    (tree : Tree) (a c : LfType) (t : LfTerm) → SubstitutedType (push_all ts σ) a c → ReadsTerm text sig binders Γ tree c t →
    ReadsArguments text sig binders Γ σ (trees ++ tree ∷ []) (domains ++ a ∷ []) (joined ts (arg t no_args))
ReadsArguments-more (reads_none binders Γ σ) tree a c t result read = reads_argument binders Γ σ tree [] a c [] t no_args result read (reads_none binders Γ (push t σ))
ReadsArguments-more (reads_argument binders Γ σ first trees b d rest u us r p ps) tree a c t result read =
    reads_argument binders Γ σ first (trees ++ tree ∷ []) b d (rest ++ a ∷ []) u (joined us (arg t no_args)) r p (ReadsArguments-more ps tree a c t result read)

pub RefusesArguments-at : {text : Text} {sig : LfSignature} {binders : Bound} {Γ : Typing} {σ : Replacement} {trees : List Tree} {domains : Context} {ts : Spine} → ReadsArguments text sig binders Γ σ trees domains ts →
    (tree : Tree) (later : List Tree) (a c : LfType) (more : Context) (fault : ElabFault) → SubstitutedType (push_all ts σ) a c → RefusesTerm text sig binders Γ tree c fault →
    RefusesArguments text sig binders Γ σ (trees ++ tree ∷ later) (domains ++ a ∷ more) fault
RefusesArguments-at (reads_none binders Γ σ) tree later a c more fault result refused = refuses_here binders Γ σ tree later a c more fault result refused
RefusesArguments-at (reads_argument binders Γ σ first trees b d rest u us r p ps) tree later a c more fault result refused =
    refuses_later binders Γ σ first (trees ++ tree ∷ later) b d (rest ++ a ∷ more) u fault r p (RefusesArguments-at ps tree later a c more fault result refused)

pub split_at : {X : Type 0} (xs : List X) (i : ℕ) (x : X) → slice_get xs i ≡ Some x → xs ≡ take i xs ++ x ∷ drop (suc i) xs
split_at [] i x e = absurd cc
split_at (y ∷ xs) zero x e = let same : y ≡ x = cc in ap (λ z. z ∷ xs) same
split_at (y ∷ xs) (suc i) x e = ap (λ rest. y ∷ rest) (split_at xs i x e)

pub take_next : {X : Type 0} (xs : List X) (i : ℕ) (x : X) → slice_get xs i ≡ Some x → take (i + 1) xs ≡ take i xs ++ x ∷ []
take_next [] i x e = absurd cc
take_next (y ∷ xs) zero x e = let same : y ≡ x = cc in ap (λ z. z ∷ []) same
take_next (y ∷ xs) (suc i) x e =
    let count : suc i + 1 ≡ suc (i + 1) = omega arith in
    ap (λ n. take n (y ∷ xs)) count ∙ ap (λ rest. y ∷ rest) (take_next xs i x e)

shaped_prefix : {kinds : ℕ → Option SimpleType} {Γ : Scope} (prefix more : Context) → ShapedContext kinds Γ (prefix ++ more) → ShapedContext kinds Γ prefix
shaped_prefix [] more p = shaped_empty
shaped_prefix (a ∷ prefix) more (shaped_entry p ps) = shaped_entry p (shaped_prefix prefix more ps)

pub shaped_take : (kinds : ℕ → Option SimpleType) (Γ : Scope) (ctx : Context) (n : ℕ) → ShapedContext kinds Γ ctx → ShapedContext kinds Γ (take n ctx)
shaped_take kinds Γ ctx n shaped = shaped_prefix (take n ctx) (drop n ctx) (subst (ShapedContext kinds Γ) (sym (take-append-drop n ctx)) shaped)

pub take-rename_context : (n : ℕ) (ctx : Context) (ξ : Renaming) → take n (rename_context ξ ctx) ≡ rename_context ξ (take n ctx)
take-rename_context zero ctx ξ = refl
take-rename_context (suc n) [] ξ = refl
take-rename_context (suc n) (a ∷ ctx) ξ = ap (λ rest. rename_type ξ a ∷ rest) (take-rename_context n ctx (lifted ξ))

pub drop-rename_context : (n : ℕ) (ctx : Context) (ξ : Renaming) → n ≤ length ctx → drop n (rename_context ξ ctx) ≡ rename_context (lifted_by n ξ) (drop n ctx)
drop-rename_context zero ctx ξ within = refl
drop-rename_context (suc n) [] ξ within = absurd (omega arith)
drop-rename_context (suc n) (a ∷ ctx) ξ within = drop-rename_context n ctx (lifted ξ) (omega arith)

lifted_by-drop : (n : ℕ) (ctx : Context) (ξ : Renaming) → n ≤ length ctx → lifted_by (length (drop n ctx)) (lifted_by n ξ) ≡ lifted_by (length ctx) ξ
lifted_by-drop zero ctx ξ within = refl
lifted_by-drop (suc n) [] ξ within = absurd (omega arith)
lifted_by-drop (suc n) (a ∷ ctx) ξ within = lifted_by-drop n ctx (lifted ξ) (omega arith)

-- what arguments that are read are typed at
pub arguments_typed : {text : Text} {sig : LfSignature} {binders : Bound} {Γ : Typing} {arguments : List Tree} {domains : Context} {ts : Spine} → Founded (kinds_in sig) Γ →
    ShapedContext (kind_shapes_in sig) (shapes_of Γ) domains → ReadsArguments text sig binders Γ stays arguments domains ts → TypedSpine Γ stays ts domains
arguments_typed {sig = sig} {Γ = Γ} founded shaped read = TypedSpine-ReadsArguments read (kinds_in sig) founded (shapes_of Γ) 0 (Goes-stays 0 (shapes_of Γ)) shaped

-- the type of a head with its first arguments, as it is declared and as it is seen
pub result_seen : (found : HeadType) (ts : Spine) (n : ℕ) (c : LfType) → n ≤ length found.binders.now → args_count ts ≡ n →
    SubstitutedType (push_all ts (λ h. stays (next_by found.raise h))) (pis (drop n found.binders.now) (family found.family found.args.now)) c →
    SubstitutedType (push_all ts stays) (pis (drop n (rename_context (next_by found.raise) found.binders.now)) (family found.family (rename_spine (lifted_by (length found.binders.now) (next_by found.raise)) found.args.now))) c
result_seen found ts n c within count result =
    let ξ = next_by found.raise in
    let bs = found.binders.now in
    let end = family found.family found.args.now in
    let renamed : rename_type (lifted_by n ξ) (pis (drop n bs) end) ≡ pis (drop n (rename_context ξ bs)) (family found.family (rename_spine (lifted_by (length bs) ξ) found.args.now)) =
    rename_type-pis (lifted_by n ξ) (drop n bs) end
    ∙ ap₂ (λ cs ζ. pis cs (family found.family (rename_spine ζ found.args.now))) (sym (drop-rename_context n bs ξ within)) (lifted_by-drop n bs ξ within) in
    subst (λ a. SubstitutedType (push_all ts stays) a c) (ap (λ m. rename_type (lifted_by m ξ) (pis (drop n bs) end)) count ∙ renamed)
    (SubstitutedType-renamed_outside ts ξ (pis (drop n bs) end) c result)

-- An application, by the type of its head.
split_type : {found : Option LfType} (n : ℕ) (domains : Context) (end : LfType) → found ≡ Some (pis domains end) → found ≡ Some (pis (take n domains ++ drop n domains) end)
split_type n domains end known = known ∙ ap (λ ds. Some (pis ds end)) (sym (take-append-drop n domains))

module _ {text : Text} {sig : LfSignature} {binders : Bound} {Γ : Typing} {tree : Tree} {span : Span} {h : LfHead} (domains : Context) (f : ℕ) (args : Spine)
    (first : base_of tree ≡ leaf span) (resolved : names.named_head sig binders (text_at text span) ≡ Some h) (known : Γ h ≡ Some (pis domains (family f args)))
    {ts : Spine} {made wanted : LfType} (read : ReadsArguments text sig binders Γ stays (arguments_of tree []) (take (length (arguments_of tree [])) domains) ts)
    (result : SubstitutedType (push_all ts stays) (pis (drop (length (arguments_of tree [])) domains) (family f args)) made) where
  pub application_read : {t : LfTerm} → made ≡ wanted → t ≡ expanded h ts (shape_of made) → ReadsTerm text sig binders Γ tree wanted t
  application_read same is =
      let arguments = arguments_of tree [] in
      let count = length arguments in
      let end = family f args in
      subst (ReadsTerm text sig binders Γ tree wanted) (ap (λ a. expanded h ts (shape_of a)) (sym same) ∙ sym is)
      (reads_application binders Γ tree span arguments h (take count domains) (drop count domains) f args ts wanted (first, refl) resolved (split_type count domains end known) read
      (subst (SubstitutedType (push_all ts stays) (pis (drop count domains) end)) same result))

  pub application_differs : (made ≡ wanted → ⊥) → RefusesTerm text sig binders Γ tree wanted (IllTyped (tree_place tree))
  application_differs differ =
      let arguments = arguments_of tree [] in
      let count = length arguments in
      refuses_result binders Γ tree span arguments h (take count domains) (drop count domains) f args ts made wanted (first, refl) resolved (split_type count domains (family f args) known) read result differ
