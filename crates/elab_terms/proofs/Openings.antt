-- The binders of a type that are read one by one.
use Rattle.std.proofs.Common.{◌≡◌, ℕ, zero, suc, ◌+◌, ◌≤◌, ⊎_elim, Option, Some, None, List, [], ◌∷◌, ◌++◌, length, drop, refl, sym, ap, ◌∙◌, subst, subst₂, append_assoc, length-append, arith}
use Rattle.std.proofs.lemmas.Bool.{cases_lt}
use Rattle.lf_definitions.specs.Syntax.{LfType, pis, Context}
use Rattle.lf_definitions.specs.Typing.{Typing, with_variable, with_context}
use Rattle.lf_definitions.specs.Signatures.{LfSignature}
use Rattle.lf_definitions.proofs.Typing.{ShapedType-Formed}
use Rattle.lf_definitions.proofs.Variables.{with_context-append}
use Rattle.file_trees.specs.Trees.{Classifier, Binding, pi_of, arrow_of, bind, classifier_size, bindings_size}
use Rattle.file_trees.specs.Trees as trees
use Rattle.elab_terms.specs.Names.{Text, Bound}
use Rattle.elab_terms.specs.ReadBinders.{binding_place, domain_of, binding_name, HasRoom, ReadsAs, RefusesAs, Opens}
use Rattle.elab_terms.specs.KnownTypes.{KnownAt}
use Rattle.elab_terms.specs.Types.{IsBinder, pi_binder, arrow_binder, ReadsType, reads_binder, RefusesType, refuses_binder, refuses_domain, refuses_rest, reads_kind_binder, refuses_kind_domain, refuses_kind_rest}
use Rattle.elab_terms.specs.declared.elab_fault.ElabFault.{ElabFault}
use Rattle.elab_terms.specs.declared.elab_fault.ElabFault.TheVariants.{TooMany}
use Rattle.elab_terms.specs.declared.ending.Ending.{Ending}
use Rattle.elab_terms.specs.declared.ending.Ending.TheVariants.{Family, Word}
use Rattle.elab_terms.proofs.ReadTyped.{Formed-ReadsType}
use Rattle.elab_terms.proofs.Reading.{known_under}

pub classifier_size-bind : (bindings : List Binding) (last : Classifier) → classifier_size (bind bindings last) ≡ bindings_size bindings + classifier_size last
classifier_size-bind [] last = omega arith
classifier_size-bind (pi_of binder domain ∷ bindings) last = let rest = classifier_size-bind bindings last in omega (arith, rest)
classifier_size-bind (arrow_of left ∷ bindings) last = let rest = classifier_size-bind bindings last in omega (arith, rest)

pub some_size : (tree : Classifier) → 1 ≤ classifier_size tree
some_size (trees.pi binder domain rest) = omega arith
some_size (trees.arrow left right) = omega arith
some_size (trees.family span arguments) = omega arith
some_size (trees.star span) = omega arith

pub is_binder : (text : Text) (binding : Binding) (rest : Classifier) → IsBinder text (bind (binding ∷ []) rest) (binding_place binding) (domain_of binding) rest (binding_name text binding)
is_binder text (pi_of binder domain) rest = pi_binder binder domain rest
is_binder text (arrow_of left) rest = arrow_binder left rest

pub bind_cons : (binding : Binding) (bindings : List Binding) (last : Classifier) → bind (binding ∷ []) (bind bindings last) ≡ bind (binding ∷ bindings) last
bind_cons (pi_of binder domain) bindings last = refl
bind_cons (arrow_of left) bindings last = refl

pub append_nil : (xs : Context) → xs ++ [] ≡ xs
append_nil [] = refl
append_nil (x ∷ xs) = ap (λ rest. x ∷ rest) (append_nil xs)

-- none is read yet
pub opens_none : {ending : Ending} {text : Text} {sig : LfSignature} {old : Bound} {Γ : Typing} {before : Context} {bindings : List Binding} → KnownAt sig (with_context before Γ) old →
    Opens ending text sig old old Γ before before bindings bindings
opens_none {before = before} known = record {
  added = [];
  inside = [];
  types_are = sym (append_nil before);
  names_are = refl;
  known = known;
  reads = λ last ctx end read. read;
  refuses = λ last fault refused. refused;
}

-- One binder, and what stands after it.
module _ (sig : LfSignature) (binders : Bound) (Γ : Typing) (count : ℕ) {text : Text} {place : ℕ} {whole domain rest : Classifier} {name : Option (List ℕ)} (is : IsBinder text whole place domain rest name) where
  full_refused : (ending : Ending) → (HasRoom ending count → ⊥) → RefusesAs ending text sig binders Γ count whole (TooMany place)
  full_refused Family full = refuses_binder binders Γ count place whole domain rest name is (⊎_elim (λ few. absurd (full few)) (λ many. many) (cases_lt count 1000))
  full_refused Word full = absurd (full tt)

  first_refused : (ending : Ending) (fault : ElabFault) → HasRoom ending count → RefusesType text sig binders Γ 0 domain fault → RefusesAs ending text sig binders Γ count whole fault
  first_refused Family fault room refused = refuses_domain binders Γ count place whole domain rest name fault is room refused
  first_refused Word fault room refused = refuses_kind_domain binders Γ place whole domain rest name fault is refused

  rest_read : (ending : Ending) {a : LfType} (ctx : Context) (end : Option LfType) → HasRoom ending count → ReadsType text sig binders Γ 0 domain a →
      ReadsAs ending text sig (name ∷ binders) (with_variable a Γ) (suc count) rest ctx end → ReadsAs ending text sig binders Γ count whole (a ∷ ctx) end
  rest_read Family {a = a} ctx (Some end) room read more = reads_binder binders Γ count place whole domain rest name a (pis ctx end) is room read more
  rest_read Family ctx None room read more = more
  rest_read Word ctx (Some end) room read more = more
  rest_read Word {a = a} ctx None room read more = reads_kind_binder binders Γ place whole domain rest name a ctx is read more

  rest_refused : (ending : Ending) {a : LfType} (fault : ElabFault) → HasRoom ending count → ReadsType text sig binders Γ 0 domain a →
      RefusesAs ending text sig (name ∷ binders) (with_variable a Γ) (suc count) rest fault → RefusesAs ending text sig binders Γ count whole fault
  rest_refused Family {a = a} fault room read refused = refuses_rest binders Γ count place whole domain rest name a fault is room read refused
  rest_refused Word {a = a} fault room read refused = refuses_kind_rest binders Γ place whole domain rest name a fault is read refused

module _ {ending : Ending} {text : Text} {sig : LfSignature} {old now : Bound} {Γ : Typing} {before after : Context} {whole rest : List Binding} {binding : Binding}
    (opens : Opens ending text sig old now Γ before after whole (binding ∷ rest)) where
  abbrev inside_typing : Typing
  inside_typing = with_context after Γ

  abbrev FailsInside : Classifier → ElabFault → Type 0
  FailsInside tree fault = RefusesAs ending text sig now inside_typing (length after) tree fault

  refused_inside : (last : Classifier) (fault : ElabFault) → FailsInside (bind (binding ∷ []) (bind rest last)) fault →
      RefusesAs ending text sig old (with_context before Γ) (length before) (bind whole last) fault
  refused_inside last fault refused = opens.refuses last fault (subst (λ t. FailsInside t fault) (bind_cons binding rest last) refused)

  -- one too many
  pub too_many : (HasRoom ending (length after) → ⊥) → (last : Classifier) → RefusesAs ending text sig old (with_context before Γ) (length before) (bind whole last) (TooMany (binding_place binding))
  too_many full last = refused_inside last (TooMany (binding_place binding)) (full_refused sig now inside_typing (length after) (is_binder text binding (bind rest last)) ending full)

  pub domain_refused : HasRoom ending (length after) → (fault : ElabFault) → RefusesType text sig now inside_typing 0 (domain_of binding) fault → (last : Classifier) →
      RefusesAs ending text sig old (with_context before Γ) (length before) (bind whole last) fault
  domain_refused room fault refused last = refused_inside last fault (first_refused sig now inside_typing (length after) (is_binder text binding (bind rest last)) ending fault room refused)

  -- one more
  module _ (room : HasRoom ending (length after)) {a : LfType} (read : ReadsType text sig now inside_typing 0 (domain_of binding) a) where
    typing : with_context (after ++ a ∷ []) Γ ≡ with_variable a inside_typing
    typing = with_context-append after (a ∷ []) Γ

    count : length (after ++ a ∷ []) ≡ suc (length after)
    count = omega (arith, length-append after (a ∷ []))

    known_more : KnownAt sig (with_context (after ++ a ∷ []) Γ) (binding_name text binding ∷ now)
    known_more = known_under sig inside_typing (with_context (after ++ a ∷ []) Γ) now (binding_name text binding ∷ now) (binding_name text binding) a typing refl opens.known (ShapedType-Formed (Formed-ReadsType read opens.known.founded))

    reads_more : (last : Classifier) (ctx : Context) (end : Option LfType) →
        ReadsAs ending text sig (binding_name text binding ∷ now) (with_context (after ++ a ∷ []) Γ) (length (after ++ a ∷ [])) (bind rest last) ctx end →
        ReadsAs ending text sig old (with_context before Γ) (length before) (bind whole last) ((opens.added ++ a ∷ []) ++ ctx) end
    reads_more last ctx end more =
        subst (λ xs. ReadsAs ending text sig old (with_context before Γ) (length before) (bind whole last) xs end) (sym (append_assoc opens.added (a ∷ []) ctx))
        (opens.reads last (a ∷ ctx) end
        (subst (λ t. ReadsAs ending text sig now inside_typing (length after) t (a ∷ ctx) end) (bind_cons binding rest last)
        (rest_read sig now inside_typing (length after) (is_binder text binding (bind rest last)) ending ctx end room read
        (subst₂ (λ θ n. ReadsAs ending text sig (binding_name text binding ∷ now) θ n (bind rest last) ctx end) typing count more))))

    pub opens_more : Opens ending text sig old (binding_name text binding ∷ now) Γ before (after ++ a ∷ []) whole rest
    opens_more = record {
      added = opens.added ++ a ∷ [];
      inside = binding_name text binding ∷ opens.inside;
      types_are = ap (λ xs. xs ++ a ∷ []) opens.types_are ∙ append_assoc before opens.added (a ∷ []);
      names_are = ap (λ ns. binding_name text binding ∷ ns) opens.names_are;
      known = known_more;
      reads = reads_more;
      refuses = λ last fault refused.
          refused_inside last fault (rest_refused sig now inside_typing (length after) (is_binder text binding (bind rest last)) ending fault room read
          (subst₂ (λ θ n. RefusesAs ending text sig (binding_name text binding ∷ now) θ n (bind rest last) fault) typing count refused));
    }

pub past_all : (bindings : List Binding) (i : ℕ) → length bindings ≤ i → drop i bindings ≡ []
past_all [] zero past = refl
past_all [] (suc i) past = refl
past_all (b ∷ bindings) zero past = absurd (omega arith)
past_all (b ∷ bindings) (suc i) past = past_all bindings i (omega arith)
