-- What is read from a tree is one.
use Rattle.std.proofs.Common.{◌≡◌, ℕ, suc, Option, Some, List, [], ◌∷◌, ◌++◌, length, refl, sym, ap, ap₂, ◌∙◌, subst, subst₂, arith}
use Rattle.lf_definitions.specs.Syntax.{LfHead, LfTerm, lam, Spine, arg, shape_of, LfType, pi, family, pis, LfKind, conclusion}
use Rattle.lf_definitions.specs.Substitution.{Replacement, stays, push}
use Rattle.lf_definitions.specs.Typing.{Typing, with_variable}
use Rattle.lf_definitions.specs.Signatures.{LfSignature, kinds_in}
use Rattle.lf_definitions.proofs.Uniqueness.{unique_type}
use Rattle.lf_definitions.proofs.Failures.{binders_of, binders_of-pis, conclusion-pis, family_args_of, family_args_of-pis}
use Rattle.lf_definitions.proofs.Options.{Some_inj}
use Rattle.file_trees.specs.declared.span.Span.{Span}
use Rattle.file_trees.specs.declared.span.BinderSpan.{BinderSpan}
use Rattle.file_trees.specs.Trees.{Tree, leaf, abstraction, Classifier}
use Rattle.file_trees.specs.Trees as trees
use Rattle.elab_terms.specs.Names.{Text, text_at, binder_name, Bound, named_head}
use Rattle.typing_laws.specs.EtaLaws.{expanded}
use Rattle.elab_terms.specs.Terms.{ReadsTerm, reads_abstraction, reads_application, ReadsArguments, reads_none, reads_argument}
use Rattle.elab_terms.specs.Types.{IsBinder, pi_binder, arrow_binder, ReadsType, reads_binder, reads_family, ReadsKind, reads_type_word, reads_kind_binder}

-- A tree has one head and one list of arguments.
pub leaf-abstraction : {tree : Tree} {span : Span} {binder : BinderSpan} {body : Tree} → tree ≡ leaf span → tree ≡ abstraction binder body → ⊥
leaf-abstraction e f = cc

pub leaf_inj : {tree : Tree} {span other : Span} → tree ≡ leaf span → tree ≡ leaf other → span ≡ other
leaf_inj e f = cc

pub abstraction_binder : {tree : Tree} {binder other : BinderSpan} {body more : Tree} → tree ≡ abstraction binder body → tree ≡ abstraction other more → binder ≡ other
abstraction_binder e f = cc

pub abstraction_body : {tree : Tree} {binder other : BinderSpan} {body more : Tree} → tree ≡ abstraction binder body → tree ≡ abstraction other more → body ≡ more
abstraction_body e f = cc

-- A name's head is one, and so is its type.
pub same_head : (text : Text) (sig : LfSignature) (binders : Bound) {tree : Tree} {span other : Span} {h k : LfHead} → tree ≡ leaf span → named_head sig binders (text_at text span) ≡ Some h →
    tree ≡ leaf other → named_head sig binders (text_at text other) ≡ Some k → h ≡ k
same_head text sig binders e resolved f found = Some_inj resolved (ap (λ s. named_head sig binders (text_at text s)) (leaf_inj e f) ∙ found)

pub same_known : (Γ : Typing) {h k : LfHead} {a b : LfType} → h ≡ k → Γ h ≡ Some a → Γ k ≡ Some b → a ≡ b
same_known Γ same e f = Some_inj e (ap Γ same ∙ f)

-- A type is binders over a family in one way.
pub same_binders : (bs cs : List LfType) (f g : ℕ) (args other : Spine) → pis bs (family f args) ≡ pis cs (family g other) → bs ≡ cs
same_binders bs cs f g args other e = sym (binders_of-pis bs f args) ∙ ap binders_of e ∙ binders_of-pis cs g other

pub same_end : (bs cs : List LfType) (f g : ℕ) (args other : Spine) → pis bs (family f args) ≡ pis cs (family g other) → family f args ≡ family g other
same_end bs cs f g args other e =
    ap₂ family (sym (conclusion-pis bs f args) ∙ ap conclusion e ∙ conclusion-pis cs g other)
    (sym (family_args_of-pis bs f args) ∙ ap family_args_of e ∙ family_args_of-pis cs g other)

-- A list is split in one way after so many entries.
pub same_first : (first missing other left : List LfType) → first ++ missing ≡ other ++ left → length first ≡ length other → first ≡ other
same_first [] missing [] left e count = refl
same_first [] missing (b ∷ other) left e count = absurd (omega (arith, count))
same_first (a ∷ first) missing [] left e count = absurd (omega (arith, count))
same_first (a ∷ first) missing (b ∷ other) left e count =
    let here : a ≡ b = cc in
    let later : first ++ missing ≡ other ++ left = cc in
    ap₂ (λ x xs. x ∷ xs) here (same_first first missing other left later (omega (arith, count)))

pub same_missing : (first missing other left : List LfType) → first ++ missing ≡ other ++ left → length first ≡ length other → missing ≡ left
same_missing [] missing [] left e count = e
same_missing [] missing (b ∷ other) left e count = absurd (omega (arith, count))
same_missing (a ∷ first) missing [] left e count = absurd (omega (arith, count))
same_missing (a ∷ first) missing (b ∷ other) left e count =
    let later : first ++ missing ≡ other ++ left = cc in
    same_missing first missing other left later (omega (arith, count))

-- Arguments that are read are as many as the binders that they are read at.
pub length-ReadsArguments : {text : Text} {sig : LfSignature} {binders : Bound} {Γ : Typing} {σ : Replacement} {trees : List Tree} {domains : List LfType} {ts : Spine} →
    ReadsArguments text sig binders Γ σ trees domains ts → length trees ≡ length domains
length-ReadsArguments (reads_none binders Γ σ) = refl
length-ReadsArguments (reads_argument binders Γ σ tree trees a c rest t ts result read reads) = ap suc (length-ReadsArguments reads)

-- the first binders of a head's type that as many arguments take
pub same_domains : {text : Text} {sig : LfSignature} {binders : Bound} {Γ : Typing} {σ τ : Replacement} {trees others : List Tree} {first other : List LfType} {ts us : Spine} →
    trees ≡ others → ReadsArguments text sig binders Γ σ trees first ts → ReadsArguments text sig binders Γ τ others other us →
    length first ≡ length other
same_domains same read reads = sym (length-ReadsArguments read) ∙ ap length same ∙ length-ReadsArguments reads

mutual
  pub unique_term : {text : Text} {sig : LfSignature} {binders : Bound} {Γ : Typing} {tree : Tree} {a : LfType} {t u : LfTerm} →
      ReadsTerm text sig binders Γ tree a t → ReadsTerm text sig binders Γ tree a u → t ≡ u
  unique_term {text = text} {sig = sig} (reads_abstraction binders Γ tree binder body a c b is read) (reads_abstraction _ _ _ other more _ _ d are reads) =
      ap lam (unique_term read
      (subst₂ (λ s x. ReadsTerm text sig (binder_name text s ∷ binders) (with_variable a Γ) x c d) (abstraction_binder are.0 is.0) (abstraction_body are.0 is.0) reads))
  unique_term (reads_abstraction binders Γ tree binder body a c b is read) (reads_application _ _ _ other arguments k second left g brgs us _ are found known reads result) =
      absurd (leaf-abstraction are.0 is.0)
  unique_term (reads_application binders Γ tree span arguments h first missing f args ts _ is resolved known read result) (reads_abstraction _ _ _ other more a c d are reads) =
      absurd (leaf-abstraction is.0 are.0)
  unique_term {text = text} {sig = sig} (reads_application binders Γ tree span arguments h first missing f args ts wanted is resolved known read result)
      (reads_application _ _ _ other others k second left g brgs us _ are found typed reads end) =
      let head_is = same_head text sig binders is.0 resolved are.0 found in
      let trees_are : others ≡ arguments = sym are.1 ∙ is.1 in
      let whole = same_binders (second ++ left) (first ++ missing) g f brgs args (same_known Γ (sym head_is) typed known) in
      let domains_are = same_first second left first missing whole (same_domains trees_are reads read) in
      ap₂ (λ x xs. expanded x xs (shape_of wanted)) head_is
      (unique_arguments read (subst₂ (λ xs ds. ReadsArguments text sig binders Γ stays xs ds us) trees_are domains_are reads))

  pub unique_arguments : {text : Text} {sig : LfSignature} {binders : Bound} {Γ : Typing} {σ : Replacement} {trees : List Tree} {domains : List LfType} {ts us : Spine} →
      ReadsArguments text sig binders Γ σ trees domains ts → ReadsArguments text sig binders Γ σ trees domains us → ts ≡ us
  unique_arguments (reads_none binders Γ σ) (reads_none _ _ _) = refl
  unique_arguments {text = text} {sig = sig} (reads_argument binders Γ σ tree trees a c rest t ts result read more) (reads_argument _ _ _ _ _ _ d _ u us end reads others) =
      let term_is = unique_term read (subst (λ x. ReadsTerm text sig binders Γ tree x u) (unique_type end result) reads) in
      ap₂ arg term_is (unique_arguments more (subst (λ x. ReadsArguments text sig binders Γ (push x σ) trees rest us) (sym term_is) others))

-- A binder's place, its domain, what stands after it, and what it binds are one.
pub record SameBinder (place start : ℕ) (domain other rest left : Classifier) (name binder : Option (List ℕ)) : Type 0 where
  pub place_is : start ≡ place
  pub domain_is : other ≡ domain
  pub rest_is : left ≡ rest
  pub name_is : binder ≡ name

pub same_binder : {text : Text} {whole domain other rest left : Classifier} {place start : ℕ} {name binder : Option (List ℕ)} →
    IsBinder text whole place domain rest name → IsBinder text whole start other left binder → SameBinder place start domain other rest left name binder
same_binder (pi_binder binder domain rest) (pi_binder _ _ _) = record { place_is = refl; domain_is = refl; rest_is = refl; name_is = refl }
same_binder (arrow_binder domain rest) (arrow_binder _ _) = record { place_is = refl; domain_is = refl; rest_is = refl; name_is = refl }

pub no_binder : {text : Text} {span : Span} {arguments : List Tree} {place : ℕ} {domain rest : Classifier} {name : Option (List ℕ)} →
    IsBinder text (trees.family span arguments) place domain rest name → ⊥
no_binder is = elim is [ ]

pub no_word_binder : {text : Text} {span : Span} {place : ℕ} {domain rest : Classifier} {name : Option (List ℕ)} →
    IsBinder text (trees.star span) place domain rest name → ⊥
no_word_binder is = elim is [ ]

pub unique_read_type : {text : Text} {sig : LfSignature} {binders : Bound} {Γ : Typing} {count : ℕ} {tree : Classifier} {a b : LfType} →
    ReadsType text sig binders Γ count tree a → ReadsType text sig binders Γ count tree b → a ≡ b
unique_read_type {text = text} {sig = sig} (reads_binder binders Γ count place whole domain rest name a b is few read more)
    (reads_binder _ _ _ start _ other left binder c d are less reads others) =
    let same = same_binder is are in
    let first = unique_read_type read (subst (λ x. ReadsType text sig binders Γ 0 x c) same.domain_is reads) in
    let moved = subst₂ (λ n x. ReadsType text sig (n ∷ binders) (with_variable c Γ) (suc count) x d) same.name_is same.rest_is others in
    ap₂ pi first (unique_read_type more (subst (λ x. ReadsType text sig (name ∷ binders) (with_variable x Γ) (suc count) rest d) (sym first) moved))
unique_read_type (reads_binder binders Γ count place _ domain rest name a b is few read more) (reads_family _ _ _ span arguments f domains ts resolved known reads) = absurd (no_binder is)
unique_read_type (reads_family binders Γ count span arguments f domains ts resolved known read) (reads_binder _ _ _ start _ other left binder c d are less reads others) = absurd (no_binder are)
unique_read_type {text = text} {sig = sig} (reads_family binders Γ count span arguments f domains ts resolved known read) (reads_family _ _ _ _ _ g others us found typed reads) =
    let family_is = Some_inj resolved found in
    let domains_are = Some_inj typed (ap (kinds_in sig) (sym family_is) ∙ known) in
    ap₂ family family_is (unique_arguments read (subst (λ ds. ReadsArguments text sig binders Γ stays arguments ds us) domains_are reads))

pub unique_read_kind : {text : Text} {sig : LfSignature} {binders : Bound} {Γ : Typing} {tree : Classifier} {kind other : LfKind} →
    ReadsKind text sig binders Γ tree kind → ReadsKind text sig binders Γ tree other → kind ≡ other
unique_read_kind (reads_type_word binders Γ span) (reads_type_word _ _ _) = refl
unique_read_kind (reads_type_word binders Γ span) (reads_kind_binder _ _ start _ other left binder c kind are reads others) = absurd (no_word_binder are)
unique_read_kind (reads_kind_binder binders Γ place _ domain rest name a kind is read more) (reads_type_word _ _ span) = absurd (no_word_binder is)
unique_read_kind {text = text} {sig = sig} (reads_kind_binder binders Γ place whole domain rest name a kind is read more) (reads_kind_binder _ _ start _ other left binder c found are reads others) =
    let same = same_binder is are in
    let first = unique_read_type read (subst (λ x. ReadsType text sig binders Γ 0 x c) same.domain_is reads) in
    let moved = subst₂ (λ n x. ReadsKind text sig (n ∷ binders) (with_variable c Γ) x found) same.name_is same.rest_is others in
    ap₂ (λ x xs. x ∷ xs) first (unique_read_kind more (subst (λ x. ReadsKind text sig (name ∷ binders) (with_variable x Γ) rest found) (sym first) moved))
