-- Elaborating the tree of a printed type or term gives the type or the term.
use Rattle.std.proofs.Common.{◌≡◌, ℕ, zero, suc, ◌<◌, ◌^◌, List, [], ◌∷◌, Bool, true, false, Option, Some, None, refl, sym, ap, ◌∙◌, subst, arith}
use Rattle.std.specs.Prelude.{◌||◌, nat_eq}
use Rattle.std.proofs.lemmas.Bool.{eq-eqb}
use Rattle.std.proofs.lemmas.List.{append-nil}
use Rattle.lf_definitions.specs.Syntax.{LfHead, bound, constant, metavariable, LfTerm, lam, at, Spine, LfType, pi, family, pis, base}
use Rattle.lf_definitions.specs.Substitution.{Replacement, substituted_family}
use Rattle.lf_definitions.specs.Typing.{Typing, Kinds, Typed, typed_lam, typed_at, TypedSpine, typed_none, typed_arg, Formed, formed_pi, formed_family, with_variable, type_at}
use Rattle.lf_definitions.specs.Signatures.{LfSignature, constant_types, kinds_in, typing_in, FormedSignature}
use Rattle.file_trees.specs.Trees.{Tree, Classifier}
use Rattle.elab_terms.specs.Names.{Text, Bound, named_head, family_of}
use Rattle.elab_terms.specs.Terms.{ReadsTerm, reads_abstraction, reads_application, ReadsArguments, reads_none, reads_argument}
use Rattle.elab_terms.specs.Types.{ReadsType, reads_binder, reads_family}
use Rattle.elab_terms.proofs.Expanding.{expanded_none}
use Rattle.binder_marks.specs.Mentions.{mentions_in_term, mentions_in_spine, mentions, is_variable}
use Rattle.file_print.specs.Texts.{head_text, variable_text}
use Rattle.printed_types.specs.Depths.{IsWithinDepth, AreWithinDepth, IsTypeWithinDepth}
use Rattle.printed_tokens.proofs.Spelling.{AreNamed}
use Rattle.printed_trees.specs.PrintedTrees.{IsPrintedTerm, printed_abstraction, printed_application, ArePrintedTerms, printed_none, printed_argument, printed_name, IsPrintedType, printed_binder, printed_family}
use Rattle.printed_types.specs.Limits.{HasFewBinders}
use Rattle.printed_types.proofs.PrintableTypes.{constant_within, family_within}
use Rattle.printed_types.proofs.PrintedNames.{ArePrinted, outermost, named, unnamed, IsNamed, name_not_bound, constant_found, family_found, bound_found}

-- The names of the variables that occur are known.
abbrev Sees : Bound → (ℕ → Bool) → Type 0
Sees binders occurs = (n : ℕ) → occurs n ≡ true → IsNamed binders n

-- What is known at a place of a printed text.
record IsKnown (sig : LfSignature) (binders : Bound) (depth : ℕ) (Γ : Typing) : Type 0 where
  pub printed : ArePrinted binders depth
  pub constants : (c : ℕ) → Γ (constant c) ≡ type_at (constant_types sig) c
  pub metavariables : (g : ℕ) → Γ (metavariable g) ≡ None

under : (sig : LfSignature) (binders : Bound) (depth : ℕ) (Γ : Typing) (a : LfType) (name : Option (List ℕ)) → IsKnown sig binders depth Γ → ArePrinted (name ∷ binders) (suc depth) →
    IsKnown sig (name ∷ binders) (suc depth) (with_variable a Γ)
under sig binders depth Γ a name known printed = record { printed = printed; constants = known.constants; metavariables = known.metavariables }

or_left : (a b : Bool) → a ≡ true → (a || b) ≡ true
or_left true b e = refl
or_left false b e = cc

or_right : (a b : Bool) → b ≡ true → (a || b) ≡ true
or_right true b e = refl
or_right false b e = e

-- under a binder with a name
sees_under : (name : List ℕ) (binders : Bound) (outside inside : ℕ → Bool) → ((n : ℕ) → inside (suc n) ≡ outside n) → Sees binders outside → Sees (Some name ∷ binders) inside
sees_under name binders outside inside same sees zero e = tt
sees_under name binders outside inside same sees (suc n) e = sees n (sym (same n) ∙ e)

-- and under one that nothing mentions
sees_past : (binders : Bound) (outside inside : ℕ → Bool) → ((n : ℕ) → inside (suc n) ≡ true → outside n ≡ true) → inside 0 ≡ false → Sees binders outside → Sees (None ∷ binders) inside
sees_past binders outside inside same none sees zero e = let no : true ≡ false = sym e ∙ none in cc
sees_past binders outside inside same none sees (suc n) e = sees n (same n e)

module _ (text : Text) (sig : LfSignature) (formed : FormedSignature sig) (names : AreNamed sig) where
  head_read : (binders : Bound) (depth : ℕ) (Γ : Typing) (h : LfHead) (ts : Spine) (a : LfType) → IsKnown sig binders depth Γ → depth < 2 ^ 64 → Sees binders (λ n. mentions_in_term n (at h ts)) →
      Γ h ≡ Some a → named_head sig binders (head_text sig depth h) ≡ Some h
  head_read binders depth Γ (bound n) ts a known small sees typed =
      bound_found sig binders depth n known.printed (omega (arith, small)) (sees n (or_left (nat_eq n n) (mentions_in_spine n ts) (eq-eqb n n refl)))
  head_read binders depth Γ (constant c) ts a known small sees typed =
      let is = sym (known.constants c) ∙ typed in
      constant_found sig binders c a formed is (name_not_bound binders depth _ known.printed (omega (arith, small)) (names.constants c (constant_within sig c a is)))
  head_read binders depth Γ (metavariable g) ts a known small sees typed = let no : None ≡ Some a = sym (known.metavariables g) ∙ typed in absurd cc

  mutual
    term_read : {binders : Bound} {depth : ℕ} {Γ : Typing} {t : LfTerm} {a : LfType} {tree : Tree} → IsKnown sig binders depth Γ → Sees binders (λ n. mentions_in_term n t) →
        IsWithinDepth (2 ^ 64) depth t → Typed Γ t a → IsPrintedTerm text sig depth t tree → ReadsTerm text sig binders Γ tree a t
    term_read {binders} {depth} {Γ} known sees within (typed_lam {b = b} {a = a} {c = c} body) (printed_abstraction _ _ tree binder inside applied name printed) =
        let shown = named binders depth known.printed in
        let known_inside = under sig binders depth Γ a (Some (variable_text depth)) known shown in
        let sees_inside = sees_under (variable_text depth) binders (λ n. mentions_in_term n (lam b)) (λ n. mentions_in_term n b) (λ n. refl) sees in
        let read = term_read known_inside sees_inside within body printed in
        reads_abstraction binders Γ tree binder inside a c b applied
        (subst (λ bound_name. ReadsTerm text sig (bound_name ∷ binders) (with_variable a Γ) inside c b) (sym name) read)
    term_read {binders} {depth} {Γ} known sees within (typed_at {h = h} {ts = ts} {results = results} {f = f} domains args is spine result) (printed_application _ _ _ tree span arguments applied name printed) =
        let read = args_read known (λ n e. sees n (or_right (is_variable n h) (mentions_in_spine n ts) e)) within.1 spine printed in
        let head = ap (named_head sig binders) name ∙ head_read binders depth Γ h ts (pis domains (family f args)) known within.0 sees is in
        let all = is ∙ ap (λ l. Some (pis l (family f args))) (sym (append-nil domains)) in
        subst (ReadsTerm text sig binders Γ tree (family f results)) (sym (expanded_none h ts ts base refl refl))
        (reads_application binders Γ tree span arguments h domains [] f args ts (family f results) applied head all read (substituted_family result))

    args_read : {binders : Bound} {depth : ℕ} {Γ : Typing} {σ : Replacement} {ts : Spine} {domains : List LfType} {trees : List Tree} → IsKnown sig binders depth Γ →
        Sees binders (λ n. mentions_in_spine n ts) → AreWithinDepth (2 ^ 64) depth ts → TypedSpine Γ σ ts domains → ArePrintedTerms text sig depth ts trees →
        ReadsArguments text sig binders Γ σ trees domains ts
    args_read {binders} {depth} {Γ} {σ} known sees within typed_none (printed_none _) = reads_none binders Γ σ
    args_read {binders} {depth} {Γ} {σ} known sees within (typed_arg {t = t} {ts = ts} {a = a} {rest = rest} c puts typed others) (printed_argument _ _ _ tree trees printed more) =
        reads_argument binders Γ σ tree trees a c rest t ts puts
        (term_read known (λ n e. sees n (or_left (mentions_in_term n t) (mentions_in_spine n ts) e)) within.0 typed printed)
        (args_read known (λ n e. sees n (or_right (mentions_in_term n t) (mentions_in_spine n ts) e)) within.1 others more)

  -- under the binder of a type
  binder_printed : (m : Bool) (binders : Bound) (depth : ℕ) → ArePrinted binders depth → ArePrinted (printed_name m depth ∷ binders) (suc depth)
  binder_printed true binders depth h = named binders depth h
  binder_printed false binders depth h = unnamed binders depth h

  binder_sees : (m : Bool) (binders : Bound) (depth : ℕ) (a b : LfType) → mentions 0 b ≡ m → Sees binders (λ n. mentions n (pi a b)) → Sees (printed_name m depth ∷ binders) (λ n. mentions n b)
  binder_sees true binders depth a b e sees zero h = tt
  binder_sees true binders depth a b e sees (suc n) h = sees n (or_right (mentions n a) (mentions (suc n) b) h)
  binder_sees false binders depth a b e sees zero h = let no : true ≡ false = sym h ∙ e in absurd cc
  binder_sees false binders depth a b e sees (suc n) h = sees n (or_right (mentions n a) (mentions (suc n) b) h)

  type_read : {kinds : Kinds} {binders : Bound} {depth count : ℕ} {Γ : Typing} {a : LfType} {tree : Classifier} → kinds ≡ kinds_in sig → IsKnown sig binders depth Γ →
      Sees binders (λ n. mentions n a) → IsTypeWithinDepth (2 ^ 64) depth a → HasFewBinders count a → Formed kinds Γ a → IsPrintedType text sig depth a tree →
      ReadsType text sig binders Γ count tree a
  type_read {kinds} {binders} {depth} {count} {Γ} same known sees within few (formed_pi {a = a} {b = b} first second) (printed_binder _ place _ _ whole domain rest is left right) =
      let name = printed_name (mentions 0 b) depth in
      let known_inside = under sig binders depth Γ a name known (binder_printed (mentions 0 b) binders depth known.printed) in
      let sees_inside = binder_sees (mentions 0 b) binders depth a b refl sees in
      reads_binder binders Γ count place whole domain rest name a b is few.0
      (type_read same known (λ n e. sees n (or_left (mentions n a) (mentions (suc n) b) e)) within.0 few.1 first left)
      (type_read same known_inside sees_inside within.1 few.2 second right)
  type_read {kinds} {binders} {depth} {count} {Γ} same known sees within few (formed_family {f = f} {args = ts} domains found spine) (printed_family _ _ _ span arguments name printed) =
      let is : kinds_in sig f ≡ Some domains = ap (λ k. k f) (sym same) ∙ found in
      let free = name_not_bound binders depth _ known.printed (omega (arith, within.0)) (names.families f (family_within sig f domains is)) in
      reads_family binders Γ count span arguments f domains ts (ap (family_of sig binders) name ∙ family_found sig binders f domains formed is free) is
      (args_read known sees within.1 spine printed)

  pub whole_term_read : (t : LfTerm) (a : LfType) (tree : Tree) → IsWithinDepth (2 ^ 64) 0 t → Typed (typing_in sig [] []) t a → ((n : ℕ) → mentions_in_term n t ≡ true → ⊥) →
      IsPrintedTerm text sig 0 t tree → ReadsTerm text sig [] (typing_in sig [] []) tree a t
  whole_term_read t a tree within typed closed printed =
      term_read (record { printed = outermost; constants = λ c. refl; metavariables = λ g. refl }) (λ n e. absurd (closed n e)) within typed printed

  pub whole_read : (a : LfType) (tree : Classifier) → IsTypeWithinDepth (2 ^ 64) 0 a → HasFewBinders 0 a → Formed (kinds_in sig) (typing_in sig [] []) a → ((n : ℕ) → mentions n a ≡ true → ⊥) →
      IsPrintedType text sig 0 a tree → ReadsType text sig [] (typing_in sig [] []) 0 tree a
  whole_read a tree within few is closed printed =
      type_read refl (record { printed = outermost; constants = λ c. refl; metavariables = λ g. refl }) (λ n e. absurd (closed n e)) within few is printed
