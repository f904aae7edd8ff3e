-- Well-formed types and terms with no variables outside can be printed.
use Rattle.std.proofs.Common.{◌≡◌, ℕ, zero, suc, ◌<◌, List, [], ◌∷◌, Bool, true, false, length, Option, Some, None, refl, sym, ap, ◌∙◌, subst, ◌⊎◌, inl, inr, ⊎_elim, arith}
use Rattle.std.specs.Prelude.{◌||◌, option_map, All}
use Rattle.std.proofs.lemmas.Bool.{eqb-true}
use Rattle.lf_definitions.specs.Syntax.{LfHead, bound, constant, metavariable, LfTerm, Spine, LfType}
use Rattle.lf_definitions.specs.Renaming.{raise_type}
use Rattle.lf_definitions.specs.Substitution.{Replacement}
use Rattle.lf_definitions.specs.Typing.{Typing, Kinds, Typed, typed_lam, typed_at, TypedSpine, typed_none, typed_arg, Formed, formed_pi, formed_family, with_variable, type_at}
use Rattle.lf_definitions.specs.Signatures.{LfSignature, family_entry, constant_entry, constant_names, constant_types, family_names, kinds_in, typing_in, FormedEntry, FormedSignature}
use Rattle.lf_definitions.proofs.Growth.{AllFormed}
use Rattle.lf_definitions.proofs.Options.{None-Some, Some-Some}
use Rattle.binder_marks.specs.Mentions.{mentions_in_term, mentions_in_spine, mentions, is_variable}
use Rattle.file_print.specs.Printable.{IsPrintableHead, IsPrintable, ArePrintable, IsPrintableType}

-- what a choice of two tells
either : (a b : Bool) → (a || b) ≡ true → (a ≡ true) ⊎ (b ≡ true)
either true b e = inl refl
either false b e = inr e

abbrev HasType : Typing → ℕ → Type 0
HasType Γ n = (a : LfType) × (Γ (bound n) ≡ Some a)

outside : (Γ : Typing) (a : LfType) (n : ℕ) → HasType (with_variable a Γ) (suc n) → HasType Γ n
outside Γ a n (b, e) = from_map (Γ (bound n)) b e
  where
    from_map : (found : Option LfType) (b : LfType) → option_map raise_type found ≡ Some b → (c : LfType) × (found ≡ Some c)
    from_map (Some c) b e = (c, refl)
    from_map None b e = absurd cc

mentioned_head : (Γ : Typing) (n : ℕ) (h : LfHead) (a : LfType) → is_variable n h ≡ true → Γ h ≡ Some a → HasType Γ n
mentioned_head Γ n (bound m) a e typed = (a, ap (λ k. Γ (bound k)) (eqb-true n m e) ∙ typed)
mentioned_head Γ n (constant c) a e typed = absurd cc
mentioned_head Γ n (metavariable g) a e typed = absurd cc

mutual
  mentioned_typed : {Γ : Typing} {t : LfTerm} {a : LfType} (n : ℕ) → Typed Γ t a → mentions_in_term n t ≡ true → HasType Γ n
  mentioned_typed {Γ} n (typed_lam {a = a} body) e = outside Γ a n (mentioned_typed (suc n) body e)
  mentioned_typed {Γ} n (typed_at {h = h} {ts = ts} domains args is spine result) e =
      ⊎_elim (λ here. mentioned_head Γ n h _ here is) (λ there. mentioned_args n spine there) (either (is_variable n h) (mentions_in_spine n ts) e)

  mentioned_args : {Γ : Typing} {σ : Replacement} {ts : Spine} {domains : List LfType} (n : ℕ) → TypedSpine Γ σ ts domains → mentions_in_spine n ts ≡ true → HasType Γ n
  mentioned_args n typed_none e = absurd cc
  mentioned_args n (typed_arg {t = t} {ts = ts} c puts typed others) e =
      ⊎_elim (λ here. mentioned_typed n typed here) (λ there. mentioned_args n others there) (either (mentions_in_term n t) (mentions_in_spine n ts) e)

-- A variable that occurs in a well-formed type has a type.
pub mentioned_formed : {kinds : Kinds} {Γ : Typing} {a : LfType} (n : ℕ) → Formed kinds Γ a → mentions n a ≡ true → HasType Γ n
mentioned_formed {kinds} {Γ} n (formed_pi {a = a} {b = b} first second) e =
    ⊎_elim (λ here. mentioned_formed n first here) (λ there. outside Γ a n (mentioned_formed (suc n) second there)) (either (mentions n a) (mentions (suc n) b) e)
mentioned_formed n (formed_family domains is spine) e = mentioned_args n spine e

pub closed_mentions : (sig : LfSignature) (a : LfType) → Formed (kinds_in sig) (typing_in sig [] []) a → (n : ℕ) → mentions n a ≡ true → ⊥
closed_mentions sig a formed n e = None-Some refl (mentioned_formed n formed e).1

pub closed_term_mentions : (sig : LfSignature) (t : LfTerm) (a : LfType) → Typed (typing_in sig [] []) t a → (n : ℕ) → mentions_in_term n t ≡ true → ⊥
closed_term_mentions sig t a typed n e = None-Some refl (mentioned_typed n typed e).1

-- What is known of the heads at a place.
record IsScoped (sig : LfSignature) (depth : ℕ) (Γ : Typing) : Type 0 where
  pub variables : (n : ℕ) (a : LfType) → Γ (bound n) ≡ Some a → n < depth
  pub constants : (c : ℕ) → Γ (constant c) ≡ type_at (constant_types sig) c
  pub metavariables : (g : ℕ) → Γ (metavariable g) ≡ None

under : (sig : LfSignature) (depth : ℕ) (Γ : Typing) (a : LfType) → IsScoped sig depth Γ → IsScoped sig (suc depth) (with_variable a Γ)
under sig depth Γ a known = record { variables = inside; constants = known.constants; metavariables = known.metavariables }
  where
    inside : (n : ℕ) (b : LfType) → with_variable a Γ (bound n) ≡ Some b → n < suc depth
    inside zero b e = omega arith
    inside (suc n) b e = let typed = outside Γ a n (b, e) in omega (arith, known.variables n typed.0 typed.1)

-- a constant that has a type is one of the signature, and so is a family that has a kind
pub constant_within : (sig : LfSignature) (c : ℕ) (a : LfType) → type_at (constant_types sig) c ≡ Some a → c < length (constant_names sig)
constant_within [] c a e = absurd cc
constant_within (family_entry name kind ∷ sig) c a e = constant_within sig c a e
constant_within (constant_entry name type ∷ sig) zero a e = omega arith
constant_within (constant_entry name type ∷ sig) (suc c) a e = omega (arith, constant_within sig c a e)

pub family_within : (sig : LfSignature) (f : ℕ) (kind : List LfType) → kinds_in sig f ≡ Some kind → f < length (family_names sig)
family_within [] f kind e = absurd cc
family_within (constant_entry name type ∷ sig) f kind e = family_within sig f kind e
family_within (family_entry name k ∷ sig) zero kind e = omega arith
family_within (family_entry name k ∷ sig) (suc f) kind e = omega (arith, family_within sig f kind e)

printable_head : (sig : LfSignature) (depth : ℕ) (Γ : Typing) (h : LfHead) (a : LfType) → IsScoped sig depth Γ → Γ h ≡ Some a → IsPrintableHead sig depth h
printable_head sig depth Γ (bound n) a known e = known.variables n a e
printable_head sig depth Γ (constant c) a known e = constant_within sig c a (sym (known.constants c) ∙ e)
printable_head sig depth Γ (metavariable g) a known e = let no : None ≡ Some a = sym (known.metavariables g) ∙ e in absurd cc

mutual
  printable_term : {sig : LfSignature} {depth : ℕ} {Γ : Typing} {t : LfTerm} {a : LfType} → IsScoped sig depth Γ → Typed Γ t a → IsPrintable sig depth t
  printable_term {sig} {depth} {Γ} known (typed_lam {a = a} body) = printable_term (under sig depth Γ a known) body
  printable_term {sig} {depth} {Γ} known (typed_at {h = h} domains args is spine result) = (printable_head sig depth Γ h _ known is, printable_args known spine)

  printable_args : {sig : LfSignature} {depth : ℕ} {Γ : Typing} {σ : Replacement} {ts : Spine} {domains : List LfType} → IsScoped sig depth Γ → TypedSpine Γ σ ts domains → ArePrintable sig depth ts
  printable_args known typed_none = tt
  printable_args known (typed_arg c puts typed others) = (printable_term known typed, printable_args known others)

-- the families that have a kind are among the names
abbrev HaveNames : LfSignature → Kinds → Type 0
HaveNames sig kinds = (f : ℕ) (kind : List LfType) → kinds f ≡ Some kind → f < length (family_names sig)

printable_type : (sig : LfSignature) {kinds : Kinds} {depth : ℕ} {Γ : Typing} {a : LfType} → HaveNames sig kinds → IsScoped sig depth Γ → Formed kinds Γ a → IsPrintableType sig depth a
printable_type sig {kinds} {depth} {Γ} names known (formed_pi {a = a} first second) =
    (printable_type sig names known first, printable_type sig names (under sig depth Γ a known) second)
printable_type sig names known (formed_family {f = f} domains is spine) = (names f domains is, printable_args known spine)

closed_scope : (sig : LfSignature) → IsScoped sig 0 (typing_in sig [] [])
closed_scope sig = record { variables = λ n b e. absurd (None-Some refl e); constants = λ c. refl; metavariables = λ g. refl }

-- A well-formed type with no variables outside can be printed.
pub closed_printable : (sig : LfSignature) (a : LfType) → Formed (kinds_in sig) (typing_in sig [] []) a → IsPrintableType sig 0 a
closed_printable sig a formed =
    printable_type sig (family_within sig) (closed_scope sig) formed

-- So can a term that has a type with none.
pub closed_term_printable : (sig : LfSignature) (t : LfTerm) (a : LfType) → Typed (typing_in sig [] []) t a → IsPrintable sig 0 t
closed_term_printable sig t a typed = printable_term (closed_scope sig) typed

-- The types of constants are well formed.
constant_in : (whole sig : LfSignature) → All (FormedEntry whole) sig → (c : ℕ) (a : LfType) → type_at (constant_types sig) c ≡ Some a → Formed (kinds_in whole) (typing_in whole [] []) a
constant_in whole [] all c a e = absurd cc
constant_in whole (family_entry name kind ∷ sig) all c a e =
    constant_in whole sig (λ k entry within. all (suc k) entry (omega (arith, within))) c a e
constant_in whole (constant_entry name type ∷ sig) all zero a e = subst (Formed (kinds_in whole) (typing_in whole [] [])) (Some-Some e) (all 0 (constant_entry name type) (omega arith))
constant_in whole (constant_entry name type ∷ sig) all (suc c) a e =
    constant_in whole sig (λ k entry within. all (suc k) entry (omega (arith, within))) c a e

-- So the type of a constant can be printed.
pub constant_printable : (sig : LfSignature) (c : ℕ) (a : LfType) → FormedSignature sig → type_at (constant_types sig) c ≡ Some a → IsPrintableType sig 0 a
constant_printable sig c a formed e = closed_printable sig a (constant_in sig sig (AllFormed formed) c a e)
