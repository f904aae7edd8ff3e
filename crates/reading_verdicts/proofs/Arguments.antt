-- Arguments are read at the first binders of a type, or the first that isn't is refused.
use Rattle.std.proofs.Common.{◌≡◌, ℕ, zero, suc, ◌+◌, ◌≤◌, ◌⊎◌, inl, inr, List, [], ◌∷◌, ◌++◌, length, take, refl, ap, subst, arith}
use Rattle.lf_definitions.specs.Syntax.{LfTerm, Spine, no_args, arg, shape_of, shape_size, LfType, Context}
use Rattle.lf_definitions.specs.Shaping.{Scope, under, Shaped}
use Rattle.lf_definitions.specs.Substitution.{Replacement, push, SubstitutedType}
use Rattle.lf_definitions.specs.Typing.{Typing, shapes_of}
use Rattle.lf_definitions.specs.Signatures.{LfSignature, kinds_in}
use Rattle.lf_definitions.specs.ShapedGoals.{ShapedContext, shaped_entry, kind_shapes_in}
use Rattle.lf_definitions.specs.Replacements.{Goes}
use Rattle.lf_definitions.proofs.Totality.{Goes-more, Goes-push}
use Rattle.lf_definitions.proofs.Types.{total_type, shape_of-SubstitutedType}
use Rattle.lf_definitions.proofs.Typing.{Shaped-Typed}
use Rattle.file_trees.specs.Trees.{Tree}
use Rattle.elab_terms.specs.Names.{Text, Bound}
use Rattle.elab_terms.specs.Terms.{ReadsTerm, ReadsArguments, reads_none, reads_argument, RefusesTerm, RefusesArguments, refuses_here, refuses_later}
use Rattle.elab_terms.specs.KnownTypes.{IsWanted}
use Rattle.elab_terms.specs.declared.elab_fault.ElabFault.{ElabFault}
use Rattle.elab_terms.proofs.ReadTyped.{Typed-ReadsTerm}
use Rattle.reading_verdicts.proofs.Places.{Place}

-- It is read as something, or refused for some fault.
abbrev pub Judged : {Read : Type 0} → (Read → Type 0) → (ElabFault → Type 0) → Type 0
Judged {Read = Read} reads refuses = ((result : Read) × reads result) ⊎ ((fault : ElabFault) × refuses fault)

-- A term is, wherever it stands and whatever type is wanted.
abbrev pub IsJudged : Text → LfSignature → Tree → Type 0
IsJudged text sig tree =
    (binders : Bound) (Γ : Typing) → Place sig Γ binders → (wanted : LfType) → IsWanted sig Γ wanted →
    Judged (ReadsTerm text sig binders Γ tree wanted) (RefusesTerm text sig binders Γ tree wanted)

abbrev pub AreJudged : Text → LfSignature → List Tree → Type 0
AreJudged text sig [] = Unit {0}
AreJudged text sig (tree ∷ trees) = IsJudged text sig tree × AreJudged text sig trees

pub judged_take : (text : Text) (sig : LfSignature) (n : ℕ) (trees : List Tree) → AreJudged text sig trees → AreJudged text sig (take n trees)
judged_take text sig zero trees all = tt
judged_take text sig (suc n) [] all = tt
judged_take text sig (suc n) (tree ∷ trees) all = (all.0, judged_take text sig n trees all.1)

-- The first of the binders take the arguments.
pub record ReadsFirst (text : Text) (sig : LfSignature) (binders : Bound) (Γ : Typing) (σ : Replacement) (trees : List Tree) (domains : Context) (ts : Spine) : Type 0 where
  pub first : Context
  pub missing : Context
  pub parts : domains ≡ first ++ missing
  pub read : ReadsArguments text sig binders Γ σ trees first ts

abbrev pub ArgumentsJudged : Text → LfSignature → Bound → Typing → Replacement → List Tree → Context → Type 0
ArgumentsJudged text sig binders Γ σ trees domains =
    Judged (ReadsFirst text sig binders Γ σ trees domains) (RefusesArguments text sig binders Γ σ trees domains)

module _ (text : Text) (sig : LfSignature) (binders : Bound) (Γ : Typing) (place : Place sig Γ binders) where
  module _ (σ : Replacement) (tree : Tree) (trees : List Tree) (a c : LfType) (rest : Context) (result : SubstitutedType σ a c) where
    with_rest : (t : LfTerm) → ReadsTerm text sig binders Γ tree c t → ArgumentsJudged text sig binders Γ (push t σ) trees rest →
        ArgumentsJudged text sig binders Γ σ (tree ∷ trees) (a ∷ rest)
    with_rest t read (inl (ts, more)) =
        inl (
          arg t ts,
          record {
            first = a ∷ more.first;
            missing = more.missing;
            parts = ap (λ xs. a ∷ xs) more.parts;
            read = reads_argument binders Γ σ tree trees a c more.first t ts result read more.read;
          },
        )
    with_rest t read (inr (fault, refused)) = inr (fault, refuses_later binders Γ σ tree trees a c rest t fault result read refused)

    with_first : Judged (ReadsTerm text sig binders Γ tree c) (RefusesTerm text sig binders Γ tree c) →
        ((t : LfTerm) → ReadsTerm text sig binders Γ tree c t → ArgumentsJudged text sig binders Γ (push t σ) trees rest) →
        ArgumentsJudged text sig binders Γ σ (tree ∷ trees) (a ∷ rest)
    with_first (inl (t, read)) further = with_rest t read (further t read)
    with_first (inr (fault, refused)) further = inr (fault, refuses_here binders Γ σ tree trees a c rest fault result refused)

  -- A replacement goes on with an argument that is read.
  goes_on : (Δ : Scope) (p : ℕ) (σ : Replacement) (tree : Tree) (a c : LfType) (t : LfTerm) → Goes p Δ (shapes_of Γ) σ → SubstitutedType σ a c → IsWanted sig Γ c →
      ReadsTerm text sig binders Γ tree c t → Goes (p + suc (shape_size (shape_of a))) (under (shape_of a) Δ) (shapes_of Γ) (push t σ)
  goes_on Δ p σ tree a c t goes result shaped read =
      let n = shape_size (shape_of a) in
      Goes-push (p + suc n) Δ (shapes_of Γ) σ (shape_of a) t (Goes-more p (p + suc n) Δ (shapes_of Γ) σ (omega arith) goes)
      (subst (Shaped (shapes_of Γ) t) (shape_of-SubstitutedType result) (Shaped-Typed (Typed-ReadsTerm read (kinds_in sig) place.known.founded shaped))) (omega arith)

  pub arguments_judged : (trees : List Tree) → AreJudged text sig trees → (domains : Context) (Δ : Scope) (p : ℕ) (σ : Replacement) → Goes p Δ (shapes_of Γ) σ →
      ShapedContext (kind_shapes_in sig) Δ domains → length trees ≤ length domains → ArgumentsJudged text sig binders Γ σ trees domains
  arguments_judged [] all domains Δ p σ goes shaped few = inl (no_args, record { first = []; missing = domains; parts = refl; read = reads_none binders Γ σ })
  arguments_judged (tree ∷ trees) all [] Δ p σ goes shaped few = absurd (omega arith)
  arguments_judged (tree ∷ trees) all (a ∷ domains) Δ p σ goes (shaped_entry here later) few =
      let r = total_type p here (shapes_of Γ) σ goes in
      with_first σ tree trees a r.0 domains r.1 (all.0 binders Γ place r.0 r.2)
      (λ t read. arguments_judged trees all.1 domains (under (shape_of a) Δ) (p + suc (shape_size (shape_of a))) (push t σ)
      (goes_on Δ p σ tree a r.0 t goes r.1 r.2 read) later (omega arith))
