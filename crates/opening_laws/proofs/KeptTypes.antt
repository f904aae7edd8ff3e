-- Types among the kept entries: the variables there have their types, and what is well formed, seen from the whole context, is so there.
use Rattle.std.proofs.Common.{◌≡◌, ℕ, zero, suc, ◌+◌, Bool, true, false, Option, Some, None, option_map, if◌then◌else◌, List, length, refl, sym, ap, ◌∙◌, subst, arith}
use mathlib.Core.Path.{fun_ext}
use Rattle.lf_definitions.specs.Syntax.{LfHead, bound, constant, metavariable, LfType, Context}
use Rattle.lf_definitions.specs.Renaming.{next, Renaming, lifted, rename_type, raise_type}
use Rattle.lf_definitions.specs.Occurrence.{OccursInType}
use Rattle.lf_definitions.specs.Typing.{Typing, with_variable, with_context, Kinds, Formed, FormedContext, formed_empty, formed_entry}
use Rattle.lf_definitions.specs.Laws.{variables, Closed, KeepsTypes}
use Rattle.lf_definitions.specs.TypingLaws.{ClosedKinds}
use Rattle.lf_definitions.proofs.Renaming.{extended-next, rename_type-rename_type}
use Rattle.lf_definitions.proofs.Weakening.{Formed-rename}
use Rattle.lf_definitions.proofs.Options.{Some-Some}
use Rattle.head_laws.proofs.Occurrence.{came_type}
use Rattle.head_laws.proofs.LookupLaws.{typing_looks_up_what_occurs}
use Rattle.opening_laws.specs.Openings.{returning, is_kept, keeping, AreKept, kept_nothing, kept_entry, dropped_entry}
use Rattle.opening_laws.specs.Conditions.{is_dropped}
use Rattle.opening_laws.proofs.Kept.{keeping-returning, keeping-bound, keeping-constant, keeping-metavariable, returning-bound, returning-constant, returning-metavariable, returning_type, is_dropped-keeping, is_dropped-constant, is_dropped-metavariable, shifted}

-- Each variable has, where it is seen, its type as it is seen from there.
abbrev pub SeesTypes : Renaming → Typing → Typing → Type 0
SeesTypes ξ Γ Δ = (n : ℕ) → Δ (ξ (bound n)) ≡ option_map (rename_type ξ) (Γ (bound n))

-- The other heads have the same types, which are closed.
abbrev pub SameGlobals : Typing → Typing → Type 0
SameGlobals Γ Δ =
    ((c : ℕ) → Δ (constant c) ≡ Γ (constant c)) × ((g : ℕ) → Δ (metavariable g) ≡ Γ (metavariable g))
    × ((c : ℕ) (a : LfType) → Γ (constant c) ≡ Some a → Closed a) × ((g : ℕ) (a : LfType) → Γ (metavariable g) ≡ Some a → Closed a)

lifted_raise : (ξ : Renaming) (a : LfType) → rename_type (lifted ξ) (raise_type a) ≡ raise_type (rename_type ξ a)
lifted_raise ξ a =
    rename_type-rename_type a (lifted ξ) next ∙ ap (λ θ. rename_type θ a) (fun_ext (extended-next (bound zero) (λ h. next (ξ h)))) ∙ sym (rename_type-rename_type a next ξ)

-- a variable that is seen from under one more binder
raised_at : (ξ : Renaming) (Δ : Typing) (a : LfType) (n : ℕ) → (j : ℕ) × (ξ (bound n) ≡ bound j) → with_variable a Δ (next (ξ (bound n))) ≡ option_map raise_type (Δ (ξ (bound n)))
raised_at ξ Δ a n at_number = ap (λ h. with_variable a Δ (next h)) at_number.1 ∙ ap (λ h. option_map raise_type (Δ h)) (sym at_number.1)

sees_lifted : (ξ : Renaming) (Γ Δ : Typing) (a b : LfType) → rename_type ξ b ≡ a → ((n : ℕ) → (j : ℕ) × (ξ (bound n) ≡ bound j)) → SeesTypes ξ Γ Δ → SeesTypes (lifted ξ) (with_variable b Γ) (with_variable a Δ)
sees_lifted ξ Γ Δ a b e numbers sees zero = ap (λ c. Some (raise_type c)) (sym e) ∙ ap Some (sym (lifted_raise ξ b))
sees_lifted ξ Γ Δ a b e numbers sees (suc n) = raised_at ξ Δ a n (numbers n) ∙ ap (option_map raise_type) (sees n) ∙ each (Γ (bound n))
  where
    each : (o : Option LfType) → option_map raise_type (option_map (rename_type ξ) o) ≡ option_map (rename_type (lifted ξ)) (option_map raise_type o)
    each None = refl
    each (Some d) = ap Some (sym (lifted_raise ξ d))

sees_next : (ξ : Renaming) (Γ Δ : Typing) (a : LfType) → ((n : ℕ) → (j : ℕ) × (ξ (bound n) ≡ bound j)) → SeesTypes ξ Γ Δ → SeesTypes (λ h. next (ξ h)) Γ (with_variable a Δ)
sees_next ξ Γ Δ a numbers sees n = raised_at ξ Δ a n (numbers n) ∙ ap (option_map raise_type) (sees n) ∙ each (Γ (bound n))
  where
    each : (o : Option LfType) → option_map raise_type (option_map (rename_type ξ) o) ≡ option_map (rename_type (λ h. next (ξ h))) o
    each None = refl
    each (Some d) = ap Some (rename_type-rename_type d next ξ)

sees_entry : (kept : List ℕ) (place : ℕ) (Γ Δ : Typing) (a b : LfType) → is_kept kept place ≡ true → rename_type (keeping kept place) b ≡ a → SeesTypes (keeping kept place) Γ Δ →
    SeesTypes (keeping kept (suc place)) (with_variable b Γ) (with_variable a Δ)
sees_entry kept place Γ Δ a b is e sees =
    subst (λ c. SeesTypes (if c then lifted (keeping kept place) else (λ h. next (keeping kept place h))) (with_variable b Γ) (with_variable a Δ)) (sym is)
    (sees_lifted (keeping kept place) Γ Δ a b e (keeping-bound kept place) sees)

sees_dropped : (kept : List ℕ) (place : ℕ) (Γ Δ : Typing) (a : LfType) → is_kept kept place ≡ false → SeesTypes (keeping kept place) Γ Δ → SeesTypes (keeping kept (suc place)) Γ (with_variable a Δ)
sees_dropped kept place Γ Δ a is sees =
    subst (λ c. SeesTypes (if c then lifted (keeping kept place) else (λ h. next (keeping kept place h))) Γ (with_variable a Δ)) (sym is)
    (sees_next (keeping kept place) Γ Δ a (keeping-bound kept place) sees)

pub sees_kept : {kept : List ℕ} {place : ℕ} {ctx entries : Context} → AreKept kept place ctx entries → (Γ Δ : Typing) → SeesTypes (keeping kept place) Γ Δ →
    SeesTypes (keeping kept (place + length ctx)) (with_context entries Γ) (with_context ctx Δ)
sees_kept {kept} (kept_nothing {place = place}) Γ Δ sees =
    let here : place ≡ place + 0 = omega arith in
    subst (λ n. SeesTypes (keeping kept n) Γ Δ) here sees
sees_kept {kept} (kept_entry {place = place} {a = a} {b = b} {ctx = ctx} {entries = entries} is e rest) Γ Δ sees =
    subst (λ n. SeesTypes (keeping kept n) (with_context entries (with_variable b Γ)) (with_context ctx (with_variable a Δ))) (shifted place (length ctx))
    (sees_kept rest (with_variable b Γ) (with_variable a Δ) (sees_entry kept place Γ Δ a b is e sees))
sees_kept {kept} (dropped_entry {place = place} {a = a} {ctx = ctx} {entries = entries} is rest) Γ Δ sees =
    subst (λ n. SeesTypes (keeping kept n) (with_context entries Γ) (with_context ctx (with_variable a Δ))) (shifted place (length ctx))
    (sees_kept rest Γ (with_variable a Δ) (sees_dropped kept place Γ Δ a is sees))

-- the renamings by numbers
module _ (kept : List ℕ) (place : ℕ) where
  abbrev pub seen_number : ℕ → ℕ
  seen_number n = (keeping-bound kept place n).0

  pub by_number : (h : LfHead) → keeping kept place h ≡ variables seen_number h
  by_number (bound n) = (keeping-bound kept place n).1
  by_number (constant c) = keeping-constant kept place c
  by_number (metavariable g) = keeping-metavariable kept place g

  abbrev returned_number : ℕ → ℕ
  returned_number n = (returning-bound kept place n).0

  back_by_number : (h : LfHead) → returning kept place h ≡ variables returned_number h
  back_by_number (bound n) = (returning-bound kept place n).1
  back_by_number (constant c) = returning-constant kept place c
  back_by_number (metavariable g) = returning-metavariable kept place g

  module _ (Γ Δ : Typing) (sees : SeesTypes (keeping kept place) Γ Δ) (globals : SameGlobals Γ Δ) where
    pub keeping_keeps : KeepsTypes seen_number Γ Δ
    keeping_keeps = (
      λ n a e. ap Δ (sym (keeping-bound kept place n).1) ∙ sees n ∙ ap (option_map (rename_type (keeping kept place))) e ∙ ap (λ θ. Some (rename_type θ a)) (fun_ext by_number),
      λ c a e. (globals.0 c ∙ e, globals.2 c a e),
      λ g a e. (globals.1 g ∙ e, globals.3 g a e),
    )

    -- what is known of the heads that aren't dropped
    abbrev Undropped : Typing
    Undropped h = if is_dropped kept place h then None else Δ h

    returning_keeps : KeepsTypes returned_number Undropped Γ
    returning_keeps = (
      λ n a e. variable n a (is_dropped kept place (bound n)) refl e,
      λ c a e. global_constant c a (is_dropped kept place (constant c)) (is_dropped-constant kept place c) e,
      λ g a e. global_metavariable g a (is_dropped kept place (metavariable g)) (is_dropped-metavariable kept place g) e,
    )
      where
        found_at : (n : ℕ) (a : LfType) (o : Option LfType) → Γ (bound (returned_number n)) ≡ o → option_map (rename_type (keeping kept place)) o ≡ Some a → Γ (bound (returned_number n)) ≡ Some (rename_type (variables returned_number) a)
        found_at n a None is e = absurd cc
        found_at n a (Some d) is e =
            is ∙ ap Some (sym (returning_type kept place d) ∙ ap (rename_type (returning kept place)) (Some-Some e) ∙ ap (λ θ. rename_type θ a) (fun_ext back_by_number))

        variable : (n : ℕ) (a : LfType) (b : Bool) → is_dropped kept place (bound n) ≡ b → (if b then None else Δ (bound n)) ≡ Some a → Γ (bound (returned_number n)) ≡ Some (rename_type (variables returned_number) a)
        variable n a true is e = absurd cc
        variable n a false is e =
            let back : keeping kept place (bound (returned_number n)) ≡ bound n = ap (keeping kept place) (sym (returning-bound kept place n).1) ∙ keeping-returning kept place (bound n) is in
            found_at n a (Γ (bound (returned_number n))) refl (sym (sees (returned_number n)) ∙ ap Δ back ∙ e)

        global_constant : (c : ℕ) (a : LfType) (b : Bool) → b ≡ false → (if b then None else Δ (constant c)) ≡ Some a → (Γ (constant c) ≡ Some a) × Closed a
        global_constant c a true is e = absurd cc
        global_constant c a false is e = let known = sym (globals.0 c) ∙ e in (known, globals.2 c a known)

        global_metavariable : (g : ℕ) (a : LfType) (b : Bool) → b ≡ false → (if b then None else Δ (metavariable g)) ≡ Some a → (Γ (metavariable g) ≡ Some a) × Closed a
        global_metavariable g a true is e = absurd cc
        global_metavariable g a false is e = let known = sym (globals.1 g) ∙ e in (known, globals.3 g a known)

    pub formed_there : (kinds : Kinds) → ClosedKinds kinds → (b : LfType) → Formed kinds Δ (rename_type (keeping kept place) b) → Formed kinds Γ b
    formed_there kinds closed b formed =
        let known = (typing_looks_up_what_occurs Δ Undropped).1 kinds (rename_type (keeping kept place) b) (λ h o. agree h (came_type b (keeping kept place) h o)) formed in
        subst (Formed kinds Γ) (ap (λ θ. rename_type θ (rename_type (keeping kept place) b)) (sym (fun_ext back_by_number)) ∙ returning_type kept place b)
        (Formed-rename known returned_number Γ returning_keeps closed)
      where
        agree : (h : LfHead) → (k : LfHead) × OccursInType k b × (h ≡ keeping kept place k) → Δ h ≡ Undropped h
        agree h came = ap (λ c. if c then None else Δ h) (sym (ap (is_dropped kept place) came.2 ∙ is_dropped-keeping kept place came.0))

pub entries_formed : {kept : List ℕ} {place : ℕ} {ctx entries : Context} → AreKept kept place ctx entries → (kinds : Kinds) → ClosedKinds kinds → (Γ Δ : Typing) → SeesTypes (keeping kept place) Γ Δ → SameGlobals Γ Δ →
    FormedContext kinds Δ ctx → FormedContext kinds Γ entries
entries_formed kept_nothing kinds closed Γ Δ sees globals formed_empty = formed_empty
entries_formed {kept} (kept_entry {place = place} {a = a} {b = b} is e rest) kinds closed Γ Δ sees globals (formed_entry p ps) =
    formed_entry (formed_there kept place Γ Δ sees globals kinds closed b (subst (Formed kinds Δ) (sym e) p))
    (entries_formed rest kinds closed (with_variable b Γ) (with_variable a Δ) (sees_entry kept place Γ Δ a b is e sees) globals ps)
entries_formed {kept} (dropped_entry {place = place} {a = a} is rest) kinds closed Γ Δ sees globals (formed_entry p ps) =
    entries_formed rest kinds closed Γ (with_variable a Δ) (sees_dropped kept place Γ Δ a is sees) globals ps
