-- A term with what is assigned put in again and again.
use Rattle.std.proofs.Common.{◌≡◌, List, map, All, None, sym, ap, ◌∙◌}
use Rattle.lf_definitions.specs.Syntax.{metavariable, LfTerm, SimpleType}
use Rattle.lf_definitions.specs.Shaping.{Scope, under_all, Shaped}
use Rattle.lf_definitions.specs.Instantiation.{instantiating, Instantiated, LfAssigned, assignment_of}
use Rattle.lf_definitions.proofs.Totality.{Shaped-Substituted}
use Rattle.unification.specs.Solutions.{ShapedEntry}
use Rattle.unification.proofs.Spreading.{under_all-metavariable}
use Rattle.unifiers.proofs.Entries.{entries_closed, entries_go}
use Rattle.unifiers.proofs.Spines.{Goes-local}
use Rattle.meta_goals.specs.Bindings.{LfBinding, assigned_of, assigning}
use Rattle.meta_goals.specs.Instantiates.{Instantiates, TermIsShaped}
use Rattle.meta_unify.specs.Standing.{KnowsContext, Stands, IsWorkable, MentionsNoneBound, Fills}
use Rattle.meta_unify.proofs.Instances.{bindings_go, bindings_closed, follows, full_stays}
use Rattle.meta_unify.proofs.Lookups.{found_binding}

-- What is left has the term's shape, and its instances are the term's.
pub record IsFilling (bindings : List LfBinding) (t r : LfTerm) : Type 0 where
  pub shaped : (Γ : Scope) (entries : List LfAssigned) (local : List SimpleType) (s : SimpleType) → Stands Γ bindings entries → Shaped (under_all local Γ) t s → Shaped (under_all local Γ) r s
  pub same : (Γ : Scope) (entries : List LfAssigned) (local : List SimpleType) (s : SimpleType) → Stands Γ bindings entries → Shaped (under_all local Γ) t s → (x : LfTerm) →
      Instantiated (assignment_of entries) r x → Instantiated (assignment_of entries) t x

pub filling_begins : (bindings : List LfBinding) (t r : LfTerm) → r ≡ t → IsFilling bindings t r
filling_begins bindings t r e = rw e (record { shaped = λ Γ entries local s stands p. p; same = λ Γ entries local s stands p x q. q })

pub filling_goes_on : (bindings : List LfBinding) (t r y : LfTerm) → IsFilling bindings t r → Instantiated (assigning bindings) r y → IsFilling bindings t y
filling_goes_on bindings t r y filling p = record {
  shaped = λ Γ entries local s stands shaped.
      let go = bindings_go Γ bindings entries stands in
      Shaped-Substituted go.0 (under_all local Γ) (under_all local Γ) (instantiating (assigning bindings)) (Goes-local (assigning bindings) (bindings_closed Γ bindings entries stands) go.0 Γ Γ go.1 local)
      (filling.shaped Γ entries local s stands shaped) p;
  same = λ Γ entries local s stands shaped x q.
      filling.same Γ entries local s stands shaped x (follows Γ bindings entries stands (λ n. None) local r y x s (filling.shaped Γ entries local s stands shaped) p q);
}

-- Shaped bindings may be put for the metavariables of a shaped term.
pub shaped_instantiates : (Γ : Scope) (bindings : List LfBinding) → All (ShapedEntry Γ) (map assigned_of bindings) → All (KnowsContext Γ) bindings → (local : List SimpleType) (s : SimpleType) (t : LfTerm) → Shaped (under_all local Γ) t s →
    Instantiates bindings (TermIsShaped t)
shaped_instantiates Γ bindings bindings_shaped knows local d t t_shaped =
    let go = entries_go Γ (map assigned_of bindings) bindings_shaped in
    let closed_terms = entries_closed Γ (map assigned_of bindings) bindings_shaped in
    let Δ = under_all local Γ in
    record {
      size = go.0;
      outer = Δ;
      target = Δ;
      goes = Goes-local (assigning bindings) closed_terms go.0 Γ Γ go.1 local;
      closed = closed_terms;
      contexts = λ g s b known found.
          let there = found_binding (KnowsContext Γ) bindings g b knows found in
          there.0 s (ap (λ m. Γ (metavariable m)) there.1 ∙ (sym (under_all-metavariable local Γ g) ∙ known));
      shaped = (d, t_shaped);
    }

pub filling_instantiates : (bindings : List LfBinding) (t r : LfTerm) → IsWorkable bindings t t → IsFilling bindings t r → Instantiates bindings (TermIsShaped r)
filling_instantiates bindings t r w filling =
    shaped_instantiates w.outer bindings w.stands.bindings_shaped w.stands.contexts w.local w.shape r (filling.shaped w.outer w.entries w.local w.shape w.stands w.left_shaped)

pub fills : (bindings : List LfBinding) (t r : LfTerm) → IsFilling bindings t r → MentionsNoneBound bindings r → Fills bindings t r
fills bindings t r filling full Γ entries local s stands shaped = filling.same Γ entries local s stands shaped r (full_stays Γ bindings entries stands r full)
