-- A type is opened in one way at most.
use Rattle.std.proofs.Common.{◌≡◌, ℕ, suc, List, ◌∷◌, length, refl, ap, ap₂, ◌∙◌, subst}
use Rattle.lf_definitions.specs.Syntax.{metavariable, Spine, arg, LfType, LfAtom, Context, shape_of}
use Rattle.lf_definitions.specs.Substitution.{Replacement, stays, push}
use Rattle.lf_definitions.specs.Expansion.{eta}
use Rattle.lf_definitions.specs.Typing.{LfGoal}
use Rattle.lf_definitions.proofs.Options.{Some_inj, None-Some}
use Rattle.lf_definitions.proofs.Uniqueness.{unique_spine, unique_type}
use Rattle.typing_laws.specs.EtaLaws.{expanded}
use Rattle.opening_laws.specs.Openings.{context_variable, fresh_goal, kept_variables, IsOpenedFrom, opens_conclusion, opens_fixed, opens_fresh, LfOpened}
use Rattle.opening_laws.specs.Laws.{OpeningsAreUnique}
use Rattle.opening_laws.proofs.Kept.{keeping_type_inj, entries_unique}

abbrev atom_over : ℕ → Spine → LfAtom
atom_over f args = record { atom_family = f; atom_args = args }

abbrev opened_of : Spine → List LfGoal → LfAtom → LfOpened
opened_of ts goals last = record { terms = ts; fresh = goals; end = last }

module _ (kept : List ℕ) (count : ℕ) (entries : Context) (fixed : List (ℕ × ℕ)) where
  abbrev OpensTo : Replacement → ℕ → ℕ → LfType → Spine → List LfGoal → LfAtom → Type 0
  OpensTo = IsOpenedFrom kept count entries fixed

  pub unique_from : {σ : Replacement} {i first : ℕ} {type : LfType} {ts us : Spine} {goals more : List LfGoal} {last other : LfAtom} →
      OpensTo σ i first type ts goals last → OpensTo σ i first type us more other → (us ≡ ts) × (more ≡ goals) × (other ≡ last)
  unique_from (opens_conclusion {f = f} p) (opens_conclusion q) = (refl, refl, ap (atom_over f) (unique_spine q p))
  unique_from (opens_fixed {σ = σ} {i = i} {first = first} {a = a} {b = b} place e p) (opens_fixed {ts = us} {goals = more} {end = other} place2 f q) =
      let same : place2 ≡ place = Some_inj f e in
      let r = unique_from p (subst (λ x. OpensTo (push (eta (context_variable count x) (shape_of a)) σ) (suc i) first b us more other) same q) in
      (ap₂ (λ x ws. arg (eta (context_variable count x) (shape_of a)) ws) same r.0, r.1, r.2)
  unique_from (opens_fixed place e p) (opens_fresh inside f put q) = absurd (None-Some f e)
  unique_from (opens_fresh inside e put p) (opens_fixed place f q) = absurd (None-Some e f)
  unique_from (opens_fresh {first = first} {a = a} inside e put p) (opens_fresh inside2 f put2 q) =
      let same : inside2 ≡ inside = keeping_type_inj kept count inside2 inside (unique_type put2 put) in
      let r = unique_from p q in
      (ap (arg (expanded (metavariable first) (kept_variables kept count entries) (shape_of a))) r.0, ap₂ (λ x gs. fresh_goal first entries x ∷ gs) same r.1, r.2)

pub openings_are_unique : OpeningsAreUnique
openings_are_unique ctx kept fixed first type result other p q =
    let same : q.entries ≡ p.entries = entries_unique p.are_kept q.are_kept in
    let r = unique_from kept (length ctx) p.entries fixed p.opened
    (subst (λ es. IsOpenedFrom kept (length ctx) es fixed stays 0 first type other.terms other.fresh other.end) same q.opened) in
    ap (λ ts. opened_of ts other.fresh other.end) r.0 ∙ ap₂ (opened_of result.terms) r.1 r.2
