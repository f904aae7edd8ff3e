-- The whole type is opened.
use Rattle.std.proofs.Common.{◌≡◌, ℕ, ◌+◌, ◌<◌, List, [], ◌∷◌, ◌++◌, All, length, refl, sym, ap, ◌∙◌, subst, subst₂, arith}
use Rattle.std.proofs.lemmas.List.{append-nil}
use Rattle.std.proofs.lemmas.List.Elements.{All-weaker}
use Rattle.lf_definitions.specs.Syntax.{Spine, no_args, joined, SimpleType, LfType, family, LfAtom, pis, Context, shapes_of_types, binders_of}
use Rattle.lf_definitions.specs.Shaping.{shaped_none}
use Rattle.lf_definitions.specs.Substitution.{stays, push_all, SubstitutedSpine}
use Rattle.lf_definitions.specs.Typing.{LfGoal}
use Rattle.lf_definitions.specs.Signatures.{constant_types}
use Rattle.lf_definitions.specs.ShapedGoals.{kind_shapes_in, scope_in}
use Rattle.lf_definitions.proofs.Uniqueness.{unique_spine}
use Rattle.typing_laws.proofs.Binders.{length-shapes_of_types}
use Rattle.lf_terms.proofs.Expansions.{joined-no_args}
use Rattle.opening_laws.specs.Openings.{AreKept, IsOpenedFrom, IsOpened}
use Rattle.opening_laws.specs.Conditions.{FixesArgument}
use Rattle.opening_laws.proofs.Kept.{entries_unique}
use Rattle.opening_laws.proofs.Numbers.{more_goals}
use Rattle.opening_laws.proofs.Existence.{type_at-within}
use Rattle.opening_laws.proofs.Laws.{types_are_opened, openings_are_shaped}
use Rattle.meta_openings.specs.Arguments.{IsLeft}
use Rattle.meta_openings.specs.Results.{IsOpenable}
use Rattle.meta_openings.specs.declared.fresh.Setting.{Setting}
use Rattle.meta_openings.proofs.NextArgument.{conclusion_opened}

pub has_entries : (ctx : Context) (kept : List ℕ) (fixed : List (ℕ × ℕ)) (first : ℕ) (type : LfType) → IsOpenable ctx kept fixed first type → (entries : Context) × AreKept kept 0 ctx entries
has_entries ctx kept fixed first type openable =
    let r = types_are_opened openable.0 openable.1 ctx kept fixed first type openable.2 in
    (r.1.entries, r.1.are_kept)

binders_of-pis : (bs : List LfType) (f : ℕ) (args : Spine) → binders_of (pis bs (family f args)) ≡ bs
binders_of-pis [] f args = refl
binders_of-pis (b ∷ bs) f args = ap (λ l. b ∷ l) (binders_of-pis bs f args)

pub fixed_are_arguments : (ctx : Context) (kept : List ℕ) (fixed : List (ℕ × ℕ)) (first : ℕ) (bs : List LfType) (f : ℕ) (args : Spine) → IsOpenable ctx kept fixed first (pis bs (family f args)) →
    All (λ pair. pair.0 < length bs) fixed
fixed_are_arguments ctx kept fixed first bs f args openable =
    let type = pis bs (family f args) in
    All-weaker (FixesArgument ctx type) (λ pair. pair.0 < length bs)
    (λ pair fits. subst (λ l. pair.0 < length l) (binders_of-pis bs f args) (type_at-within (binders_of type) pair.0 fits.0 fits.2)) fixed openable.2.fixed_fit

module _ (setting : Setting) (ctx : Context) (fixed : List (ℕ × ℕ)) (type : LfType) (shapes_are : setting.shapes.now ≡ shapes_of_types ctx)
    (kept_so : AreKept setting.places.now.kept.now 0 ctx setting.entries.now) where
  counts : length setting.shapes.now ≡ length ctx
  counts = ap length shapes_are ∙ length-shapes_of_types ctx

  pub begins : IsOpenable ctx setting.places.now.kept.now fixed setting.first type → IsLeft setting fixed type 0 [] no_args [] type
  begins openable =
      let sig = openable.0 in
      let goals = openable.1 in
      let may = openable.2 in
      let kept = setting.places.now.kept.now in
      let r = types_are_opened sig goals ctx kept fixed setting.first type may in
      let result = r.0 in
      let whole = subst₂ (λ n es. IsOpenedFrom kept n es fixed stays 0 setting.first type result.terms result.fresh result.end) (sym counts) (sym (entries_unique r.1.are_kept kept_so)) r.1.opened in
      let start : setting.first ≡ setting.first + 0 = omega arith in
      record {
        result = result;
        whole = whole;
        later = result.terms;
        more = result.fresh;
        opens = subst (λ n. IsOpenedFrom kept (length setting.shapes.now) setting.entries.now fixed stays 0 n type result.terms result.fresh result.end) start whole;
        terms_are = refl;
        goals_are = refl;
        kinds = kind_shapes_in sig;
        outer = scope_in sig goals ctx;
        target = scope_in sig (goals ++ result.fresh) ctx;
        keeps = λ h s e. more_goals (shapes_of_types (constant_types sig)) goals result.fresh (shapes_of_types ctx) h s e;
        rest_shaped = may.type_is_shaped;
        ts_shaped = shaped_none;
        later_shaped = (openings_are_shaped sig goals ctx kept fixed setting.first type may result r.1).0;
      }

  pub ends : (i : ℕ) (shapes : List SimpleType) (ts : Spine) (goals : List LfGoal) (f : ℕ) (args results : Spine) → IsLeft setting fixed type i shapes ts goals (family f args) →
      SubstitutedSpine (push_all ts stays) args results →
      IsOpened ctx setting.places.now.kept.now fixed setting.first type (record { terms = ts; fresh = goals; end = record { atom_family = f; atom_args = results } })
  ends i shapes ts goals f args results left put =
      let e = conclusion_opened setting.places.now.kept.now (length setting.shapes.now) setting.entries.now fixed left.opens in
      let terms_are : left.result.terms ≡ ts = sym left.terms_are ∙ ap (joined ts) e.0 ∙ joined-no_args ts in
      let goals_are : left.result.fresh ≡ goals = sym left.goals_are ∙ ap (λ gs. goals ++ gs) e.1 ∙ append-nil goals in
      let end_is : left.result.end ≡ record { atom_family = f; atom_args = results } = e.4 ∙ ap atom (unique_spine e.3 put) in
      record {
        entries = setting.entries.now;
        are_kept = kept_so;
        opened =
            subst (λ x. IsOpenedFrom setting.places.now.kept.now (length ctx) setting.entries.now fixed stays 0 setting.first type ts goals x) end_is
            (subst₂ (λ x y. IsOpenedFrom setting.places.now.kept.now (length ctx) setting.entries.now fixed stays 0 setting.first type x y left.result.end) terms_are goals_are
            (subst (λ n. IsOpenedFrom setting.places.now.kept.now n setting.entries.now fixed stays 0 setting.first type left.result.terms left.result.fresh left.result.end) counts left.whole));
      }
    where
      atom : Spine → LfAtom
      atom xs = record { atom_family = f; atom_args = xs }
