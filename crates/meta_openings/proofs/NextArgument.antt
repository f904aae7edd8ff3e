-- One argument more is opened.
use Rattle.std.proofs.Common.{◌≡◌, ℕ, zero, suc, ◌+◌, ◌<◌, ◌⊎◌, inl, inr, Option, Some, None, List, [], ◌∷◌, ◌++◌, length, get_or, take, drop, refl, sym, ap, ◌∙◌, subst, subst₂, arith, add-one, length-append}
use Rattle.std.proofs.lemmas.List.{drop_all, append_assoc, take_all}
use Rattle.lf_definitions.specs.Syntax.{metavariable, LfTerm, Spine, no_args, arg, joined, SimpleType, base, arrow, arrows, LfType, pi, family, LfAtom, pis, Context, shape_of, shapes_of_types}
use Rattle.lf_definitions.specs.Renaming.{rename_type}
use Rattle.lf_definitions.specs.Shaping.{Scope, under, Shaped, ShapedSpine, shaped_none, shaped_arg, ShapedType, shaped_pi, shaped_family}
use Rattle.lf_definitions.specs.Substitution.{Replacement, stays, push, push_all, SubstitutedSpine, SubstitutedType}
use Rattle.lf_definitions.specs.Expansion.{eta}
use Rattle.lf_definitions.specs.Typing.{LfGoal}
use Rattle.lf_definitions.proofs.Telescopes.{push_all-joined, under_all-append}
use Rattle.typing_laws.specs.EtaLaws.{expanded}
use Rattle.lf_definitions.specs.Shaping.{shape_at}
use Rattle.lf_definitions.proofs.Options.{Some-Some}
use Rattle.typing_laws.proofs.Binders.{length-shapes_of_types}
use Rattle.lf_terms.specs.declared.shape.Shape.{Shape}
use Rattle.lf_terms.specs.declared.ty.Ty.{Ty}
use Rattle.lf_terms.specs.Shapes.{simple_type_of, simple_types_of}
use Rattle.lf_terms.specs.Types.{type_of, types_of}
use Rattle.lf_terms.proofs.ShapeLists.{length-simple_types_of, shape_at-simple_types_of, simple_types_of-append, take_read}
use Rattle.lf_terms.proofs.TypeLists.{length-types_of, types_of-drop}
use Rattle.lf_terms.specs.Putting.{Puts, ArgsShaped, TypeShaped}
use Rattle.opening_laws.specs.Openings.{context_variable, keeping, fixed_to, fresh_goal, kept_variables, IsOpenedFrom, opens_conclusion, opens_fixed, opens_fresh}
use Rattle.meta_openings.specs.Arguments.{AddsArgument, IsLeft}
use Rattle.meta_openings.specs.declared.fresh.Setting.{Setting}

pi_parts : {kinds : ℕ → Option SimpleType} {Γ : Scope} {a b : LfType} → ShapedType kinds Γ (pi a b) → ShapedType kinds Γ a × ShapedType kinds (under (shape_of a) Γ) b
pi_parts (shaped_pi p q) = (p, q)

family_args : {kinds : ℕ → Option SimpleType} {Γ : Scope} {f : ℕ} {args : Spine} → ShapedType kinds Γ (family f args) → (s : SimpleType) × ShapedSpine Γ args s
family_args (shaped_family s e ps) = (s, ps)

arg_parts : {Δ : Scope} {t : LfTerm} {ts : Spine} {a s : SimpleType} → ShapedSpine Δ (arg t ts) (arrow a s) → Shaped Δ t a × ShapedSpine Δ ts s
arg_parts (shaped_arg p ps) = (p, ps)

one_more_shaped : (Δ : Scope) (ts : Spine) (shapes : List SimpleType) (t : LfTerm) (s : SimpleType) → ShapedSpine Δ ts (arrows shapes base) → Shaped Δ t s → ShapedSpine Δ (joined ts (arg t no_args)) (arrows (shapes ++ s ∷ []) base)
one_more_shaped Δ no_args [] t s p q = shaped_arg q shaped_none
one_more_shaped Δ (arg u ts) [] t s p q = elim p [ ]
one_more_shaped Δ no_args (a ∷ shapes) t s p q = elim p [ ]
one_more_shaped Δ (arg u ts) (a ∷ shapes) t s (shaped_arg p ps) q = shaped_arg p (one_more_shaped Δ ts shapes t s ps q)

one_more_joined : (ts us : Spine) (t : LfTerm) → joined (joined ts (arg t no_args)) us ≡ joined ts (arg t us)
one_more_joined no_args us t = refl
one_more_joined (arg u ts) us t = ap (arg u) (one_more_joined ts us t)

module _ (kept : List ℕ) (count : ℕ) (entries : Context) (fixed : List (ℕ × ℕ)) where
  abbrev FixedNext : Replacement → ℕ → ℕ → LfType → LfType → Spine → List LfGoal → LfAtom → Type 0
  FixedNext σ i n a b later goals end =
      (place : ℕ) × (ts : Spine) × (fixed_to fixed i ≡ Some place) × (later ≡ arg (eta (context_variable count place) (shape_of a)) ts)
      × IsOpenedFrom kept count entries fixed (push (eta (context_variable count place) (shape_of a)) σ) (suc i) n b ts goals end

  abbrev FreshNext : Replacement → ℕ → ℕ → LfType → LfType → Spine → List LfGoal → LfAtom → Type 0
  FreshNext σ i n a b later goals end =
      (inside : LfType) × (ts : Spine) × (gs : List LfGoal) × (fixed_to fixed i ≡ None) × SubstitutedType σ a (rename_type (keeping kept count) inside)
      × (later ≡ arg (expanded (metavariable n) (kept_variables kept count entries) (shape_of a)) ts) × (goals ≡ fresh_goal n entries inside ∷ gs)
      × IsOpenedFrom kept count entries fixed (push (expanded (metavariable n) (kept_variables kept count entries) (shape_of a)) σ) (suc i) (suc n) b ts gs end

  next_argument : {σ : Replacement} {i n : ℕ} {a b : LfType} {later : Spine} {goals : List LfGoal} {end : LfAtom} → IsOpenedFrom kept count entries fixed σ i n (pi a b) later goals end →
      FixedNext σ i n a b later goals end ⊎ FreshNext σ i n a b later goals end
  next_argument (opens_fixed {ts = ts} place e rest) = inl (place, ts, e, refl, rest)
  next_argument (opens_fresh {ts = ts} {goals = gs} inside e put rest) = inr (inside, ts, gs, e, put, refl, refl, rest)

  -- At the end there are no more terms and goals, and the conclusion has the terms substituted.
  pub conclusion_opened : {σ : Replacement} {i n f : ℕ} {args later : Spine} {goals : List LfGoal} {end : LfAtom} → IsOpenedFrom kept count entries fixed σ i n (family f args) later goals end →
      (later ≡ no_args) × (goals ≡ []) × (results : Spine) × SubstitutedSpine σ args results × (end ≡ record { atom_family = f; atom_args = results })
  conclusion_opened (opens_conclusion {results = results} put) = (refl, refl, results, put, refl)

module _ (setting : Setting) (fixed : List (ℕ × ℕ)) (type : LfType) where
  pub argument_puts : (i : ℕ) (shapes : List SimpleType) (ts : Spine) (goals : List LfGoal) (a rest : LfType) → IsLeft setting fixed type i shapes ts goals (pi a rest) → Puts ts shapes 0 0 (TypeShaped a)
  argument_puts i shapes ts goals a rest left = record {
    outer = left.outer;
    target = left.target;
    local = [];
    shape = base;
    depth_is = refl;
    keeps = left.keeps;
    shaped_sub = left.ts_shaped;
    shaped = (left.kinds, (pi_parts left.rest_shaped).0);
  }

  pub conclusion_puts : (i : ℕ) (shapes : List SimpleType) (ts : Spine) (goals : List LfGoal) (f : ℕ) (args : Spine) → IsLeft setting fixed type i shapes ts goals (family f args) → Puts ts shapes 0 0 (ArgsShaped args)
  conclusion_puts i shapes ts goals f args left =
      let inside = family_args left.rest_shaped in
      record {
        outer = left.outer;
        target = left.target;
        local = [];
        shape = inside.0;
        depth_is = refl;
        keeps = left.keeps;
        shaped_sub = left.ts_shaped;
        shaped = inside.1;
      }

  -- What is left after one more term, where its goals are known.
  after_term : (i : ℕ) (shapes : List SimpleType) (ts : Spine) (goals : List LfGoal) (a rest : LfType) (left : IsLeft setting fixed type i shapes ts goals (pi a rest)) →
      (u : LfTerm) (us later : Spine) (more gs : List LfGoal) → us ≡ joined ts (arg u no_args) → left.later ≡ arg u later → more ++ gs ≡ left.result.fresh →
      IsOpenedFrom setting.places.now.kept.now (length setting.shapes.now) setting.entries.now fixed (push u (push_all ts stays)) (suc i) (setting.first + length more) rest later gs left.result.end →
      IsLeft setting fixed type (suc i) (shapes ++ shape_of a ∷ []) us more rest
  after_term i shapes ts goals a rest left u us later more gs us_are later_is goals_are opened =
      let parts = arg_parts (subst (λ x. ShapedSpine left.target x (arrow (shape_of a) (shape_of rest))) later_is left.later_shaped) in
      let pushed : push u (push_all ts stays) ≡ push_all us stays = sym (ap (λ x. push_all x stays) us_are ∙ push_all-joined ts (arg u no_args) stays) in
      record {
        result = left.result;
        whole = left.whole;
        later = later;
        more = gs;
        opens = subst (λ σ. IsOpenedFrom setting.places.now.kept.now (length setting.shapes.now) setting.entries.now fixed σ (suc i) (setting.first + length more) rest later gs left.result.end) pushed opened;
        terms_are = ap (λ x. joined x later) us_are ∙ one_more_joined ts later u ∙ ap (joined ts) (sym later_is) ∙ left.terms_are;
        goals_are = goals_are;
        kinds = left.kinds;
        outer = left.outer;
        target = left.target;
        keeps = left.keeps;
        rest_shaped = subst (λ Γ. ShapedType left.kinds Γ rest) (sym (under_all-append shapes (shape_of a ∷ []) left.outer)) (pi_parts left.rest_shaped).1;
        ts_shaped = subst (λ x. ShapedSpine left.target x (arrows (shapes ++ shape_of a ∷ []) base)) (sym us_are) (one_more_shaped left.target ts shapes u (shape_of a) left.ts_shaped parts.0);
        later_shaped = parts.1;
      }

  pub left_more : (i : ℕ) (shapes : List SimpleType) (ts us : Spine) (goals more : List LfGoal) (a rest : LfType) (o : Option ℕ) → o ≡ fixed_to fixed i →
      AddsArgument setting o (shape_of a) a ts goals us more → IsLeft setting fixed type i shapes ts goals (pi a rest) → IsLeft setting fixed type (suc i) (shapes ++ shape_of a ∷ []) us more rest
  left_more i shapes ts us goals more a rest o o_is adds left =
      either (next_argument setting.places.now.kept.now (length setting.shapes.now) setting.entries.now fixed left.opens)
    where
      either : FixedNext setting.places.now.kept.now (length setting.shapes.now) setting.entries.now fixed (push_all ts stays) i (setting.first + length goals) a rest left.later left.more left.result.end
          ⊎ FreshNext setting.places.now.kept.now (length setting.shapes.now) setting.entries.now fixed (push_all ts stays) i (setting.first + length goals) a rest left.later left.more left.result.end →
          IsLeft setting fixed type (suc i) (shapes ++ shape_of a ∷ []) us more rest
      either (inl next) =
          let added = subst (λ x. AddsArgument setting x (shape_of a) a ts goals us more) (o_is ∙ next.2) adds in
          after_term i shapes ts goals a rest left (eta (context_variable (length setting.shapes.now) next.0) (shape_of a)) us next.1 more left.more added.0 next.3
          (ap (λ gs. gs ++ left.more) added.1 ∙ left.goals_are)
          (subst (λ n. IsOpenedFrom setting.places.now.kept.now (length setting.shapes.now) setting.entries.now fixed (push (eta (context_variable (length setting.shapes.now) next.0) (shape_of a)) (push_all ts stays)) (suc i) n rest next.1 left.more left.result.end)
          (ap (λ gs. setting.first + length gs) (sym added.1)) next.4)
      either (inr next) =
          let n = setting.first + length goals in
          let u = expanded (metavariable n) (kept_variables setting.places.now.kept.now (length setting.shapes.now) setting.entries.now) (shape_of a) in
          let g = fresh_goal n setting.entries.now next.0 in
          let added = subst (λ x. AddsArgument setting x (shape_of a) a ts goals us more) (o_is ∙ next.3) adds in
          let more_are : more ≡ goals ++ g ∷ [] = added.1 next.0 next.4 in
          let numbers : suc n ≡ setting.first + length more = omega (arith, ap length more_are, length-append goals (g ∷ [])) in
          after_term i shapes ts goals a rest left u us next.1 more next.2 added.0 next.5
          (ap (λ gs. gs ++ next.2) more_are ∙ append_assoc goals (g ∷ []) next.2 ∙ ap (λ gs. goals ++ gs) (sym next.6) ∙ left.goals_are)
          (subst (λ m. IsOpenedFrom setting.places.now.kept.now (length setting.shapes.now) setting.entries.now fixed (push u (push_all ts stays)) (suc i) m rest next.1 next.2 left.result.end) numbers next.7)

-- as the code has them
pub types_read : (setting : Setting) (fixed : List (ℕ × ℕ)) (type : LfType) (items : List Shape) (types : List Ty) (i : ℕ) (x : Ty) (ts : Spine) (goals : List LfGoal) (end : LfType) → i < length types → x ≡ get_or types i x →
    IsLeft setting fixed type i (simple_types_of (take i items)) ts goals (pis (types_of (drop i types)) end) →
    IsLeft setting fixed type i (simple_types_of (take i items)) ts goals (pi (type_of x) (pis (types_of (drop (suc i) types)) end))
types_read setting fixed type items types i x ts goals end within is left =
    subst (λ l. IsLeft setting fixed type i (simple_types_of (take i items)) ts goals (pis l end)) (types_of-drop types i x within is) left

pub argument_more : (setting : Setting) (fixed : List (ℕ × ℕ)) (type : LfType) (items : List Shape) (types : List Ty) (i : ℕ) (s : Shape) (x : Ty) (o : Option ℕ) (ts us : Spine) (goals more : List LfGoal) (end : LfType) →
    i < length types → x ≡ get_or types i x → s ≡ get_or items i s → simple_types_of items ≡ shapes_of_types (types_of types) → o ≡ fixed_to fixed i → AddsArgument setting o (simple_type_of s) (type_of x) ts goals us more →
    IsLeft setting fixed type i (simple_types_of (take i items)) ts goals (pis (types_of (drop i types)) end) →
    IsLeft setting fixed type (i + 1) (simple_types_of (take (i + 1) items)) us more (pis (types_of (drop (i + 1) types)) end)
argument_more setting fixed type items types i s x o ts us goals more end within is shape_is shapes o_is adds left =
    let counts : length items ≡ length types = sym (length-simple_types_of items) ∙ ap length shapes ∙ length-shapes_of_types (types_of types) ∙ length-types_of types in
    let room : i < length items = omega (arith, within, counts) in
    let here : simple_type_of s ≡ shape_of (type_of x) = Some-Some (sym (shape_at-simple_types_of items i s room shape_is) ∙ ap (λ l. shape_at l i) shapes ∙ shape_at-types types i x within is) in
    let added = subst (λ c. AddsArgument setting o c (type_of x) ts goals us more) here adds in
    let next = left_more setting fixed type i (simple_types_of (take i items)) ts us goals more (type_of x) (pis (types_of (drop (suc i) types)) end) o o_is added
    (types_read setting fixed type items types i x ts goals end within is left) in
    let shapes_more : simple_types_of (take i items) ++ shape_of (type_of x) ∷ [] ≡ simple_types_of (take (i + 1) items) =
    sym (ap simple_types_of (take_read items i s room shape_is) ∙ simple_types_of-append (take i items) s ∙ ap (λ c. simple_types_of (take i items) ++ c ∷ []) here) in
    subst₂ (λ k l. IsLeft setting fixed type k l us more (pis (types_of (drop k types)) end)) (sym (add-one i)) shapes_more next
  where
    shape_at-types : (types : List Ty) (i : ℕ) (x : Ty) → i < length types → x ≡ get_or types i x → shape_at (shapes_of_types (types_of types)) i ≡ Some (shape_of (type_of x))
    shape_at-types [] i x within is = absurd (omega (arith, within))
    shape_at-types (t ∷ types) zero x within is = ap (λ c. Some (shape_of (type_of c))) (sym is)
    shape_at-types (t ∷ types) (suc i) x within is = shape_at-types types i x (omega (arith, within)) is

pub argument_asks : (setting : Setting) (fixed : List (ℕ × ℕ)) (type : LfType) (items : List Shape) (types : List Ty) (i : ℕ) (x : Ty) (ts : Spine) (goals : List LfGoal) (end : LfType) → i < length types → x ≡ get_or types i x →
    IsLeft setting fixed type i (simple_types_of (take i items)) ts goals (pis (types_of (drop i types)) end) → Puts ts (simple_types_of (take i items)) 0 0 (TypeShaped (type_of x))
argument_asks setting fixed type items types i x ts goals end within is left =
    argument_puts setting fixed type i (simple_types_of (take i items)) ts goals (type_of x) (pis (types_of (drop (suc i) types)) end) (types_read setting fixed type items types i x ts goals end within is left)

pub arguments_end : (setting : Setting) (fixed : List (ℕ × ℕ)) (type : LfType) (items : List Shape) (types : List Ty) (i : ℕ) (ts : Spine) (goals : List LfGoal) (end : LfType) (shapes : List SimpleType) (binders : Context) → i ≡ length types →
    simple_types_of items ≡ shapes → types_of types ≡ binders → simple_types_of items ≡ shapes_of_types (types_of types) →
    IsLeft setting fixed type i (simple_types_of (take i items)) ts goals (pis (types_of (drop i types)) end) → IsLeft setting fixed type (length binders) shapes ts goals end
arguments_end setting fixed type items types i ts goals end shapes binders all shapes_are types_are same left =
    let counts : length items ≡ length types = sym (length-simple_types_of items) ∙ ap length same ∙ length-shapes_of_types (types_of types) ∙ length-types_of types in
    let place : i ≡ length binders = all ∙ sym (length-types_of types) ∙ ap length types_are in
    subst₂ (λ k l. IsLeft setting fixed type k l ts goals end) place (ap simple_types_of (take_all i items (omega (arith, all, counts))) ∙ shapes_are)
    (subst (λ xs. IsLeft setting fixed type i (simple_types_of (take i items)) ts goals (pis (types_of xs) end)) (drop_all i types (omega (arith, all))) left)
