-- The steps of a substitution in a type.
use Rattle.std.proofs.Common.{◌≡◌, ℕ, suc, ◌+◌, ◌<◌, List, [], ◌∷◌, ◌++◌, length, get_or, take, drop, take_all, Option, sym, ap, ◌∙◌, subst, subst₂, arith, add-one, length-append}
use Rattle.std.proofs.lemmas.List.{drop_all}
use Rattle.lf_definitions.specs.Syntax.{LfType, pi, family, pis, Spine, SimpleType, shape_of}
use Rattle.lf_definitions.specs.Shaping.{Scope, under, under_all, ShapedSpine, ShapedType, shaped_pi, shaped_family}
use Rattle.lf_definitions.specs.Substitution.{up, SubstitutedSpine, SubstitutedType, substituted_pi, substituted_family}
use Rattle.lf_definitions.proofs.Telescopes.{under_all-append}
use Rattle.lf_terms.specs.declared.ty.Ty.{Ty}
use Rattle.lf_terms.specs.Types.{type_of, types_of}
use Rattle.lf_terms.specs.Putting.{putting, Puts, ArgsShaped, TypeShaped}
use Rattle.lf_terms.proofs.Putting.{putting-suc}
use Rattle.lf_terms.proofs.TypeLists.{types_of-append, types_of-take_more, types_of-drop, pis-append}

pi_shaped : {kinds : ℕ → Option SimpleType} {Γ : Scope} {a b : LfType} → ShapedType kinds Γ (pi a b) → ShapedType kinds Γ a × ShapedType kinds (under (shape_of a) Γ) b
pi_shaped (shaped_pi p q) = (p, q)

family_shaped : {kinds : ℕ → Option SimpleType} {Γ : Scope} {f : ℕ} {ts : Spine} → ShapedType kinds Γ (family f ts) → (s : SimpleType) × ShapedSpine Γ ts s
family_shaped (shaped_family s e ps) = (s, ps)

module _ (sub : Spine) (shapes : List SimpleType) (by d : ℕ) where
  pub puts_binder : (a b : LfType) → Puts sub shapes by d (TypeShaped (pi a b)) → Puts sub shapes by d (TypeShaped a)
  puts_binder a b p =
      record {
        outer = p.outer;
        target = p.target;
        local = p.local;
        shape = p.shape;
        depth_is = p.depth_is;
        keeps = p.keeps;
        shaped_sub = p.shaped_sub;
        shaped = (p.shaped.0, (pi_shaped p.shaped.1).0);
      }

  puts_rest : (a b : LfType) → Puts sub shapes by d (TypeShaped (pi a b)) → Puts sub shapes by (d + 1) (TypeShaped b)
  puts_rest a b p =
      record {
        outer = p.outer;
        target = p.target;
        local = p.local ++ shape_of a ∷ [];
        shape = p.shape;
        depth_is = length-append p.local (shape_of a ∷ []) ∙ ap (λ n. n + 1) p.depth_is;
        keeps = p.keeps;
        shaped_sub = p.shaped_sub;
        shaped = (p.shaped.0, subst (λ Γ. ShapedType p.shaped.0 Γ b) (sym (under_all-append p.local (shape_of a ∷ []) (under_all shapes p.outer))) (pi_shaped p.shaped.1).1);
      }

  puts_family : (f : ℕ) (ts : Spine) → Puts sub shapes by d (TypeShaped (family f ts)) → Puts sub shapes by d (ArgsShaped ts)
  puts_family f ts p =
      let inside = family_shaped p.shaped.1 in
      record {
        outer = p.outer;
        target = p.target;
        local = p.local;
        shape = inside.0;
        depth_is = p.depth_is;
        keeps = p.keeps;
        shaped_sub = p.shaped_sub;
        shaped = inside.1;
      }

-- The binder at a place, and those after it.
module _ (sub : Spine) (shapes : List SimpleType) (by d : ℕ) (items : List Ty) (i : ℕ) (x : Ty) (end : LfType)
    (within : i < length items) (is : x ≡ get_or items i x) (puts : Puts sub shapes by (d + i) (TypeShaped (pis (types_of (drop i items)) end))) where
  opened : Puts sub shapes by (d + i) (TypeShaped (pi (type_of x) (pis (types_of (drop (suc i) items)) end)))
  opened = subst (λ l. Puts sub shapes by (d + i) (TypeShaped (pis l end))) (types_of-drop items i x within is) puts

  pub puts_here : Puts sub shapes by (d + i) (TypeShaped (type_of x))
  puts_here = puts_binder sub shapes by (d + i) (type_of x) (pis (types_of (drop (suc i) items)) end) opened

  pub puts_later : Puts sub shapes by (d + (i + 1)) (TypeShaped (pis (types_of (drop (i + 1) items)) end))
  puts_later =
      let depths : (d + i) + 1 ≡ d + (i + 1) = omega arith in
      subst₂ (λ n j. Puts sub shapes by n (TypeShaped (pis (types_of (drop j items)) end))) depths (sym (add-one i))
      (puts_rest sub shapes by (d + i) (type_of x) (pis (types_of (drop (suc i) items)) end) opened)

-- After the last binder the arguments are left.
pub puts_end : (sub : Spine) (shapes : List SimpleType) (by d : ℕ) (items : List Ty) (i f : ℕ) (ts : Spine) → i ≡ length items →
    Puts sub shapes by (d + i) (TypeShaped (pis (types_of (drop i items)) (family f ts))) → Puts sub shapes by (d + length items) (ArgsShaped ts)
puts_end sub shapes by d items i f ts all p =
    puts_family sub shapes by (d + length items) f ts
    (subst₂ (λ n l. Puts sub shapes by (d + n) (TypeShaped (pis (types_of l) (family f ts)))) all (drop_all i items (omega arith)) p)

-- These binders have those results, whatever comes after them.
abbrev pub BindersPut : Spine → ℕ → ℕ → ℕ → List LfType → List LfType → Type 0
BindersPut sub by d i bs rs = (end result : LfType) → SubstitutedType (putting sub by (d + i)) end result → SubstitutedType (putting sub by d) (pis bs end) (pis rs result)

pub binder_put : (sub : Spine) (by d i : ℕ) (items results more : List Ty) (x r : Ty) → i < length items → x ≡ get_or items i x → more ≡ results ++ r ∷ [] →
    BindersPut sub by d i (types_of (take i items)) (types_of results) → SubstitutedType (putting sub by (d + i)) (type_of x) (type_of r) →
    BindersPut sub by d (i + 1) (types_of (take (i + 1) items)) (types_of more)
binder_put sub by d i items results more x r within is pushed before here end result p =
    let depths : d + (i + 1) ≡ (d + i) + 1 = omega arith in
    let under_it : SubstitutedType (up (putting sub by (d + i))) end result = subst (λ σ. SubstitutedType σ end result) (ap (putting sub by) depths ∙ putting-suc sub by (d + i)) p in
    subst₂ (SubstitutedType (putting sub by d))
    (sym (ap (λ l. pis l end) (types_of-take_more items i x within is) ∙ pis-append (types_of (take i items)) (type_of x) end))
    (sym (ap (λ l. pis (types_of l) result) pushed ∙ ap (λ l. pis l result) (types_of-append results r) ∙ pis-append (types_of results) (type_of r) result))
    (before (pi (type_of x) end) (pi (type_of r) result) (substituted_pi here under_it))

pub type_put : (sub : Spine) (by d i : ℕ) (items : List Ty) (bs rs made : List LfType) (f : ℕ) (ts us : Spine) → i ≡ length items → types_of items ≡ bs → made ≡ rs →
    BindersPut sub by d i (types_of (take i items)) rs → SubstitutedSpine (putting sub by (d + length items)) ts us →
    SubstitutedType (putting sub by d) (pis bs (family f ts)) (pis made (family f us))
type_put sub by d i items bs rs made f ts us all items_are made_is binders args =
    subst₂ (λ l m. SubstitutedType (putting sub by d) (pis l (family f ts)) (pis m (family f us))) (ap types_of (take_all i items (omega arith)) ∙ items_are) (sym made_is)
    (binders (family f ts) (family f us) (substituted_family (subst (λ n. SubstitutedSpine (putting sub by (d + n)) ts us) (sym all) args)))
