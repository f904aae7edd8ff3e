-- What targets ask of keys, place by place, and the keys of conclusions.
use Rattle.std.proofs.Common.{◌≡◌, ℕ, zero, suc, ◌+◌, ◌<◌, ◌≤◌, Bool, true, false, ◌&&◌, List, [], ◌∷◌, length, get_or, drop, map, Option, Some, None, refl, sym, ap, ap₂, ◌∙◌, arith, add-one}
use Rattle.std.specs.Prelude.{slice_get}
use Rattle.std.proofs.lemmas.List.{drop_more, drop_all}
use Rattle.lf_definitions.specs.Syntax.{bound, constant, metavariable, LfTerm, lam, at, Spine, no_args, arg, arg_at, LfType, family, pis, conclusion_atom}
use Rattle.lf_definitions.specs.Typing.{type_at}
use Rattle.lf_terms.specs.declared.term.Term.{Term}
use Rattle.lf_terms.specs.Terms.{term_of, spine_of}
use Rattle.rule_index.specs.declared.key.Demand.TheVariants.{Anything}
use Rattle.rule_index.specs.Keys.{head_constant, head_constants, conclusion_key, type_key, allows, all_allow}
use Rattle.rule_index.specs.Stored.{demand_of, demand_at, meets, args_from}

-- the demand that was read
pub demand_read : (ts : Spine) (i : ℕ) (t : LfTerm) → arg_at ts i ≡ Some t → demand_at ts i ≡ demand_of t
demand_read no_args i t e = absurd cc
demand_read (arg u ts) zero t e = let same : u ≡ t = cc in ap demand_of same
demand_read (arg u ts) (suc i) t e = demand_read ts i t e

pub demand_past : (ts : List Term) (i : ℕ) → length ts ≤ i → demand_at (spine_of ts) i ≡ Anything
demand_past [] i past = refl
demand_past (t ∷ ts) zero past = absurd (omega arith)
demand_past (t ∷ ts) (suc i) past = demand_past ts i (omega arith)

meets-demand_of : (c : Option ℕ) (t : LfTerm) → allows c t ≡ meets c (demand_of t)
meets-demand_of None t = refl
meets-demand_of (Some c) (lam b) = refl
meets-demand_of (Some c) (at (bound n) ts) = refl
meets-demand_of (Some c) (at (constant d) ts) = refl
meets-demand_of (Some c) (at (metavariable g) ts) = refl

meets_anything : (c : Option ℕ) → meets c Anything ≡ true
meets_anything None = refl
meets_anything (Some c) = refl

all_allow-no_args : (cs : List (Option ℕ)) → all_allow cs no_args ≡ true
all_allow-no_args [] = refl
all_allow-no_args (c ∷ cs) = refl

pub from_start : (ts : Spine) → args_from 0 ts ≡ ts
from_start no_args = refl
from_start (arg t ts) = refl

from_suc : (i : ℕ) (c : Option ℕ) (cs : List (Option ℕ)) (ts : Spine) → all_allow (c ∷ cs) (args_from i ts) ≡ meets c (demand_at ts i) && all_allow cs (args_from (suc i) ts)
from_suc i c cs no_args = sym (ap₂ (λ a b. a && b) (meets_anything c) (all_allow-no_args cs))
from_suc zero c cs (arg t ts) = ap₂ (λ a b. a && b) (meets-demand_of c t) (ap (all_allow cs) (sym (from_start ts)))
from_suc (suc i) c cs (arg t ts) = from_suc i c cs ts

-- One part of a key is met, and the others are by the arguments after it.
pub allow_step : (i : ℕ) (c : Option ℕ) (cs : List (Option ℕ)) (ts : Spine) → all_allow (c ∷ cs) (args_from i ts) ≡ meets c (demand_at ts i) && all_allow cs (args_from (i + 1) ts)
allow_step i c cs ts = from_suc i c cs ts ∙ ap (λ n. meets c (demand_at ts i) && all_allow cs (args_from n ts)) (sym (add-one i))

pub part_met : (i : ℕ) (c : Option ℕ) (cs : List (Option ℕ)) (ts : Spine) → all_allow (c ∷ cs) (args_from i ts) ≡ true → meets c (demand_at ts i) ≡ true
part_met i c cs ts e = left _ _ (sym (allow_step i c cs ts) ∙ e)
  where
    left : (a b : Bool) → a && b ≡ true → a ≡ true
    left true b h = refl
    left false b h = absurd cc

pub others_met : (i : ℕ) (c : Option ℕ) (cs : List (Option ℕ)) (ts : Spine) → all_allow (c ∷ cs) (args_from i ts) ≡ true → all_allow cs (args_from (i + 1) ts) ≡ true
others_met i c cs ts e = right _ _ (sym (allow_step i c cs ts) ∙ e)
  where
    right : (a b : Bool) → a && b ≡ true → b ≡ true
    right true b h = h
    right false b h = absurd cc

-- The loop over the parts of a key.

module _ (cs : List (Option ℕ)) (ts : Spine) (i : ℕ) (within : i < length cs) (so_far : all_allow (drop i cs) (args_from i ts) ≡ all_allow cs ts) (met : Bool) (met_is : met ≡ meets (get_or cs i None) (demand_at ts i)) where
  here : all_allow cs ts ≡ met && all_allow (drop (i + 1) cs) (args_from (i + 1) ts)
  here =
      sym so_far ∙ ap (λ parts. all_allow parts (args_from i ts)) (drop_more cs i None within) ∙ allow_step i (get_or cs i None) (drop (i + 1) cs) ts
      ∙ ap (λ b. b && all_allow (drop (i + 1) cs) (args_from (i + 1) ts)) (sym met_is)

  pub not_met : met ≡ false → false ≡ all_allow cs ts
  not_met e = sym (here ∙ ap (λ b. b && all_allow (drop (i + 1) cs) (args_from (i + 1) ts)) e)

  pub one_met : met ≡ true → all_allow (drop (i + 1) cs) (args_from (i + 1) ts) ≡ all_allow cs ts
  one_met e = sym (here ∙ ap (λ b. b && all_allow (drop (i + 1) cs) (args_from (i + 1) ts)) e)

pub all_met : (cs : List (Option ℕ)) (ts : Spine) (i : ℕ) → length cs ≤ i → all_allow (drop i cs) (args_from i ts) ≡ all_allow cs ts → true ≡ all_allow cs ts
all_met cs ts i past so_far = ap (λ parts. all_allow parts (args_from i ts)) (sym (drop_all i cs past)) ∙ so_far

-- Keys of conclusions.

pub head_constants-spine_of : (ts : List Term) → head_constants (spine_of ts) ≡ map (λ t. head_constant (term_of t)) ts
head_constants-spine_of [] = refl
head_constants-spine_of (t ∷ ts) = ap (λ cs. head_constant (term_of t) ∷ cs) (head_constants-spine_of ts)

conclusion_atom-pis : (bs : List LfType) (f : ℕ) (args : Spine) → conclusion_atom (pis bs (family f args)) ≡ record { atom_family = f; atom_args = args }
conclusion_atom-pis [] f args = refl
conclusion_atom-pis (b ∷ bs) f args = conclusion_atom-pis bs f args

type_at-slice_get : (types : List LfType) (c : ℕ) → type_at types c ≡ slice_get types c
type_at-slice_get [] c = refl
type_at-slice_get (a ∷ types) zero = refl
type_at-slice_get (a ∷ types) (suc c) = type_at-slice_get types c

pub key_read : (types : List LfType) (c : ℕ) (bs : List LfType) (f : ℕ) (args : Spine) → type_at types c ≡ Some (pis bs (family f args)) → conclusion_key (record { atom_family = f; atom_args = args }) ≡ type_key (slice_get types c)
key_read types c bs f args e = sym (ap type_key (sym (type_at-slice_get types c) ∙ e) ∙ ap conclusion_key (conclusion_atom-pis bs f args))
