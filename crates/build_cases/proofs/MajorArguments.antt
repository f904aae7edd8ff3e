-- Where the binder of a type at a place occurs, by the binders and the arguments.
use Rattle.std.proofs.Common.{◌≡◌, ℕ, zero, suc, ◌+◌, ◌-◌, ◌<◌, ◌≤◌, false, List, [], ◌∷◌, length, take, drop, refl, sym, ap, ◌∙◌, arith, add-one, length-drop}
use Rattle.std.proofs.lemmas.List.{take_all}
use Rattle.lf_definitions.specs.Syntax.{bound, Spine, family, Context, pis}
use Rattle.lf_definitions.proofs.Failures.{binders_of-pis}
use Rattle.lf_terms.specs.declared.ty.Ty.{Ty}
use Rattle.lf_terms.specs.Types.{types_of}
use Rattle.head_laws.specs.Mentions.{occurs_in_spine, occurs_in_context}
use Rattle.applications.specs.Candidates.{occurs_later, occurs_under, occurs_at_end}

from_start : (bs : Context) → bs ≡ drop 0 bs
from_start [] = refl
from_start (b ∷ bs) = refl

types_from : (types : List Ty) (k : ℕ) → types_of (drop k types) ≡ drop k (types_of types)
types_from [] zero = refl
types_from [] (suc k) = refl
types_from (t ∷ types) zero = refl
types_from (t ∷ types) (suc k) = types_from types k

later_binders : (bs : Context) (f : ℕ) (args : Spine) (place : ℕ) → occurs_later (pis bs (family f args)) place ≡ occurs_in_context (bound 0) (drop (suc place) bs)
later_binders [] f args place = refl
later_binders (b ∷ bs) f args zero = ap (occurs_in_context (bound 0)) (binders_of-pis bs f args ∙ from_start bs)
later_binders (b ∷ bs) f args (suc place) = later_binders bs f args place

pub later_are : (types : List Ty) (bs : Context) (f : ℕ) (args : Spine) (place : ℕ) → types_of types ≡ bs →
    occurs_in_context (bound 0) (types_of (take (length types - (place + 1)) (drop (place + 1) types))) ≡ occurs_later (pis bs (family f args)) place
later_are types bs f args place are =
    let rest : take (length types - (place + 1)) (drop (place + 1) types) ≡ drop (place + 1) types =
    take_all (length types - (place + 1)) (drop (place + 1) types) (omega (arith, length-drop (place + 1) types)) in
    ap (occurs_in_context (bound 0)) (ap types_of rest ∙ types_from types (place + 1) ∙ ap (λ n. drop n (types_of types)) (add-one place) ∙ ap (drop (suc place)) are) ∙ sym (later_binders bs f args place)

pub none_later : (bs : Context) (f : ℕ) (args : Spine) (place : ℕ) → length bs ≤ place → occurs_later (pis bs (family f args)) place ≡ false
none_later [] f args place past = refl
none_later (b ∷ bs) f args zero past = absurd (omega (arith, past))
none_later (b ∷ bs) f args (suc place) past = none_later bs f args place (omega (arith, past))

under_binders : (bs : Context) (n f : ℕ) (args : Spine) → occurs_under (bound n) (pis bs (family f args)) ≡ occurs_in_spine (bound (n + length bs)) args
under_binders [] n f args = let here : n ≡ n + 0 = omega arith in ap (λ m. occurs_in_spine (bound m) args) here
under_binders (b ∷ bs) n f args = let there : suc n + length bs ≡ n + suc (length bs) = omega arith in under_binders bs (suc n) f args ∙ ap (λ m. occurs_in_spine (bound m) args) there

pub at_end_is : (bs : Context) (f : ℕ) (args : Spine) (place : ℕ) → place < length bs → occurs_in_spine (bound (length bs - 1 - place)) args ≡ occurs_at_end (pis bs (family f args)) place
at_end_is [] f args place within = absurd (omega (arith, within))
at_end_is (b ∷ bs) f args zero within =
    let number : suc (length bs) - 1 - 0 ≡ 0 + length bs = omega arith in ap (λ m. occurs_in_spine (bound m) args) number ∙ sym (under_binders bs 0 f args)
at_end_is (b ∷ bs) f args (suc place) within =
    let number : suc (length bs) - 1 - suc place ≡ length bs - 1 - place = omega arith in ap (λ m. occurs_in_spine (bound m) args) number ∙ at_end_is bs f args place (omega (arith, within))

pub none_at_end : (bs : Context) (f : ℕ) (args : Spine) (place : ℕ) → length bs ≤ place → occurs_at_end (pis bs (family f args)) place ≡ false
none_at_end [] f args place past = refl
none_at_end (b ∷ bs) f args zero past = absurd (omega (arith, past))
none_at_end (b ∷ bs) f args (suc place) past = none_at_end bs f args place (omega (arith, past))
