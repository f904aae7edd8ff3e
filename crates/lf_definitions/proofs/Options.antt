-- Options that are known twice.
use Rattle.std.proofs.Common.{◌≡◌, Option, Some, None}

pub Some-Some : {A : Type 0} {a b : A} → ◌≡◌ {A = Option A} (Some a) (Some b) → a ≡ b
Some-Some e = cc

pub Some_inj : {A : Type 0} {o : Option A} {x y : A} → o ≡ Some x → o ≡ Some y → x ≡ y
Some_inj e f = cc

pub None-Some : {A : Type 0} {o : Option A} {x : A} → o ≡ None → o ≡ Some x → ⊥
None-Some e f = cc
