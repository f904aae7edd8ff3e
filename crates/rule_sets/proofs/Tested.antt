-- What the answer of a test says.
use Rattle.std.proofs.Common.{◌≡◌, ◌↔◌, Bool, true, false, IsTrue, Option, Some, None, ◌∙◌, Bor}
use Rattle.std.specs.Prelude.{is_some, option_copied}

pub failed : (b : Bool) (P : Type 0) → IsTrue b ↔ P → b ≡ false → P → ⊥
failed b P test e p = let yes : IsTrue b = test.1 p in cc

pub falsely : {A : Type 0} → IsTrue false → A
falsely h = absurd cc

pub not_none : {X : Type 0} (o : Option (Bor X)) (r : Option X) → option_copied o ≡ r → is_some o ≡ true → r ≡ None → ⊥
not_none None r is some none = absurd cc
not_none {X} (Some x) r is some none = let clash : ◌≡◌ {A = Option X} (Some x.now) None = is ∙ none in cc
