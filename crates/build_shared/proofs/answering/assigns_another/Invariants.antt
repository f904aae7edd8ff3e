use Rattle.std.proofs.Common.{◌≡◌, take}
use Rattle.std.specs.Prelude.{false, not, nat_eq}
use Rattle.std.specs.List.{list_any}
use Rattle.meta_goals.specs.Bindings.{LfBinding}
use Rattle.build_shared.proofs.answering.assigns_another.Given as goal

abbrev pub invariant-loop-place : goal.invariant-loop-place
invariant-loop-place l = list_any (λ (b : LfBinding). not (nat_eq b.number l.goal)) (take l.place l.entries) ≡ false
