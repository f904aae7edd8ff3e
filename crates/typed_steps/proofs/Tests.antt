-- What the test of entries says of each goal, and goals among others.
use Rattle.std.proofs.Common.{◌≡◌, true, List, [], ◌∷◌, All}
use Rattle.std.proofs.lemmas.Bool.{and_parts}
use Rattle.std.proofs.lemmas.List.Elements.{All-nil, All-cons}
use Rattle.lf_definitions.specs.Typing.{LfGoal}
use Rattle.lf_definitions.specs.Signatures.{LfSignature}
use Rattle.lf_definitions.specs.Instantiation.{Assignment}
use Rattle.lf_functions.specs.Instances.{instance_of_goal}
use Rattle.applications.specs.Applications.{is_typed_entry, entries_are_typed}

abbrev pub IsTested : LfSignature → List LfGoal → Assignment → List LfGoal → LfGoal → Type 0
IsTested sig goals σ left h = is_typed_entry sig left (σ h.id) (instance_of_goal goals σ h) ≡ true

pub each_tested : (sig : LfSignature) (goals : List LfGoal) (σ : Assignment) (left list : List LfGoal) → entries_are_typed sig goals σ left list ≡ true → All (IsTested sig goals σ left) list
each_tested sig goals σ left [] e = All-nil (IsTested sig goals σ left)
each_tested sig goals σ left (h ∷ rest) e =
    let parts = and_parts (is_typed_entry sig left (σ h.id) (instance_of_goal goals σ h)) (entries_are_typed sig goals σ left rest) e in
    All-cons (IsTested sig goals σ left) h rest parts.0 (each_tested sig goals σ left rest parts.1)
