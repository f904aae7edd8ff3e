-- Laws of what is read.
use Rattle.std.specs.Prelude.{◌≡◌, ℕ, []}
use Rattle.lf_definitions.specs.Syntax.{LfType, LfKind}
use Rattle.lf_definitions.specs.Typing.{Typing, Formed, FormedKind}
use Rattle.lf_definitions.specs.Signatures.{LfSignature, kinds_in, typing_in, FormedSignature}
use Rattle.file_trees.specs.Trees.{Classifier}
use Rattle.elab_terms.specs.Names.{Text, Bound}
use Rattle.elab_terms.specs.Types.{ReadsType, RefusesType, ReadsKind, RefusesKind}
use Rattle.elab_terms.specs.declared.elab_fault.ElabFault.{ElabFault}

-- Over a well-formed signature the types that are read are well formed, and so are the kinds.
abbrev pub WhatIsReadIsFormed : Type 0
WhatIsReadIsFormed =
    (text : Text) (sig : LfSignature) → FormedSignature sig →
    ((tree : Classifier) (a : LfType) → ReadsType text sig [] (typing_in sig [] []) 0 tree a → Formed (kinds_in sig) (typing_in sig [] []) a)
    × ((tree : Classifier) (kind : LfKind) → ReadsKind text sig [] (typing_in sig [] []) tree kind → FormedKind (kinds_in sig) (typing_in sig [] []) kind)

-- In any scope two types that are read from one tree are equal, and so are two kinds.
abbrev pub WhatIsReadIsOne : Type 0
WhatIsReadIsOne =
    (text : Text) (sig : LfSignature) (binders : Bound) (Γ : Typing) (tree : Classifier) →
    ((count : ℕ) (a b : LfType) → ReadsType text sig binders Γ count tree a → ReadsType text sig binders Γ count tree b → a ≡ b)
    × ((kind other : LfKind) → ReadsKind text sig binders Γ tree kind → ReadsKind text sig binders Γ tree other → kind ≡ other)

-- What is read is refused for no fault.
abbrev pub WhatIsReadIsNotRefused : Type 0
WhatIsReadIsNotRefused =
    (text : Text) (sig : LfSignature) (binders : Bound) (Γ : Typing) (tree : Classifier) (fault : ElabFault) →
    ((count : ℕ) (a : LfType) → ReadsType text sig binders Γ count tree a → RefusesType text sig binders Γ count tree fault → ⊥)
    × ((kind : LfKind) → ReadsKind text sig binders Γ tree kind → RefusesKind text sig binders Γ tree fault → ⊥)

-- Two faults for which one tree is refused are equal.
abbrev pub AFaultIsOne : Type 0
AFaultIsOne =
    (text : Text) (sig : LfSignature) (binders : Bound) (Γ : Typing) (tree : Classifier) (fault other : ElabFault) →
    ((count : ℕ) → RefusesType text sig binders Γ count tree fault → RefusesType text sig binders Γ count tree other → fault ≡ other)
    × (RefusesKind text sig binders Γ tree fault → RefusesKind text sig binders Γ tree other → fault ≡ other)
