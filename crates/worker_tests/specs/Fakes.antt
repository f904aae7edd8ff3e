-- The branches of the problems that are searched.
use Rattle.std.specs.Prelude.{ℕ, zero, suc, ◌+◌, ◌≤◌, Bool, true, false, nat_lt, List, [], ◌∷◌, All, replicate}
use Rattle.std.proofs.lemmas.List.Elements.{All-nil, All-cons}
use Rattle.std.proofs.Math.Nat.{le_refl}

abbrev Low : List (ℕ × List ℕ) → Type 0
Low branches = All (λ branch. branch.0 ≤ 100) branches

none_low : Low []
none_low = All-nil (λ branch. branch.0 ≤ 100)

more_low : (nodes : List ℕ) (rest : List (ℕ × List ℕ)) → Low rest → Low ((100, nodes) ∷ rest)
more_low nodes rest low = All-cons (λ branch. branch.0 ≤ 100) (100, nodes) rest (le_refl 100) low

-- a last node, which is proved or stuck
abbrev pub last_branches : Bool → List (ℕ × List ℕ)
last_branches true = (100, []) ∷ []
last_branches false = []

last_low : (is_proved : Bool) → Low (last_branches is_proved)
last_low true = more_low [] [] none_low
last_low false = none_low

-- the root has one alternative with two nodes, each of which is proved
abbrev pub meeting : ℕ → List (ℕ × List ℕ)
meeting zero = (100, 1 ∷ 2 ∷ []) ∷ []
meeting (suc node) = last_branches true

pub meeting_low : (node : ℕ) → Low (meeting node)
meeting_low zero = more_low (1 ∷ 2 ∷ []) [] none_low
meeting_low (suc node) = last_low true

-- so many alternatives, each with so many children
abbrev pub fan : ℕ → ℕ → ℕ → List (ℕ × List ℕ)
fan alternatives children child = replicate alternatives (100, replicate children child)

fan_low : (alternatives children child : ℕ) → Low (fan alternatives children child)
fan_low zero children child = none_low
fan_low (suc alternatives) children child = more_low (replicate children child) (fan alternatives children child) (fan_low alternatives children child)

-- a node is its depth
abbrev pub branches_if : Bool → ℕ → ℕ → Bool → ℕ → List (ℕ × List ℕ)
branches_if true alternatives children is_proved depth = fan alternatives children (depth + 1)
branches_if false alternatives children is_proved depth = last_branches is_proved

abbrev pub regular : ℕ → ℕ → ℕ → Bool → ℕ → List (ℕ × List ℕ)
regular last alternatives children is_proved depth = branches_if (nat_lt depth last) alternatives children is_proved depth

low_if : (is_inner : Bool) (alternatives children : ℕ) (is_proved : Bool) (depth : ℕ) → Low (branches_if is_inner alternatives children is_proved depth)
low_if true alternatives children is_proved depth = fan_low alternatives children (depth + 1)
low_if false alternatives children is_proved depth = last_low is_proved

-- no percentage is above 100
pub regular_low : (last alternatives children : ℕ) (is_proved : Bool) (depth : ℕ) → Low (regular last alternatives children is_proved depth)
regular_low last alternatives children is_proved depth = low_if (nat_lt depth last) alternatives children is_proved depth
