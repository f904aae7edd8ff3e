-- What a discrimination tree holds: the places of rules in a list, found along the parts of their keys.
use Rattle.std.specs.Prelude.{◌≡◌, ℕ, ◌<◌, ◌≤◌, ◌+◌, ◌⊎◌, List, [], ◌∷◌, length, Option, Some, None, slice_get, Contains, true, nat_eq}
use Rattle.indexmap.specs.IndexMap.{get}
use Rattle.lf_definitions.specs.Syntax.{Spine, LfAtom}
use Rattle.rule_index.specs.declared.key.Demand.{Demand}
use Rattle.rule_index.specs.declared.node.Node.{Node}
use Rattle.rule_index.specs.declared.tree.KeyTree.{KeyTree}
use Rattle.rule_index.specs.Keys.{RuleKey, fits_all, of_family, KeyedRule, all_allow, is_compatible}
use Rattle.rule_index.specs.Stored.{meets, args_from}

-- the node below a node for a part of a key
abbrev pub branch_of : Node → Option ℕ → Option ℕ
branch_of node None = node.open_branch
branch_of node (Some c) = get nat_eq node.constants c

-- A node keeps its places and its branches.
pub record NodeGrows (old new : Node) : Type 0 where
  pub places : (place : ℕ) → Contains old.places.items place → Contains new.places.items place
  pub branches : (part : Option ℕ) (child : ℕ) → branch_of old part ≡ Some child → branch_of new part ≡ Some child

-- The node of this number has the place.
pub record HoldsPlace (nodes : List Node) (number place : ℕ) : Type 0 where
  pub node : Node
  pub node_is : slice_get nodes number ≡ Some node
  pub has : Contains node.places.items place

-- The node of this number has the branch.
pub record Leads (nodes : List Node) (number : ℕ) (part : Option ℕ) (child : ℕ) : Type 0 where
  pub node : Node
  pub node_is : slice_get nodes number ≡ Some node
  pub branch_is : branch_of node part ≡ Some child

-- The parts of a key lead from a node to one that has the place.
abbrev pub Reaches : List Node → (place number : ℕ) → List (Option ℕ) → Type 0
Reaches nodes place number [] = HoldsPlace nodes number place
Reaches nodes place number (part ∷ parts) = (child : ℕ) × Leads nodes number part child × Reaches nodes place child parts

-- The nodes keep their places and branches.
pub record NodesGrow (old new : List Node) : Type 0 where
  pub places : (number place : ℕ) → HoldsPlace old number place → HoldsPlace new number place
  pub leads : (number : ℕ) (part : Option ℕ) (child : ℕ) → Leads old number part child → Leads new number part child
  pub longer : length old ≤ length new

-- Each branch of a node is what an older one had, or is within the bound.
abbrev pub BringsWithin : Node → Node → ℕ → Type 0
BringsWithin old new bound = (part : Option ℕ) (child : ℕ) → branch_of new part ≡ Some child → (branch_of old part ≡ Some child) ⊎ (child < bound)

-- Each branch is the number of a node.
abbrev pub BranchesAreNodes : List Node → Type 0
BranchesAreNodes nodes = (number : ℕ) (part : Option ℕ) (child : ℕ) → Leads nodes number part child → child < length nodes

-- In a tree each branch is the number of a node, and so is the root of each family.
pub record IsClosed (tree : KeyTree) : Type 0 where
  pub branches : BranchesAreNodes tree.nodes.items
  pub roots : (f root : ℕ) → get nat_eq tree.families f ≡ Some root → root < length tree.nodes.items

-- The tree keeps what it holds.
pub record TreeGrows (old new : KeyTree) : Type 0 where
  pub general : (place : ℕ) → Contains old.general.items place → Contains new.general.items place
  pub families : (f root : ℕ) → get nat_eq old.families f ≡ Some root → get nat_eq new.families f ≡ Some root
  pub nodes : NodesGrow old.nodes.items new.nodes.items
  pub levels : old.levels ≤ new.levels

-- The tree has the place under the key.
abbrev pub Holds : KeyTree → RuleKey → ℕ → Type 0
Holds tree fits_all place = Contains tree.general.items place
Holds tree (of_family f parts) place =
    (root : ℕ) × (get nat_eq tree.families f ≡ Some root) × Reaches tree.nodes.items place root parts × (length parts < tree.levels)

-- The tree has the place of each rule under its key.
pub record HoldsRules (tree : KeyTree) (rules : List KeyedRule) : Type 0 where
  pub closed : IsClosed tree
  pub holds : (place : ℕ) (rule : KeyedRule) → slice_get rules place ≡ Some rule → Holds tree rule.key place

-- Each branch of the node that meets the demand was added.
pub record AddsBranches (node : Node) (demand : Demand) (old new : List ℕ) : Type 0 where
  pub keeps : (child : ℕ) → Contains old child → Contains new child
  pub adds : (part : Option ℕ) (child : ℕ) → branch_of node part ≡ Some child → meets part demand ≡ true → Contains new child

-- From the nodes of these numbers, their places and the branches that meet the demand were added.
pub record PassesLevel (nodes : List Node) (numbers : List ℕ) (count : ℕ) (demand : Demand) (old places next : List ℕ) : Type 0 where
  pub keeps : (place : ℕ) → Contains old place → Contains places place
  pub finds : (i number place : ℕ) → i < count → slice_get numbers i ≡ Some number → HoldsPlace nodes number place → Contains places place
  pub adds : (i number child : ℕ) (part : Option ℕ) → i < count → slice_get numbers i ≡ Some number → Leads nodes number part child →
      meets part demand ≡ true → Contains next child

-- A place is still to be found below one of the nodes of these numbers, as the target's arguments from a place on allow.
pub record IsAhead (nodes : List Node) (numbers : List ℕ) (args : Spine) (argument levels place : ℕ) : Type 0 where
  pub number : ℕ
  pub parts : List (Option ℕ)
  pub has : Contains numbers number
  pub reaches : Reaches nodes place number parts
  pub allow : all_allow parts (args_from argument args) ≡ true
  pub few : argument + length parts < levels

-- The places under the keys that the target's arguments allow were added.
pub record WalksBranches (nodes : List Node) (root : ℕ) (args : Spine) (levels : ℕ) (old new : List ℕ) : Type 0 where
  pub keeps : (place : ℕ) → Contains old place → Contains new place
  pub finds : (place : ℕ) (parts : List (Option ℕ)) → Reaches nodes place root parts → all_allow parts args ≡ true → length parts < levels → Contains new place

-- Each place that the tree has under a key that is compatible with the target is among the places.
abbrev pub FindsPlaces : KeyTree → LfAtom → List ℕ → Type 0
FindsPlaces tree target places = (key : RuleKey) (place : ℕ) → Holds tree key place → is_compatible key target ≡ true → Contains places place

-- The places of all rules that are compatible with the target are among the places.
abbrev pub HasCompatible : List KeyedRule → LfAtom → List ℕ → Type 0
HasCompatible rules target places = (place : ℕ) (rule : KeyedRule) → slice_get rules place ≡ Some rule → is_compatible rule.key target ≡ true → Contains places place
