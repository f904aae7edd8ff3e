-- What a contract sees of marks that are kept in vectors.
use Rattle.std.specs.Prelude.{◌≡◌, ℕ, ◌<◌, Bool, true, false, not, ◌&&◌, ◌||◌, List, length, Option, Some, None, get_or}
use Rattle.tree_runs.specs.Shapes.{TreeShape, nodes_count, alternatives_at, grow, IsChild, IsShape}
use Rattle.tree_runs.specs.Marks.{all_from, all_children, some_child, proved_by, stuck_by, entry_at, is_proved, is_stuck, is_relevant}

-- For each node, whether it is proved, stuck and relevant, and what is known below it: how many nodes from it on are proved, and how many
-- of its alternatives from the first on have a stuck child.
pub record TreeMarks : Type 0 where
  pub proved : List Bool
  pub stuck : List Bool
  pub relevant : List Bool
  pub known : List (ℕ × ℕ)

-- the marks, and for how many more nodes there is room
pub record MarksRoom : Type 0 where
  pub marks : TreeMarks
  pub spare : ℕ

-- whether a node is marked, where what doesn't stand is not
abbrev pub marked : List Bool → ℕ → Bool
marked flags node = get_or flags node false

-- whether a node is still marked relevant, where what doesn't stand is
abbrev pub unmarked : List Bool → ℕ → Bool
unmarked flags node = get_or flags node true

-- how many nodes from this one on are known to be proved
abbrev pub run_of : List (ℕ × ℕ) → ℕ → ℕ
run_of known node = (get_or known node (0, 0)).0

-- how many alternatives of this node, from the first on, are known to have a stuck child
abbrev pub passed_of : List (ℕ × ℕ) → ℕ → ℕ
passed_of known node = (get_or known node (0, 0)).1

-- each alternative before this one fails the test, or passes it
abbrev pub EachEntry : TreeShape → ℕ → ℕ → (ℕ × ℕ → Bool) → Bool → Type 0
EachEntry shape node bound test answer = (alternative : ℕ) (entry : ℕ × ℕ) → alternative < bound → entry_at (alternatives_at shape node) alternative ≡ Some entry → test entry ≡ answer

-- this alternative, if there is one, has no stuck child
abbrev pub NoneStuck : TreeShape → List Bool → ℕ → ℕ → Type 0
NoneStuck shape stuck node alternative = (entry : ℕ × ℕ) → entry_at (alternatives_at shape node) alternative ≡ Some entry → some_child (marked stuck) entry ≡ false

-- what is known of proved nodes is true
abbrev pub KnowsProved : List Bool → List (ℕ × ℕ) → Type 0
KnowsProved proved known = (node : ℕ) → all_from (marked proved) node (run_of known node) ≡ true

-- what is known of a node's alternatives is true, and there is no more to be known
pub record KnowsStuck (shape : TreeShape) (stuck : List Bool) (known : List (ℕ × ℕ)) (node : ℕ) : Type 0 where
  pub before : EachEntry shape node (passed_of known node) (some_child (marked stuck)) true
  pub next : NoneStuck shape stuck node (passed_of known node)

-- The marks of a shape's nodes are those of the definition, and what is known below nodes is true.
pub record Settled (shape : TreeShape) (marks : TreeMarks) : Type 0 where
  pub is_shape : IsShape shape
  pub proved_size : length marks.proved ≡ nodes_count shape
  pub stuck_size : length marks.stuck ≡ nodes_count shape
  pub relevant_size : length marks.relevant ≡ nodes_count shape
  pub proved_is : (node : ℕ) → marked marks.proved node ≡ is_proved shape node
  pub stuck_is : (node : ℕ) → marked marks.stuck node ≡ is_stuck shape node
  pub relevant_is : (node : ℕ) → unmarked marks.relevant node ≡ is_relevant shape node
  pub known_size : length marks.known ≡ nodes_count shape
  pub knows_proved : KnowsProved marks.proved marks.known
  pub knows_stuck : (node : ℕ) → KnowsStuck shape marks.stuck marks.known node

-- The marks are right but for the alternatives that were just grown below the node.
pub record JustGrown (shape : TreeShape) (node : ℕ) (marks : TreeMarks) : Type 0 where
  pub before : TreeShape
  pub counts : List ℕ
  pub settled : Settled before marks
  pub stands : node < nodes_count before
  pub ungrown : alternatives_at before node ≡ None
  pub grown : shape ≡ grow before node counts

-- the two marks of a node agree with those of its children
pub record IsLocalAt (shape : TreeShape) (proved stuck : List Bool) (node : ℕ) : Type 0 where
  pub proved_is : marked proved node ≡ proved_by (marked proved) (alternatives_at shape node)
  pub stuck_is : marked stuck node ≡ stuck_by (marked stuck) (alternatives_at shape node)

-- an alternative is decided by the marks of its children
abbrev pub entry_decided : List Bool → List Bool → Option (ℕ × ℕ) → Bool
entry_decided proved stuck None = false
entry_decided proved stuck (Some entry) = all_children (marked proved) entry || some_child (marked stuck) entry

-- the children of this alternative are relevant
abbrev pub keeps : TreeShape → List Bool → List Bool → List Bool → ℕ → ℕ → Bool
keeps shape proved stuck relevant node alternative =
    not (marked proved node || marked stuck node) && not (entry_decided proved stuck (entry_at (alternatives_at shape node) alternative)) && unmarked relevant node

-- the children of a node are marked relevant just where they are
abbrev pub IsFresh : TreeShape → List Bool → List Bool → List Bool → ℕ → Type 0
IsFresh shape proved stuck relevant node =
    (alternative place child : ℕ) → IsChild shape node alternative place child → unmarked relevant child ≡ keeps shape proved stuck relevant node alternative

-- What holds when settling begins: all is right but at one node.
pub record Begins (shape : TreeShape) (proved stuck relevant : List Bool) (node : ℕ) : Type 0 where
  pub is_shape : IsShape shape
  pub local : (other : ℕ) → (other ≡ node → ⊥) → IsLocalAt shape proved stuck other
  pub fresh : (other : ℕ) → (other ≡ node → ⊥) → IsFresh shape proved stuck relevant other
  pub childless : (alternative place child : ℕ) → IsChild shape node alternative place child → alternatives_at shape child ≡ None
  pub news : (alternative place child : ℕ) → IsChild shape node alternative place child → unmarked relevant child ≡ true
  pub root : unmarked relevant 0 ≡ true

-- What is known when settling begins: all but of the node's alternatives, and the node is undecided.
pub record KnowsOthers (shape : TreeShape) (proved stuck : List Bool) (known : List (ℕ × ℕ)) (node : ℕ) : Type 0 where
  pub knows_proved : KnowsProved proved known
  pub knows_stuck : (other : ℕ) → (other ≡ node → ⊥) → KnowsStuck shape stuck known other
  pub unproved : marked proved node ≡ false
  pub unstuck : marked stuck node ≡ false

-- whether all children of an alternative are proved, where there is one
abbrev pub entry_proved : (ℕ → Bool) → Option (ℕ × ℕ) → Bool
entry_proved proved None = false
entry_proved proved (Some entry) = all_children proved entry

-- whether the node has this alternative, and all its children are proved
abbrev pub is_alternative_proved : TreeShape → ℕ → ℕ → Bool
is_alternative_proved shape node alternative = entry_proved (is_proved shape) (entry_at (alternatives_at shape node) alternative)
