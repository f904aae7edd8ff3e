-- Nodes that stand: their addresses, those of their children, and the test of which addresses are proved.
use Rattle.std.proofs.Common.{◌≡◌, inl, inr, ℕ, zero, suc, ◌+◌, ◌<◌, ◌≤◌, true, Option, Some, None, List, [], ◌∷◌, ◌++◌, refl, sym, ap, subst, arith, eq-eqb}
use Rattle.std.specs.Prelude.{◌&&◌, ◌==◌, nat_eq}
use Rattle.std.specs.Option.{option_flatten}
use Rattle.std.specs.List.{Contains}
use Rattle.std.proofs.lemmas.Bool.{and_parts, and_from}
use Rattle.std.proofs.lemmas.Bool.Decides.{Decides-eqb}
use Rattle.std.proofs.lemmas.Option.{slice_get_within}
use Rattle.std.proofs.lemmas.List.Elements.{All-contains}
use Rattle.lf_definitions.specs.Syntax.{LfType}
use Rattle.lf_definitions.specs.Signatures.{LfSignature}
use Rattle.lf_definitions.specs.GoalLists.{opening}
use Rattle.applications.specs.Candidates.{counting_from}
use Rattle.application_laws.proofs.Lists.{numbers_within}
use Rattle.alternatives.specs.Rules.{LfRule}
use Rattle.clusters.proofs.Elements.{any_found, found_any}
use Rattle.derivations.specs.Unfolding.{branches_of}
use Rattle.tree_runs.specs.Addresses.{Address, address_of, Proved}
use Rattle.tree_runs.specs.Marks.{entry_at, is_proved}
use Rattle.tree_runs.specs.Runs.{is_run}
use Rattle.tree_runs.specs.Shapes.{TreeShape, nodes_count, alternatives_at, IsChild}
use Rattle.tree_runs.specs.Soundness.{is_committed, committed_addresses, IsSound}
use Rattle.tree_runs.specs.States.{TreeEvent}
use Rattle.tree_runs.proofs.Addresses.{address_of-step}
use Rattle.tree_runs.proofs.AddressMarks.{runs_agree}
use Rattle.tree_runs.proofs.Lists.{below_or_past, same_or_other}
use Rattle.tree_runs.proofs.Marks.{alternatives-past}
use Rattle.tree_runs.proofs.Order.{address_of-apart}
use Rattle.tree_runs.proofs.Soundness.{runs_are_sound}
use Rattle.mark_laws.proofs.Entries.{contains_first, contains_later, is_image}
use Rattle.answer_definitions.specs.Chosen.{same_address}
use Rattle.chosen_scripts.specs.Laws.{SaysWhatIsProved}
use Rattle.chosen_scripts.proofs.Addresses.{same_address_decides, alike}
use Rattle.chosen_scripts.proofs.Choices.{proved_is_committed}
use Rattle.answer_definitions.specs.Right.{state_after}
use Rattle.answer_definitions.specs.Settled.{is_proved_at}
use Rattle.extraction_laws.specs.Following.{shape_after}

counted : (first count m : ℕ) → first ≤ m → m < first + count → Contains (counting_from first count) m
counted first zero m low high = absurd (omega (arith, low, high))
counted first (suc count) m low high = elim (same_or_other first m) [
  | inl same ↦ subst (Contains (first ∷ counting_from (suc first) count)) same (contains_first (counting_from (suc first) count) first)
  | inr other ↦ contains_later first (counting_from (suc first) count) m (counted (suc first) count m (omega (arith, low, other)) (omega (arith, high)))
]

module _ (sig : LfSignature) (rules : List LfRule) (a : LfType) (budget : ℕ) (events : List TreeEvent) (run : is_run (branches_of sig rules) budget (opening a) events ≡ true) where
  abbrev shape : TreeShape
  shape = shape_after sig rules a events

  abbrev pub committed_in : List Address
  committed_in = committed_addresses (state_after sig rules a events)

  abbrev pub ProvedIn : Address → Type 0
  ProvedIn address = Proved (branches_of sig rules) (opening a) committed_in address

  pub is_sound : IsSound (branches_of sig rules) (opening a) budget (state_after sig rules a events)
  is_sound = runs_are_sound (branches_of sig rules) (opening a) budget events run

  -- Nodes that stand have one address exactly where they are one node.
  pub same_node : (node other : ℕ) → node < nodes_count shape → other < nodes_count shape → address_of shape node ≡ address_of shape other → node ≡ other
  same_node node other stands other_stands same = address_of-apart shape is_sound.is_shape node other stands other_stands same

  pub same_test : (node other : ℕ) → node < nodes_count shape → other < nodes_count shape → same_address (address_of shape node) (address_of shape other) ≡ nat_eq node other
  same_test node other stands other_stands =
      let addresses = same_address_decides (address_of shape node) (address_of shape other) in
      let numbers = Decides-eqb node other in
      alike (same_address (address_of shape node) (address_of shape other)) (nat_eq node other) (λ e. numbers.1 (same_node node other stands other_stands (addresses.0 e)))
      (λ e. addresses.1 (ap (address_of shape) (numbers.0 e)))

  -- ---- children

  -- A child of a node stands, and its address is a step more.
  pub record IsStandingChild (node i place number : ℕ) : Type 0 where
    pub stands : number < nodes_count shape
    pub address : address_of shape number ≡ address_of shape node ++ (i, place) ∷ []

  child_in : (node i first count place : ℕ) (o : Option (List (ℕ × ℕ))) → alternatives_at shape node ≡ o → entry_at o i ≡ Some (first, count) → place < count → IsStandingChild node i place (first + place)
  child_in node i first count place None is there low = absurd cc
  child_in node i first count place (Some all) is there low =
      let child : IsChild shape node i place (first + place) = record { all = all; first = first; count = count; grown = is; there = there; within = low; number = refl } in
      let up = is_sound.is_shape.up node i place (first + place) child in
      record { stands = slice_get_within shape.above (first + place) _ up; address = address_of-step shape is_sound.is_shape (first + place) (node, i, place) (ap option_flatten up) }

  pub child_stands_at : (node i first count place : ℕ) → entry_at (alternatives_at shape node) i ≡ Some (first, count) → place < count → IsStandingChild node i place (first + place)
  child_stands_at node i first count place there low = child_in node i first count place (alternatives_at shape node) refl there low

  -- ---- what is proved

  record IsProvedNode (address : Address) : Type 0 where
    node : ℕ
    stands : node < nodes_count shape
    address_is : address_of shape node ≡ address
    is : is_proved shape node ≡ true

  proved_node : (address : Address) → is_proved_at shape address ≡ true → IsProvedNode address
  proved_node address e =
      let found = any_found (λ node. same_address (address_of shape node) address && is_proved shape node) (counting_from 0 (nodes_count shape)) e in
      let parts = and_parts (same_address (address_of shape found.0) address) (is_proved shape found.0) found.2 in
      let range = All-contains (λ m. (0 ≤ m) × (m < 0 + nodes_count shape)) (counting_from 0 (nodes_count shape)) found.0 (numbers_within 0 (nodes_count shape)) found.1 in
      let high = range.1 in
      record { node = found.0; stands = omega (arith, high); address_is = (same_address_decides (address_of shape found.0) address).0 parts.0; is = parts.1 }

  node_proved : (node : ℕ) → node < nodes_count shape → is_proved shape node ≡ true → is_proved_at shape (address_of shape node) ≡ true
  node_proved node stands is =
      found_any (λ other. same_address (address_of shape other) (address_of shape node) && is_proved shape other) (counting_from 0 (nodes_count shape)) node
      (counted 0 (nodes_count shape) node (omega arith) (omega (arith, stands)))
      (and_from (same_address (address_of shape node) (address_of shape node)) (is_proved shape node) ((same_address_decides (address_of shape node) (address_of shape node)).1 refl) is)

  -- The address of a node that stands is proved exactly where the node is.
  pub proved_alike : (node : ℕ) → node < nodes_count shape → is_proved_at shape (address_of shape node) ≡ is_proved shape node
  proved_alike node stands =
      alike (is_proved_at shape (address_of shape node)) (is_proved shape node)
      (λ e. let found = proved_node (address_of shape node) e in subst (λ n. is_proved shape n ≡ true) (same_node found.node node found.stands stands found.address_is) found.is)
      (node_proved node stands)

  committed_stands : (node : ℕ) → is_committed (state_after sig rules a events) node ≡ true → node < nodes_count shape
  committed_stands node is = elim (below_or_past (nodes_count shape) node) [
    | inl low ↦ low
    | inr past ↦ absurd (let e = past.1 in is_sound.committed_grown node is (alternatives-past shape is_sound.is_shape node (omega (arith, e))))
  ]

  proved_back : (address : Address) → ProvedIn address → is_proved_at shape address ≡ true
  proved_back address is =
      let image = is_image (address_of shape) (state_after sig rules a events).committed address (proved_is_committed (is_proved_at shape) address sig rules a committed_in is) in
      let stands = committed_stands image.item (found_any (λ other. other == image.item) (state_after sig rules a events).committed image.item image.contained (eq-eqb image.item image.item refl)) in
      subst (λ d. is_proved_at shape d ≡ true) image.image
      (node_proved image.item stands ((runs_agree (branches_of sig rules) budget (opening a) events run image.item stands).0.1 (subst ProvedIn (sym image.image) is)))

  -- The test says what is proved.
  pub says_what_is_proved : SaysWhatIsProved sig rules a committed_in (is_proved_at shape)
  says_what_is_proved address = (
    (λ e. let found = proved_node address e in
        subst ProvedIn found.address_is ((runs_agree (branches_of sig rules) budget (opening a) events run found.node found.stands).0.0 found.is)),
    proved_back address,
  )
