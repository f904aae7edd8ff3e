-- One more at the end of a list of equal items.
use Rattle.std.proofs.Common.{◌≡◌, ℕ, ◌+◌, List, [], ◌∷◌, ◌++◌, map, replicate, ap, ◌∙◌}
use Rattle.std.proofs.lemmas.List.{replicate-append-replicate, map-append, map-id}
use Rattle.tree_steps.specs.declared.branches.Branch.{Branch}
use Rattle.tree_steps.specs.Seen.{branch_seen}

pub one_more : {X : Type 0} (old new : List X) (count : ℕ) (x : X) → new ≡ old ++ x ∷ [] → old ≡ replicate count x → new ≡ replicate (count + 1) x
one_more old new count x added h = added ∙ (ap (λ xs. xs ++ x ∷ []) h ∙ replicate-append-replicate count 1 x)

abbrev seen_all : List (Branch ℕ) → List (ℕ × List ℕ)
seen_all branches = map (branch_seen (λ n. n)) branches

pub one_branch_more : (old new : List (Branch ℕ)) (branch : Branch ℕ) (count : ℕ) (nodes : List ℕ) → new ≡ old ++ branch ∷ [] → seen_all old ≡ replicate count (100, nodes) →
    branch.percent ≡ 100 → branch.nodes.items ≡ nodes → seen_all new ≡ replicate (count + 1) (100, nodes)
one_branch_more old new branch count nodes added h percent is =
    let seen : branch_seen (λ n. n) branch ≡ (100, nodes) = ap (λ p. (p, map (λ (n : ℕ). n) branch.nodes.items)) percent ∙ ap (λ ns. (100, ns)) (map-id branch.nodes.items ∙ is) in
    let all : seen_all new ≡ seen_all old ++ (100, nodes) ∷ [] =
    ap seen_all added ∙ (map-append (branch_seen (λ n. n)) old (branch ∷ []) ∙ ap (λ x. seen_all old ++ x ∷ []) seen) in
    one_more (seen_all old) (seen_all new) count (100, nodes) all h
