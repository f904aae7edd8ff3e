-- What is kept while the caller has a tree alone.
use Rattle.std.proofs.Common.{◌≡◌, ℕ, ◌+◌, ◌<◌, Bool, true, false, ◌==◌, ◌||◌, List, [], ◌∷◌, ◌++◌, ◌≢◌, length, Result, Ok, Err, IfOk, refl, sym, ap, subst, ◌∙◌, arith}
use Rattle.std.proofs.lemmas.Bool.{eqb-true, eq-eqb}
use Rattle.std.proofs.lemmas.List.Elements.{All-head, All-push}
use Rattle.tree_runs.specs.Marks.{is_decided}
use Rattle.tree_runs.specs.States.{TreeEvent, claim, commit, TreeState, state_of}
use Rattle.tree_runs.specs.Soundness.{IsClaimedIn}
use Rattle.tree_runs.specs.Runs.{is_busy, is_holding, is_settled}
use Rattle.tree_runs.proofs.Claims.{held_is_claimed}
use Rattle.tree_steps.proofs.Claims.{All-append-right}
use Rattle.tree_steps.specs.declared.tree.Tree.{Tree}
use Rattle.tree_steps.specs.declared.answers.Claim.TheVariants.{Decided, Spent}
use Rattle.tree_steps.specs.Trees.{IsTree, IsAnswer, state_of_tree}
use Rattle.tree_shared.specs.Seats.{seat_of, AreSeatsBelow}
use Rattle.tree_shared.specs.Names.{IsTreeOf}
use Rattle.tree_shared.specs.Stills.{IsPair}
use Rattle.tree_shared.proofs.Pairs.{events_are, stays_idle}

module _ {P S N : Type 0} (branches : P → S → List (ℕ × List S)) (seen : P → N → S) (own : P → N → Type 0) (problem : P) where
  -- a tree that came of another by steps of seat 0
  pub record ComesBySeat0 (old new : Tree P N S) : Type 0 where
    pub is_tree : IsTree (branches problem) (seen problem) (own problem) new
    pub idle : (state_of_tree (branches problem) (seen problem) (own problem) new).held ≡ []
    pub kept : (root : N) (budget workers : ℕ) → 0 < workers → IsTreeOf branches seen own problem root budget workers old → IsTreeOf branches seen own problem root budget workers new

  -- one step more
  pub goes_one_more : (old new newer : Tree P N S) → ComesBySeat0 old new → IsTree (branches problem) (seen problem) (own problem) newer → newer.root ≡ new.root → newer.budget ≡ new.budget →
      IsPair (branches problem) (seen problem) (own problem) new newer → ComesBySeat0 old newer
  goes_one_more old new newer came is_tree root_same budget_same pair =
      record {
        is_tree = is_tree;
        idle = stays_idle (branches problem) (seen problem) (own problem) new newer is_tree root_same budget_same pair came.idle;
        kept = λ root budget workers some of. (
            let before = came.kept root budget workers some of in
            record {
              is_tree = is_tree;
              root_is = root_same ∙ before.root_is;
              budget_is = budget_same ∙ before.budget_is;
              seats = subst (AreSeatsBelow workers) (sym (events_are (branches problem) (seen problem) (own problem) new newer is_tree root_same budget_same pair))
                  (All-push (λ e. seat_of e < workers) (new.journal.events ++ claim 0 pair.node ∷ []) (commit 0 pair.node pair.counts)
                  (All-push (λ e. seat_of e < workers) new.journal.events (claim 0 pair.node) before.seats some) some);
            });
      }

  -- a tree that came of another in which so many seats gave back what they held
  pub record ComesByGiving (workers count : ℕ) (old new : Tree P N S) : Type 0 where
    pub is_tree : IsTree (branches problem) (seen problem) (own problem) new
    pub kept : (root : N) (budget : ℕ) → IsTreeOf branches seen own problem root budget workers old → IsTreeOf branches seen own problem root budget workers new
    pub idle : (seat : ℕ) → seat < count → is_busy (state_of_tree (branches problem) (seen problem) (own problem) new) seat ≡ false

  -- one seat more
  pub gives_one_more : (workers count : ℕ) (old new newer : Tree P N S) → count < workers → ComesByGiving workers count old new → IsTree (branches problem) (seen problem) (own problem) newer →
      ((root : N) (budget w : ℕ) → count < w → IsTreeOf branches seen own problem root budget w new → IsTreeOf branches seen own problem root budget w newer) →
      is_busy (state_of_tree (branches problem) (seen problem) (own problem) newer) count ≡ false →
      ((other : ℕ) → is_busy (state_of_tree (branches problem) (seen problem) (own problem) new) other ≡ false → is_busy (state_of_tree (branches problem) (seen problem) (own problem) newer) other ≡ false) →
      ComesByGiving workers (count + 1) old newer
  gives_one_more workers count old new newer below came is_tree keeps this others =
      record {
        is_tree = is_tree;
        kept = λ root budget of. keeps root budget workers below (came.kept root budget of);
        idle = λ seat few. at seat few (seat == count) refl;
      }
    where
      at : (seat : ℕ) → seat < count + 1 → (v : Bool) → (seat == count) ≡ v → is_busy (state_of_tree (branches problem) (seen problem) (own problem) newer) seat ≡ false
      at seat few true e = let same = eqb-true seat count e in subst (λ s. is_busy (state_of_tree (branches problem) (seen problem) (own problem) newer) s ≡ false) (sym same) this
      at seat few false e =
          let differ : seat ≢ count = λ same. (let bad : true ≡ false = sym (eq-eqb seat count same) ∙ e in cc) in
          others seat (came.idle seat (omega (arith, few, differ)))

-- where no seat below a number holds something, and no other has claimed something, nothing is held
module _ {S : Type 0} (branches : S → List (ℕ × List S)) (root : S) (workers : ℕ) (journal : List TreeEvent) (seats : AreSeatsBelow workers journal) where
  claimer_is_below : (seat node : ℕ) → IsClaimedIn seat node journal → seat < workers
  claimer_is_below seat node claimed =
      All-head (λ e. seat_of e < workers) (claim seat node) claimed.later
      (All-append-right (λ e. seat_of e < workers) claimed.before (claim seat node ∷ claimed.later) (subst (AreSeatsBelow workers) claimed.is seats))

  pub none_left : ((seat : ℕ) → seat < workers → is_busy (state_of branches root journal) seat ≡ false) → (state_of branches root journal).held ≡ []
  none_left idle = go (state_of branches root journal).held refl
    where
      go : (held : List (ℕ × ℕ)) → (state_of branches root journal).held ≡ held → (state_of branches root journal).held ≡ []
      go [] e = e
      go ((seat, node) ∷ rest) e =
          let this : seat == seat ≡ true = eq-eqb seat seat refl in
          let that : node == node ≡ true = eq-eqb node node refl in
          let holds : is_holding (state_of branches root journal) seat node ≡ true = rw (e, this, that) refl in
          let below = claimer_is_below seat node (held_is_claimed branches root journal seat node holds) in
          let busy : is_busy (state_of branches root journal) seat ≡ true = rw (e, this) refl in
          absurd (let bad : true ≡ false = sym busy ∙ idle seat below in cc)

module _ {S : Type 0} (branches : S → List (ℕ × List S)) where
  decided_and_free : (budget : ℕ) (state : TreeState S) → state.held ≡ [] → is_decided state.shape 0 ≡ true → is_settled branches budget state ≡ true
  decided_and_free budget state free decided = rw (free, decided) refl

  spent_and_free : (budget : ℕ) (state : TreeState S) → state.held ≡ [] → length state.committed ≡ budget → is_settled branches budget state ≡ true
  spent_and_free budget state free spent = rw free (go (is_decided state.shape 0))
    where
      go : (v : Bool) → (v || length state.committed == budget) ≡ true
      go true = refl
      go false = eq-eqb (length state.committed) budget spent

-- a tree of which nothing is held, after a claim that changed nothing
module _ {P S N : Type 0} (branches : P → S → List (ℕ × List S)) (seen : P → N → S) (own : P → N → Type 0) (problem : P) (given new : Tree P N S) (root_same : new.root ≡ given.root)
    (root : N) (budget workers : ℕ) (of : IsTreeOf branches seen own problem root budget workers given)
    (idle : (seat : ℕ) → seat < workers → is_busy (state_of_tree (branches problem) (seen problem) (own problem) given) seat ≡ false) where
  same_state : new.journal.events ≡ given.journal.events → state_of_tree (branches problem) (seen problem) (own problem) new ≡ state_of_tree (branches problem) (seen problem) (own problem) given
  same_state e = ap (λ r. state_of (branches problem) (seen problem r) new.journal.events) root_same ∙ ap (state_of (branches problem) (seen problem given.root)) e

  free : (state_of_tree (branches problem) (seen problem) (own problem) given).held ≡ []
  free = none_left (branches problem) (seen problem given.root) workers given.journal.events of.seats idle

  pub decided_settles : IsAnswer (branches problem) (seen problem) (own problem) given new 0 Decided → is_settled (branches problem) budget (state_of_tree (branches problem) (seen problem) (own problem) new) ≡ true
  decided_settles answer =
      subst (λ state. is_settled (branches problem) budget state ≡ true) (sym (same_state answer.1))
      (decided_and_free (branches problem) budget (state_of_tree (branches problem) (seen problem) (own problem) given) free answer.0)

  pub spent_settles : (held : ℕ) → IsAnswer (branches problem) (seen problem) (own problem) given new 0 (Spent held) →
      is_settled (branches problem) budget (state_of_tree (branches problem) (seen problem) (own problem) new) ≡ true
  spent_settles held answer =
      let none : length (state_of_tree (branches problem) (seen problem) (own problem) given).held ≡ 0 = ap length free in
      let all : length (state_of_tree (branches problem) (seen problem) (own problem) given).committed ≡ budget = omega (arith, answer.1, none, of.budget_is) in
      subst (λ state. is_settled (branches problem) budget state ≡ true) (sym (same_state answer.3))
      (spent_and_free (branches problem) budget (state_of_tree (branches problem) (seen problem) (own problem) given) free all)

-- trees of whole searches
module _ {P S N : Type 0} (branches : P → S → List (ℕ × List S)) (seen : P → N → S) (own : P → N → Type 0) (problem : P) where
  -- a tree is of its own root and budget
  pub of_itself : (root : N) (budget workers : ℕ) (tree : Tree P N S) → IsTreeOf branches seen own problem root budget workers tree → IsTreeOf branches seen own problem tree.root tree.budget workers tree
  of_itself root budget workers tree of = record { is_tree = of.is_tree; root_is = refl; budget_is = refl; seats = of.seats }

  -- a tree without events is of any number of seats
  pub at_start : (root : N) (budget workers : ℕ) (tree : Tree P N S) → IsTree (branches problem) (seen problem) (own problem) tree → tree.journal.events ≡ [] → tree.root ≡ root → tree.budget ≡ budget →
      IsTreeOf branches seen own problem root budget workers tree
  at_start root budget workers tree is_tree none root_is budget_is =
      record { is_tree = is_tree; root_is = root_is; budget_is = budget_is; seats = subst (AreSeatsBelow workers) (sym none) (λ k d less. absurd (omega (arith, less))) }

-- what follows of an answer follows where there is one
pub if_ok : {X E : Type 0} (A B : X → Type 0) (result : Result X E) → ((x : X) → A x → B x) → IfOk result A → IfOk result B
if_ok A B (Ok x) f h = f x h
if_ok A B (Err e) f h = tt
