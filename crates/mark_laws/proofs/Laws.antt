-- The laws, as they are stated, for any branches and derivations.
use Rattle.std.proofs.Common.{◌≡◌, ℕ, suc, List, [], Some, refl, arith}
use Rattle.std.specs.List.{Contains}
use Rattle.std.proofs.lemmas.List.Elements.{All-contains}
use Rattle.tree_runs.specs.Addresses.{Address, at}
use Rattle.mark_laws.specs.Laws.{ProvedHasDerivation, StuckHasNoDerivation, DerivationsAreFound, SmallUnfoldingsAreDecided}
use Rattle.mark_laws.proofs.Entries.{all_of_them}
use Rattle.mark_laws.proofs.Meaning.{proved_derives, stuck_refutes}
use Rattle.mark_laws.proofs.Found.{found_within}
use Rattle.mark_laws.proofs.Decided.{all_lengths, decided_within}

pub proved_has_derivation : {S : Type 0} (Own : S → Type 0) (branches : S → List (ℕ × List S)) (Derives : ℕ → S → Type 0) → ProvedHasDerivation Own branches Derives
proved_has_derivation Own branches Derives law root own committed address s stands proved = proved_derives Own branches Derives law root own committed address proved s stands

pub stuck_has_no_derivation : {S : Type 0} (Own : S → Type 0) (branches : S → List (ℕ × List S)) (Derives : ℕ → S → Type 0) → StuckHasNoDerivation Own branches Derives
stuck_has_no_derivation Own branches Derives law root own committed address s stands stuck n d = stuck_refutes Own branches Derives law root own committed address stuck s stands n d

pub derivations_are_found : {S : Type 0} (Own : S → Type 0) (branches : S → List (ℕ × List S)) (Derives : ℕ → S → Type 0) → DerivationsAreFound Own branches Derives
derivations_are_found Own branches Derives law root own n d =
    let found = found_within Own branches Derives law root n n root (omega arith) own d in
    (found.addresses, found.parents, found.makes_proved found.addresses [] refl (λ below there. there))

pub small_unfoldings_are_decided : (S : Type 0) → SmallUnfoldingsAreDecided S
small_unfoldings_are_decided S branches root addresses covers committed differ stand size =
    let all : (address : Address) (s : S) → at branches root address ≡ Some s → Contains committed address = λ address s has.
    all_of_them committed addresses differ (λ a c. let there = All-contains (λ b. (t : S) × (at branches root b ≡ Some t)) committed a stand c in covers a there.0 there.1) size address (covers address s has) in
    decided_within branches root committed all (suc (all_lengths committed)) [] root refl (omega arith)
