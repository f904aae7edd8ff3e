-- A tree has one verdict.
use Rattle.std.proofs.Common.{◌≡◌, inl, inr, [], ap}
use Rattle.lf_definitions.proofs.Typing.{ShapedType-Formed}
use Rattle.lf_definitions.specs.Typing.{Typing}
use Rattle.lf_definitions.specs.Signatures.{typing_in}
use Rattle.elab_terms.specs.Terms.{ReadsTerm, RefusesTerm}
use Rattle.elab_terms.specs.Types.{ReadsType, RefusesType, ReadsKind, RefusesKind}
use Rattle.elab_terms.specs.declared.elab_fault.ElabFault.{ElabFault}
use Rattle.elab_terms.proofs.ReadOnce.{unique_term, unique_read_type, unique_read_kind}
use Rattle.elab_terms.proofs.ReadOrRefused.{read_term_not_refused, one_fault_of_term, read_type_not_refused, one_fault_of_type, read_kind_not_refused, one_fault_of_kind}
use Rattle.reading_verdicts.specs.Verdicts.{Verdict, read_as, refused_for, IsVerdict, HasOneVerdict, TreesHaveOneVerdict}
use Rattle.reading_verdicts.proofs.Places.{Place, place_around}
use Rattle.reading_verdicts.proofs.Arguments.{Judged}
use Rattle.reading_verdicts.proofs.Terms.{term_judged}
use Rattle.reading_verdicts.proofs.Types.{type_judged, kind_judged}

-- What is judged has one verdict where what is read is one and not refused, and a fault is one.
module _ {Read : Type 0} (reads : Read → Type 0) (refuses : ElabFault → Type 0) (one : (x y : Read) → reads x → reads y → x ≡ y)
    (not_both : (x : Read) (fault : ElabFault) → reads x → refuses fault → ⊥) (one_fault : (fault other : ElabFault) → refuses fault → refuses other → fault ≡ other) where
  same_verdict : (verdict other : Verdict Read) → IsVerdict reads refuses verdict → IsVerdict reads refuses other → verdict ≡ other
  same_verdict (read_as x) (read_as y) h k = ap (λ r. read_as r) (one x y h k)
  same_verdict (read_as x) (refused_for fault) h k = absurd (not_both x fault h k)
  same_verdict (refused_for fault) (read_as y) h k = absurd (not_both y fault k h)
  same_verdict (refused_for fault) (refused_for other) h k = ap (λ r. refused_for r) (one_fault fault other h k)

  pub one_verdict : Judged reads refuses → HasOneVerdict reads refuses
  one_verdict (inl (x, read)) = record { verdict = read_as x; holds = read; alone = λ other h. same_verdict other (read_as x) h read }
  one_verdict (inr (fault, refused)) = record { verdict = refused_for fault; holds = refused; alone = λ other h. same_verdict other (refused_for fault) h refused }

pub trees_have_one_verdict : TreesHaveOneVerdict
trees_have_one_verdict text sig binders ctx around =
    let Γ : Typing = typing_in sig [] ctx in
    let place : Place sig Γ binders = place_around sig binders ctx around in (
      (λ tree wanted formed.
          one_verdict (ReadsTerm text sig binders Γ tree wanted) (RefusesTerm text sig binders Γ tree wanted) (λ x y h k. unique_term h k) (λ x fault h k. read_term_not_refused h k)
          (λ fault other h k. one_fault_of_term h k) (term_judged text sig tree binders Γ place wanted (ShapedType-Formed formed))),
      (λ count tree.
          one_verdict (ReadsType text sig binders Γ count tree) (RefusesType text sig binders Γ count tree) (λ x y h k. unique_read_type h k) (λ x fault h k. read_type_not_refused h k)
          (λ fault other h k. one_fault_of_type h k) (type_judged text sig tree binders Γ place count)),
      (λ tree.
          one_verdict (ReadsKind text sig binders Γ tree) (RefusesKind text sig binders Γ tree) (λ x y h k. unique_read_kind h k) (λ x fault h k. read_kind_not_refused h k)
          (λ fault other h k. one_fault_of_kind h k) (kind_judged text sig tree binders Γ place)),
    )
