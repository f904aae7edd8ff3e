-- What declarations make of a program is one.
use Rattle.std.proofs.Common.{◌≡◌, ℕ, ℤ, pos, List, [], ◌∷◌, ◌++◌, refl, sym, ap, ap₂, ◌∙◌, subst}
use Rattle.lf_definitions.specs.Signatures.{LfSignature, family_entry, constant_entry}
use Rattle.lf_definitions.proofs.Options.{Some_inj}
use Rattle.file_trees.specs.declared.span.Span.{Span}
use Rattle.file_trees.specs.declared.decl_tree.DeclTree.{DeclTree}
use Rattle.file_trees.specs.declared.decl_tree.RuleTree.{RuleTree}
use Rattle.file_trees.specs.declared.decl_tree.PhaseWord.{PhaseWord}
use Rattle.rule_sets.specs.declared.rule.Phase.{Phase}
use Rattle.rule_sets.specs.declared.rule.Builder.{Builder}
use Rattle.rule_sets.specs.declared.rule.Builder.TheVariants.{Apply, Constructors, Cases, Forward, Destruct, Assumption, Hyps}
use Rattle.rule_sets.specs.declared.rule.Rule.{Rule}
use Rattle.rule_sets.specs.Books.{Book}
use Rattle.elab_terms.specs.Names.{Text, text_at}
use Rattle.elab_terms.proofs.ReadOnce.{unique_read_type, unique_read_kind}
use Rattle.file_elab.specs.Rules.{ReadsPhase, reads_norm, reads_safe, reads_unsafe, builder_of, IsMajorNumber, major_value, ReadsRule}
use Rattle.file_elab.specs.Programs.{LfProgram, AreNumbers, no_number, one_number, Declares, declares_family, declares_constant, declares_theorem, declares_rule, declares_constructors, DeclaresAll, declares_nothing, declares_next}

-- The phase of a word with a number is one.
same_phase : {word : PhaseWord} {value : ℤ} {first second : Phase} → ReadsPhase word value first → ReadsPhase word value second → first ≡ second
same_phase (reads_norm penalty low high) (reads_norm _ _ _) = refl
same_phase (reads_safe penalty low high) (reads_safe _ _ _) = refl
same_phase (reads_unsafe percent few) (reads_unsafe _ _) = refl

-- So is a major argument.
pos_inj : {value : ℤ} {m n : ℕ} → value ≡ pos m → value ≡ pos n → m ≡ n
pos_inj e f = cc

same_major : (sig : LfSignature) (builder : Builder) (subject : ℕ) (value : ℤ) (m n : ℕ) → IsMajorNumber sig builder subject value m → IsMajorNumber sig builder subject value n → m ≡ n
same_major sig Apply subject value m n p q = p.1 ∙ sym q.1
same_major sig Constructors subject value m n p q = p.1 ∙ sym q.1
same_major sig Cases subject value m n p q = pos_inj p.0 q.0
same_major sig Forward subject value m n p q = p.1 ∙ sym q.1
same_major sig Destruct subject value m n p q = p.1 ∙ sym q.1
same_major sig Assumption subject value m n p q = p.1 ∙ sym q.1
same_major sig Hyps subject value m n p q = p.1 ∙ sym q.1

-- A rule is its parts.
same_parts : {name other_name set other_set : List ℕ} {phase other_phase : Phase} {builder other_builder : Builder} {subject other_subject major other_major : ℕ} →
    name ≡ other_name → set ≡ other_set → phase ≡ other_phase → builder ≡ other_builder → subject ≡ other_subject → major ≡ other_major →
    ◌≡◌ {A = Rule} (record { name = name; set = set; phase = phase; builder = builder; subject = subject; major = major })
    (record { name = other_name; set = other_set; phase = other_phase; builder = other_builder; subject = other_subject; major = other_major })
same_parts a b c d e f = cc

same_rule : (first second : Rule) → first.name ≡ second.name → first.set ≡ second.set → first.phase ≡ second.phase → first.builder ≡ second.builder →
    first.subject ≡ second.subject → first.major ≡ second.major → first ≡ second
same_rule first second name set phase builder subject major = same_parts name set phase builder subject major

pub one_rule : {text : Text} {sig : LfSignature} {book : Book} {parts : RuleTree} {rule other : Rule} → ReadsRule text sig book parts rule → ReadsRule text sig book parts other → rule ≡ other
one_rule {text = text} {sig = sig} {parts = parts} {rule = rule} {other = other} first second =
    let subject_is = Some_inj second.subject_is first.subject_is in
    same_rule rule other (first.name_is ∙ sym second.name_is) (first.set_is ∙ sym second.set_is) (same_phase first.phase_is second.phase_is)
    (first.builder_is ∙ sym second.builder_is) (sym subject_is)
    (same_major sig (builder_of parts.builder) rule.subject (major_value text parts.major) rule.major other.major first.major_is
    (subst (λ s. IsMajorNumber sig (builder_of parts.builder) s (major_value text parts.major) other.major) subject_is second.major_is))

pub same_numbers : {text : Text} {sig : LfSignature} {spans : List Span} {constants others : List ℕ} → AreNumbers text sig spans constants → AreNumbers text sig spans others → constants ≡ others
same_numbers no_number no_number = refl
same_numbers (one_number span spans constant constants found are) (one_number _ _ other others same more) = ap₂ (λ x xs. x ∷ xs) (Some_inj found same) (same_numbers are more)

pub one_declared : {text : Text} {old new other : LfProgram} {declaration : DeclTree} → Declares text old declaration new → Declares text old declaration other → new ≡ other
one_declared {text = text} {old = old} (declares_family name tree kind may read) (declares_family _ _ found _ reads) =
    ap (λ k. record { signature = old.signature ++ family_entry (text_at text name) k ∷ []; book = old.book; theorems = old.theorems }) (unique_read_kind read reads)
one_declared {text = text} {old = old} (declares_constant name tree type may read) (declares_constant _ _ found _ reads) =
    ap (λ a. record { signature = old.signature ++ constant_entry (text_at text name) a ∷ []; book = old.book; theorems = old.theorems }) (unique_read_type read reads)
one_declared {text = text} {old = old} (declares_theorem tree type may read) (declares_theorem _ found _ reads) =
    ap (λ a. record { signature = old.signature; book = old.book; theorems = old.theorems ++ record { name = text_at text tree.name; type = a } ∷ [] }) (unique_read_type read reads)
one_declared {old = old} (declares_rule parts rule may read) (declares_rule _ found _ reads) =
    ap (λ r. record { signature = old.signature; book = record { rules = old.book.rules ++ r ∷ []; lists = old.book.lists }; theorems = old.theorems }) (one_rule read reads)
one_declared {old = old} (declares_constructors name spans f constants known none are fit) (declares_constructors _ _ g others same _ more _) =
    ap₂ (λ n cs. record { signature = old.signature; book = record { rules = old.book.rules; lists = old.book.lists ++ record { of_family = n; constants = cs } ∷ [] }; theorems = old.theorems })
    (Some_inj known same) (same_numbers are more)

pub one_program : {text : Text} {old new other : LfProgram} {declarations : List DeclTree} → DeclaresAll text old declarations new → DeclaresAll text old declarations other → new ≡ other
one_program (declares_nothing program) (declares_nothing _) = refl
one_program {text = text} {other = other} (declares_next old between new declaration declarations first rest) (declares_next _ middle _ _ _ second more) =
    one_program rest (subst (λ p. DeclaresAll text p declarations other) (one_declared second first) more)
