-- The alternatives of shaped goals are reached, by the rules of a book.
use Rattle.std.proofs.Common.{◌≡◌, ℕ, ◌<◌, Bool, Option, Some, None, List, [], ◌∷◌, All, find, refl, subst, arith, option_map}
use Rattle.std.specs.Prelude.{slice_get}
use Rattle.std.specs.List.{cons_option}
use Rattle.std.proofs.lemmas.List.Elements.{All-nil, All-cons, All-head, All-tail}
use Rattle.lf_definitions.specs.ShapedGoals.{ShapedGoals}
use Rattle.lf_definitions.specs.Typing.{LfGoal}
use Rattle.lf_definitions.specs.Signatures.{LfSignature, FormedSignature}
use Rattle.lf_definitions.specs.GoalLists.{LfGoals, all_goals, ids, next_id}
use Rattle.lf_definitions.proofs.Options.{Some-Some}
use Rattle.head_laws.proofs.Numbers.{All-below_above}
use Rattle.lf_definitions.proofs.ShapedGoals.{ShapedSignature-FormedSignature}
use Rattle.rule_sets.specs.declared.rule.Rule.{Rule}
use Rattle.rule_sets.specs.Books.{Book}
use Rattle.rule_sets.specs.Refusals.{IsOver}
use Rattle.application_laws.specs.Conditions.{TakesAtoms}
use Rattle.rule_methods.specs.RuleMethods.{method_of}
use Rattle.rule_methods.proofs.AtomsTaken.{rules_take_atoms}
use Rattle.alternatives.specs.Rules.{LfRule}
use Rattle.alternatives.specs.Alternatives.{LfAlternative}
use Rattle.alternatives.specs.Taking.{Takes}
use Rattle.alternatives.specs.Steps.{AreOldOrNew}
use Rattle.alternatives.specs.Reaching.{MayBeExpanded}
use Rattle.taken_alternatives.proofs.Lists.{All-find}
use Rattle.taken_alternatives.proofs.Laws.{alternatives_are_reached}
use Rattle.derivations.specs.Derivations.{alternatives_of}
use Rattle.goal_book.specs.Rules.{numbered, rule_at, rules_of}
use Rattle.goal_book.specs.GoalBooks.{LfBook, IsGoalBook, rules_in}
use Rattle.proof_replay.specs.Turns.{MayBeFollowed}

-- The rules of a book over the signature.
abbrev HasAtoms : LfSignature → LfRule → Type 0
HasAtoms sig rule = TakesAtoms sig rule.method

one_more : (sig : LfSignature) (o : Option LfRule) (rest : List LfRule) → ((rule : LfRule) → o ≡ Some rule → HasAtoms sig rule) → All (HasAtoms sig) rest → All (HasAtoms sig) (cons_option o rest)
one_more sig None rest here all = all
one_more sig (Some rule) rest here all = All-cons (HasAtoms sig) rule rest (here rule refl) all

numbered_takes : (sig : LfSignature) (book : Book) (n : ℕ) (o : Option Rule) → ((rule : Rule) → o ≡ Some rule → TakesAtoms sig (method_of book.lists rule)) →
    (rule : LfRule) → option_map (numbered book.lists n) o ≡ Some rule → HasAtoms sig rule
numbered_takes sig book n None each rule e = absurd cc
numbered_takes sig book n (Some read) each rule e = subst (HasAtoms sig) (Some-Some e) (each read refl)

all_take_atoms : (sig : LfSignature) (book : Book) → IsOver sig book → (numbers : List ℕ) → All (HasAtoms sig) (rules_of book numbers)
all_take_atoms sig book over [] = All-nil (HasAtoms sig)
all_take_atoms sig book over (n ∷ rest) =
    one_more sig (rule_at book n) (rules_of book rest) (numbered_takes sig book n (slice_get book.rules n) (rules_take_atoms sig book over n)) (all_take_atoms sig book over rest)

pub may_be_followed : (b : LfBook) → IsGoalBook b → FormedSignature b.sig → MayBeFollowed b
may_be_followed b formed sig_formed = record { signature = ShapedSignature-FormedSignature b.sig sig_formed; rules_take_atoms = all_take_atoms b.sig b.book formed.over b.numbers }

-- Numbers are below the next one.
goals_below : (n : ℕ) (goals : List LfGoal) → All (λ m. m < n) (ids goals) → All (λ h. h.id < n) goals
goals_below n [] all = All-nil (λ h. h.id < n)
goals_below n (h ∷ rest) all =
    All-cons (λ k. k.id < n) h rest (All-head (λ m. m < n) h.id (ids rest) all) (goals_below n rest (All-tail (λ m. m < n) h.id (ids rest) all))

pub below_next : (list : LfGoals) → All (λ h. h.id < next_id list) (all_goals list)
below_next list = goals_below (next_id list) (all_goals list) (All-below_above (ids (all_goals list)) (next_id list) (omega arith))

pub may_be_expanded : (b : LfBook) → MayBeFollowed b → (list : LfGoals) → ShapedGoals b.sig (all_goals list) → MayBeExpanded b.sig (rules_in b) (next_id list) list
may_be_expanded b may list shaped = record { signature = may.signature; goals = shaped; below = below_next list; rules_take_atoms = may.rules_take_atoms }

-- What is found among them takes the goals to its list.
pub found_takes : (b : LfBook) → MayBeFollowed b → (list : LfGoals) → ShapedGoals b.sig (all_goals list) → (test : LfAlternative → Bool) (alternative : LfAlternative) →
    find test (alternatives_of b.sig (rules_in b) list) ≡ Some alternative → Takes b.sig list alternative.goals alternative.build
found_takes b may list shaped test alternative found =
    (All-find (λ (x : LfAlternative). Takes b.sig list x.goals x.build × AreOldOrNew list (next_id list) x.goals) test (alternatives_of b.sig (rules_in b) list)
    (alternatives_are_reached b.sig (rules_in b) (next_id list) list (may_be_expanded b may list shaped)) alternative found).0
