-- What a rule does with a goal, and the label of what it did.
use Rattle.std.specs.Prelude.{ℕ, List, Bool}
use Rattle.lf_definitions.specs.Syntax.{LfAtom, LfHead}
use Rattle.opening_laws.specs.Openings.{LfOpened}

-- A rule's builder, with the constants that it is about, by their numbers, and the place of a major argument from 0.
pub data Method : Type 0 where
  applies : ℕ → Method
  constructs : List ℕ → Method
  splits : ℕ → ℕ → Method
  goes_forward : ℕ → Method
  takes_apart : ℕ → Method
  assumes : Method
  uses_hypotheses : Method

-- The rule of an application, the place of its constant in a list of constructors, and the places of its hypotheses.
pub record LfLabel : Type 0 where
  pub of_rule : ℕ
  pub choice : ℕ
  pub hypotheses : List ℕ

-- How the goal becomes a head applied to terms: it is that, or it is what a new goal is once the head applied to the terms is one more hypothesis, with these places of
-- the context kept.
pub data Outcome : Type 0 where
  closes : Outcome
  adds : List ℕ → Outcome

-- What a rule offers for a goal: the equations that are to be unified, with the goals frozen or this one alone, what the type of a head is opened to, for each fresh goal
-- whether it is a proof goal, and how the head is used.
pub record LfCandidate : Type 0 where
  pub label : LfLabel
  pub head : LfHead
  pub opened : LfOpened
  pub are_proofs : List Bool
  pub equations : List (LfAtom × LfAtom)
  pub outcome : Outcome
