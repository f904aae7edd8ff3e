-- A rule with an application is compatible.
use Rattle.std.proofs.Common.{◌≡◌, ℕ, zero, suc, Bool, true, false, Option, Some, None, List, [], ◌∷◌, All, refl, sym, ap, ◌∙◌, subst}
use Rattle.std.specs.Prelude.{nat_eq, ◌&&◌, if◌then◌else◌, slice_get}
use Rattle.std.proofs.lemmas.Bool.{eqb-true, eq-eqb}
use Rattle.std.proofs.lemmas.List.Elements.{All-nil, All-cons, All-head, All-tail, All-append, All-contains}
use Rattle.lf_definitions.specs.Syntax.{LfHead, constant, LfType, pi, family, LfAtom, conclusion, conclusion_atom}
use Rattle.lf_definitions.specs.Signatures.{LfSignature, constant_types}
use Rattle.lf_definitions.specs.Typing.{LfGoal, type_at}
use Rattle.lf_definitions.specs.Instantiation.{Assignment, assignment_of}
use Rattle.lf_definitions.proofs.Options.{Some-Some}
use Rattle.unification.specs.Equations.{of_atoms, numbered_from}
use Rattle.unification.specs.Solutions.{Solves, SolvesAll}
use Rattle.applications.specs.OpenedTypes.{opening_of}
use Rattle.applications.specs.Methods.{applies, constructs, splits, LfLabel, LfCandidate}
use Rattle.applications.specs.Candidates.{LfHypothesis, hypotheses_of, are_atomic, places_of, each, backward, constructed, argument_type, kept_by_splitting, split, candidates}
use Rattle.applications.specs.Applications.{freezing, of_candidates, applications_to}
use Rattle.application_laws.proofs.Lists.{All-where_some, All-each}
use Rattle.application_laws.proofs.Counted.{all_with, is_counted, All-of_candidates}
use Rattle.rule_sets.specs.declared.rule.Builder.{Builder}
use Rattle.rule_sets.specs.declared.rule.Builder.TheVariants.{Apply, Constructors, Cases, Forward, Destruct, Assumption, Hyps}
use Rattle.rule_sets.specs.Books.{Book, Listed, list_of}
use Rattle.rule_sets.specs.Refusals.{HasFamily, IsListOver, IsOver}
use Rattle.rule_index.specs.Keys.{RuleKey, of_family, conclusion_key, type_key, builder_key, rule_key, is_compatible}
use Rattle.rule_methods.specs.RuleMethods.{listed_or_none, place_of_major, method_by, method_of}
use Rattle.index_laws.specs.Laws.{RulesWithApplicationsAreCompatible}
use Rattle.index_laws.proofs.OpenedEnds.{opened_end}
use Rattle.index_laws.proofs.Solutions.{unified_are_solved, same_family, compatible_end}

pub type_at-slice_get : (types : List LfType) (k : ℕ) → type_at types k ≡ slice_get types k
type_at-slice_get [] k = refl
type_at-slice_get (a ∷ types) zero = refl
type_at-slice_get (a ∷ types) (suc k) = type_at-slice_get types k

conclusion_is : (a : LfType) → (conclusion_atom a).atom_family ≡ conclusion a
conclusion_is (pi a b) = conclusion_is b
conclusion_is (family f args) = refl

-- the key of a family, which asks for no constants
family_fits : (f : ℕ) (target : LfAtom) → f ≡ target.atom_family → is_compatible (of_family f []) target ≡ true
family_fits f target e = step (nat_eq f target.atom_family) (eq-eqb f target.atom_family e)
  where
    step : (b : Bool) → b ≡ true → b && true ≡ true
    step true same = refl
    step false same = absurd cc

-- Each constant of a list has the family.
abbrev HaveFamily : LfSignature → ℕ → List ℕ → Type 0
HaveFamily sig f constants = (place c : ℕ) → slice_get constants place ≡ Some c → HasFamily sig f c

module _ (sig : LfSignature) (number n : ℕ) (g : LfGoal) where
  abbrev IsCompatibleWith : RuleKey → Type 0
  IsCompatibleWith key = is_compatible key g.target ≡ true

  -- A candidate whose equations are solved is of a compatible rule.
  abbrev Fits : RuleKey → LfCandidate → Type 0
  Fits key c = (θ : Assignment) → SolvesAll θ (numbered_from 0 c.equations) → IsCompatibleWith key

  fitting : (key : RuleKey) (goals : List LfGoal) (cs : List LfCandidate) → All (Fits key) cs → All (λ a. IsCompatibleWith key) (of_candidates sig n goals g cs)
  fitting key goals cs all =
      All-of_candidates (λ a. IsCompatibleWith key) (Fits key) sig n goals g
      (λ c fits a e. let x = is_counted sig n goals g c a e in fits (assignment_of x.entries) (unified_are_solved sig (all_with goals c) g.context (freezing c.outcome goals g) c.equations x.entries x.solves))
      cs all

  backward_fits : (label : LfLabel) (h : LfHead) (type : LfType) → Fits (conclusion_key (conclusion_atom type)) (backward label h type g n)
  backward_fits label h type θ solves =
      let c = backward label h type g n in
      compatible_end type c.opened (opened_end g.context (places_of g.context) [] n type) g.target θ (0 ∷ []) (All-head (Solves θ) (of_atoms (0 ∷ []) c.opened.end g.target) [] solves)

  key_of_type : (c : ℕ) (type : LfType) → type_at (constant_types sig) c ≡ Some type → conclusion_key (conclusion_atom type) ≡ type_key (slice_get (constant_types sig) c)
  key_of_type c type is = sym (ap type_key (sym (type_at-slice_get (constant_types sig) c) ∙ is))

  applies_fits : (c : ℕ) → All (Fits (type_key (slice_get (constant_types sig) c))) (candidates sig number (applies c) g n)
  applies_fits c =
      let key = type_key (slice_get (constant_types sig) c) in
      let label : LfLabel = record { of_rule = number; choice = 0; hypotheses = [] } in
      All-where_some (Fits key) (type_at (constant_types sig) c) (λ type. backward label (constant c) type g n ∷ [])
      (λ type is. All-cons (Fits key) (backward label (constant c) type g n) [] (subst (λ k. Fits k (backward label (constant c) type g n)) (key_of_type c type is) (backward_fits label (constant c) type))
      (All-nil (Fits key)))

  split_fits : (key : RuleKey) (c major : ℕ) (type : LfType) → conclusion_key (conclusion_atom type) ≡ key → (h : LfHypothesis) → All (Fits key) (split number c type major g n h)
  split_fits key c major type is h = All-cons (Fits key) _ [] fits (All-nil (Fits key))
    where
      fits : (θ : Assignment) →
          SolvesAll θ (numbered_from 0 ((argument_type type (opening_of g.context (kept_by_splitting type major g h.place) ((major, h.place) ∷ []) n type) major, conclusion_atom h.type)
          ∷ ((opening_of g.context (kept_by_splitting type major g h.place) ((major, h.place) ∷ []) n type).end, g.target) ∷ [])) → IsCompatibleWith key
      fits θ solves =
          let opened = opening_of g.context (kept_by_splitting type major g h.place) ((major, h.place) ∷ []) n type in
          let last = All-tail (Solves θ) (of_atoms (0 ∷ []) (argument_type type opened major) (conclusion_atom h.type)) (of_atoms (1 ∷ []) opened.end g.target ∷ []) solves in
          subst IsCompatibleWith is
          (compatible_end type opened (opened_end g.context (kept_by_splitting type major g h.place) ((major, h.place) ∷ []) n type) g.target θ (1 ∷ []) (All-head (Solves θ) (of_atoms (1 ∷ []) opened.end g.target) [] last))

  splits_fits : (c major : ℕ) → All (Fits (type_key (slice_get (constant_types sig) c))) (candidates sig number (splits c major) g n)
  splits_fits c major =
      let key = type_key (slice_get (constant_types sig) c) in
      All-where_some (Fits key) (type_at (constant_types sig) c) (λ type. each (are_atomic (hypotheses_of g.context)) (split number c type major g n))
      (λ type is. All-each (λ h. Unit {0}) (Fits key) (split number c type major g n) (λ h any. split_fits key c major type (key_of_type c type is) h) (are_atomic (hypotheses_of g.context)) (λ k d less. tt))

  constructor_fits : (f c : ℕ) (label : LfLabel) (type : LfType) (has : HasFamily sig f c) → has.type ≡ type → Fits (of_family f []) (backward label (constant c) type g n)
  constructor_fits f c label type has same θ solves =
      let made = backward label (constant c) type g n in
      let ends = opened_end g.context (places_of g.context) [] n type in
      let family_is : (conclusion_atom type).atom_family ≡ f = conclusion_is type ∙ sym (ap conclusion same) ∙ has.family_is in
      family_fits f g.target (sym family_is ∙ same_family type made.opened ends g.target θ (0 ∷ []) (All-head (Solves θ) (of_atoms (0 ∷ []) made.opened.end g.target) [] solves))

  constructors_fit : (f : ℕ) (place : ℕ) (constants : List ℕ) → HaveFamily sig f constants → All (Fits (of_family f [])) (constructed number sig place constants g n)
  constructors_fit f place [] have = All-nil (Fits (of_family f []))
  constructors_fit f place (c ∷ rest) have =
      let label : LfLabel = record { of_rule = number; choice = place; hypotheses = [] } in
      let first = have 0 c refl in
      All-append (Fits (of_family f [])) _ (constructed number sig (suc place) rest g n)
      (All-where_some (Fits (of_family f [])) (type_at (constant_types sig) c) (λ type. backward label (constant c) type g n ∷ [])
      (λ type is. All-cons (Fits (of_family f [])) (backward label (constant c) type g n) [] (constructor_fits f c label type first (Some-Some (sym first.type_is ∙ sym (type_at-slice_get (constant_types sig) c) ∙ is))) (All-nil (Fits (of_family f [])))))
      (constructors_fit f (suc place) rest (λ k d at_place. have (suc k) d at_place))

-- the constructors that a book lists
listed_family : (sig : LfSignature) (lists : List Listed) → All (IsListOver sig) lists → (f : ℕ) (constants : List ℕ) → list_of lists f ≡ Some constants → HaveFamily sig f constants
listed_family sig [] all f constants e = absurd cc
listed_family sig (first ∷ rest) all f constants e = step (nat_eq first.of_family f) refl e (listed_family sig rest (All-tail (IsListOver sig) first rest all) f constants)
  where
    step : (b : Bool) → nat_eq first.of_family f ≡ b → (if b then Some first.constants else list_of rest f) ≡ Some constants → (list_of rest f ≡ Some constants → HaveFamily sig f constants) → HaveFamily sig f constants
    step true same here later =
        let over = All-head (IsListOver sig) first rest all in
        subst (λ k. HaveFamily sig k constants) (eqb-true first.of_family f same) (subst (HaveFamily sig first.of_family) (Some-Some here) (λ place c at_place. (over.constructors place c at_place).1))
    step false same there later = later there

module _ (sig : LfSignature) (book : Book) (over : IsOver sig book) (number n : ℕ) (goals : List LfGoal) (g : LfGoal) where
  compatible_by : (b : Builder) (subject major : ℕ) → All (λ a. is_compatible (builder_key sig b subject) g.target ≡ true) (applications_to sig number (method_by book.lists b subject major) n goals g)
  unfolding applications_to
  compatible_by Apply subject major =
      fitting sig number n g (builder_key sig Apply subject) goals (candidates sig number (applies subject) g n) (applies_fits sig number n g subject)
  compatible_by Constructors subject major = by_list (list_of book.lists subject) refl
    where
      by_list : (o : Option (List ℕ)) → list_of book.lists subject ≡ o →
          All (λ a. is_compatible (builder_key sig Constructors subject) g.target ≡ true) (of_candidates sig n goals g (candidates sig number (constructs (listed_or_none o)) g n))
      by_list None unlisted = All-nil (λ a. is_compatible (builder_key sig Constructors subject) g.target ≡ true)
      by_list (Some constants) listed =
          fitting sig number n g (builder_key sig Constructors subject) goals (candidates sig number (constructs constants) g n)
          (constructors_fit sig number n g subject 0 constants (listed_family sig book.lists over.lists subject constants listed))
  compatible_by Cases subject major =
      fitting sig number n g (builder_key sig Cases subject) goals (candidates sig number (splits subject (place_of_major major)) g n) (splits_fits sig number n g subject (place_of_major major))
  compatible_by Forward subject major = λ k d less. refl
  compatible_by Destruct subject major = λ k d less. refl
  compatible_by Assumption subject major = λ k d less. refl
  compatible_by Hyps subject major = λ k d less. refl

pub rules_with_applications_are_compatible : RulesWithApplicationsAreCompatible
rules_with_applications_are_compatible sig book over number rule there n goals g a found =
    let key = rule_key sig (slice_get book.rules number) in
    All-contains (λ x. is_compatible key g.target ≡ true) (applications_to sig number (method_of book.lists rule) n goals g) a
    (subst (λ o. All (λ x. is_compatible (rule_key sig o) g.target ≡ true) (applications_to sig number (method_of book.lists rule) n goals g)) (sym there)
    (compatible_by sig book over number n goals g rule.builder rule.subject rule.major)) found
