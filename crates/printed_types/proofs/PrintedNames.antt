-- What the names in a printed text stand for.
use Rattle.std.proofs.Common.{◌≡◌, ◌≢◌, ℕ, zero, suc, ◌-◌, ◌<◌, ◌≤◌, ◌^◌, List, [], ◌∷◌, false, cond, Some, None, refl, sym, ap, ◌∙◌, subst, ⊎_elim, arith}
use Rattle.std.specs.Prelude.{decimal, option_map, slice_get}
use Rattle.std.specs.Str.{bytes_eq}
use Rattle.std.proofs.lemmas.Bool.{cases_Bool}
use Rattle.std.proofs.lemmas.Fmt.{decimal_injective}
use Rattle.std.proofs.lemmas.Slice.Eq.{bytes_eq-Decides}
use Rattle.std.proofs.lemmas.Str.{encodes_same}
use Rattle.unicode_ident.proofs.Computing.{unicode_ident}
use Rattle.lex_text.specs.Characters.{Spells, MayStart}
use Rattle.lex_text.specs.Tokens.{IsWord}
use Rattle.lex_text.proofs.Prefixes.{tail_is}
use Rattle.basics.specs.Places.{place_of}
use Rattle.lf_definitions.specs.Syntax.{bound, constant, LfType}
use Rattle.lf_definitions.specs.Typing.{type_at}
use Rattle.lf_definitions.specs.Signatures.{LfSignature, family_entry, constant_entry, constant_names, constant_types, family_names, kinds_in, FormedSignature, name_at}
use Rattle.elab_terms.specs.Names.{Bound, variable_of, head_or, named_head, family_or, family_of}
use Rattle.elab_terms.proofs.SignatureNames.{find_constant, find_family}
use Rattle.file_elab.specs.GrammarNames.{IsGrammarName}
use Rattle.file_print.specs.Texts.{variable_text}
use Rattle.printed_tokens.proofs.Names.{variable_spelled}

-- The binders around a place of a printed text, each with its name or, where nothing mentions it, with none.
pub data ArePrinted : Bound → ℕ → Type 0 where
  outermost : ArePrinted [] 0
  named : (binders : Bound) (depth : ℕ) → ArePrinted binders depth → ArePrinted (Some (variable_text depth) ∷ binders) (suc depth)
  unnamed : (binders : Bound) (depth : ℕ) → ArePrinted binders depth → ArePrinted (None ∷ binders) (suc depth)

-- The binder of the variable has a name.
abbrev pub IsNamed : Bound → ℕ → Type 0
IsNamed [] n = ⊥
IsNamed (None ∷ outer) zero = ⊥
IsNamed (Some name ∷ outer) zero = Unit {0}
IsNamed (binder ∷ outer) (suc n) = IsNamed outer n

named_within : (binders : Bound) (depth n : ℕ) → ArePrinted binders depth → IsNamed binders n → n < depth
named_within _ _ n outermost is = absurd is
named_within _ _ zero (named binders depth h) is = omega arith
named_within _ _ (suc n) (named binders depth h) is = let inside = named_within binders depth n h is in omega (arith, inside)
named_within _ _ zero (unnamed binders depth h) is = absurd is
named_within _ _ (suc n) (unnamed binders depth h) is = let inside = named_within binders depth n h is in omega (arith, inside)

differ : (m n : ℕ) → m < 2 ^ 64 → n < 2 ^ 64 → m ≢ n → bytes_eq (variable_text m) (variable_text n) ≡ false
differ m n small few other =
    ⊎_elim (λ same. absurd (other (decimal_injective m n small few (tail_is ((bytes_eq-Decides (variable_text m) (variable_text n)).0 same))))) (λ differs. differs)
    (cases_Bool (bytes_eq (variable_text m) (variable_text n)))

same_name : (name : List ℕ) (outer : Bound) → variable_of (Some name ∷ outer) name ≡ Some 0
same_name name outer = ap (λ b. cond b (Some 0) (option_map suc (variable_of outer name))) ((bytes_eq-Decides name name).1 refl)

other_name : (name binder : List ℕ) (outer : Bound) → bytes_eq name binder ≡ false → variable_of (Some binder ∷ outer) name ≡ option_map suc (variable_of outer name)
other_name name binder outer differs = ap (λ b. cond b (Some 0) (option_map suc (variable_of outer name))) differs

-- The name that is printed for a variable stands for it.
pub variable_found : (binders : Bound) (depth n : ℕ) → ArePrinted binders depth → depth ≤ 2 ^ 64 → IsNamed binders n → variable_of binders (variable_text (depth - suc n)) ≡ Some n
variable_found _ _ n outermost few is = absurd is
variable_found _ _ zero (named binders depth h) few is =
    let same : suc depth - 1 ≡ depth = omega arith in
    ap (λ count. variable_of (Some (variable_text depth) ∷ binders) (variable_text count)) same ∙ same_name (variable_text depth) binders
variable_found _ _ (suc n) (named binders depth h) few is =
    let within = named_within binders depth n h is in
    let same : suc depth - suc (suc n) ≡ depth - suc n = omega arith in
    let other : depth - suc n ≢ depth = λ e. omega (arith, within, e) in
    ap (λ count. variable_of (Some (variable_text depth) ∷ binders) (variable_text count)) same
    ∙ other_name (variable_text (depth - suc n)) (variable_text depth) binders (differ (depth - suc n) depth (omega arith) (omega arith) other)
    ∙ ap (option_map suc) (variable_found binders depth n h (omega arith) is)
variable_found _ _ zero (unnamed binders depth h) few is = absurd is
variable_found _ _ (suc n) (unnamed binders depth h) few is =
    let same : suc depth - suc (suc n) ≡ depth - suc n = omega arith in
    ap (λ count. variable_of (None ∷ binders) (variable_text count)) same ∙ ap (option_map suc) (variable_found binders depth n h (omega arith) is)

underscore_starts_no_word : (cs : List ℕ) → IsWord (95 ∷ cs) → ⊥
unfolding unicode_ident
underscore_starts_no_word cs h = let starts : MayStart 95 = h.0 in cc

-- No name of the grammar is printed for a variable.
pub name_no_variable : (name : List ℕ) (n : ℕ) → IsGrammarName name → name ≡ variable_text n → ⊥
name_no_variable name n is e =
    let spelled : Spells (variable_text n) (variable_text n) = variable_spelled n in
    let same : is.characters ≡ variable_text n = encodes_same is.characters (variable_text n) (is.spelled.encoded ∙ e ∙ sym spelled.encoded) in
    underscore_starts_no_word (decimal n) (subst IsWord same is.word)

pub name_not_bound : (binders : Bound) (depth : ℕ) (name : List ℕ) → ArePrinted binders depth → depth ≤ 2 ^ 64 → IsGrammarName name → variable_of binders name ≡ None
name_not_bound _ _ name outermost few is = refl
name_not_bound _ _ name (unnamed binders depth h) few is = ap (option_map suc) (name_not_bound binders depth name h (omega arith) is)
name_not_bound _ _ name (named binders depth h) few is =
    let differs : bytes_eq name (variable_text depth) ≡ false =
    ⊎_elim (λ same. absurd (name_no_variable name depth is ((bytes_eq-Decides name (variable_text depth)).0 same))) (λ differs. differs) (cases_Bool (bytes_eq name (variable_text depth))) in
    other_name name (variable_text depth) binders differs ∙ ap (option_map suc) (name_not_bound binders depth name h (omega arith) is)

-- a constant that has a type has a name
constant_at : (sig : LfSignature) (c : ℕ) (a : LfType) → type_at (constant_types sig) c ≡ Some a → slice_get (constant_names sig) c ≡ Some (name_at (constant_names sig) c)
constant_at [] c a e = absurd cc
constant_at (family_entry name kind ∷ sig) c a e = constant_at sig c a e
constant_at (constant_entry name type ∷ sig) zero a e = refl
constant_at (constant_entry name type ∷ sig) (suc c) a e = constant_at sig c a e

family_named : (sig : LfSignature) (f : ℕ) (kind : List LfType) → kinds_in sig f ≡ Some kind → slice_get (family_names sig) f ≡ Some (name_at (family_names sig) f)
family_named [] f kind e = absurd cc
family_named (constant_entry name type ∷ sig) f kind e = family_named sig f kind e
family_named (family_entry name k ∷ sig) zero kind e = refl
family_named (family_entry name k ∷ sig) (suc f) kind e = family_named sig f kind e

-- the name of a constant stands for it
pub constant_found : (sig : LfSignature) (binders : Bound) (c : ℕ) (a : LfType) → FormedSignature sig → type_at (constant_types sig) c ≡ Some a →
    variable_of binders (name_at (constant_names sig) c) ≡ None → named_head sig binders (name_at (constant_names sig) c) ≡ Some (constant c)
constant_found sig binders c a formed typed free =
    let name = name_at (constant_names sig) c in
    ap (head_or (option_map constant (place_of (constant_names sig) name))) free
    ∙ ap (option_map constant) (sym (find_constant sig name c formed (constant_at sig c a typed)))

pub family_found : (sig : LfSignature) (binders : Bound) (f : ℕ) (kind : List LfType) → FormedSignature sig → kinds_in sig f ≡ Some kind →
    variable_of binders (name_at (family_names sig) f) ≡ None → family_of sig binders (name_at (family_names sig) f) ≡ Some f
family_found sig binders f kind formed is free =
    let name = name_at (family_names sig) f in
    ap (family_or (place_of (family_names sig) name)) free ∙ sym (find_family sig name f formed (family_named sig f kind is))

pub bound_found : (sig : LfSignature) (binders : Bound) (depth n : ℕ) → ArePrinted binders depth → depth ≤ 2 ^ 64 → IsNamed binders n →
    named_head sig binders (variable_text (depth - suc n)) ≡ Some (bound n)
bound_found sig binders depth n printed few is =
    ap (head_or (option_map constant (place_of (constant_names sig) (variable_text (depth - suc n))))) (variable_found binders depth n printed few is)
