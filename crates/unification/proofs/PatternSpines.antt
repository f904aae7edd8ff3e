-- Arguments that read as variables: each is the eta-long form of its variable, which has the argument's shape.
use Rattle.std.proofs.Common.{◌≡◌, ℕ, suc, Bool, true, false, not, List, [], ◌∷◌, length, Option, Some, None, refl, sym, ap, ◌∙◌, subst}
use Rattle.std.specs.Prelude.{if◌then◌else◌}
use Rattle.std.proofs.lemmas.Bool.{and_parts, not-true}
use Rattle.lf_definitions.specs.Syntax.{bound, LfTerm, Spine, no_args, arg, SimpleType, base, arrow, arity}
use Rattle.lf_definitions.specs.Shaping.{Scope, ShapedSpine, shaped_none, shaped_arg}
use Rattle.lf_definitions.specs.Expansion.{eta}
use Rattle.lf_definitions.proofs.Options.{Some-Some}
use Rattle.unification.specs.Patterns.{reads, joined_reading, variables_of, has_number, are_different, where_different, pattern_of}
use Rattle.unification.proofs.Readings.{reading_at_shape}

-- of the first argument, and of those after it
pub record FirstReads (t : LfTerm) (ts : Spine) (ns : List ℕ) : Type 0 where
  pub first : ℕ
  pub later : List ℕ
  pub numbers_are : ns ≡ first ∷ later
  pub first_reads : reads t ≡ Some first
  pub later_read : variables_of ts ≡ Some later

joined_reading-Some : (o : Option ℕ) (os : Option (List ℕ)) (ns : List ℕ) → joined_reading o os ≡ Some ns → (n : ℕ) × (ms : List ℕ) × (ns ≡ n ∷ ms) × (o ≡ Some n) × (os ≡ Some ms)
joined_reading-Some None os ns e = absurd cc
joined_reading-Some (Some n) None ns e = absurd cc
joined_reading-Some (Some n) (Some ms) ns e = (n, ms, sym (Some-Some e), refl, refl)

pub variables_of-arg : (t : LfTerm) (ts : Spine) (ns : List ℕ) → variables_of (arg t ts) ≡ Some ns → FirstReads t ts ns
variables_of-arg t ts ns e =
    let parts = joined_reading-Some (reads t) (variables_of ts) ns e in
    record { first = parts.0; later = parts.1; numbers_are = parts.2; first_reads = parts.3; later_read = parts.4 }

-- A pattern reads as variables that differ.
pub pattern_of-Some : (ts : Spine) (ns : List ℕ) → pattern_of ts ≡ Some ns → (variables_of ts ≡ Some ns) × (are_different ns ≡ true)
pattern_of-Some ts ns e = each (variables_of ts) refl e
  where
    tested : (ms : List ℕ) (b : Bool) → are_different ms ≡ b → (if b then Some ms else None) ≡ Some ns → (◌≡◌ {A = Option (List ℕ)} (Some ms) (Some ns)) × (are_different ns ≡ true)
    tested ms true f g = (g, ap are_different (sym (Some-Some g)) ∙ f)
    tested ms false f g = absurd cc

    each : (o : Option (List ℕ)) → variables_of ts ≡ o → where_different o ≡ Some ns → (variables_of ts ≡ Some ns) × (are_different ns ≡ true)
    each None f g = absurd cc
    each (Some ms) f g = let both = tested ms (are_different ms) refl g in (f ∙ both.0, both.1)

pub are_different-parts : (n : ℕ) (rest : List ℕ) → are_different (n ∷ rest) ≡ true → (has_number rest n ≡ false) × (are_different rest ≡ true)
are_different-parts n rest e =
    let both = and_parts (not (has_number rest n)) (are_different rest) e in
    (not-true (has_number rest n) both.0, both.1)

-- Arguments at a shape are the eta-long forms of these variables, each at the shape that a scope gives it.
pub data AreVariables (Γ : Scope) : List ℕ → Spine → SimpleType → Type 0 where
  no_variables : AreVariables Γ [] no_args base
  one_variable : {n : ℕ} {ns : List ℕ} {t : LfTerm} {ts : Spine} {a s : SimpleType} → Γ (bound n) ≡ Some a → t ≡ eta (bound n) a → AreVariables Γ ns ts s →
      AreVariables Γ (n ∷ ns) (arg t ts) (arrow a s)

pub variables_at_shape : {Γ : Scope} {ts : Spine} {s : SimpleType} → ShapedSpine Γ ts s → (ns : List ℕ) → variables_of ts ≡ Some ns → AreVariables Γ ns ts s
variables_at_shape {Γ} shaped_none ns e = subst (λ ms. AreVariables Γ ms no_args base) (Some-Some e) no_variables
variables_at_shape (shaped_arg {Γ = Γ} {t = t} {ts = ts} {a = a} {s = s} p ps) ns e =
    let r = variables_of-arg t ts ns e in
    let reading = reading_at_shape Γ t a r.first p r.first_reads in
    subst (λ ms. AreVariables Γ ms (arg t ts) (arrow a s)) (sym r.numbers_are) (one_variable reading.1 reading.0 (variables_at_shape ps r.later r.later_read))

pub pattern_at_shape : {Γ : Scope} {ts : Spine} {s : SimpleType} → ShapedSpine Γ ts s → (ns : List ℕ) → pattern_of ts ≡ Some ns → AreVariables Γ ns ts s
pattern_at_shape {ts = ts} p ns e = variables_at_shape p ns (pattern_of-Some ts ns e).0

pub length-AreVariables : {Γ : Scope} {ns : List ℕ} {ts : Spine} {s : SimpleType} → AreVariables Γ ns ts s → length ns ≡ arity s
length-AreVariables no_variables = refl
length-AreVariables (one_variable known is rest) = ap suc (length-AreVariables rest)
