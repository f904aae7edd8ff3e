-- What a run that ends between two declarations has read of types and kinds.
use Rattle.std.proofs.Common.{◌≡◌, ℕ, zero, suc, ◌<◌, false, if◌then◌else◌, List, [], ◌∷◌, ◌++◌, length, None, refl, subst, arith}
use Rattle.file_trees.specs.declared.span.Span.{Span}
use Rattle.file_trees.specs.declared.span.BinderSpan.{BinderSpan}
use Rattle.file_syntax.specs.declared.terminal.Keyword.{Keyword}
use Rattle.file_syntax.specs.declared.terminal.Terminal.{Terminal}
use Rattle.file_syntax.specs.declared.terminal.Terminal.TheVariants.{TypeWord, Word, Var, Colon, Dot, Arrow, LParen, RParen, LBrace, RBrace}
use Rattle.file_trees.specs.declared.decl_tree.DeclTree.{DeclTree}
use Rattle.file_trees.specs.declared.decl_tree.DeclTree.TheVariants.{Family as family_tree}
use Rattle.file_syntax.specs.declared.state.Purpose.TheVariants.{Family as goal_family}
use Rattle.file_syntax.specs.declared.state.Owner.TheVariants.{Family as of_family}
use Rattle.file_syntax.specs.declared.state.Top.TheVariants.{Between, TypeStart, PiName, PiColon, GroupEnd, StarEnd}
use Rattle.file_syntax.specs.declared.state.Frame.{Frame}
use Rattle.file_syntax.specs.declared.state.Frame.TheVariants.{Declared, Brace, Group}
use Rattle.file_trees.specs.Trees.{Tree, Classifier, pi, arrow, family, star, Binding, pi_of, arrow_of, bind}
use Rattle.file_syntax.specs.Productions.{binder_of, IsBound, a_name, a_variable, IsType, binds, ends, goes_to, IsSimple, family_of, group, IsKind, is_type, kind_binds, kind_goes_to}
use Rattle.file_syntax.specs.Reading.{at_top, close_type, no_argument, stands_at_kind}
use Rattle.file_syntax.proofs.Abstractions.{bind_append}
use Rattle.file_syntax.specs.Reading.{group_end}
use Rattle.file_syntax.proofs.Endings.{Ends, ends_none, ArgumentsRead, arguments_read}

-- a bound name, and then a colon
data Named : List Terminal → Span → List Terminal → Type 0 where
  named : (bound : Terminal) (name colon : Span) (rest : List Terminal) → IsBound bound name → Named (bound ∷ Colon colon ∷ rest) name rest

record BraceRead (terminals : List Terminal) (decls : List DeclTree) (frames : List Frame) (bindings : List Binding) (opening : Span) (final : List DeclTree) : Type 0 where
  name : Span
  rest : List Terminal
  is : Named terminals name rest
  go_on : Ends rest (at_top decls (Brace bindings (binder_of opening name) ∷ frames) (TypeStart [])) final

colon_read : (bound : Terminal) {name : Span} → IsBound bound name → (terminals : List Terminal) {decls : List DeclTree} {frames : List Frame} {bindings : List Binding} {opening : Span} {final : List DeclTree} →
    Ends terminals (at_top decls frames (PiColon bindings (binder_of opening name))) final → BraceRead (bound ∷ terminals) decls frames bindings opening final
colon_read bound b [] h = cc
colon_read bound {name = name} b (Colon colon ∷ rest) h = record { name = name; rest = rest; is = named bound name colon rest b; go_on = h }
colon_read bound b (_ ∷ rest) h = absurd (ends_none rest _ h)

brace_read : (terminals : List Terminal) {decls : List DeclTree} {frames : List Frame} {bindings : List Binding} {opening : Span} {final : List DeclTree} →
    Ends terminals (at_top decls frames (PiName bindings opening)) final → BraceRead terminals decls frames bindings opening final
brace_read [] h = cc
brace_read (Word word span ∷ terminals) h = colon_read (Word word span) (a_name word span) terminals h
brace_read (Var span ∷ terminals) h = colon_read (Var span) (a_variable span) terminals h
brace_read (_ ∷ terminals) h = absurd (ends_none terminals _ h)

named_shorter : {terminals rest : List Terminal} {name : Span} → Named terminals name rest → length rest < length terminals
named_shorter (named bound name colon rest b) = omega arith

pub record TypeRead (terminals : List Terminal) (decls : List DeclTree) (frames : List Frame) (bindings : List Binding) (final : List DeclTree) : Type 0 where
  pub classifier : Classifier
  pub next : Terminal
  pub rest : List Terminal
  pub is : IsType terminals (next ∷ rest) classifier
  pub shorter : length rest < length terminals
  pub go_on : Ends rest (close_type decls frames (bind bindings classifier) next) final

pub record SimpleRead (terminals : List Terminal) (decls : List DeclTree) (frames : List Frame) (bindings : List Binding) (final : List DeclTree) : Type 0 where
  pub classifier : Classifier
  pub next : Terminal
  pub rest : List Terminal
  pub is : IsSimple terminals (next ∷ rest) classifier
  pub shorter : length rest < length terminals
  pub go_on : Ends rest (group_end decls frames bindings classifier next) final

-- the domain of a binder, with its closing brace
pub record DomainRead (terminals : List Terminal) (decls : List DeclTree) (frames : List Frame) (bindings : List Binding) (binder : BinderSpan) (final : List DeclTree) : Type 0 where
  pub domain : Classifier
  pub closing : Span
  pub rest : List Terminal
  pub is : IsType terminals (RBrace closing ∷ rest) domain
  pub shorter : length rest < length terminals
  pub go_on : Ends rest (at_top decls frames (TypeStart (bindings ++ pi_of binder domain ∷ []))) final

domain_read : {terminals : List Terminal} {decls : List DeclTree} {frames : List Frame} {bindings : List Binding} {binder : BinderSpan} {final : List DeclTree} →
    TypeRead terminals decls (Brace bindings binder ∷ frames) [] final → DomainRead terminals decls frames bindings binder final
domain_read {terminals = terminals} {decls = decls} {frames = frames} {bindings = bindings} {binder = binder} {final = final} r =
    at_terminal r.classifier r.next r.rest r.is r.shorter r.go_on
  where
    at_terminal : (classifier : Classifier) (next : Terminal) (rest : List Terminal) → IsType terminals (next ∷ rest) classifier → length rest < length terminals →
        Ends rest (close_type decls (Brace bindings binder ∷ frames) classifier next) final → DomainRead terminals decls frames bindings binder final
    at_terminal classifier (RBrace closing) rest is short go =
        record { domain = classifier; closing = closing; rest = rest; is = is; shorter = short; go_on = go }
    at_terminal _ _ rest is short go = absurd (ends_none rest _ go)

family-group : (next : Terminal) (decls : List DeclTree) (frames : List Frame) (bindings : List Binding) (span : Span) (arguments : List Tree) →
    no_argument decls frames (of_family bindings span) arguments next ≡ group_end decls frames bindings (family span arguments) next
family-group (Arrow s) decls frames bindings span arguments = refl
family-group _ decls frames bindings span arguments = refl

family_read : (word : Keyword) (span : Span) {terminals : List Terminal} {decls : List DeclTree} {frames : List Frame} {bindings : List Binding} {final : List DeclTree} →
    ArgumentsRead terminals decls frames (of_family bindings span) [] final → SimpleRead (Word word span ∷ terminals) decls frames bindings final
family_read word span {terminals = terminals} {decls = decls} {frames = frames} {bindings = bindings} {final = final} r =
    record {
      classifier = family span r.trees;
      next = r.next;
      rest = r.rest;
      is = family_of word span terminals (r.next ∷ r.rest) r.trees r.are;
      shorter = omega (arith, r.shorter);
      go_on = subst (λ s. Ends r.rest s final) (family-group r.next decls frames bindings span r.trees) r.go_on;
    }

-- after a type in parentheses
grouped : (opening closing : Span) (inside : List Terminal) (classifier : Classifier) (rest : List Terminal) {decls : List DeclTree} {frames : List Frame} {bindings : List Binding} {final : List DeclTree} →
    IsType inside (RParen closing ∷ rest) classifier → length rest < length inside →
    Ends rest (at_top decls frames (GroupEnd bindings classifier)) final → SimpleRead (LParen opening ∷ inside) decls frames bindings final
grouped opening closing inside classifier [] is short go = cc
grouped opening closing inside classifier (next ∷ rest) is short go =
    record {
      classifier = classifier;
      next = next;
      rest = rest;
      is = group opening closing inside (next ∷ rest) classifier is;
      shorter = omega (arith, short);
      go_on = go;
    }

group_read : (opening : Span) {terminals : List Terminal} {decls : List DeclTree} {frames : List Frame} {bindings : List Binding} {final : List DeclTree} →
    TypeRead terminals decls (Group bindings ∷ frames) [] final → SimpleRead (LParen opening ∷ terminals) decls frames bindings final
group_read opening {terminals = terminals} {decls = decls} {frames = frames} {bindings = bindings} {final = final} r =
    at_terminal r.classifier r.next r.rest r.is r.shorter r.go_on
  where
    at_terminal : (classifier : Classifier) (next : Terminal) (rest : List Terminal) → IsType terminals (next ∷ rest) classifier → length rest < length terminals →
        Ends rest (close_type decls (Group bindings ∷ frames) classifier next) final → SimpleRead (LParen opening ∷ terminals) decls frames bindings final
    at_terminal classifier (RParen closing) rest is short go = grouped opening closing terminals classifier rest is short go
    at_terminal _ _ rest is short go = absurd (ends_none rest _ go)

-- a simple type ends a type, or an arrow goes on with it
type_after : {terminals : List Terminal} {decls : List DeclTree} {frames : List Frame} {bindings : List Binding} {final : List DeclTree} →
    SimpleRead terminals decls frames bindings final →
    ((rest : List Terminal) (left : Classifier) → length rest < length terminals →
    Ends rest (at_top decls frames (TypeStart (bindings ++ arrow_of left ∷ []))) final → TypeRead rest decls frames (bindings ++ arrow_of left ∷ []) final) →
    TypeRead terminals decls frames bindings final
type_after {terminals = terminals} {decls = decls} {frames = frames} {bindings = bindings} {final = final} r more =
    at_terminal r.classifier r.next r.rest r.is r.shorter r.go_on
  where
    at_terminal : (classifier : Classifier) (next : Terminal) (rest : List Terminal) → IsSimple terminals (next ∷ rest) classifier → length rest < length terminals →
        Ends rest (group_end decls frames bindings classifier next) final → TypeRead terminals decls frames bindings final
    at_terminal classifier (Arrow span) rest is short go =
        let t : TypeRead rest decls frames (bindings ++ arrow_of classifier ∷ []) final = more rest classifier short go in
        record {
          classifier = arrow classifier t.classifier;
          next = t.next;
          rest = t.rest;
          is = goes_to terminals rest (t.next ∷ t.rest) span classifier t.classifier is t.is;
          shorter = omega (arith, t.shorter, short);
          go_on = subst (λ c. Ends t.rest (close_type decls frames c t.next) final) (bind_append bindings (arrow_of classifier ∷ []) t.classifier) t.go_on;
        }
    at_terminal classifier next rest is short go =
        record { classifier = classifier; next = next; rest = rest; is = ends terminals (next ∷ rest) classifier is; shorter = short; go_on = go }

bound_type : {terminals after : List Terminal} {opening name : Span} {decls : List DeclTree} {frames : List Frame} {bindings : List Binding} {final : List DeclTree} →
    Named terminals name after → (d : DomainRead after decls frames bindings (binder_of opening name) final) →
    TypeRead d.rest decls frames (bindings ++ pi_of (binder_of opening name) d.domain ∷ []) final →
    TypeRead (LBrace opening ∷ terminals) decls frames bindings final
bound_type {opening = opening} {decls = decls} {frames = frames} {bindings = bindings} {final = final} (named bound name colon after b) d t =
    record {
      classifier = pi (binder_of opening name) d.domain t.classifier;
      next = t.next;
      rest = t.rest;
      is = binds opening colon d.closing name bound after d.rest (t.next ∷ t.rest) d.domain t.classifier b d.is t.is;
      shorter = omega (arith, t.shorter, d.shorter);
      go_on = subst (λ c. Ends t.rest (close_type decls frames c t.next) final) (bind_append bindings (pi_of (binder_of opening name) d.domain ∷ []) t.classifier) t.go_on;
    }

pub type_read : (n : ℕ) (terminals : List Terminal) {decls : List DeclTree} {frames : List Frame} {bindings : List Binding} {final : List DeclTree} →
    length terminals < n → stands_at_kind frames ≡ false → Ends terminals (at_top decls frames (TypeStart bindings)) final →
    TypeRead terminals decls frames bindings final
type_read zero terminals h k e = absurd (omega arith)
type_read (suc n) [] h k e = cc
type_read (suc n) (TypeWord span ∷ terminals) {decls = decls} {frames = frames} {bindings = bindings} {final = final} h k e =
    absurd (ends_none terminals _ (subst (λ b. Ends terminals (if b then at_top decls frames (StarEnd bindings span) else None) final) k e))
type_read (suc n) (LBrace opening ∷ terminals) {decls = decls} {frames = frames} {bindings = bindings} {final = final} h k e =
    let b : BraceRead terminals decls frames bindings opening final = brace_read terminals e in
    let short : length b.rest < length terminals = named_shorter b.is in
    let d : DomainRead b.rest decls frames bindings (binder_of opening b.name) final = domain_read (type_read n b.rest (omega (arith, short)) refl b.go_on) in
    bound_type b.is d (type_read n d.rest (omega (arith, short, d.shorter)) k d.go_on)
type_read (suc n) (LParen opening ∷ terminals) {decls = decls} {frames = frames} {bindings = bindings} {final = final} h k e =
    type_after (group_read opening (type_read n terminals (omega arith) refl e)) (λ rest left short go. type_read n rest (omega (arith, short)) k go)
type_read (suc n) (Word word span ∷ terminals) h k e =
    type_after (family_read word span (arguments_read n terminals (omega arith) e)) (λ rest left short go. type_read n rest (omega (arith, short)) k go)
type_read (suc n) (_ ∷ terminals) h k e = absurd (ends_none terminals _ e)

pub record KindRead (terminals : List Terminal) (decls : List DeclTree) (family_name : Span) (frames : List Frame) (bindings : List Binding) (final : List DeclTree) : Type 0 where
  pub kind : Classifier
  pub dot : Span
  pub rest : List Terminal
  pub is : IsKind terminals (Dot dot ∷ rest) kind
  pub shorter : length rest < length terminals
  pub go_on : Ends rest (at_top (decls ++ family_tree family_name (bind bindings kind) ∷ []) frames Between) final

star_read : (word : Span) (terminals : List Terminal) {decls : List DeclTree} {family_name : Span} {frames : List Frame} {bindings : List Binding} {final : List DeclTree} →
    Ends terminals (at_top decls (Declared goal_family family_name ∷ frames) (StarEnd bindings word)) final →
    KindRead (TypeWord word ∷ terminals) decls family_name frames bindings final
star_read word [] e = cc
star_read word (Dot dot ∷ rest) e = record { kind = star word; dot = dot; rest = rest; is = is_type word (Dot dot ∷ rest); shorter = omega arith; go_on = e }
star_read word (_ ∷ rest) e = absurd (ends_none rest _ e)

kind_after : {terminals : List Terminal} {decls : List DeclTree} {family_name : Span} {frames : List Frame} {bindings : List Binding} {final : List DeclTree} →
    SimpleRead terminals decls (Declared goal_family family_name ∷ frames) bindings final →
    ((rest : List Terminal) (left : Classifier) → length rest < length terminals →
    Ends rest (at_top decls (Declared goal_family family_name ∷ frames) (TypeStart (bindings ++ arrow_of left ∷ []))) final →
    KindRead rest decls family_name frames (bindings ++ arrow_of left ∷ []) final) →
    KindRead terminals decls family_name frames bindings final
kind_after {terminals = terminals} {decls = decls} {family_name = family_name} {frames = frames} {bindings = bindings} {final = final} r more =
    at_terminal r.classifier r.next r.rest r.is r.shorter r.go_on
  where
    at_terminal : (classifier : Classifier) (next : Terminal) (rest : List Terminal) → IsSimple terminals (next ∷ rest) classifier → length rest < length terminals →
        Ends rest (group_end decls (Declared goal_family family_name ∷ frames) bindings classifier next) final → KindRead terminals decls family_name frames bindings final
    at_terminal classifier (Arrow span) rest is short go =
        let t : KindRead rest decls family_name frames (bindings ++ arrow_of classifier ∷ []) final = more rest classifier short go in
        record {
          kind = arrow classifier t.kind;
          dot = t.dot;
          rest = t.rest;
          is = kind_goes_to terminals rest (Dot t.dot ∷ t.rest) span classifier t.kind is t.is;
          shorter = omega (arith, t.shorter, short);
          go_on = subst (λ c. Ends t.rest (at_top (decls ++ family_tree family_name c ∷ []) frames Between) final) (bind_append bindings (arrow_of classifier ∷ []) t.kind) t.go_on;
        }
    at_terminal _ _ rest is short go = absurd (ends_none rest _ go)

bound_kind : {terminals after : List Terminal} {opening name : Span} {decls : List DeclTree} {family_name : Span} {frames : List Frame} {bindings : List Binding} {final : List DeclTree} →
    Named terminals name after → (d : DomainRead after decls (Declared goal_family family_name ∷ frames) bindings (binder_of opening name) final) →
    KindRead d.rest decls family_name frames (bindings ++ pi_of (binder_of opening name) d.domain ∷ []) final →
    KindRead (LBrace opening ∷ terminals) decls family_name frames bindings final
bound_kind {opening = opening} {decls = decls} {family_name = family_name} {frames = frames} {bindings = bindings} {final = final} (named bound name colon after b) d t =
    record {
      kind = pi (binder_of opening name) d.domain t.kind;
      dot = t.dot;
      rest = t.rest;
      is = kind_binds opening colon d.closing name bound after d.rest (Dot t.dot ∷ t.rest) d.domain t.kind b d.is t.is;
      shorter = omega (arith, t.shorter, d.shorter);
      go_on = subst (λ c. Ends t.rest (at_top (decls ++ family_tree family_name c ∷ []) frames Between) final) (bind_append bindings (pi_of (binder_of opening name) d.domain ∷ []) t.kind) t.go_on;
    }

pub kind_read : (n : ℕ) (terminals : List Terminal) {decls : List DeclTree} {family_name : Span} {frames : List Frame} {bindings : List Binding} {final : List DeclTree} →
    length terminals < n → Ends terminals (at_top decls (Declared goal_family family_name ∷ frames) (TypeStart bindings)) final →
    KindRead terminals decls family_name frames bindings final
kind_read zero terminals h e = absurd (omega arith)
kind_read (suc n) [] h e = cc
kind_read (suc n) (TypeWord span ∷ terminals) h e = star_read span terminals e
kind_read (suc n) (LBrace opening ∷ terminals) {decls = decls} {family_name = family_name} {frames = frames} {bindings = bindings} {final = final} h e =
    let b : BraceRead terminals decls (Declared goal_family family_name ∷ frames) bindings opening final = brace_read terminals e in
    let short : length b.rest < length terminals = named_shorter b.is in
    let d : DomainRead b.rest decls (Declared goal_family family_name ∷ frames) bindings (binder_of opening b.name) final =
    domain_read (type_read n b.rest (omega (arith, short)) refl b.go_on) in
    bound_kind b.is d (kind_read n d.rest (omega (arith, short, d.shorter)) d.go_on)
kind_read (suc n) (LParen opening ∷ terminals) h e =
    kind_after (group_read opening (type_read n terminals (omega arith) refl e)) (λ rest left short go. kind_read n rest (omega (arith, short)) go)
kind_read (suc n) (Word word span ∷ terminals) h e =
    kind_after (family_read word span (arguments_read n terminals (omega arith) e)) (λ rest left short go. kind_read n rest (omega (arith, short)) go)
kind_read (suc n) (_ ∷ terminals) h e = absurd (ends_none terminals _ e)
