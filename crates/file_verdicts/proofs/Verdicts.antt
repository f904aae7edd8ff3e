-- Files have one verdict: that of their text where this isn't its tokens, or else that of the tokens where these aren't parsed, or else that of the declarations.
use Rattle.std.proofs.Common.{◌≡◌, ℕ, List, length, refl, sym, ◌∙◌, subst}
use Rattle.lex_text.specs.declared.token.Token.{Token}
use Rattle.lex_text.specs.Tokens.{TokensOf, bad_character, long_name}
use Rattle.file_trees.specs.declared.decl_tree.DeclTree.{DeclTree}
use Rattle.elab_terms.specs.declared.elab_fault.ElabFault.{ElabFault}
use Rattle.elab_terms.specs.declared.elab_fault.ElabFault.TheVariants as faults
use Rattle.file_elab.specs.Programs.{IsParsedFrom, IsRefused}
use Rattle.token_verdicts.specs.Verdicts as texts
use Rattle.syntax_verdicts.specs.Verdicts as parses
use Rattle.program_verdicts.specs.Verdicts as programs
use Rattle.aesop_session.specs.declared.refusal.RefusalKind.TheVariants.{NotUtf8, BadCharacter, LongName, Expected, TooDeep, Taken, TooMany, Unknown, Redex, IllTyped, BadRule}
use Rattle.aesop_session.specs.Refusals.{HasFault}
use Rattle.file_verdicts.specs.Verdicts.{Verdict, accepted, refused, IsVerdict, HasOneVerdict, FilesHaveOneVerdict}
use Rattle.file_verdicts.proofs.FaultPlaces.{HasPlace, declaration_has_place}

-- What a fault of a declaration makes of the bytes.
abbrev FaultSays : ElabFault → Verdict → Type 0
FaultSays (faults.Taken place) verdict = verdict ≡ refused place Taken
FaultSays (faults.TooMany place) verdict = verdict ≡ refused place TooMany
FaultSays (faults.Unknown place) verdict = verdict ≡ refused place Unknown
FaultSays (faults.Redex place) verdict = verdict ≡ refused place Redex
FaultSays (faults.IllTyped place) verdict = verdict ≡ refused place IllTyped
FaultSays (faults.BadRule place) verdict = verdict ≡ refused place BadRule
FaultSays faults.NoMemory verdict = ⊥

-- What a verdict on the declarations makes of them.
abbrev DeclarationsSay : programs.Verdict → Verdict → Type 0
DeclarationsSay (programs.makes program) verdict = verdict ≡ accepted program
DeclarationsSay (programs.refused_for fault) verdict = FaultSays fault verdict

-- Two verdicts that one fault makes are one, and so for declarations.
same_by_fault : (fault : ElabFault) (verdict other : Verdict) → FaultSays fault verdict → FaultSays fault other → verdict ≡ other
same_by_fault (faults.Taken place) verdict other h k = h ∙ sym k
same_by_fault (faults.TooMany place) verdict other h k = h ∙ sym k
same_by_fault (faults.Unknown place) verdict other h k = h ∙ sym k
same_by_fault (faults.Redex place) verdict other h k = h ∙ sym k
same_by_fault (faults.IllTyped place) verdict other h k = h ∙ sym k
same_by_fault (faults.BadRule place) verdict other h k = h ∙ sym k
same_by_fault faults.NoMemory verdict other h k = absurd h

same_by_declarations : (one : programs.Verdict) (verdict other : Verdict) → DeclarationsSay one verdict → DeclarationsSay one other → verdict ≡ other
same_by_declarations (programs.makes program) verdict other h k = h ∙ sym k
same_by_declarations (programs.refused_for fault) verdict other h k = same_by_fault fault verdict other h k

module _ (bytes : List ℕ) (text_has_one : texts.HasOneVerdict bytes)
    (tokens_have_one : (tokens : List Token) → parses.HasOneVerdict bytes tokens (length bytes))
    (declarations_have_one : (declarations : List DeclTree) → programs.HasOneVerdict bytes declarations) where
  -- What a verdict on the tokens makes of the bytes: where they are parsed, what one on the declarations does. And so for the text, by one on its tokens.
  abbrev TokensSay : parses.Verdict → Verdict → Type 0
  TokensSay (parses.parsed declarations) verdict = (one : programs.Verdict) × programs.IsVerdict bytes declarations one × DeclarationsSay one verdict
  TokensSay (parses.expected place) verdict = verdict ≡ refused place Expected
  TokensSay (parses.too_deep place) verdict = verdict ≡ refused place TooDeep

  abbrev TextSays : texts.Verdict → Verdict → Type 0
  TextSays (texts.are_tokens tokens) verdict = (one : parses.Verdict) × parses.IsVerdict bytes tokens (length bytes) one × TokensSay one verdict
  TextSays (texts.no_utf8 place) verdict = verdict ≡ refused place NotUtf8
  TextSays (texts.first_wrong (bad_character place)) verdict = verdict ≡ refused place BadCharacter
  TextSays (texts.first_wrong (long_name place)) verdict = verdict ≡ refused place LongName

  abbrev Said : Verdict → Type 0
  Said verdict = (one : texts.Verdict) × texts.IsVerdict bytes one × TextSays one verdict

  -- A verdict is said by those of the text, of the tokens and of the declarations.
  fault_said : (fault : ElabFault) (verdict : Verdict) → HasFault bytes fault → FaultSays fault verdict → Said verdict
  fault_said fault verdict h says =
      (texts.are_tokens h.1.0, h.1.1, (parses.parsed h.0, h.1.2, (programs.refused_for fault, h.2, says)))

  said : (verdict : Verdict) → IsVerdict bytes verdict → Said verdict
  said (accepted program) h = (texts.are_tokens h.1.0, h.1.1, (parses.parsed h.0, h.1.2, (programs.makes program, h.2, refl)))
  said (refused place NotUtf8) h = (texts.no_utf8 place, h, refl)
  said (refused place BadCharacter) h = (texts.first_wrong (bad_character place), h, refl)
  said (refused place LongName) h = (texts.first_wrong (long_name place), h, refl)
  said (refused place Expected) h = (texts.are_tokens h.0, h.1, (parses.expected place, h.2, refl))
  said (refused place TooDeep) h = (texts.are_tokens h.0, h.1, (parses.too_deep place, h.2, refl))
  said (refused place Taken) h = fault_said (faults.Taken place) (refused place Taken) h refl
  said (refused place TooMany) h = fault_said (faults.TooMany place) (refused place TooMany) h refl
  said (refused place Unknown) h = fault_said (faults.Unknown place) (refused place Unknown) h refl
  said (refused place Redex) h = fault_said (faults.Redex place) (refused place Redex) h refl
  said (refused place IllTyped) h = fault_said (faults.IllTyped place) (refused place IllTyped) h refl
  said (refused place BadRule) h = fault_said (faults.BadRule place) (refused place BadRule) h refl

  -- Two verdicts that one verdict of the tokens says are one, and so for one of the text.
  same_by_tokens : (one : parses.Verdict) (verdict other : Verdict) → TokensSay one verdict → TokensSay one other → verdict ≡ other
  same_by_tokens (parses.parsed declarations) verdict other h k =
      let only = declarations_have_one declarations in
      same_by_declarations k.0 verdict other
      (subst (λ one. DeclarationsSay one verdict) (only.alone h.0 h.1 ∙ sym (only.alone k.0 k.1)) h.2) k.2
  same_by_tokens (parses.expected place) verdict other h k = h ∙ sym k
  same_by_tokens (parses.too_deep place) verdict other h k = h ∙ sym k

  same_by_text : (one : texts.Verdict) (verdict other : Verdict) → TextSays one verdict → TextSays one other → verdict ≡ other
  same_by_text (texts.are_tokens tokens) verdict other h k =
      let only = tokens_have_one tokens in
      same_by_tokens k.0 verdict other
      (subst (λ one. TokensSay one verdict) (only.alone h.0 h.1 ∙ sym (only.alone k.0 k.1)) h.2) k.2
  same_by_text (texts.no_utf8 place) verdict other h k = h ∙ sym k
  same_by_text (texts.first_wrong (bad_character place)) verdict other h k = h ∙ sym k
  same_by_text (texts.first_wrong (long_name place)) verdict other h k = h ∙ sym k

  same_said : (verdict other : Verdict) → Said verdict → Said other → verdict ≡ other
  same_said verdict other h k =
      same_by_text k.0 verdict other
      (subst (λ one. TextSays one verdict) (text_has_one.alone h.0 h.1 ∙ sym (text_has_one.alone k.0 k.1)) h.2) k.2

  -- Some verdict is true: that of the text, or else that of the tokens, or else that of the declarations.
  abbrev SomeVerdict : Type 0
  SomeVerdict = (verdict : Verdict) × IsVerdict bytes verdict

  by_fault : (fault : ElabFault) → HasPlace fault → HasFault bytes fault → SomeVerdict
  by_fault (faults.Taken place) known h = (refused place Taken, h)
  by_fault (faults.TooMany place) known h = (refused place TooMany, h)
  by_fault (faults.Unknown place) known h = (refused place Unknown, h)
  by_fault (faults.Redex place) known h = (refused place Redex, h)
  by_fault (faults.IllTyped place) known h = (refused place IllTyped, h)
  by_fault (faults.BadRule place) known h = (refused place BadRule, h)
  by_fault faults.NoMemory known h = absurd known

  fault_has_place : (declarations : List DeclTree) (fault : ElabFault) → IsRefused bytes declarations fault → HasPlace fault
  fault_has_place declarations fault h = declaration_has_place h.refused

  by_declarations : (declarations : List DeclTree) → IsParsedFrom bytes declarations → (one : programs.Verdict) → programs.IsVerdict bytes declarations one → SomeVerdict
  by_declarations declarations parsed (programs.makes program) h = (accepted program, (declarations, parsed, h))
  by_declarations declarations parsed (programs.refused_for fault) h = by_fault fault (fault_has_place declarations fault h) (declarations, parsed, h)

  by_tokens : (tokens : List Token) → TokensOf bytes tokens → (one : parses.Verdict) → parses.IsVerdict bytes tokens (length bytes) one → SomeVerdict
  by_tokens tokens cut (parses.parsed declarations) h =
      let only = declarations_have_one declarations in
      by_declarations declarations (tokens, cut, h) only.verdict only.holds
  by_tokens tokens cut (parses.expected place) h = (refused place Expected, (tokens, cut, h))
  by_tokens tokens cut (parses.too_deep place) h = (refused place TooDeep, (tokens, cut, h))

  by_text : (one : texts.Verdict) → texts.IsVerdict bytes one → SomeVerdict
  by_text (texts.are_tokens tokens) cut = let only = tokens_have_one tokens in by_tokens tokens cut only.verdict only.holds
  by_text (texts.no_utf8 place) h = (refused place NotUtf8, h)
  by_text (texts.first_wrong (bad_character place)) h = (refused place BadCharacter, h)
  by_text (texts.first_wrong (long_name place)) h = (refused place LongName, h)

  one_verdict : HasOneVerdict bytes
  one_verdict =
      let found : SomeVerdict = by_text text_has_one.verdict text_has_one.holds in
      record { verdict = found.0; holds = found.1; alone = λ other h. same_said other found.0 (said other h) (said found.0 found.1) }

-- So where texts, tokens and declarations have one verdict each, files have one.
pub files_have_one_verdict : texts.TextsHaveOneVerdict → parses.TokensHaveOneVerdict → programs.DeclarationsHaveOneVerdict → FilesHaveOneVerdict
files_have_one_verdict text tokens declarations bytes =
    one_verdict bytes (text bytes) (λ cut. tokens bytes cut (length bytes)) (λ trees. declarations bytes trees)
