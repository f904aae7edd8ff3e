-- What there is to say of the bytes of a file: the program that they are accepted with, or where and for what they are refused.
use Rattle.std.specs.Prelude.{◌≡◌, ℕ, List}
use Rattle.file_elab.specs.Programs.{LfProgram}
use Rattle.aesop_session.specs.declared.refusal.RefusalKind.{RefusalKind}
use Rattle.aesop_session.specs.Refusals.{IsAccepted, RefusesText}

-- They are accepted with this program, or refused at this place for this.
pub data Verdict : Type 0 where
  accepted : LfProgram → Verdict
  refused : (place : ℕ) → RefusalKind → Verdict

-- The verdict is true of the bytes.
abbrev pub IsVerdict : List ℕ → Verdict → Type 0
IsVerdict bytes (accepted program) = IsAccepted bytes program
IsVerdict bytes (refused place kind) = RefusesText bytes place kind

-- One verdict is true of the bytes, and no other.
pub record HasOneVerdict (bytes : List ℕ) : Type 0 where
  pub verdict : Verdict
  pub holds : IsVerdict bytes verdict
  pub alone : (other : Verdict) → IsVerdict bytes other → other ≡ verdict

-- So each list of bytes has one, of any length.
abbrev pub FilesHaveOneVerdict : Type 0
FilesHaveOneVerdict = (bytes : List ℕ) → HasOneVerdict bytes
