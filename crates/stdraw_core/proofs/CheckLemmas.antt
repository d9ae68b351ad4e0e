-- What is answered to a check: one answer, what it reads, and what an accepted file is.
use Rattle.std.proofs.Common.{◌≡◌, ◌≢◌, ◌<◌, ◌≤◌, ◌∙◌, ℕ, List, length, refl, sym, subst, arith}
use Rattle.std.specs.Prelude.{Result, Ok, Err, IsErrOf}
use Rattle.std.specs.Io.KnownBytes.{Consumes}
use Rattle.eps_check.proofs.Public.{one_verdict}
use Rattle.eps_core.specs.Meaning.{IsFirstBad}
use Rattle.eps_core.proofs.Public.{one_text, one_bad_line}
use Rattle.st_port.specs.Reading.{Reads}
use Rattle.st_port.specs.Streams.{SourceState}
use Rattle.st_port.specs.declared.port.ReadEnd.TheVariants as read
use Rattle.st_ids.specs.declared.limits.TheConstants.{MOST_DRAWING_BYTES}
use Rattle.st_report.specs.declared.stop.Refusal.{Refusal}
use Rattle.st_report.specs.declared.stop.Refusal.TheVariants.{Words, TooManyBytes, TooLongDrawing, Eps, NotClean}
use Rattle.st_report.specs.declared.stop.Stop.{Stop}
use Rattle.st_report.specs.declared.stop.Stop.TheVariants.{Refused, ReadFault, WriteFault, NoMemory}
use Rattle.st_shape.specs.declared.picture.Fault.{Fault}
use Rattle.st_shape.specs.Rules.{Drawing, IsPicture}
use Rattle.st_shape.specs.Verdict.{IsWrong}
use Rattle.st_verdict.specs.Stages.{refuses, goes_on, IsOne}
use Rattle.st_verdict.specs.Stops.{Gives}
use Rattle.st_verdict.proofs.Public.{ok, err, one_then, told_one, value_found}
use Rattle.st_words.specs.declared.words.Task.TheVariants.{Check}
use Rattle.st_words.specs.Words.{IsTask}
use Rattle.stdraw_core.specs.Checked.{IsShortDrawing, IsDrawingIn, AnswersDrawing, AnswersText, AnswersCheck, clean_line}
use Rattle.stdraw_core.specs.Headline.{IsCleanFile}
use Rattle.stdraw_core.specs.Run.{Decides}
use Rattle.stdraw_core.proofs.RunLemmas.{AreRead, read_bytes, failed_read, failed_rose, NeverGives, never_then, never_told, leaves_end}

-- ---- one answer
short_one : (bytes : List ℕ) → IsOne (IsShortDrawing bytes)
short_one bytes (Ok a) (Ok b) h k = refl
short_one bytes (Ok a) (Err s) h k = let over : MOST_DRAWING_BYTES < length bytes = k.1 in absurd (omega (arith, h, over))
short_one bytes (Err r) (Ok b) h k = let over : MOST_DRAWING_BYTES < length bytes = h.1 in absurd (omega (arith, k, over))
short_one bytes (Err r) (Err s) h k = err r s (h.0 ∙ sym k.0)

drawing_one : (bytes : List ℕ) → IsOne (IsDrawingIn bytes)
drawing_one bytes (Ok d) (Ok e) h k = ok d e (one_text d e h.1 k.1 (sym h.0 ∙ k.0))
drawing_one bytes (Ok d) (Err s) h k = absurd (k.holds.nothing d h.1 h.0)
drawing_one bytes (Err r) (Ok e) h k = absurd (h.holds.nothing e k.1 k.0)
drawing_one bytes (Err r) (Err s) h k = err r s (told_one (λ line. Eps line) (IsFirstBad bytes) (one_bad_line bytes) r s h k)

verdict_one : (d : Drawing) → IsPicture d → IsOne (AnswersDrawing d)
verdict_one d is (Ok a) (Ok b) h k = ok a b (h.1 ∙ sym k.1)
verdict_one d is (Ok a) (Err s) h k = absurd (one_verdict.none d k.fault is h.0 k.holds)
verdict_one d is (Err r) (Ok b) h k = absurd (one_verdict.none d h.fault is k.0 h.holds)
verdict_one d is (Err r) (Err s) h k = err r s (told_one (λ fault. NotClean fault) (IsWrong d) (one_verdict.same d) r s h k)

text_one : (bytes : List ℕ) → IsOne (AnswersText bytes)
text_one bytes = one_then (IsDrawingIn bytes) AnswersDrawing (drawing_one bytes) (λ d is. verdict_one d is.1)

pub check_one : (bytes : List ℕ) → IsOne (AnswersCheck bytes)
check_one bytes = one_then (IsShortDrawing bytes) (λ _. AnswersText bytes) (short_one bytes) (λ _ _. text_one bytes)

-- ---- clean drawings
-- a clean file isn't refused
pub clean_given : (bytes : List ℕ) (d : Drawing) → IsCleanFile bytes d → (r : Refusal) → AnswersCheck bytes (Err r) → ⊥
clean_given bytes d file r h =
    let good : AnswersCheck bytes (Ok (clean_line d)) = goes_on tt file.few (goes_on d (file.text, file.picture) (file.right, refl)) in
    apart (check_one bytes (Ok (clean_line d)) (Err r) good h)
  where
    apart : (let a : Result (List ℕ) Refusal = Ok (clean_line d) in a) ≡ Err r → ⊥
    apart e = cc

-- the drawing whose line was answered
pub record IsAccepted (bytes out : List ℕ) : Type 0 where
  pub d : Drawing
  pub file : IsCleanFile bytes d
  pub text : out ≡ clean_line d

pub clean_found : (bytes out : List ℕ) → AnswersCheck bytes (Ok out) → IsAccepted bytes out
clean_found bytes out h =
    let a = value_found (IsShortDrawing bytes) (λ _. AnswersText bytes) out h in
    let b = value_found (IsDrawingIn bytes) AnswersDrawing out a.goes in
    record { d = b.value; file = record { few = a.is; text = b.is.0; picture = b.is.1; right = b.goes.0 }; text = b.goes.1 }

-- ---- what is never refused
module _ (r : Refusal) (eps : (line : ℕ) → r ≢ Eps line) (clean : (fault : Fault) → r ≢ NotClean fault) where
  never_text : (bytes : List ℕ) → NeverGives r (AnswersText bytes)
  never_text bytes = never_then r (IsDrawingIn bytes) AnswersDrawing (never_told (λ line. Eps line) (IsFirstBad bytes) r eps) (λ d. never_told (λ fault. NotClean fault) (IsWrong d) r clean)

-- bytes are not refused for the words, whatever was answered to them
pub checked_for_words : (bytes : List ℕ) (result : Result (List ℕ) Stop) → Gives (AnswersText bytes) result → IsErrOf result (Refused Words) → ⊥
checked_for_words bytes (Ok out) gives e = absurd (no_stop e)
  where
    no_stop : (let a : Result (List ℕ) Stop = Ok out in a) ≡ Err (Refused Words) → ⊥
    no_stop e = cc
checked_for_words bytes (Err stop) gives e =
    never_text Words (λ line e. cc) (λ fault e. cc) bytes (subst (λ z. Gives (AnswersText bytes) (Err z)) (same_stop stop (Refused Words) e) gives)
  where
    same_stop : (s t : Stop) → (let a : Result (List ℕ) Stop = Err s in a) ≡ Err t → s ≡ t
    same_stop s t e = cc

-- ---- what was read
module _ {S : Type 0} (state : S → SourceState) (old new : S) (words : List (List ℕ)) (asked : IsTask words Check) where
  pub check_failed : {A : Type 0} (made : A → List ℕ → Type 0) → Reads state old new MOST_DRAWING_BYTES made (Err read.Failed) → Decides words (state old) (state new) (Err ReadFault)
  check_failed made h =
      let failed = failed_read state old new MOST_DRAWING_BYTES made h in
      record { task = Check; asked = asked; on_file = λ off. off; read = failed; rose = failed_rose (state old) (state new) MOST_DRAWING_BYTES failed }

  pub check_too_long : {A : Type 0} (made : A → List ℕ → Type 0) → Reads state old new MOST_DRAWING_BYTES made (Err read.TooLong) → Decides words (state old) (state new) (Err (Refused TooLongDrawing))
  check_too_long made h =
      let consumed : Consumes (state old).left (state new).left h.taken = subst (λ z. Consumes (state old).left (state z).left h.taken) (sym h.ends.0) h.takes.consumed in
      let b = read_bytes (state old).left (state new).left h.taken consumed in
      let over : MOST_DRAWING_BYTES < length h.taken = h.ends.1 in
      record {
        bytes = b.bytes;
        told = b.told;
        answer = goes_on Check asked (refuses TooLongDrawing (refl, let l : MOST_DRAWING_BYTES < length b.bytes = omega (arith, b.most) in l) refl);
        leaves = record { taken = h.taken; consumed = consumed; over = over; most = h.ends.2 };
      }

  module _ (bytes : List ℕ) (h : Reads state old new MOST_DRAWING_BYTES (λ (text : List ℕ) taken. text ≡ taken) (Ok bytes)) where
    all_read : AreRead (state old).left (state new).left h.taken
    all_read = read_bytes (state old).left (state new).left h.taken (subst (λ z. Consumes (state old).left (state z).left h.taken) (sym h.ends.0) h.takes.consumed)

    within : (answer : Result (List ℕ) Refusal) → AnswersText bytes answer → AnswersCheck all_read.bytes answer
    within answer k =
        let few : length h.taken ≤ MOST_DRAWING_BYTES = h.ends.3 in
        let here : AnswersCheck h.taken answer = goes_on tt few (subst (λ z. AnswersText z answer) h.ends.2 k) in
        subst (λ z. AnswersCheck z answer) (all_read.whole h.ends.1) here

    pub check_decided : (result : Result (List ℕ) Stop) → Gives (AnswersText bytes) result → Decides words (state old) (state new) result
    check_decided (Ok out) gives = record { bytes = all_read.bytes; told = all_read.told; answer = goes_on Check asked (within (Ok out) gives); task = Check; asked = asked; read = h.ends.1 }
    check_decided (Err (Refused r)) gives = record {
      bytes = all_read.bytes;
      told = all_read.told;
      answer = goes_on Check asked (within (Err r) gives);
      leaves = leaves_end (AnswersText bytes) (never_text TooManyBytes (λ line e. cc) (λ fault e. cc) bytes) (never_text TooLongDrawing (λ line e. cc) (λ fault e. cc) bytes) (state old).left (state new).left h.ends.1 r gives;
    }
    check_decided (Err ReadFault) gives = absurd gives
    check_decided (Err WriteFault) gives = absurd gives
    check_decided (Err NoMemory) gives = tt
