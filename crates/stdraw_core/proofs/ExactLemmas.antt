-- A run ends with the answer to its words and bytes.
use Rattle.std.proofs.Common.{◌≡◌, ℕ, List, sym, subst}
use Rattle.std.specs.Prelude.{Result, Ok, Err, IfSome}
use Rattle.st_port.specs.Streams.{SourceState, SinkState}
use Rattle.st_report.specs.declared.stop.Refusal.{Refusal}
use Rattle.st_report.specs.declared.stop.Status.{Status}
use Rattle.st_words.specs.declared.words.Task.TheVariants.{File, Check, Orient, Session, Gen, Bench}
use Rattle.st_verdict.specs.Stages.{refuses, goes_on}
use Rattle.stdraw_core.specs.Answer.{AnswersFile, HaveOneAnswer, IsAnswer}
use Rattle.stdraw_core.specs.Checked.{AnswersCheck}
use Rattle.stdraw_core.specs.Oriented.{AnswersOrient}
use Rattle.stdraw_core.specs.Session.{AnswersSession}
use Rattle.stdraw_core.specs.Exact.{AreTold, EndsWith, EndsAlike, Exact}
use Rattle.stdraw_core.specs.Run.{EndsBy, is_done, is_refused, is_unread, is_cut, no_memory}
use Rattle.stdraw_core.proofs.HeadlineLemmas.{same_bytes}

-- an answer to the bytes that the source has left is one to these bytes
moved : (words : List (List ℕ)) (src : SourceState) (bytes told : List ℕ) → AreTold words src bytes → IfSome src.left (λ z. z ≡ told) → (answer : Result (List ℕ) Refusal) → IsAnswer words told answer → IsAnswer words bytes answer
moved words src bytes told are is answer (refuses r h e) = refuses r h e
moved words src bytes told are is answer (goes_on (File command) asked h) =
    goes_on (File command) asked (subst (λ z. AnswersFile command z answer) (sym (same_bytes src.left bytes told (are (File command) asked (λ off. off)) is)) h)
moved words src bytes told are is answer (goes_on Check asked h) =
    goes_on Check asked (subst (λ z. AnswersCheck z answer) (sym (same_bytes src.left bytes told (are Check asked (λ off. off)) is)) h)
moved words src bytes told are is answer (goes_on (Orient from to) asked h) =
    goes_on (Orient from to) asked (subst (λ z. AnswersOrient from to z answer) (sym (same_bytes src.left bytes told (are (Orient from to) asked (λ off. off)) is)) h)
moved words src bytes told are is answer (goes_on Session asked h) =
    goes_on Session asked (subst (λ z. AnswersSession z answer) (sym (same_bytes src.left bytes told (are Session asked (λ off. off)) is)) h)
moved words src bytes told are is answer (goes_on (Gen r) asked h) = goes_on (Gen r) asked h
moved words src bytes told are is answer (goes_on (Bench r form) asked h) = goes_on (Bench r form) asked h

module _ (one : HaveOneAnswer) (words : List (List ℕ)) (src src' : SourceState) (out out' diag diag' : SinkState) (s : Status) where
  -- the answer that was found is like every other
  of_any : (bytes told : List ℕ) → AreTold words src bytes → IfSome src.left (λ z. z ≡ told) → (answer found : Result (List ℕ) Refusal) → IsAnswer words bytes answer → IsAnswer words told found
      → EndsWith out out' diag diag' s found → EndsAlike words bytes answer out out' diag diag' s
  of_any bytes told are is answer found h k ends =
      let here : IsAnswer words bytes found = moved words src bytes told are is found k in
      record { found = found; is = here; alike = one words bytes answer found h here; ends = ends }

  pub exact : EndsBy words src src' out out' diag diag' s → Exact words src out out' diag diag' s
  exact (is_done is quiet h) bytes answer are told memory read written = of_any bytes h.ready.bytes are h.ready.told answer (Ok h.text) told h.ready.answer (is, h.gains, h.flushed, quiet)
  exact (is_refused before h) bytes answer are told memory read written = of_any bytes h.refused.bytes are h.refused.told answer (Err h.refusal) told h.refused.answer (h.status, h.line, before)
  exact (is_unread is before h line) bytes answer are told memory read written = absurd (read is)
  exact (is_cut is h line) bytes answer are told memory read written = absurd (written is)
  exact (no_memory is before line) bytes answer are told memory read written = absurd (memory is)
