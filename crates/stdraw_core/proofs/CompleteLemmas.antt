-- A run succeeds where the source has what the task asks, and nothing outside fails.
use Rattle.std.proofs.Common.{◌≡◌, ℕ, ◌⊎◌, inl, inr, List, [], ◌∷◌, sym, subst}
use Rattle.std.specs.Prelude.{Err, IfSome}
use Rattle.st_input.specs.InputGraph.{InputGraph, IsConsistent}
use Rattle.st_port.specs.Streams.{SourceState, SinkState}
use Rattle.st_report.specs.declared.stop.Refusal.{Refusal}
use Rattle.st_report.specs.declared.stop.Status.{Status}
use Rattle.st_report.specs.declared.stop.Status.TheVariants as status
use Rattle.st_test.specs.Planar.{AcyclicIsLoopless, StValue}
use Rattle.st_test.specs.PolesAnswer.{OnePolesAnswer}
use Rattle.st_words.specs.declared.words.Command.{Command}
use Rattle.st_words.specs.declared.words.Command.TheVariants.{Query, Test, Draw, Lattice}
use Rattle.st_words.specs.declared.words.Task.{Task}
use Rattle.st_words.specs.declared.words.Task.TheVariants.{File, Check, Orient, Session, Gen, Bench}
use Rattle.st_words.specs.Words.{IsTask}
use Rattle.stdraw_core.specs.Answer.{Asks, AnswersCommand, AnswersFile, AnswersTask}
use Rattle.stdraw_core.specs.Complete.{Fits, IsMet, Complete}
use Rattle.stdraw_core.specs.Headline.{IsPlanarFile, IsCleanFile}
use Rattle.stdraw_core.proofs.CheckLemmas.{clean_given}
use Rattle.stdraw_core.specs.Oriented.{AnswersOrient}
use Rattle.stdraw_core.proofs.OrientOne.{FaultForbids, orientable_given}
use Rattle.stdraw_core.proofs.SessionHeadline.{script_given}
use Rattle.stdraw_core.proofs.SessionOne.{SessionFacts}
use Rattle.stdraw_core.specs.Session.{AnswersSession}
use Rattle.stdraw_core.specs.Query.{names_of}
use Rattle.stdraw_core.specs.Run.{IsTold, EndsBy, is_done, is_refused, is_unread, is_cut, no_memory}
use Rattle.st_verdict.specs.Verdict.{IsFound}
use Rattle.stdraw_core.proofs.HeadlineLemmas.{planar_says, same_bytes}
use Rattle.stdraw_core.proofs.OneAnswer.{asks_one}
use Rattle.stdraw_core.proofs.QueryLemmas.{known_unknown}
use Rattle.st_verdict.proofs.Public.{next_says, found, accepted_one, consistent}
use Rattle.stdraw_core.proofs.PathLemmas.{valid_not_refused}

-- what fits a command isn't refused by it
fit_given : (c : Command) (g : InputGraph) (st : StValue) → IsConsistent g → IsFound g st → Fits c g st → (r : Refusal) → AnswersCommand c g st (Err r) → ⊥
fit_given (Query ps) g st tables is fits r h = known_unknown g (names_of ps) h.fault fits h.holds
fit_given Test g st tables is fits r h = h
fit_given (Draw form) g st tables is fits r h = valid_not_refused g st tables is form r fits h
fit_given (Lattice op from to) g st tables is fits r h = known_unknown g (from ∷ to ∷ []) h.fault fits h.holds

-- a planar file that fits the command isn't refused
file_given : (c : Command) (bytes : List ℕ) (g : InputGraph) (st : StValue) → OnePolesAnswer → IsPlanarFile bytes g st → Fits c g st → (r : Refusal) → AnswersFile c bytes (Err r) → ⊥
file_given c bytes g st same file fits r h = fit_given c g st (consistent file.tree g file.graph) (found g st file.planar) fits r (planar_says c bytes g st file (accepted_one same g) (Err r) h)

-- nothing is refused to a task that has what it asks
task_given : FaultForbids → AcyclicIsLoopless → SessionFacts → (task : Task) (src : SourceState) → IsMet task src → (bytes : List ℕ) → IfSome src.left (λ left. left ≡ bytes) → (r : Refusal) → AnswersTask task bytes (Err r) → ⊥
task_given forbids loopless facts (File c) src met bytes told r h =
    file_given c met.bytes met.g met.st facts.poles met.file met.fits r (subst (λ z. AnswersFile c z (Err r)) (sym (same_bytes src.left met.bytes bytes met.told told)) h)
task_given forbids loopless facts Check src met bytes told r h =
    clean_given bytes met.d (subst (λ z. IsCleanFile z met.d) (same_bytes src.left met.bytes bytes met.told told) met.file) r h
task_given forbids loopless facts (Orient from to) src met bytes told r h =
    orientable_given forbids loopless from to met.bytes met.g met.graph met.orientable r (subst (λ z. AnswersOrient from to z (Err r)) (sym (same_bytes src.left met.bytes bytes met.told told)) h)
task_given forbids loopless facts Session src met bytes told r h =
    script_given facts met.bytes met.g met.st met.items met.file met.replies met.last met.runs r (subst (λ z. AnswersSession z (Err r)) (sym (same_bytes src.left met.bytes bytes met.told told)) h)
task_given forbids loopless facts (Gen recipe) src met bytes told r h = h
task_given forbids loopless facts (Bench recipe form) src met bytes told r h = h

module _ (forbids : FaultForbids) (loopless : AcyclicIsLoopless) (facts : SessionFacts) (words : List (List ℕ)) (src src' : SourceState) (diag diag' : SinkState) (task : Task) (asked : IsTask words task) (met : IsMet task src) where
  not_told : (s : Status) → IsTold words src src' diag diag' s → (s ≡ status.Done) ⊎ (s ≡ status.NoMemory)
  not_told s h =
      let r = h.refused in
      let answer : AnswersTask task r.bytes (Err h.refusal) = next_says (Asks words) (λ z. AnswersTask z r.bytes) (asks_one words) task asked (Err h.refusal) r.answer in
      absurd (task_given forbids loopless facts task src met r.bytes r.told h.refusal answer)

pub complete : FaultForbids → AcyclicIsLoopless → SessionFacts → (words : List (List ℕ)) (src src' : SourceState) (out out' diag diag' : SinkState) (s : Status)
    → EndsBy words src src' out out' diag diag' s → Complete words src src' out out' s
complete forbids loopless facts words src src' out out' diag diag' s (is_done is quiet h) task asked met read written = inl is
complete forbids loopless facts words src src' out out' diag diag' s (is_refused before h) task asked met read written = not_told forbids loopless facts words src src' diag diag' task asked met s h
complete forbids loopless facts words src src' out out' diag diag' s (is_unread is before h line) task asked met read written = absurd (read h.rose)
complete forbids loopless facts words src src' out out' diag diag' s (is_cut is h line) task asked met read written = absurd (written h.rose)
complete forbids loopless facts words src src' out out' diag diag' s (no_memory is before line) task asked met read written = inr is
