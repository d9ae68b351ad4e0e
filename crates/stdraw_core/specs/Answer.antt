-- The program's answer to words and the bytes of a file, found in stages.
--   AreAlike words x y               two answers are the same, or both are orientations; HaveOneAnswer: so are any two
--   Asks words                       the task that the words ask for
--   AnswersCommand command g st      what a command answers about a planar st-graph; each has a file of its own
--   AnswersGraph, AnswersFile        the same about a graph, which is tested first, and about the bytes of a file
--   AnswersTask task bytes answer    what is answered to a task: the file is looked at only where it asks for one
--   IsAnswer words bytes answer      an output, or the first refusal
-- Later commands and tests come as further stages or as cases of the last one.
use Rattle.std.specs.Prelude.{◌≡◌, ◌⊎◌, ℕ, ℤ, List, Result, Ok, Err}
use Rattle.st_input.specs.InputGraph.{InputGraph}
use Rattle.st_report.specs.declared.stop.Refusal.{Refusal}
use Rattle.st_report.specs.declared.stop.Refusal.TheVariants.{Words}
use Rattle.st_test.specs.Planar.{StValue}
use Rattle.st_words.specs.declared.words.Command.{Command}
use Rattle.st_words.specs.declared.words.Command.TheVariants.{Query, Test, Draw, Lattice}
use Rattle.st_words.specs.declared.words.Task.{Task}
use Rattle.st_words.specs.declared.words.Task.TheVariants.{File, Check, Orient, Session, Gen, Bench}
use Rattle.st_words.specs.Words.{IsTask, AskOrient}
use Rattle.st_verdict.specs.File.{IsGraphWithin}
use Rattle.st_verdict.specs.Stages.{Then}
use Rattle.st_verdict.specs.Verdict.{IsAccepted}
use Rattle.stdraw_core.specs.Bench.{AnswersBench}
use Rattle.stdraw_core.specs.Checked.{AnswersCheck}
use Rattle.stdraw_core.specs.Drawing.{AnswersDraw}
use Rattle.stdraw_core.specs.Generated.{AnswersGen}
use Rattle.stdraw_core.specs.Lattice.{AnswersLattice}
use Rattle.stdraw_core.specs.Oriented.{AnswersOrient}
use Rattle.stdraw_core.specs.Query.{AnswersQuery}
use Rattle.stdraw_core.specs.Session.{AnswersSession}
use Rattle.stdraw_core.specs.Tested.{AnswersTest}

-- the task that the words ask for; words that are no form of a command are refused
abbrev pub Asks : List (List ℕ) → Result Task Refusal → Type 0
Asks words (Ok task) = IsTask words task
Asks words (Err r) = (r ≡ Words) × ((task : Task) → IsTask words task → ⊥)

-- what the command answers about a planar st-graph
abbrev pub AnswersCommand : Command → InputGraph → StValue → Result (List ℕ) Refusal → Type 0
AnswersCommand (Query pairs) g st answer = AnswersQuery pairs g st answer
AnswersCommand Test g st answer = AnswersTest g st answer
AnswersCommand (Draw form) g st answer = AnswersDraw form g st answer
AnswersCommand (Lattice op from to) g st answer = AnswersLattice op from to g st answer

-- what the command answers to a graph: the graph is tested first
abbrev pub AnswersGraph : Command → InputGraph → Result (List ℕ) Refusal → Type 0
AnswersGraph command g = Then (IsAccepted g) (AnswersCommand command g)

-- what the command answers to a file: its graph comes first
abbrev pub AnswersFile : Command → List ℕ → Result (List ℕ) Refusal → Type 0
AnswersFile command bytes = Then (IsGraphWithin bytes) (AnswersGraph command)

-- what is answered to a task; what is said of a generated graph doesn't depend on the bytes
abbrev pub AnswersTask : Task → List ℕ → Result (List ℕ) Refusal → Type 0
AnswersTask (File command) bytes answer = AnswersFile command bytes answer
AnswersTask Check bytes answer = AnswersCheck bytes answer
AnswersTask (Orient from to) bytes answer = AnswersOrient from to bytes answer
AnswersTask Session bytes answer = AnswersSession bytes answer
AnswersTask (Gen r) bytes answer = AnswersGen r answer
AnswersTask (Bench r form) bytes answer = AnswersBench r form answer

-- the answer to words and bytes: an output, or the first refusal
abbrev pub IsAnswer : List (List ℕ) → List ℕ → Result (List ℕ) Refusal → Type 0
IsAnswer words bytes = Then (Asks words) (λ task. AnswersTask task bytes)

-- the words ask for an orientation
abbrev pub AskToOrient : List (List ℕ) → Type 0
AskToOrient words = (from : ℤ) × (to : ℤ) × AskOrient words from to

-- both answers are outputs
abbrev pub AreOutputs : Result (List ℕ) Refusal → Result (List ℕ) Refusal → Type 0
AreOutputs (Ok _) (Ok _) = Unit {0}
AreOutputs (Ok _) (Err _) = ⊥
AreOutputs (Err _) _ = ⊥

-- Two answers are one and the same; but where the words ask for an orientation, of which there may be several, both may be
-- outputs.
abbrev pub AreAlike : List (List ℕ) → Result (List ℕ) Refusal → Result (List ℕ) Refusal → Type 0
AreAlike words x y = (x ≡ y) ⊎ (AskToOrient words × AreOutputs x y)

-- Two answers to the same words and bytes are alike: the status and the line are the same, and so is the output of all but an
-- orientation.
abbrev pub HaveOneAnswer : Type 0
HaveOneAnswer = (words : List (List ℕ)) (bytes : List ℕ) (x y : Result (List ℕ) Refusal) → IsAnswer words bytes x → IsAnswer words bytes y → AreAlike words x y
