-- When a run must succeed.
-- Letters: g graph of the file, st planar st-graph.
--   Fits command g st       what the command asks beside a planar st-graph: that each name in the words is that of a vertex, and
--                           that the paths are valid in the form that looks at them
--   IsFitFile command left  the bytes that are left are those of a planar st-graph within the limits that fits the command
--   HasCleanFile left       the bytes that are left are those of a clean drawing
--   IsFitForPoles from to left  the bytes that are left are those of a graph that has an orientation with the poles of these names
--   HasFitScript left       the bytes that are left are those of a planar st-graph with records that can all be carried out
--   IsMet task source       the source has what the task asks; a generated graph asks for nothing
--   Complete                words of a form, a file that meets what the command asks, and no fault of source or output:
--                           Done, or want of memory
use Rattle.std.specs.Prelude.{◌≡◌, ℕ, ◌⊎◌, ℤ, List, [], ◌∷◌, Some, Ok}
use Rattle.std.specs.declared.option.Option.{Option}
use Rattle.st_input.specs.InputGraph.{InputGraph}
use Rattle.st_port.specs.Faults.{Rose}
use Rattle.st_port.specs.Streams.{SourceState, SinkState}
use Rattle.st_report.specs.declared.stop.Status.{Status}
use Rattle.st_report.specs.declared.stop.Status.TheVariants.{Done, NoMemory}
use Rattle.st_shape.specs.Rules.{Drawing}
use Rattle.st_test.specs.Planar.{StValue}
use Rattle.st_words.specs.declared.words.Command.{Command}
use Rattle.st_words.specs.declared.words.Command.TheVariants.{Query, Test, Draw, Lattice}
use Rattle.st_words.specs.declared.words.Task.{Task}
use Rattle.st_words.specs.declared.words.Task.TheVariants.{File, Check, Orient, Session, Gen, Bench}
use Rattle.st_words.specs.Words.{IsTask}
use Rattle.st_verdict.specs.File.{IsGraphWithin}
use Rattle.st_script.specs.declared.items.ScriptItem.{ScriptItem}
use Rattle.st_session.specs.Runs.{Runs}
use Rattle.st_session.specs.States.{SessionValue}
use Rattle.st_session.specs.declared.reply.Reply.{Reply}
use Rattle.stdraw_core.specs.Headline.{IsPlanarFile, IsCleanFile, IsOrientable, IsScriptFile}
use Rattle.stdraw_core.specs.Paths.{HasValidPaths}
use Rattle.stdraw_core.specs.Query.{AreKnown, names_of}
use Rattle.stdraw_core.specs.Session.{calls_of, first_value}

-- what the command asks beside a planar st-graph
abbrev pub Fits : Command → InputGraph → StValue → Type 0
Fits (Query pairs) g st = AreKnown g (names_of pairs)
Fits Test g st = Unit {0}
Fits (Draw form) g st = HasValidPaths form g st
Fits (Lattice op from to) g st = AreKnown g (from ∷ to ∷ [])

-- the bytes that are left are those of a planar st-graph within the limits that fits the command
pub record IsFitFile (command : Command) (left : Option (List ℕ)) : Type 0 where
  pub bytes : List ℕ
  pub told : left ≡ Some bytes
  pub g : InputGraph
  pub st : StValue
  pub file : IsPlanarFile bytes g st
  pub fits : Fits command g st

-- the bytes that are left are those of a clean drawing
pub record HasCleanFile (left : Option (List ℕ)) : Type 0 where
  pub bytes : List ℕ
  pub told : left ≡ Some bytes
  pub d : Drawing
  pub file : IsCleanFile bytes d

-- the bytes that are left are those of a graph within the limits that has an orientation with the poles of these names
pub record IsFitForPoles (from to : ℤ) (left : Option (List ℕ)) : Type 0 where
  pub bytes : List ℕ
  pub told : left ≡ Some bytes
  pub g : InputGraph
  pub graph : IsGraphWithin bytes (Ok g)
  pub orientable : IsOrientable from to g

-- the bytes that are left are those of a planar st-graph within the limits, and its records can all be carried out
pub record HasFitScript (left : Option (List ℕ)) : Type 0 where
  pub bytes : List ℕ
  pub told : left ≡ Some bytes
  pub g : InputGraph
  pub st : StValue
  pub items : List ScriptItem
  pub file : IsScriptFile bytes g st items
  pub replies : List Reply
  pub last : SessionValue
  pub runs : Runs (first_value g st) (calls_of items) replies last

-- the source has what the task asks; for a generated graph it need not even tell its bytes
abbrev pub IsMet : Task → SourceState → Type 0
IsMet (File command) src = IsFitFile command src.left
IsMet Check src = HasCleanFile src.left
IsMet (Orient from to) src = IsFitForPoles from to src.left
IsMet Session src = HasFitScript src.left
IsMet (Gen r) src = Unit {0}
IsMet (Bench r form) src = Unit {0}

-- Where the words ask for the task, the source has what it asks, and neither the source nor the output had a fault, the run is
-- done or memory ran out.
abbrev pub Complete : List (List ℕ) → SourceState → SourceState → SinkState → SinkState → Status → Type 0
Complete words src src' out out' s = (task : Task) → IsTask words task → IsMet task src
    → ¬ Rose src.faults src'.faults → ¬ Rose out.faults out'.faults → (s ≡ Done) ⊎ (s ≡ NoMemory)
