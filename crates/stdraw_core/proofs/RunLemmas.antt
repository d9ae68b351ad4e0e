-- What a run does with an answer.
use Rattle.std.proofs.Common.{◌≡◌, ◌≢◌, ℕ, ◌+◌, ◌<◌, ◌≤◌, ℤ, List, ◌++◌, [], ◌∷◌, length, Some, None, refl, sym, ap, ◌∙◌, subst, arith, length-append, append-nil}
use Rattle.std.specs.Prelude.{Result, Ok, Err, IfOk, IfSome, IsErrOf, IsTrue}
use Rattle.std.specs.declared.option.Option.{Option}
use Rattle.std.specs.Io.KnownBytes.{Consumes, IsAtEnd}
use Rattle.std.proofs.KnownBytes.{Consumes-kept}
use Rattle.gml_core.specs.declared.fault.GmlFault.{GmlFault}
use Rattle.gml_core.specs.Reading.{IsFirstFault}
use Rattle.st_ids.specs.declared.limits.TheConstants.{MOST_BYTES, MOST_EDGES, MOST_VERTICES}
use Rattle.st_ids.specs.declared.ids.VertexId.{VertexId}
use Rattle.st_map.specs.Fault.{IsMapFault}
use Rattle.st_map.specs.declared.orders.MapFault.TheVariants as map_fault
use Rattle.st_port.specs.Faults.{Faults, Rose}
use Rattle.st_port.specs.Streams.{SourceState, SinkState, Gains, GainsFront}
use Rattle.st_port.specs.Reading.{Reads}
use Rattle.st_port.specs.declared.port.ReadEnd.{ReadEnd}
use Rattle.st_port.specs.declared.port.ReadEnd.TheVariants as read
use Rattle.st_input.specs.FirstFault.{shape_fault}
use Rattle.st_input.specs.InputGraph.{InputGraph}
use Rattle.st_input.specs.declared.fault.ShapeFault.{ShapeFault}
use Rattle.st_input.specs.declared.fault.ShapeFault.TheVariants as shape
use Rattle.st_words.specs.declared.words.Command.{Command}
use Rattle.st_words.specs.declared.words.Command.TheVariants.{Query, Test, Draw, Lattice}
use Rattle.st_words.specs.declared.words.DrawForm.{DrawForm}
use Rattle.st_words.specs.declared.words.DrawForm.TheVariants.{Visibility, Tessellation, Constrained, Polyline, Dominance}
use Rattle.st_report.specs.declared.stop.BadEdit.{BadEdit}
use Rattle.st_report.specs.declared.stop.BadPath.{BadPath}
use Rattle.st_report.specs.declared.stop.NoOrientation.{NoOrientation as unoriented}
use Rattle.st_report.specs.declared.stop.NoOrientation.TheVariants.{OnePole, Loop, Apart, Cut}
use Rattle.st_report.specs.declared.stop.NotSt.{NotSt as not_st}
use Rattle.st_report.specs.declared.stop.NotSt.TheVariants.{BadOrder, BadFaces, Outer}
use Rattle.st_report.specs.declared.stop.Refusal.{Refusal}
use Rattle.st_report.specs.declared.stop.Refusal.TheVariants.{Words, TooManyBytes, Gml, Shape, NotSt, Path, UnknownVertex, TooLongDrawing, Eps, NotClean, NoOrientation, BadRecord, TooManyRecords, Edit}
use Rattle.st_report.specs.declared.stop.Status.TheVariants as status
use Rattle.st_report.specs.declared.stop.Stop.{Stop}
use Rattle.st_report.specs.declared.stop.Stop.TheVariants.{Refused, ReadFault, WriteFault, NoMemory}
use Rattle.st_report.specs.Lines.{status_of, stop_line, stop_status}
use Rattle.st_report.specs.Telling.{Tells}
use Rattle.st_test.specs.Planar.{StValue}
use Rattle.st_words.specs.declared.words.Task.{Task}
use Rattle.st_words.specs.declared.words.Task.TheVariants.{File, Check, Orient, Session, Gen, Bench}
use Rattle.st_words.specs.Words.{IsCommand, IsTask, IsFileless, HasOneTask}
use Rattle.st_verdict.specs.File.{IsFew, IsTree, IsGraph, IsGraphIn, IsGraphWithin}
use Rattle.st_verdict.specs.Stages.{Then, refuses, goes_on, IsToldBy}
use Rattle.st_verdict.specs.Stops.{Gives, StopsAt}
use Rattle.st_verdict.specs.Verdict.{HasPoles, HasNoPoles, HasMap, IsPlanar, IsNotPlanar, IsAccepted, file_vertex_name, file_edge_name}
use Rattle.stdraw_core.specs.Answer.{AnswersCommand, AnswersGraph, AnswersTask}
use Rattle.stdraw_core.specs.Drawing.{AnswersDraw}
use Rattle.st_bipolar.specs.declared.orienting.OrientFault.{OrientFault}
use Rattle.st_bipolar.specs.declared.orienting.OrientFault.TheVariants as orient_fault
use Rattle.stdraw_core.specs.Oriented.{ArePolesNamed, AreTwo, IsFirstLoop, IsLoopless, TellsOrient, AnswersPlane, AnswersPoles, AnswersGraphOriented}
use Rattle.stdraw_core.specs.Paths.{IsBadPath}
use Rattle.stdraw_core.specs.Query.{IsFirstUnknown, names_of}
use Rattle.stdraw_core.specs.Run.{most_bytes, TakesAtMost, TakesFew, IsFailedRead, Leaves, HasReadInput, IsReadAs, HasNoGraph, Finds, IsReady, IsRefusedWith, Decides, EndsBy, is_done, is_refused, is_unread, is_cut, no_memory}

-- ---- what was read
-- the bytes that are answered, where these were taken
pub record AreRead (old new : Option (List ℕ)) (taken : List ℕ) : Type 0 where
  pub bytes : List ℕ
  pub told : IfSome old (λ left. left ≡ bytes)
  pub most : length taken ≤ length bytes
  pub whole : IsAtEnd new → taken ≡ bytes

pub read_bytes : (old new : Option (List ℕ)) (taken : List ℕ) → Consumes old new taken → AreRead old new taken
read_bytes None new taken h = record { bytes = taken; told = tt; most = omega arith; whole = λ e. refl }
read_bytes (Some xs) None taken h = absurd h
read_bytes (Some xs) (Some ys) taken h = record {
  bytes = xs;
  told = refl;
  most = omega (arith, ap length h, length-append taken ys);
  whole = λ e. sym (h ∙ ap (λ l. taken ++ l) e ∙ append-nil taken);
}

some_bytes : (old : Option (List ℕ)) → (bytes : List ℕ) × IfSome old (λ left. left ≡ bytes)
some_bytes None = ([], tt)
some_bytes (Some xs) = (xs, refl)

-- nothing was taken
pub takes_none : (words : List (List ℕ)) (old : Option (List ℕ)) → TakesFew words old old
takes_none words None = λ task asked. record { taken = []; consumed = tt; few = omega arith }
takes_none words (Some xs) = λ task asked. record { taken = []; consumed = refl; few = omega arith }

-- what was taken for the one task of the words
pub takes_few : HasOneTask → (words : List (List ℕ)) (task : Task) → IsTask words task → (old new : Option (List ℕ)) → TakesAtMost (most_bytes task + 4096) old new → TakesFew words old new
takes_few one words task is old new h = λ other asked. subst (λ z. TakesAtMost (most_bytes z + 4096) old new) (one words task other is asked) h

-- however the reading ended
pub takes_at_most : {S A : Type 0} (state : S → SourceState) (old new : S) (limit : ℕ) (made : A → List ℕ → Type 0) (result : Result A ReadEnd) → Reads state old new limit made result → TakesAtMost (limit + 4096) (state old).left (state new).left
takes_at_most state old new limit made (Ok v) h = record { taken = h.taken; consumed = subst (λ z. Consumes (state old).left (state z).left h.taken) (sym h.ends.0) h.takes.consumed; few = omega (arith, h.ends.3) }
takes_at_most state old new limit made (Err read.Failed) h = record { taken = h.taken; consumed = Consumes-kept (state old).left (state h.near).left (state new).left h.taken h.takes.consumed h.ends.0; few = omega (arith, h.ends.2) }
takes_at_most state old new limit made (Err read.TooLong) h = record { taken = h.taken; consumed = subst (λ z. Consumes (state old).left (state z).left h.taken) (sym h.ends.0) h.takes.consumed; few = h.ends.2 }
takes_at_most state old new limit made (Err read.NoMemory) h = record { taken = h.taken; consumed = subst (λ z. Consumes (state old).left (state z).left h.taken) (sym h.ends.0) h.takes.consumed; few = h.ends.1 }

-- a failed read, whatever was made of the bytes before it
pub failed_read : {S A : Type 0} (state : S → SourceState) (old new : S) (limit : ℕ) (made : A → List ℕ → Type 0) → Reads state old new limit made (Err read.Failed) → IsFailedRead limit (state old) (state new)
failed_read state old new limit made h = record { taken = h.taken; near = state h.near; takes = h.takes; ends = h.ends }

pub failed_rose : (old new : SourceState) (limit : ℕ) → IsFailedRead limit old new → Rose old.faults new.faults
failed_rose old new limit h = subst (λ (z : Faults). Rose z new.faults) h.takes.quiet h.ends.1

-- ---- refusals that a stage never gives
abbrev pub NeverGives : {A : Type 0} → Refusal → (Result A Refusal → Type 0) → Type 0
NeverGives r P = P (Err r) → ⊥

same_refusal : {A : Type 0} (r s : Refusal) → (let e : Result A Refusal = Err r in e) ≡ Err s → r ≡ s
same_refusal r s h = cc

pub never_then : {A B : Type 0} (r : Refusal) (first : Result A Refusal → Type 0) (next : A → Result B Refusal → Type 0) → NeverGives r first → ((a : A) → NeverGives r (next a)) → NeverGives r (Then first next)
never_then {A} {B} r first next no_first no_next (refuses s h e) = no_first (subst (λ z. first (Err z)) (sym (same_refusal {A = B} r s e)) h)
never_then r first next no_first no_next (goes_on a h g) = no_next a g

pub never_told : {F : Type 0} (make : F → Refusal) (P : F → Type 0) (r : Refusal) → ((f : F) → r ≢ make f) → IsToldBy make P r → ⊥
never_told make P r other h = other h.fault h.is

-- a refusal before the tree is looked at
pub record IsEarly (r : Refusal) : Type 0 where
  pub gml : (f : GmlFault) → r ≢ Gml f
  pub shape : (f : ShapeFault) → r ≢ Shape f
  pub not_st : (why : not_st) → r ≢ NotSt why
  pub path : (why : BadPath) → r ≢ Path why
  pub unknown : (n : ℤ) → r ≢ UnknownVertex n
  pub oriented : (why : unoriented) → r ≢ NoOrientation why
  pub bad : (at : ℕ) → r ≢ BadRecord at
  pub many : (n : ℕ) → r ≢ TooManyRecords n
  pub edit : (k : ℕ) (f : BadEdit) → r ≢ Edit k f

pub words_early : IsEarly Words
words_early = record { gml = λ f e. cc; shape = λ f e. cc; not_st = λ why e. cc; path = λ why e. cc; unknown = λ n e. cc; oriented = λ why e. cc; bad = λ at e. cc; many = λ n e. cc; edit = λ k f e. cc }

pub drawing_early : IsEarly TooLongDrawing
drawing_early = record { gml = λ f e. cc; shape = λ f e. cc; not_st = λ why e. cc; path = λ why e. cc; unknown = λ n e. cc; oriented = λ why e. cc; bad = λ at e. cc; many = λ n e. cc; edit = λ k f e. cc }

pub bytes_early : IsEarly TooManyBytes
bytes_early = record { gml = λ f e. cc; shape = λ f e. cc; not_st = λ why e. cc; path = λ why e. cc; unknown = λ n e. cc; oriented = λ why e. cc; bad = λ at e. cc; many = λ n e. cc; edit = λ k f e. cc }

module _ (r : Refusal) (early : IsEarly r) where
  never_in : (bytes : List ℕ) → NeverGives r (IsGraphIn bytes)
  never_in bytes =
      never_then r (IsTree bytes) IsGraph (never_told (λ f. Gml f) (IsFirstFault bytes) r early.gml)
      (λ tree. never_told (λ f. Shape f) (λ f. shape_fault tree MOST_VERTICES MOST_EDGES ≡ Some f) r early.shape)

  pub never_accepted : (g : InputGraph) → NeverGives r (IsAccepted g)
  never_accepted g =
      never_then r (HasPoles g) (λ p. Then (HasMap g) (IsPlanar g p)) (never_told (λ why. NotSt why) (HasNoPoles g) r early.not_st)
      (λ p. never_then r (HasMap g) (IsPlanar g p)
      (never_told (λ (v : VertexId). NotSt (BadOrder (file_vertex_name g v.0))) (λ v. IsMapFault g.graph g.orders (map_fault.BadOrder v)) r (λ v. early.not_st (BadOrder (file_vertex_name g v.0))))
      (λ m. never_told (λ why. NotSt why) (IsNotPlanar g p m) r early.not_st))

  never_drawn : (form : DrawForm) (g : InputGraph) (st : StValue) → NeverGives r (AnswersDraw form g st)
  never_drawn Visibility g st = λ h. h
  never_drawn Tessellation g st = λ h. h
  never_drawn Constrained g st = never_told (λ why. Path why) (IsBadPath g st) r early.path
  never_drawn (Polyline spot) g st = λ h. h
  never_drawn Dominance g st = λ h. h

  never_answered : (command : Command) (g : InputGraph) (st : StValue) → NeverGives r (AnswersCommand command g st)
  never_answered (Query ps) g st = never_told (λ n. UnknownVertex n) (IsFirstUnknown g (names_of ps)) r early.unknown
  never_answered Test g st = λ h. h
  never_answered (Draw form) g st = never_drawn form g st
  never_answered (Lattice op from to) g st = never_told (λ n. UnknownVertex n) (IsFirstUnknown g (from ∷ to ∷ [])) r early.unknown

  never_graph : (command : Command) (g : InputGraph) → NeverGives r (AnswersGraph command g)
  never_graph command g = never_then r (IsAccepted g) (AnswersCommand command g) (never_accepted g) (never_answered command g)

  -- what is told of a fault is none of these
  never_fault : (g : InputGraph) (fault : OrientFault) → TellsOrient g fault r → ⊥
  never_fault g (orient_fault.Apart v) h = early.oriented (Apart (file_vertex_name g v.0)) h
  never_fault g (orient_fault.BadFaces v e f) h = early.not_st (BadFaces v e f) h
  never_fault g (orient_fault.Outer a b) h = early.not_st (Outer a b) h
  never_fault g (orient_fault.Cut c v) h = early.oriented (Cut (file_vertex_name g c.0) (file_vertex_name g v.0)) h
  never_fault g orient_fault.NoMemory h = h

  never_oriented : (from to : ℤ) (g : InputGraph) → NeverGives r (AnswersGraphOriented from to g)
  never_oriented from to g =
      never_then r (ArePolesNamed from to g) (AnswersPoles g) (never_told (λ n. UnknownVertex n) (IsFirstUnknown g (from ∷ to ∷ [])) r early.unknown)
      (λ p. never_then r (AreTwo p) (λ _. Then (IsLoopless g) (λ _. Then (HasMap g) (AnswersPlane g p))) (λ h. early.oriented OnePole h.0)
      (λ _. never_then r (IsLoopless g) (λ _. Then (HasMap g) (AnswersPlane g p)) (never_told (λ e. NoOrientation (Loop (file_edge_name g e))) (IsFirstLoop g.graph) r (λ e. early.oriented (Loop (file_edge_name g e))))
      (λ _. never_then r (HasMap g) (AnswersPlane g p)
      (never_told (λ (v : VertexId). NotSt (BadOrder (file_vertex_name g v.0))) (λ v. IsMapFault g.graph g.orders (map_fault.BadOrder v)) r (λ v. early.not_st (BadOrder (file_vertex_name g v.0))))
      (λ m h. never_fault g h.0 h.2))))

-- ---- what a refusal leaves
-- a refusal of a stage that never refuses for the number of bytes
pub leaves_end : {A : Type 0} (P : Result A Refusal → Type 0) → NeverGives TooManyBytes P → NeverGives TooLongDrawing P → (old new : Option (List ℕ)) → IsAtEnd new → (r : Refusal) → P (Err r) → Leaves r old new
leaves_end P many long old new end Words h = tt
leaves_end P many long old new end TooManyBytes h = absurd (many h)
leaves_end P many long old new end TooLongDrawing h = absurd (long h)
leaves_end P many long old new end (Gml f) h = end
leaves_end P many long old new end (Shape f) h = end
leaves_end P many long old new end (NotSt why) h = end
leaves_end P many long old new end (Path why) h = end
leaves_end P many long old new end (UnknownVertex n) h = end
leaves_end P many long old new end (Eps line) h = end
leaves_end P many long old new end (NotClean fault) h = end
leaves_end P many long old new end (NoOrientation why) h = end
leaves_end P many long old new end (BadRecord at) h = end
leaves_end P many long old new end (TooManyRecords n) h = end
leaves_end P many long old new end (Edit k f) h = end

-- ---- the file
pub length_refused : {S A : Type 0} (state : S → SourceState) (old new : S) (made : A → List ℕ → Type 0) → Reads state old new MOST_BYTES made (Err read.TooLong) → HasNoGraph (state old) (state new) TooManyBytes
length_refused state old new made h =
    let consumed : Consumes (state old).left (state new).left h.taken = subst (λ z. Consumes (state old).left (state z).left h.taken) (sym h.ends.0) h.takes.consumed in
    let b = read_bytes (state old).left (state new).left h.taken consumed in
    let over : MOST_BYTES < length h.taken = h.ends.1 in
    record {
      bytes = b.bytes;
      told = b.told;
      refused = refuses TooManyBytes (refl, let l : MOST_BYTES < length b.bytes = omega (arith, b.most) in l) refl;
      leaves = record { taken = h.taken; consumed = consumed; over = over; most = h.ends.2 };
    }

module _ {S A : Type 0} (state : S → SourceState) (old new : S) (made : A → List ℕ → Type 0) (v : A) (h : Reads state old new MOST_BYTES made (Ok v)) where
  all_read : AreRead (state old).left (state new).left h.taken
  all_read = read_bytes (state old).left (state new).left h.taken (subst (λ z. Consumes (state old).left (state z).left h.taken) (sym h.ends.0) h.takes.consumed)

  within : (answer : Result InputGraph Refusal) → IsGraphIn h.taken answer → IsGraphWithin all_read.bytes answer
  within answer k =
      let few : length h.taken ≤ MOST_BYTES = h.ends.3 in
      let here : IsGraphWithin h.taken answer = goes_on tt few k in
      subst (λ z. IsGraphWithin z answer) (all_read.whole h.ends.1) here

  pub file_found : (result : Result InputGraph Stop) → ((b : List ℕ) → made v b → Gives (IsGraphIn b) result) → Finds (state old) (state new) result
  file_found (Ok g) gives = record { bytes = all_read.bytes; told = all_read.told; graph = within (Ok g) (gives h.taken h.ends.2); end = h.ends.1 }
  file_found (Err (Refused r)) gives = record {
    bytes = all_read.bytes;
    told = all_read.told;
    refused = within (Err r) (gives h.taken h.ends.2);
    leaves = leaves_end (IsGraphIn h.taken) (never_in TooManyBytes bytes_early h.taken) (never_in TooLongDrawing drawing_early h.taken) (state old).left (state new).left h.ends.1 r (gives h.taken h.ends.2);
  }
  file_found (Err ReadFault) gives = absurd (gives h.taken h.ends.2)
  file_found (Err WriteFault) gives = absurd (gives h.taken h.ends.2)
  file_found (Err NoMemory) gives = tt

-- ---- the answer to a file
pub file_stopped : (words : List (List ℕ)) (old new : SourceState) (command : Command) (stop : Stop) → IsCommand words command → Finds old new (Err stop) → Decides words old new (Err stop)
file_stopped words old new command (Refused r) asked h = record { bytes = h.bytes; told = h.told; answer = goes_on (File command) asked (refuses r h.refused refl); leaves = h.leaves }
file_stopped words old new command ReadFault asked h = record { task = File command; asked = asked; on_file = λ off. off; read = h; rose = failed_rose old new MOST_BYTES h }
file_stopped words old new command WriteFault asked h = absurd h
file_stopped words old new command NoMemory asked h = tt

pub file_decided : (words : List (List ℕ)) (old new : SourceState) (command : Command) (g : InputGraph) (result : Result (List ℕ) Stop) → IsCommand words command → IsReadAs old new g → Gives (AnswersGraph command g) result → Decides words old new result
file_decided words old new command g (Ok out) asked h gives = record { bytes = h.bytes; told = h.told; answer = goes_on (File command) asked (goes_on g h.graph gives); task = File command; asked = asked; read = h.end }
file_decided words old new command g (Err (Refused r)) asked h gives = record {
  bytes = h.bytes;
  told = h.told;
  answer = goes_on (File command) asked (goes_on g h.graph gives);
  leaves = leaves_end (AnswersGraph command g) (never_graph TooManyBytes bytes_early command g) (never_graph TooLongDrawing drawing_early command g) old.left new.left h.end r gives;
}
file_decided words old new command g (Err ReadFault) asked h gives = absurd gives
file_decided words old new command g (Err WriteFault) asked h gives = absurd gives
file_decided words old new command g (Err NoMemory) asked h gives = tt

-- the same of an orientation
pub unoriented_stopped : (words : List (List ℕ)) (old new : SourceState) (from to : ℤ) (stop : Stop) → IsTask words (Orient from to) → Finds old new (Err stop) → Decides words old new (Err stop)
unoriented_stopped words old new from to (Refused r) asked h = record { bytes = h.bytes; told = h.told; answer = goes_on (Orient from to) asked (refuses r h.refused refl); leaves = h.leaves }
unoriented_stopped words old new from to ReadFault asked h = record { task = Orient from to; asked = asked; on_file = λ off. off; read = h; rose = failed_rose old new MOST_BYTES h }
unoriented_stopped words old new from to WriteFault asked h = absurd h
unoriented_stopped words old new from to NoMemory asked h = tt

pub oriented_decided : (words : List (List ℕ)) (old new : SourceState) (from to : ℤ) (g : InputGraph) (result : Result (List ℕ) Stop) → IsTask words (Orient from to) → IsReadAs old new g
    → Gives (AnswersGraphOriented from to g) result → Decides words old new result
oriented_decided words old new from to g (Ok out) asked h gives = record { bytes = h.bytes; told = h.told; answer = goes_on (Orient from to) asked (goes_on g h.graph gives); task = Orient from to; asked = asked; read = h.end }
oriented_decided words old new from to g (Err (Refused r)) asked h gives = record {
  bytes = h.bytes;
  told = h.told;
  answer = goes_on (Orient from to) asked (goes_on g h.graph gives);
  leaves = leaves_end (AnswersGraphOriented from to g) (never_oriented TooManyBytes bytes_early from to g) (never_oriented TooLongDrawing drawing_early from to g) old.left new.left h.end r gives;
}
oriented_decided words old new from to g (Err ReadFault) asked h gives = absurd gives
oriented_decided words old new from to g (Err WriteFault) asked h gives = absurd gives
oriented_decided words old new from to g (Err NoMemory) asked h gives = tt

pub same_stop : (s t : Stop) → (let a : Result (List ℕ) Stop = Err s in a) ≡ Err t → s ≡ t
same_stop s t e = cc

-- words of a command are not refused for themselves
pub found_for_words : (old new : SourceState) (stop : Stop) → Finds old new (Err stop) → stop ≡ Refused Words → ⊥
found_for_words old new stop h e = never_within (subst (λ z. Finds old new (Err z)) e h)
  where
    never_within : HasNoGraph old new Words → ⊥
    never_within h = never_then Words (IsFew h.bytes) (λ _. IsGraphIn h.bytes) (λ k. other k.0) (λ u. never_in Words words_early h.bytes) h.refused
      where
        other : Words ≡ TooManyBytes → ⊥
        other e = cc

pub answered_for_words : (command : Command) (g : InputGraph) (result : Result (List ℕ) Stop) → Gives (AnswersGraph command g) result → IsErrOf result (Refused Words) → ⊥
answered_for_words command g (Ok out) gives e = absurd (no_stop e)
  where
    no_stop : (let a : Result (List ℕ) Stop = Ok out in a) ≡ Err (Refused Words) → ⊥
    no_stop e = cc
answered_for_words command g (Err stop) gives e = never_graph Words words_early command g (subst (λ z. Gives (AnswersGraph command g) (Err z)) (same_stop stop (Refused Words) e) gives)

pub oriented_for_words : (from to : ℤ) (g : InputGraph) (result : Result (List ℕ) Stop) → Gives (AnswersGraphOriented from to g) result → IsErrOf result (Refused Words) → ⊥
oriented_for_words from to g (Ok out) gives e = absurd (no_stop e)
  where
    no_stop : (let a : Result (List ℕ) Stop = Ok out in a) ≡ Err (Refused Words) → ⊥
    no_stop e = cc
oriented_for_words from to g (Err stop) gives e = never_oriented Words words_early from to g (subst (λ z. Gives (AnswersGraphOriented from to g) (Err z)) (same_stop stop (Refused Words) e) gives)

-- ---- words that ask for no file
pub words_refused : (words : List (List ℕ)) (old new : SourceState) → ((task : Task) → IsTask words task → ⊥) → IsRefusedWith words old new Words
words_refused words old new none =
    let b = some_bytes old.left in
    record { bytes = b.0; told = b.1; answer = refuses Words (refl, none) refl; leaves = tt }

fileless_given : (task : Task) (bytes : List ℕ) (r : Refusal) → IsFileless task → AnswersTask task bytes (Err r) → ⊥
fileless_given (File command) bytes r off h = off
fileless_given Check bytes r off h = off
fileless_given (Orient from to) bytes r off h = off
fileless_given Session bytes r off h = off
fileless_given (Gen recipe) bytes r off h = h
fileless_given (Bench recipe form) bytes r off h = h

reads_nothing : (task : Task) (s : SourceState) → IsFileless task → HasReadInput task s s
reads_nothing (File command) s off = absurd off
reads_nothing Check s off = absurd off
reads_nothing (Orient from to) s off = absurd off
reads_nothing Session s off = absurd off
reads_nothing (Gen recipe) s off = refl
reads_nothing (Bench recipe form) s off = refl

-- what is answered without a file, whatever bytes there are
pub fileless_decided : (words : List (List ℕ)) (s : SourceState) (task : Task) (result : Result (List ℕ) Stop) → IsTask words task → IsFileless task
    → ((bytes : List ℕ) → Gives (AnswersTask task bytes) result) → Decides words s s result
fileless_decided words s task (Ok out) asked off g =
    let b = some_bytes s.left in
    record { bytes = b.0; told = b.1; answer = goes_on task asked (g b.0); task = task; asked = asked; read = reads_nothing task s off }
fileless_decided words s task (Err (Refused r)) asked off g = absurd (fileless_given task [] r off (g []))
fileless_decided words s task (Err ReadFault) asked off g = absurd (g [])
fileless_decided words s task (Err WriteFault) asked off g = absurd (g [])
fileless_decided words s task (Err NoMemory) asked off g = tt

-- where the words ask for a command on a file, they ask for no generated graph
pub no_fileless : {P : Type 0} → HasOneTask → (words : List (List ℕ)) (command : Command) → IsTask words (File command) → (task : Task) → IsTask words task → IsFileless task → P
no_fileless one words command asked (File c) is off = absurd off
no_fileless one words command asked Check is off = absurd off
no_fileless one words command asked (Orient from to) is off = absurd off
no_fileless one words command asked Session is off = absurd off
no_fileless one words command asked (Gen r) is off = absurd (file_or_not (one words (File command) (Gen r) asked is))
  where
    file_or_not : File command ≡ Gen r → ⊥
    file_or_not e = cc
no_fileless one words command asked (Bench r form) is off = absurd (file_or_not (one words (File command) (Bench r form) asked is))
  where
    file_or_not : File command ≡ Bench r form → ⊥
    file_or_not e = cc

-- ---- the end of a run
pub done : (words : List (List ℕ)) (s s' : SourceState) (out out' d : SinkState) (text : List ℕ) → IsReady words s s' text → Gains out out' text → IsTrue out'.is_flushed → EndsBy words s s' out out' d d status.Done
done words s s' out out' d text ready gains flushed = is_done refl refl (record { text = text; ready = ready; gains = gains; flushed = flushed })

pub cut : (words : List (List ℕ)) (s s' : SourceState) (out out' d d' : SinkState) (text : List ℕ) → IsReady words s s' text → GainsFront out out' text → Rose out.faults out'.faults → Tells d d' (stop_line WriteFault)
    → EndsBy words s s' out out' d d' status.WriteFault
cut words s s' out out' d d' text ready front rose line = is_cut refl (record { text = text; ready = ready; front = front; rose = rose }) line

pub stopped : (words : List (List ℕ)) (s s' : SourceState) (out d d' : SinkState) (stop : Stop) → Decides words s s' (Err stop) → Tells d d' (stop_line stop) → EndsBy words s s' out out d d' (stop_status stop)
stopped words s s' out d d' (Refused r) h line = is_refused refl (record { refusal = r; refused = h; status = refl; line = line })
stopped words s s' out d d' ReadFault h line = is_unread refl refl h line
stopped words s s' out d d' WriteFault h line = absurd h
stopped words s s' out d d' NoMemory h line = no_memory refl refl line

-- a refusal has a status of its own
pub refused_not_done : (r : Refusal) → status_of r ≢ status.Done
refused_not_done Words e = cc
refused_not_done TooManyBytes e = cc
refused_not_done (Gml f) e = cc
refused_not_done (NotSt why) e = cc
refused_not_done (Path why) e = cc
refused_not_done (UnknownVertex n) e = cc
refused_not_done TooLongDrawing e = cc
refused_not_done (Eps line) e = cc
refused_not_done (NotClean fault) e = cc
refused_not_done (NoOrientation why) e = cc
refused_not_done (BadRecord at) e = cc
refused_not_done (TooManyRecords n) e = cc
refused_not_done (Edit k f) e = cc
refused_not_done (Shape shape.NoGraph) e = cc
refused_not_done (Shape (shape.SecondGraph at)) e = cc
refused_not_done (Shape (shape.BadKind at)) e = cc
refused_not_done (Shape (shape.NoId at)) e = cc
refused_not_done (Shape (shape.SameId id)) e = cc
refused_not_done (Shape (shape.NoEnd n)) e = cc
refused_not_done (Shape (shape.UnknownEnd n id)) e = cc
refused_not_done (Shape (shape.BadLength at)) e = cc
refused_not_done (Shape (shape.SameEdgeId id)) e = cc
refused_not_done (Shape (shape.UnknownEdge at)) e = cc
refused_not_done (Shape (shape.BadOuter at)) e = cc
refused_not_done (Shape (shape.TooManyVertices n)) e = cc
refused_not_done (Shape (shape.TooManyEdges m)) e = cc
refused_not_done (Shape shape.NoMemory) e = cc
