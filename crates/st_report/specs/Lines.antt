-- How a run ends: the status of each refusal, the numbers of the statuses, and the lines that say why.
--   status_of, code_of    the status of a refusal; its number
--   line_of               the line of a refusal; stop_line that of any end but Done
--   numbered              a text, a number in decimal, a text
--   spaced, names_line    a space and the name, for each of the names; these and the end of the line
use Rattle.std.specs.Prelude.{ℕ, ℤ, pos, Bool, true, false, List, [], ◌∷◌, codes, ◌++◌}
use Rattle.std.specs.Fmt.{signed_decimal}
use Rattle.st_ids.specs.declared.limits.TheConstants.{MOST_BYTES, MOST_VERTICES, MOST_EDGES, MOST_RECORDS}
use Rattle.gml_core.specs.declared.fault.GmlFault.{GmlFault}
use Rattle.gml_core.specs.declared.fault.GmlFault.TheVariants as gml
use Rattle.st_input.specs.declared.fault.ShapeFault.{ShapeFault}
use Rattle.st_input.specs.declared.fault.ShapeFault.TheVariants as shape
use Rattle.st_shape.specs.declared.picture.Fault.{Fault}
use Rattle.st_shape.specs.declared.picture.Fault.TheVariants as fault
use Rattle.st_ids.specs.declared.limits.TheConstants.{MOST_DRAWING_BYTES}
use Rattle.st_report.specs.declared.stop.Status.{Status}
use Rattle.st_report.specs.declared.stop.Status.TheVariants as status
use Rattle.st_report.specs.declared.stop.NotSt.TheVariants as not_st
use Rattle.st_report.specs.declared.stop.NotSt.{NotSt as Why}
use Rattle.st_report.specs.declared.stop.BadPath.{BadPath}
use Rattle.st_report.specs.declared.stop.BadPath.TheVariants as bad_path
use Rattle.st_report.specs.declared.stop.NoOrientation.{NoOrientation as Unoriented}
use Rattle.st_report.specs.declared.stop.NoOrientation.TheVariants as orientation
use Rattle.st_report.specs.declared.stop.BadEdit.{BadEdit}
use Rattle.st_report.specs.declared.stop.BadEdit.TheVariants as edit
use Rattle.st_report.specs.declared.stop.Refusal.{Refusal}
use Rattle.st_report.specs.declared.stop.Refusal.TheVariants.{Words, TooManyBytes, Gml, Shape, NotSt, Path, UnknownVertex, TooLongDrawing, Eps, NotClean, NoOrientation, BadRecord, TooManyRecords, Edit}
use Rattle.st_report.specs.declared.stop.Stop.{Stop}
use Rattle.st_report.specs.declared.stop.Stop.TheVariants as stop

-- the number that the program ends with
abbrev pub code_of : Status → ℕ
code_of status.Done = 0
code_of status.NotSt = 1
code_of status.Words = 2
code_of status.Gml = 3
code_of status.Limit = 4
code_of status.ReadFault = 5
code_of status.WriteFault = 6
code_of status.NoMemory = 7
code_of status.Path = 8
code_of status.UnknownVertex = 9
code_of status.NotClean = 10
code_of status.Eps = 11
code_of status.Edit = 12
code_of status.NoOrientation = 13

-- a tree with a fault has the status of bad GML, but for the limits
abbrev pub shape_status : ShapeFault → Status
shape_status (shape.TooManyVertices n) = status.Limit
shape_status (shape.TooManyEdges m) = status.Limit
shape_status _ = status.Gml

abbrev pub status_of : Refusal → Status
status_of Words = status.Words
status_of TooManyBytes = status.Limit
status_of (Gml fault) = status.Gml
status_of (Shape fault) = shape_status fault
status_of (NotSt why) = status.NotSt
status_of (Path fault) = status.Path
status_of (UnknownVertex name) = status.UnknownVertex
status_of TooLongDrawing = status.Limit
status_of (Eps line) = status.Eps
status_of (NotClean fault) = status.NotClean
status_of (NoOrientation why) = status.NoOrientation
status_of (BadRecord at) = status.Gml
status_of (TooManyRecords n) = status.Limit
status_of (Edit number fault) = status.Edit

abbrev pub stop_status : Stop → Status
stop_status (stop.Refused refusal) = status_of refusal
stop_status stop.ReadFault = status.ReadFault
stop_status stop.WriteFault = status.WriteFault
stop_status stop.NoMemory = status.NoMemory

-- a text, a number in decimal, a text
abbrev pub numbered : List ℕ → ℤ → List ℕ → List ℕ
numbered head n tail = head ++ (signed_decimal n ++ tail)

abbrev pub placed : List ℕ → ℕ → List ℕ
placed head at = numbered head (pos at) (codes "\n")

abbrev pub gml_line : GmlFault → List ℕ
gml_line (gml.BadByte at) = placed (codes "gml: bad byte at ") at
gml_line (gml.OpenString at) = placed (codes "gml: open string at ") at
gml_line (gml.BadNumber at) = placed (codes "gml: bad number at ") at
gml_line (gml.BigNumber at) = placed (codes "gml: big number at ") at
gml_line (gml.NoValue at) = placed (codes "gml: key without value at ") at
gml_line (gml.Unclosed at) = placed (codes "gml: unclosed list at ") at
gml_line (gml.Stray at) = placed (codes "gml: stray token at ") at
gml_line (gml.TooDeep at) = placed (codes "gml: list too deep at ") at
gml_line gml.NoMemory = codes "no memory\n"

-- how large a graph is that is too large, and the limit
abbrev pub limit_line : ℕ → List ℕ → ℕ → List ℕ
limit_line n middle most = numbered (codes "limit: ") (pos n) middle ++ numbered [] (pos most) (codes "\n")

abbrev pub shape_line : ShapeFault → List ℕ
shape_line shape.NoGraph = codes "gml: no graph\n"
shape_line (shape.SecondGraph at) = placed (codes "gml: second graph at ") at
shape_line (shape.BadKind at) = placed (codes "gml: wrong kind of value at ") at
shape_line (shape.NoId at) = placed (codes "gml: node without id at ") at
shape_line (shape.SameId id) = numbered (codes "gml: node id ") id (codes " twice\n")
shape_line (shape.NoEnd edge) = numbered (codes "gml: edge ") (pos edge) (codes " lacks an end\n")
shape_line (shape.UnknownEnd edge id) = numbered (codes "gml: edge ") (pos edge) (codes " ends at unknown node ") ++ numbered [] id (codes "\n")
shape_line (shape.BadLength at) = placed (codes "gml: bad minlen at ") at
shape_line (shape.SameEdgeId id) = numbered (codes "gml: edge id ") id (codes " twice\n")
shape_line (shape.UnknownEdge at) = placed (codes "gml: unknown edge at ") at
shape_line (shape.BadOuter at) = placed (codes "gml: bad outer at ") at
shape_line (shape.TooManyVertices n) = limit_line n (codes " vertices, at most ") MOST_VERTICES
shape_line (shape.TooManyEdges m) = limit_line m (codes " edges, at most ") MOST_EDGES
shape_line shape.NoMemory = codes "no memory\n"

-- a space and the name, for each of the names
abbrev pub spaced : List ℤ → List ℕ
spaced [] = []
spaced (n ∷ names) = numbered (codes " ") n [] ++ spaced names

-- the names, each behind a space, and the end of the line
abbrev pub names_line : List ℤ → List ℕ
names_line names = spaced names ++ codes "\n"

abbrev pub cycle_line : List ℤ → List ℕ
cycle_line names = codes "not st: cycle:" ++ names_line names

-- how many, and the first two
abbrev pub several_line : ℕ → List ℕ → ℤ → ℤ → List ℕ
several_line count head first second = numbered (codes "not st: ") (pos count) head ++ (numbered [] first (codes " and ") ++ numbered [] second (codes "\n"))

-- how many vertices, edges and faces
abbrev pub faces_line : ℕ → ℕ → ℕ → List ℕ
faces_line v e f = numbered (codes "not st: faces: ") (pos v) (codes " vertices, ") ++ (numbered [] (pos e) (codes " edges, ") ++ numbered [] (pos f) (codes " faces\n"))

-- which of the poles the outer face misses
abbrev pub missed : Bool → Bool → List ℕ
missed a false = codes "not st: outer face misses the source\n"
missed false true = codes "not st: outer face misses the sink\n"
missed true true = codes "not st: outer face misses the source and the sink\n"

abbrev pub not_st_line : Why → List ℕ
not_st_line (not_st.TooFew n) = placed (codes "not st: too few vertices: ") n
not_st_line (not_st.Cycle names) = cycle_line names
not_st_line (not_st.Sources first second count) = several_line count (codes " sources, the first ") first second
not_st_line (not_st.Sinks first second count) = several_line count (codes " sinks, the first ") first second
not_st_line (not_st.BadOrder vertex) = numbered (codes "not st: order at vertex ") vertex (codes "\n")
not_st_line (not_st.BadFaces v e f) = faces_line v e f
not_st_line (not_st.Outer a b) = missed a b

-- which path, and what is wrong with it
abbrev pub path_line : BadPath → List ℕ
path_line (bad_path.UnknownEdge path name) = numbered (codes "path: ") (pos path) (codes " names unknown edge ") ++ numbered [] name (codes "\n")
path_line (bad_path.NotAPath path) = numbered (codes "path: ") (pos path) (codes " is no directed path\n")
path_line (bad_path.SharedEdge path edge) = numbered (codes "path: ") (pos path) (codes " shares edge ") ++ numbered [] edge (codes "\n")
path_line (bad_path.Crossing path other vertex) = numbered (codes "path: ") (pos path) (codes " crosses path ") ++ (numbered [] (pos other) (codes " at vertex ") ++ numbered [] vertex (codes "\n"))

-- which items of a drawing are at fault, by their places from 0
abbrev pub fault_line : Fault → List ℕ
fault_line (fault.Alone item) = placed (codes "not clean: item ") item
fault_line (fault.Pair first second) = numbered (codes "not clean: items ") (pos first) (codes " and ") ++ numbered [] (pos second) (codes "\n")
fault_line fault.Area = codes "not clean: area\n"

-- why a graph has no orientation with its poles
abbrev pub orientation_line : Unoriented → List ℕ
orientation_line orientation.OnePole = codes "no orientation: one vertex for both poles\n"
orientation_line (orientation.Loop edge) = numbered (codes "no orientation: edge ") edge (codes " is a loop\n")
orientation_line (orientation.Apart vertex) = numbered (codes "no orientation: vertex ") vertex (codes " is apart\n")
orientation_line (orientation.Cut cut apart) = numbered (codes "no orientation: vertex ") cut (codes " cuts off vertex ") ++ numbered [] apart (codes "\n")

-- why an edit is refused: of a cycle the head comes before the tail
abbrev pub bad_edit_line : BadEdit → List ℕ
bad_edit_line (edit.UsedVertex name) = numbered (codes "vertex name ") name (codes " is used\n")
bad_edit_line (edit.UsedEdge name) = numbered (codes "edge name ") name (codes " is used\n")
bad_edit_line (edit.UnknownVertex name) = numbered (codes "unknown vertex ") name (codes "\n")
bad_edit_line (edit.UnknownEdge name) = numbered (codes "unknown edge ") name (codes "\n")
bad_edit_line edit.Loop = codes "tail and head are one vertex\n"
bad_edit_line (edit.NotAt edge vertex) = numbered (codes "edge ") edge (codes " is not at vertex ") ++ numbered [] vertex (codes "\n")
bad_edit_line edit.OuterCorner = codes "corner in the outer face\n"
bad_edit_line (edit.Cycle tail head) = numbered (codes "vertex ") head (codes " reaches vertex ") ++ numbered [] tail (codes "\n")
bad_edit_line edit.OtherFace = codes "corners in two faces\n"
bad_edit_line (edit.Source vertex) = numbered (codes "leaves a source at vertex ") vertex (codes "\n")
bad_edit_line (edit.Sink vertex) = numbered (codes "leaves a sink at vertex ") vertex (codes "\n")

-- the number of the refused record, and why
abbrev pub edit_line : ℕ → BadEdit → List ℕ
edit_line number fault = numbered (codes "record ") (pos number) (codes ": ") ++ bad_edit_line fault

-- a file with more bytes than a limit
abbrev pub too_long_line : ℕ → List ℕ
too_long_line most = numbered (codes "limit: more than ") (pos most) (codes " bytes\n")

abbrev pub line_of : Refusal → List ℕ
line_of Words = codes "words: not a command of stdraw\n"
line_of TooManyBytes = too_long_line MOST_BYTES
line_of (Gml fault) = gml_line fault
line_of (Shape fault) = shape_line fault
line_of (NotSt why) = not_st_line why
line_of (Path fault) = path_line fault
line_of (UnknownVertex name) = numbered (codes "unknown vertex: ") name (codes "\n")
line_of TooLongDrawing = too_long_line MOST_DRAWING_BYTES
line_of (Eps line) = placed (codes "eps: bad line ") line
line_of (NotClean fault) = fault_line fault
line_of (NoOrientation why) = orientation_line why
line_of (BadRecord at) = placed (codes "gml: bad record at ") at
line_of (TooManyRecords n) = limit_line n (codes " records, at most ") MOST_RECORDS
line_of (Edit number fault) = edit_line number fault

abbrev pub stop_line : Stop → List ℕ
stop_line (stop.Refused refusal) = line_of refusal
stop_line stop.ReadFault = codes "read fault\n"
stop_line stop.WriteFault = codes "write fault\n"
stop_line stop.NoMemory = codes "no memory\n"
