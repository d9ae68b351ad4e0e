-- What the bytes of a file are received as.
--   HasVerdict bytes answer   the bytes have a graph, and this is the verdict on it
--   IsOverLimit fault         the fault is too many vertices or edges
--   IsReceived bytes upload   a planar st-graph, or the first reason why not
-- Bytes have one graph or one first fault, and a graph has one verdict (`st_verdict::laws`): so each case comes exactly where
-- it holds, but for want of memory.
use Rattle.std.specs.Prelude.{◌≡◌, ◌⊎◌, ℕ, ◌<◌, List, length, Result, Ok, Err}
use Rattle.st_ids.specs.declared.limits.TheConstants.{MOST_BYTES}
use Rattle.st_input.specs.InputGraph.{InputGraph}
use Rattle.st_input.specs.declared.fault.ShapeFault.{ShapeFault}
use Rattle.st_input.specs.declared.fault.ShapeFault.TheVariants as shape
use Rattle.st_report.specs.declared.stop.Refusal.{Refusal}
use Rattle.st_report.specs.declared.stop.Refusal.TheVariants as refusal
use Rattle.st_report.specs.declared.stop.Stop.{Stop}
use Rattle.st_report.specs.declared.stop.Stop.TheVariants as stop
use Rattle.st_test.specs.Planar.{StValue}
use Rattle.st_verdict.specs.File.{IsGraphIn}
use Rattle.st_verdict.specs.Verdict.{IsAccepted}
use Rattle.st_callers.specs.declared.accepted.Upload.{Upload}
use Rattle.st_callers.specs.declared.accepted.Upload.TheVariants.{Graph, NotGml, NoGraph, TooLong, TooManyVertices, TooManyEdges, NotPlanar, NoMemory}

-- the bytes have a graph, and this is the verdict on it
pub record HasVerdict (bytes : List ℕ) (answer : Result StValue Refusal) : Type 0 where
  pub graph : InputGraph
  pub read : IsGraphIn bytes (Ok graph)
  pub verdict : IsAccepted graph answer

-- the fault is too many vertices or edges
abbrev pub IsOverLimit : ShapeFault → Type 0
IsOverLimit fault = ((n : ℕ) × (fault ≡ shape.TooManyVertices n)) ⊎ ((m : ℕ) × (fault ≡ shape.TooManyEdges m))

-- what a refused file is
abbrev pub upload_of : Refusal → Upload
upload_of (refusal.Gml fault) = NotGml fault
upload_of (refusal.Shape (shape.TooManyVertices n)) = TooManyVertices n
upload_of (refusal.Shape (shape.TooManyEdges m)) = TooManyEdges m
upload_of (refusal.Shape fault) = NoGraph fault
upload_of (refusal.NotSt why) = NotPlanar why
upload_of _ = NoMemory

-- what a file is at which a call stops
abbrev pub upload_at : Stop → Upload
upload_at (stop.Refused refusal) = upload_of refusal
upload_at _ = NoMemory

-- a planar st-graph, or the first reason why not
abbrev pub IsReceived : List ℕ → Upload → Type 0
IsReceived bytes (Graph st) = HasVerdict bytes (Ok st)
IsReceived bytes (NotGml fault) = IsGraphIn bytes (Err (refusal.Gml fault))
IsReceived bytes (NoGraph fault) = IsGraphIn bytes (Err (refusal.Shape fault)) × (IsOverLimit fault → ⊥)
IsReceived bytes TooLong = MOST_BYTES < length bytes
IsReceived bytes (TooManyVertices n) = IsGraphIn bytes (Err (refusal.Shape (shape.TooManyVertices n)))
IsReceived bytes (TooManyEdges m) = IsGraphIn bytes (Err (refusal.Shape (shape.TooManyEdges m)))
IsReceived bytes (NotPlanar why) = HasVerdict bytes (Err (refusal.NotSt why))
IsReceived bytes NoMemory = Unit {0}
