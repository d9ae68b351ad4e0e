-- Which refusals the stages of a file give, and what they say of the file.
use Rattle.std.proofs.Common.{◌≡◌, ℕ, ◌∙◌, List, inl, inr, subst, sym}
use Rattle.std.specs.Prelude.{◌⊎◌, Ok, Err}
use Rattle.gml_core.specs.declared.fault.GmlFault.{GmlFault}
use Rattle.st_input.specs.InputGraph.{InputGraph}
use Rattle.st_input.specs.declared.fault.ShapeFault.{ShapeFault}
use Rattle.st_input.specs.declared.fault.ShapeFault.TheVariants as shape
use Rattle.st_report.specs.declared.stop.NotSt.{NotSt}
use Rattle.st_report.specs.declared.stop.NotSt.TheVariants.{BadOrder}
use Rattle.st_report.specs.declared.stop.Refusal.{Refusal}
use Rattle.st_report.specs.declared.stop.Refusal.TheVariants as refusal
use Rattle.st_report.specs.declared.stop.Stop.{Stop}
use Rattle.st_report.specs.declared.stop.Stop.TheVariants as stop
use Rattle.st_verdict.specs.File.{IsGraphIn}
use Rattle.st_verdict.specs.Stages.{refuses, goes_on}
use Rattle.st_verdict.specs.Stops.{IsStop}
use Rattle.st_verdict.specs.Verdict.{IsAccepted, file_vertex_name}
use Rattle.st_callers.specs.Accepted.{IsReceived, HasVerdict, upload_at, upload_of}

-- a file without a graph has a fault of its text or of its tree
of_file : (bytes : List ℕ) (r : Refusal) → IsGraphIn bytes (Err r) → ((f : GmlFault) × (r ≡ refusal.Gml f)) ⊎ ((f : ShapeFault) × (r ≡ refusal.Shape f))
of_file bytes r (refuses r' told e) = inl (told.fault, cc (e, told.is))
of_file bytes r (goes_on tree is told) = inr (told.fault, told.is)

-- a graph that isn't accepted fails one of the tests
of_graph : (g : InputGraph) (r : Refusal) → IsAccepted g (Err r) → (why : NotSt) × (r ≡ refusal.NotSt why)
of_graph g r (refuses r' told e) = (told.fault, cc (e, told.is))
of_graph g r (goes_on p is (refuses r' told e)) = (BadOrder (file_vertex_name g told.fault.0), cc (e, told.is))
of_graph g r (goes_on p is (goes_on m map told)) = (told.fault, told.is)

bad_graph : (bytes : List ℕ) (f : ShapeFault) → IsGraphIn bytes (Err (refusal.Shape f)) → IsReceived bytes (upload_of (refusal.Shape f))
bad_graph bytes (shape.TooManyVertices n) h = h
bad_graph bytes (shape.TooManyEdges m) h = h
bad_graph bytes f h = (h, λ k. elim k [ inl k ↦ absurd (cc (k.1)) | inr k ↦ absurd (cc (k.1)) ])

-- bytes without a graph
pub no_graph : (bytes : List ℕ) (s : Stop) → IsStop (IsGraphIn bytes) s → IsReceived bytes (upload_at s)
no_graph bytes (stop.Refused r) h = elim (of_file bytes r h) [
  | inl (f, e) ↦ subst (λ z. IsReceived bytes (upload_of z)) (sym e) (subst (λ z. IsGraphIn bytes (Err z)) e h)
  | inr (f, e) ↦ subst (λ z. IsReceived bytes (upload_of z)) (sym e) (bad_graph bytes f (subst (λ z. IsGraphIn bytes (Err z)) e h))
]
no_graph bytes stop.ReadFault h = tt
no_graph bytes stop.WriteFault h = tt
no_graph bytes stop.NoMemory h = tt

-- bytes with a graph that isn't accepted
pub no_planar_graph : (bytes : List ℕ) (g : InputGraph) → IsGraphIn bytes (Ok g) → (s : Stop) → IsStop (IsAccepted g) s → IsReceived bytes (upload_at s)
no_planar_graph bytes g read (stop.Refused r) h =
    let why = of_graph g r h in
    subst (λ z. IsReceived bytes (upload_of z)) (sym why.1) (record { graph = g; read = read; verdict = subst (λ z. IsAccepted g (Err z)) why.1 h })
no_planar_graph bytes g read stop.ReadFault h = tt
no_planar_graph bytes g read stop.WriteFault h = tt
no_planar_graph bytes g read stop.NoMemory h = tt
