-- The written paths, which name their edges.
--   edge_by names name          the number of the edge with a name
--   paths_by names paths        the edges of each path
--   path_name_fault names paths   the first name of the first path that names no edge
--   ArePathsThere g paths       every edge of a path is there
--   PathsFailBy fault result    an error of the call, but for want of memory, is this fault
-- Letters: p the number of a path. The names are those of the edges, by number.
use Rattle.std.specs.Prelude.{◌≡◌, ◌≢◌, ◌<◌, ◌+◌, ℕ, ℤ, List, [], ◌∷◌, map, length, slice_index_or, Option, None, Some, Result, IfErr, if◌then◌else◌, is_some}
use Rattle.std.specs.Option.{unwrap_or}
use Rattle.st_ids.specs.Graph.{Graph}
use Rattle.st_ids.specs.Lists.{In}
use Rattle.st_input.specs.Names.{number_of}
use Rattle.st_input.specs.Faults.{or_else}
use Rattle.st_input.specs.declared.fault.PathNameFault.{PathNameFault}
use Rattle.st_input.specs.declared.fault.PathNameFault.TheVariants.{UnknownEdge, NoMemory}

-- the number of the edge with a name
abbrev pub edge_by : List ℤ → ℤ → ℕ
edge_by names name = unwrap_or (number_of names name) 0

abbrev pub edges_by : List ℤ → List ℤ → List ℕ
edges_by names path = map (edge_by names) path

-- the edges of each path
abbrev pub paths_by : List ℤ → List (List ℤ) → List (List ℕ)
paths_by names paths = map (edges_by names) paths

-- a name that no edge has
abbrev pub name_fault : List ℤ → ℕ → ℤ → Option PathNameFault
name_fault names p name = if is_some (number_of names name) then None else Some (UnknownEdge p name)

-- the first of the names of path p that no edge has
abbrev pub path_fault : List ℤ → ℕ → List ℤ → Option PathNameFault
path_fault names p [] = None
path_fault names p (n ∷ ns) = or_else (name_fault names p n) (path_fault names p ns)

-- the same of the first path that has one; the first of the list is path p
abbrev pub first_unknown : List ℤ → ℕ → List (List ℤ) → Option PathNameFault
first_unknown names p [] = None
first_unknown names p (path ∷ paths) = or_else (path_fault names p path) (first_unknown names (p + 1) paths)

-- the first name of the first path that names no edge
abbrev pub path_name_fault : List ℤ → List (List ℤ) → Option PathNameFault
path_name_fault names paths = first_unknown names 0 paths

-- every edge of a path is there
abbrev pub ArePathsThere : Graph → List (List ℕ) → Type 0
ArePathsThere g paths = (p e : ℕ) → p < length paths → In e (slice_index_or paths p []) → e < length g.ends

-- an error of the call, but for want of memory, is this fault
abbrev pub PathsFailBy : {T : Type 0} → Option PathNameFault → Result T PathNameFault → Type 0
PathsFailBy fault result = IfErr result (λ f. f ≢ NoMemory → fault ≡ Some f)
