-- What the used pairs of a text say, each by itself: no name is looked up here.
--   shown bs        a label as it is shown: of its first 80 bytes, each outside 32 to 126 as a question mark
--   node_in e       the place of a node, its name and the edges that it lists
--   label_in e      the shown label of a node
--   edge_in e       the name of an edge, the names of its ends and its least length
--   outer_in e      the edge and the side of the outer face
--   path_in e       the names of the edges of a path
--   parts_in e      all of these, of a pair `graph`
--   second key es   the place of the second pair with a key
-- Where a value has another kind than it should, what it says is nothing, or the name 0. That is a fault of its own.
use Rattle.std.specs.Prelude.{ℕ, ℤ, pos, ◌&&◌, nat_le, map, take, length, ◌==◌, List, [], Option, None, Some, if◌then◌else◌, codes, slice_get, option_and_then}
use Rattle.std.specs.Option.{option_map, unwrap_or}
use Rattle.gml_core.specs.Trees.{Entry}
use Rattle.st_parts.specs.Used.{place_of, datum_of, first_with, each, int_in, list_in, first_int, first_str, first_list}
use Rattle.st_parts.specs.declared.parts.Mention.{Mention}
use Rattle.st_parts.specs.declared.parts.Node.{Node}
use Rattle.st_parts.specs.declared.parts.Minlen.{Minlen}
use Rattle.st_parts.specs.declared.parts.Edge.{Edge}
use Rattle.st_parts.specs.declared.parts.Outer.{Outer}
use Rattle.st_parts.specs.declared.parts.Parts.{Parts}

-- the list of a pair, empty where it has none
abbrev pub pairs_in : Entry → List Entry
pairs_in e = unwrap_or (list_in (datum_of e)) []

-- 63 is the question mark
abbrev pub shown_byte : ℕ → ℕ
shown_byte b = if nat_le 32 b && nat_le b 126 then b else 63

-- a label as it is shown; an empty one is none
abbrev pub shown : List ℕ → Option (List ℕ)
shown bs = if length bs == 0 then None else Some (map shown_byte (take 80 bs))

abbrev pub shown_label : Option (List ℕ) → Option (List ℕ)
shown_label None = None
shown_label (Some bs) = shown bs

-- the name of an edge that a pair says
abbrev pub name_in : Entry → ℤ
name_in e = unwrap_or (int_in (datum_of e)) (pos 0)

-- a name of an edge, and where it stands
abbrev pub mention_in : Entry → Mention
mention_in e = record { at = place_of e; name = name_in e }

abbrev pub mentions_in : List Entry → List Mention
mentions_in es = each (codes "e") mention_in es

abbrev pub names_in : List Entry → List ℤ
names_in es = each (codes "e") name_in es

abbrev pub node_says : ℕ → List Entry → Node
node_says at es = record {
  at = at;
  id = first_int (codes "id") es;
  order = option_map mentions_in (first_list (codes "order") es);
}

abbrev pub label_says : List Entry → Option (List ℕ)
label_says es = shown_label (first_str (codes "label") es)

-- the least length that a pair says, where its value is an integer
abbrev pub minlen_in : Entry → Option Minlen
minlen_in e = option_map (λ (n : ℤ). minlen_at n (place_of e)) (int_in (datum_of e))
  where
    minlen_at : ℤ → ℕ → Minlen
    minlen_at n at = record { rows = n; at = at }

-- the same of a pair that may be there
abbrev pub minlen_of : Option Entry → Option Minlen
minlen_of o = option_and_then minlen_in o

abbrev pub edge_says : List Entry → Edge
edge_says es = record {
  id = first_int (codes "id") es;
  source = first_int (codes "source") es;
  target = first_int (codes "target") es;
  minlen = minlen_of (first_with (codes "minlen") es);
}

abbrev pub outer_says : ℕ → List Entry → Outer
outer_says at es = record {
  at = at;
  edge = option_map mention_in (first_with (codes "edge") es);
  side = first_int (codes "side") es;
}

abbrev pub node_in : Entry → Node
node_in e = node_says (place_of e) (pairs_in e)

-- of two pairs `label` the first decides, also where it is no string
abbrev pub label_in : Entry → Option (List ℕ)
label_in e = label_says (pairs_in e)

abbrev pub edge_in : Entry → Edge
edge_in e = edge_says (pairs_in e)

abbrev pub outer_in : Entry → Outer
outer_in e = outer_says (place_of e) (pairs_in e)

abbrev pub path_in : Entry → List ℤ
path_in e = names_in (pairs_in e)

abbrev pub parts_say : List Entry → Parts
parts_say es = record {
  nodes = each (codes "node") node_in es;
  labels = each (codes "node") label_in es;
  edges = each (codes "edge") edge_in es;
  outer = option_map outer_in (first_with (codes "outer") es);
  paths = each (codes "path") path_in es;
}

-- what a pair `graph` says
abbrev pub parts_in : Entry → Parts
parts_in e = parts_say (pairs_in e)

-- the place of the second pair with a key
abbrev pub second : List ℕ → List Entry → Option ℕ
second key es = slice_get (each key place_of es) 1
