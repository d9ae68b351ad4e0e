-- The used pairs whose value has another kind than it should, each by its place.
--   earlier p q               the lesser of two places, where they are there
--   earliest says es          the least of the places that the pairs say
--   wrong e                   the place of the pair, where its value is no integer
--   wrong_of o                the same of a pair that may be there
--   first_wrong key es        the same of the first pair with the key
--   inside within e           the place in the list that the value is, or of the pair where it is no list
--   bad_kind text             the least place of a used pair whose value has another kind than it should
use Rattle.std.specs.Prelude.{ℕ, min, List, [], ◌∷◌, Option, None, Some, if◌then◌else◌, codes, is_some}
use Rattle.gml_core.specs.Trees.{Entry}
use Rattle.st_parts.specs.Used.{place_of, datum_of, has_key, first_with, int_in, list_in}

-- the lesser of two places, where they are there
abbrev pub earlier : Option ℕ → Option ℕ → Option ℕ
earlier None q = q
earlier (Some p) None = Some p
earlier (Some p) (Some q) = Some (min p q)

-- the least of the places that the pairs say
abbrev pub earliest : (Entry → Option ℕ) → List Entry → Option ℕ
earliest says [] = None
earliest says (e ∷ es) = earlier (says e) (earliest says es)

-- the place of the pair, where its value is no integer
abbrev pub wrong : Entry → Option ℕ
wrong e = if is_some (int_in (datum_of e)) then None else Some (place_of e)

-- the same of a pair that may be there
abbrev pub wrong_of : Option Entry → Option ℕ
wrong_of None = None
wrong_of (Some e) = wrong e

-- of the first pair with the key
abbrev pub first_wrong : List ℕ → List Entry → Option ℕ
first_wrong key es = wrong_of (first_with key es)

-- in a list of names of edges, each pair `e` is an integer
abbrev pub name_wrong_of : Entry → Option ℕ
name_wrong_of e = if has_key (codes "e") e then wrong e else None

abbrev pub names_wrong : List Entry → Option ℕ
names_wrong es = earliest name_wrong_of es

-- in the list that the value is, or the pair itself where it is no list
abbrev pub inside : (List Entry → Option ℕ) → Entry → Option ℕ
inside within e = option_inside (list_in (datum_of e))
  where
    option_inside : Option (List Entry) → Option ℕ
    option_inside None = Some (place_of e)
    option_inside (Some es) = within es

-- the same of a pair that may be there
abbrev pub inside_of : (List Entry → Option ℕ) → Option Entry → Option ℕ
inside_of within None = None
inside_of within (Some e) = inside within e

-- in the list of the first pair with the key
abbrev pub first_inside : (List Entry → Option ℕ) → List ℕ → List Entry → Option ℕ
first_inside within key es = inside_of within (first_with key es)

abbrev pub node_wrong : List Entry → Option ℕ
node_wrong es = earlier (first_wrong (codes "id") es) (first_inside names_wrong (codes "order") es)

abbrev pub edge_wrong : List Entry → Option ℕ
edge_wrong es = earlier (first_wrong (codes "id") es) (earlier (first_wrong (codes "source") es) (earlier (first_wrong (codes "target") es) (first_wrong (codes "minlen") es)))

abbrev pub outer_wrong : List Entry → Option ℕ
outer_wrong es = earlier (first_wrong (codes "edge") es) (first_wrong (codes "side") es)

-- in a pair of the graph that is used each time
abbrev pub part_wrong : Entry → Option ℕ
part_wrong e = if has_key (codes "node") e then inside node_wrong e else if has_key (codes "edge") e then inside edge_wrong e else if has_key (codes "path") e then inside names_wrong e else None

abbrev pub graph_wrong : List Entry → Option ℕ
graph_wrong es = earlier (first_inside outer_wrong (codes "outer") es) (earliest part_wrong es)

-- the least place of a used pair whose value has another kind than it should
abbrev pub bad_kind : List Entry → Option ℕ
bad_kind text = first_inside graph_wrong (codes "graph") text
