-- The records of a session: the pairs `edit` and `ask` of a text's own list.
--   by_int key es says     what says makes of the integer of the first pair with the key; nothing where it is none
--   split_in, insert_in, remove_in, ask_in es   what the list of each of these keys says
--   edit_in es             what the list of an `edit` says, by its first pair `split`, `insert` or `remove`
--   record_in e            what a record says; nothing where its value hasn't the shape of its key
--   records es             the pairs `edit` and `ask`, in file order
--   IsScript text items    each record says something, and the items are what they say
--   first_bad es           the place of the first record that says nothing
--   IsScriptFault text f   f names it
-- Letters: e pair, es list of pairs; n, b, p, q names of edges, a, u, v names of vertices.
use Rattle.std.specs.Prelude.{◌≡◌, ◌||◌, ℕ, ℤ, Bool, List, Option, Some, if◌then◌else◌, codes, is_none, map, option_map, option_and_then}
use Rattle.std.specs.List.{filter, find}
use Rattle.gml_core.specs.Trees.{Entry, Entries, listed}
use Rattle.st_parts.specs.Used.{place_of, datum_of, has_key, list_in, first_int}
use Rattle.st_script.specs.declared.fault.ScriptFault.{ScriptFault}
use Rattle.st_script.specs.declared.fault.ScriptFault.TheVariants.{BadRecord}
use Rattle.st_script.specs.declared.items.ScriptItem.{ScriptItem}
use Rattle.st_script.specs.declared.items.ScriptItem.TheVariants.{Split, Insert, Remove, Ask}

-- goes on with the integer of the first pair with the key, where it is one
abbrev pub by_int : List ℕ → List Entry → (ℤ → Option ScriptItem) → Option ScriptItem
by_int key es says = option_and_then says (first_int key es)

-- edge n is split by the new vertex a; b is the new edge
abbrev pub split_in : List Entry → Option ScriptItem
split_in es = by_int (codes "e") es (λ n. by_int (codes "vertex") es (λ a. by_int (codes "edge") es (λ b. Some (Split n a b))))

-- the new edge b goes from u, behind edge p, to v, behind edge q
abbrev pub insert_in : List Entry → Option ScriptItem
insert_in es =
    by_int (codes "edge") es (λ b.
    by_int (codes "tail") es (λ u. by_int (codes "tailafter") es (λ p.
    by_int (codes "head") es (λ v. by_int (codes "headafter") es (λ q. Some (Insert b u p v q))))))

-- edge n is removed
abbrev pub remove_in : List Entry → Option ScriptItem
remove_in es = by_int (codes "e") es (λ n. Some (Remove n))

-- whether u reaches v is asked
abbrev pub ask_in : List Entry → Option ScriptItem
ask_in es = by_int (codes "from") es (λ u. by_int (codes "to") es (λ v. Some (Ask u v)))

-- what a pair says by the list that its value is; nothing where it is no list
abbrev pub in_list : (Entry → List Entry → Option ScriptItem) → Entry → Option ScriptItem
in_list says e = option_and_then (says e) (list_in (datum_of e))

-- a pair that says which edit it is
abbrev pub is_change : Entry → Bool
is_change e = has_key (codes "split") e || has_key (codes "insert") e || has_key (codes "remove") e

-- what the list of a pair `split`, `insert` or `remove` says
abbrev pub change_by : Entry → List Entry → Option ScriptItem
change_by e es = if has_key (codes "split") e then split_in es else if has_key (codes "insert") e then insert_in es else remove_in es

-- of the pairs that say which edit it is the first is used
abbrev pub edit_in : List Entry → Option ScriptItem
edit_in es = option_and_then (in_list change_by) (find is_change es)

-- what the list of a record says
abbrev pub record_by : Entry → List Entry → Option ScriptItem
record_by e es = if has_key (codes "edit") e then edit_in es else ask_in es

-- what a record says; nothing where its value hasn't the shape of its key
abbrev pub record_in : Entry → Option ScriptItem
record_in e = in_list record_by e

-- an edit or a question
abbrev pub is_record : Entry → Bool
is_record e = has_key (codes "edit") e || has_key (codes "ask") e

-- in file order
abbrev pub records : List Entry → List Entry
records es = filter is_record es

-- what each record says, in file order
abbrev pub said : List Entry → List (Option ScriptItem)
said es = map record_in (records es)

-- each record says something, and the items are what they say
abbrev pub IsScript : Entries → List ScriptItem → Type 0
IsScript text items = said (listed text) ≡ map Some items

-- the place of the first record that says nothing
abbrev pub first_bad : List Entry → Option ℕ
first_bad es = option_map place_of (find (λ (e : Entry). is_none (record_in e)) (records es))

-- the fault names the first bad record
abbrev pub IsScriptFault : Entries → ScriptFault → Type 0
IsScriptFault text f = option_map BadRecord (first_bad (listed text)) ≡ Some f
