-- The keys that are used. A new key is a row of each table here, and a field of `IsKnown`.
--   word_of_key k   the bytes of a key
--   all_keys        all keys, the frequent ones first
--   known bs        the key that has these bytes
--   same k o        whether it is that one
--   IsKnown o e     which key a pair has
use Rattle.std.specs.Prelude.{◌≡◌, ◌==◌, ℕ, Bool, false, List, [], ◌∷◌, Option, None, Some, bytes_eq, if◌then◌else◌, codes}
use Rattle.gml_core.specs.Trees.{Entry}
use Rattle.st_parts.specs.Used.{has_key}
use Rattle.st_parts.specs.declared.keys.Key.{Key}
use Rattle.st_parts.specs.declared.keys.Key.TheVariants.{Source, Target, Edge, Node, Id, Name, Label, Order, Path, Outer, Side, Minlen}

abbrev pub word_of_key : Key → List ℕ
word_of_key Source = codes "source"
word_of_key Target = codes "target"
word_of_key Edge = codes "edge"
word_of_key Node = codes "node"
word_of_key Id = codes "id"
word_of_key Name = codes "e"
word_of_key Label = codes "label"
word_of_key Order = codes "order"
word_of_key Path = codes "path"
word_of_key Outer = codes "outer"
word_of_key Side = codes "side"
word_of_key Minlen = codes "minlen"

abbrev pub all_keys : List Key
all_keys = Source ∷ Target ∷ Edge ∷ Node ∷ Id ∷ Name ∷ Label ∷ Order ∷ Path ∷ Outer ∷ Side ∷ Minlen ∷ []

abbrev pub key_rank : Key → ℕ
key_rank Source = 0
key_rank Target = 1
key_rank Edge = 2
key_rank Node = 3
key_rank Id = 4
key_rank Name = 5
key_rank Label = 6
key_rank Order = 7
key_rank Path = 8
key_rank Outer = 9
key_rank Side = 10
key_rank Minlen = 11

-- the key among some that has these bytes
abbrev pub known_among : List Key → List ℕ → Option Key
known_among [] bs = None
known_among (k ∷ ks) bs = if bytes_eq bs (word_of_key k) then Some k else known_among ks bs

abbrev pub known : List ℕ → Option Key
known bs = known_among all_keys bs

abbrev pub same : Key → Option Key → Bool
same k None = false
same k (Some j) = key_rank k == key_rank j

-- which key a pair has
pub record IsKnown (o : Option Key) (e : Entry) : Type 0 where
  pub source : has_key (codes "source") e ≡ same Source o
  pub target : has_key (codes "target") e ≡ same Target o
  pub edge : has_key (codes "edge") e ≡ same Edge o
  pub node : has_key (codes "node") e ≡ same Node o
  pub id : has_key (codes "id") e ≡ same Id o
  pub name : has_key (codes "e") e ≡ same Name o
  pub label : has_key (codes "label") e ≡ same Label o
  pub order : has_key (codes "order") e ≡ same Order o
  pub path : has_key (codes "path") e ≡ same Path o
  pub outer : has_key (codes "outer") e ≡ same Outer o
  pub side : has_key (codes "side") e ≡ same Side o
  pub minlen : has_key (codes "minlen") e ≡ same Minlen o
