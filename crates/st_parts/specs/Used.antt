-- The pairs of a list that are used, by their keys.
--   has_key key e                     the pair has the key
--   first_with key es                 the first pair with the key
--   each key says es                  what each pair with the key says, in file order
--   int_in, str_in, list_in d         the integer, the string, the list that a value is
--   int_of, str_of, list_of o         the same of a pair that may be there
--   first_int, first_str, first_list  the same of the first pair with a key
--   HasSoundList d                    where the value is a list, it is a sound one
-- Letters: e pair, es list of pairs, d value.
use Rattle.std.specs.Prelude.{◌≡◌, ℕ, ℤ, Bool, List, [], ◌∷◌, Option, None, Some, bytes_eq, if◌then◌else◌, option_and_then}
use Rattle.gml_core.specs.Trees.{int, str, Datum, atom, list, Entry, entry, Entries, listed}
use Rattle.gml_core.specs.Sound.{IsSound}

abbrev pub key_text : Entry → List ℕ
key_text (entry k at d) = k

-- the byte at which the key begins
abbrev pub place_of : Entry → ℕ
place_of (entry k at d) = at

abbrev pub datum_of : Entry → Datum
datum_of (entry k at d) = d

abbrev pub has_key : List ℕ → Entry → Bool
has_key key e = bytes_eq (key_text e) key

-- the first pair with the key
abbrev pub first_with : List ℕ → List Entry → Option Entry
first_with key [] = None
first_with key (e ∷ es) = if has_key key e then Some e else first_with key es

-- what each pair with the key says, in file order
abbrev pub each : {A : Type 0} → List ℕ → (Entry → A) → List Entry → List A
each key says [] = []
each key says (e ∷ es) = if has_key key e then says e ∷ each key says es else each key says es

-- the integer that a value is
abbrev pub int_in : Datum → Option ℤ
int_in (atom (int n)) = Some n
int_in _ = None

-- the string that a value is
abbrev pub str_in : Datum → Option (List ℕ)
str_in (atom (str bs)) = Some bs
str_in _ = None

-- the list of pairs that a value is
abbrev pub list_in : Datum → Option (List Entry)
list_in (list es) = Some (listed es)
list_in _ = None

-- the integer, the string and the list of a pair that may be there
abbrev pub int_of : Option Entry → Option ℤ
int_of o = option_and_then (λ (e : Entry). int_in (datum_of e)) o

abbrev pub str_of : Option Entry → Option (List ℕ)
str_of o = option_and_then (λ (e : Entry). str_in (datum_of e)) o

abbrev pub list_of : Option Entry → Option (List Entry)
list_of o = option_and_then (λ (e : Entry). list_in (datum_of e)) o

-- the integer of the first pair with the key
abbrev pub first_int : List ℕ → List Entry → Option ℤ
first_int key es = int_of (first_with key es)

-- the string of the first pair with the key
abbrev pub first_str : List ℕ → List Entry → Option (List ℕ)
first_str key es = str_of (first_with key es)

-- the list of the first pair with the key
abbrev pub first_list : List ℕ → List Entry → Option (List Entry)
first_list key es = list_of (first_with key es)

-- where the value is a list, it is a sound one
pub record HasSoundList (d : Datum) : Type 0 where
  pub inside : (es : Entries) → d ≡ list es → IsSound es
