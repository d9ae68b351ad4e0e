-- A scan goes one pair on: what it has of the pairs before and what the rest says stay what the whole list says.
-- Letters: es the whole list, d the rest of it from a pair e on, rest the pairs behind e.
use Rattle.std.proofs.Common.{◌≡◌, ◌≤◌, ◌+◌, ℕ, ℤ, Bool, true, false, cond, List, [], ◌∷◌, ◌++◌, length, Option, None, Some, min, refl, sym, ap, ◌∙◌, append_assoc, append-nil, arith, codes, option_map}
use Rattle.std.proofs.lemmas.List.{length-append}
use Rattle.std.specs.Option.{option_or}
use Rattle.gml_core.specs.Trees.{Entry}
use Rattle.st_parts.specs.Used.{has_key, first_with, each}
use Rattle.st_parts.specs.Kinds.{earlier, earliest}
use Rattle.st_parts.specs.Parts.{node_in, label_in, edge_in, outer_in, path_in, parts_say}
use Rattle.st_parts.specs.declared.parts.Node.{Node}
use Rattle.st_parts.specs.declared.parts.Edge.{Edge}
use Rattle.st_parts.specs.declared.parts.Outer.{Outer}
use Rattle.st_parts.specs.declared.parts.Parts.{Parts}

first_more : (key : List ℕ) (e : Entry) (rest : List Entry) (o : Option Entry) → option_or (option_or o (first_with key (e ∷ []))) (first_with key rest) ≡ option_or o (first_with key (e ∷ rest))
first_more key e rest (Some x) = refl
first_more key e rest None = by (has_key key e)
  where
    by : (b : Bool) → option_or (cond b (Some e) None) (first_with key rest) ≡ cond b (Some e) (first_with key rest)
    by true = refl
    by false = refl

pub first_step : (key : List ℕ) (es d rest : List Entry) (e : Entry) (before after : Option Entry) → d ≡ e ∷ rest → after ≡ option_or before (first_with key (e ∷ [])) → option_or before (first_with key d) ≡ first_with key es → option_or after (first_with key rest) ≡ first_with key es
first_step key es d rest e before after is step so_far =
    ap (λ (o : Option Entry). option_or o (first_with key rest)) step ∙ first_more key e rest before ∙ ap (λ (l : List Entry). option_or before (first_with key l)) (sym is) ∙ so_far

each_more : {A : Type 0} (key : List ℕ) (says : Entry → A) (e : Entry) (rest : List Entry) (before : List A) → (before ++ each key says (e ∷ [])) ++ each key says rest ≡ before ++ each key says (e ∷ rest)
each_more {A} key says e rest before = by (has_key key e)
  where
    by : (b : Bool) → (before ++ cond b (says e ∷ []) []) ++ each key says rest ≡ before ++ cond b (says e ∷ each key says rest) (each key says rest)
    by true = append_assoc before (says e ∷ []) (each key says rest)
    by false = ap (λ (l : List A). l ++ each key says rest) (append-nil before)

pub each_step : {A : Type 0} (key : List ℕ) (says : Entry → A) (es d rest : List Entry) (e : Entry) (before after : List A) → d ≡ e ∷ rest → after ≡ before ++ each key says (e ∷ []) → before ++ each key says d ≡ each key says es → after ++ each key says rest ≡ each key says es
each_step {A} key says es d rest e before after is step so_far =
    ap (λ (l : List A). l ++ each key says rest) step ∙ each_more key says e rest before ∙ ap (λ (l : List Entry). before ++ each key says l) (sym is) ∙ so_far

one_short : {A : Type 0} (key : List ℕ) (says : Entry → A) (e : Entry) → length (each key says (e ∷ [])) ≤ 1
one_short key says e = by (has_key key e)
  where
    by : (b : Bool) → length (cond b (says e ∷ []) []) ≤ 1
    by true = omega arith
    by false = omega arith

pub few_step : {A : Type 0} (key : List ℕ) (says : Entry → A) (e : Entry) (before after : List A) (i : ℕ) → after ≡ before ++ each key says (e ∷ []) → length before ≤ i → length after ≤ i + 1
few_step key says e before after i step few = omega (arith, ap length step, length-append before (each key says (e ∷ [])), one_short key says e)

earlier_assoc : (a b c : Option ℕ) → earlier (earlier a b) c ≡ earlier a (earlier b c)
earlier_assoc None b c = refl
earlier_assoc (Some p) None c = refl
earlier_assoc (Some p) (Some q) None = refl
earlier_assoc (Some p) (Some q) (Some r) = ap (λ (n : ℕ). Some n) (least p q r)
  where
    least : (p q r : ℕ) → min (min p q) r ≡ min p (min q r)
    least p q r = grind arith

pub earliest_step : (says : Entry → Option ℕ) (es d rest : List Entry) (e : Entry) (before after : Option ℕ) → d ≡ e ∷ rest → after ≡ earlier before (says e) → earlier before (earliest says d) ≡ earliest says es → earlier after (earliest says rest) ≡ earliest says es
earliest_step says es d rest e before after is step so_far =
    ap (λ (o : Option ℕ). earlier o (earliest says rest)) step ∙ earlier_assoc before (says e) (earliest says rest) ∙ ap (λ (l : List Entry). earlier before (earliest says l)) (sym is) ∙ so_far

-- ---- the end of a scan, where no pair is left
pub each_done : {A : Type 0} (key : List ℕ) (says : Entry → A) (es d : List Entry) (said : List A) → d ≡ [] → said ++ each key says d ≡ each key says es → said ≡ each key says es
each_done {A} key says es d said is so_far = sym (append-nil said) ∙ ap (λ (l : List Entry). said ++ each key says l) (sym is) ∙ so_far

or_nothing : (o : Option Entry) → option_or o None ≡ o
or_nothing None = refl
or_nothing (Some e) = refl

pub first_done : (key : List ℕ) (es d : List Entry) (o : Option Entry) → d ≡ [] → option_or o (first_with key d) ≡ first_with key es → o ≡ first_with key es
first_done key es d o is so_far = sym (or_nothing o) ∙ ap (λ (l : List Entry). option_or o (first_with key l)) (sym is) ∙ so_far

abbrev pub parts_with : List Node → List (Option (List ℕ)) → List Edge → Option Outer → List (List ℤ) → Parts
parts_with ns ls es o ps = record { nodes = ns; labels = ls; edges = es; outer = o; paths = ps }

-- what is said, field by field
pub parts_are : (es : List Entry) (ns : List Node) (ls : List (Option (List ℕ))) (ds : List Edge) (o : Option Outer) (ps : List (List ℤ)) → ns ≡ each (codes "node") node_in es → ls ≡ each (codes "node") label_in es → ds ≡ each (codes "edge") edge_in es → o ≡ option_map outer_in (first_with (codes "outer") es) → ps ≡ each (codes "path") path_in es → parts_with ns ls ds o ps ≡ parts_say es
parts_are es ns ls ds o ps e0 e1 e2 e3 e4 = rw (e0, e1, e2, e3, e4) refl
