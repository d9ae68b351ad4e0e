-- A scan goes one pair on: what it has of the pairs before and what the rest says stay what the whole list says.
-- Letters: es the whole list, d the rest of it from a pair e on, rest the pairs behind e.
use Rattle.std.proofs.Common.{◌≡◌, ℕ, Bool, true, false, cond, List, [], ◌∷◌, ◌++◌, Option, None, Some, is_none, map, option_map, refl, sym, ap, ◌∙◌, append_assoc}
use Rattle.std.specs.List.{find}
use Rattle.std.specs.Option.{option_or}
use Rattle.gml_core.specs.Trees.{Entry}
use Rattle.st_parts.specs.Used.{place_of}
use Rattle.st_script.specs.Script.{record_in, is_record, records, said, first_bad}
use Rattle.st_script.specs.declared.items.ScriptItem.{ScriptItem}

-- a record that says nothing
abbrev pub is_bad : Entry → Bool
is_bad e = is_none (record_in e)

said_more : (e : Entry) (rest : List Entry) → said (e ∷ []) ++ said rest ≡ said (e ∷ rest)
said_more e rest = by (is_record e)
  where
    by : (b : Bool) → map record_in (cond b (e ∷ []) []) ++ said rest ≡ map record_in (cond b (e ∷ records rest) (records rest))
    by true = refl
    by false = refl

pub said_step : (es d rest : List Entry) (e : Entry) (before after : List ScriptItem) → d ≡ e ∷ rest → map Some after ≡ map Some before ++ said (e ∷ []) → map Some before ++ said d ≡ said es → map Some after ++ said rest ≡ said es
said_step es d rest e before after is step so_far =
    ap (λ (l : List (Option ScriptItem)). l ++ said rest) step ∙ append_assoc (map Some before) (said (e ∷ [])) (said rest) ∙ ap (λ (l : List (Option ScriptItem)). map Some before ++ l) (said_more e rest) ∙ ap (λ (l : List Entry). map Some before ++ said l) (sym is) ∙ so_far

bad_more : (e : Entry) (rest : List Entry) → first_bad (e ∷ rest) ≡ option_or (first_bad (e ∷ [])) (first_bad rest)
bad_more e rest = by (is_record e)
  where
    when : (c : Bool) → option_map place_of (cond c (Some e) (find is_bad (records rest))) ≡ option_or (option_map place_of (cond c (Some e) None)) (first_bad rest)
    when true = refl
    when false = refl

    by : (b : Bool) → option_map place_of (find is_bad (cond b (e ∷ records rest) (records rest))) ≡ option_or (option_map place_of (find is_bad (cond b (e ∷ []) []))) (first_bad rest)
    by true = when (is_bad e)
    by false = refl

-- what the whole list has for its first bad record, by the pair and the rest
bad_here : (es d rest : List Entry) (e : Entry) → d ≡ e ∷ rest → first_bad d ≡ first_bad es → first_bad es ≡ option_or (first_bad (e ∷ [])) (first_bad rest)
bad_here es d rest e is so_far = sym so_far ∙ ap first_bad is ∙ bad_more e rest

pub good_step : (es d rest : List Entry) (e : Entry) → d ≡ e ∷ rest → first_bad (e ∷ []) ≡ None → first_bad d ≡ first_bad es → first_bad rest ≡ first_bad es
good_step es d rest e is good so_far = sym (bad_here es d rest e is so_far ∙ ap (λ (o : Option ℕ). option_or o (first_bad rest)) good)
