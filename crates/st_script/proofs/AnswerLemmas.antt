-- A tree has one answer: a script or a first bad record.
use Rattle.std.proofs.Common.{◌≡◌, ◌≢◌, ℕ, cond, ◌⊎◌, inl, inr, List, [], ◌∷◌, Option, None, Some, Result, Ok, Err, is_none, map, option_map, IfOk, IfErr, MatchResult, refl, sym, ap, ◌∙◌}
use Rattle.std.specs.List.{find}
use Rattle.gml_core.specs.Trees.{Entry, Entries, listed}
use Rattle.st_parts.specs.Used.{place_of}
use Rattle.st_script.specs.Script.{record_in, records, first_bad, IsScript, IsScriptFault}
use Rattle.st_script.specs.declared.fault.ScriptFault.{ScriptFault}
use Rattle.st_script.specs.declared.fault.ScriptFault.TheVariants.{BadRecord, NoMemory}
use Rattle.st_script.specs.declared.items.ScriptItem.{ScriptItem}
use Rattle.st_script.proofs.RecordLemmas.{is_bad}

same_items : (s t : List ScriptItem) → map Some s ≡ map Some t → s ≡ t
same_items [] [] h = refl
same_items [] (y ∷ t) h = absurd (cc)
same_items (x ∷ s) [] h = absurd (cc)
same_items (x ∷ s) (y ∷ t) h =
    let head : x ≡ y = cc in
    let tail : map Some s ≡ map Some t = cc in
    ap (λ (z : ScriptItem). z ∷ s) head ∙ ap (λ (l : List ScriptItem). y ∷ l) (same_items s t tail)

pub one_script : (text : Entries) (s t : List ScriptItem) → IsScript text s → IsScript text t → s ≡ t
one_script text s t p q = same_items s t (sym p ∙ q)

pub one_fault : (text : Entries) (f g : ScriptFault) → IsScriptFault text f → IsScriptFault text g → f ≡ g
one_fault text f g p q = let both = sym p ∙ q in cc

-- where each record says something, none is bad
none_bad : (rs : List Entry) (s : List ScriptItem) → map record_in rs ≡ map Some s → find is_bad rs ≡ None
none_bad [] s h = refl
none_bad (e ∷ rs) [] h = absurd (cc)
none_bad (e ∷ rs) (x ∷ s) h =
    let here : record_in e ≡ Some x = cc in
    let behind : map record_in rs ≡ map Some s = cc in
    ap (λ (o : Option ScriptItem). cond (is_none o) (Some e) (find is_bad rs)) here ∙ none_bad rs s behind

pub not_both : (text : Entries) (s : List ScriptItem) (f : ScriptFault) → IsScript text s → IsScriptFault text f → ⊥
not_both text s f p q =
    let none = none_bad (records (listed text)) s p in
    let nothing : option_map BadRecord (first_bad (listed text)) ≡ None = ap (λ (o : Option Entry). option_map BadRecord (option_map place_of o)) none in
    absurd (cc)

-- the records of a list say their items, or one of them is bad
abbrev SaidOrBad : List Entry → Type 0
SaidOrBad rs = ((s : List ScriptItem) × (map record_in rs ≡ map Some s)) ⊎ ((at : ℕ) × (option_map place_of (find is_bad rs) ≡ Some at))

-- the place of the first bad one, where the first of them says o
abbrev bad_from : Entry → List Entry → Option ScriptItem → Option ℕ
bad_from e rs o = option_map place_of (cond (is_none o) (Some e) (find is_bad rs))

one_more : (e : Entry) (rs : List Entry) (o : Option ScriptItem) → record_in e ≡ o → SaidOrBad rs → SaidOrBad (e ∷ rs)
one_more e rs None is others = inr (place_of e, ap (bad_from e rs) is)
one_more e rs (Some x) is (inl r) = inl (x ∷ r.0, ap (λ (y : Option ScriptItem). y ∷ map record_in rs) is ∙ ap (λ (l : List (Option ScriptItem)). Some x ∷ l) r.1)
one_more e rs (Some x) is (inr r) = inr (r.0, ap (bad_from e rs) is ∙ r.1)

said_or_bad : (rs : List Entry) → SaidOrBad rs
said_or_bad [] = inl ([], refl)
said_or_bad (e ∷ rs) = one_more e rs (record_in e) refl (said_or_bad rs)

pub answer : (text : Entries) → ((s : List ScriptItem) × IsScript text s) ⊎ ((f : ScriptFault) × IsScriptFault text f)
answer text = elim (said_or_bad (records (listed text))) [
  | inl r ↦ inl (r.0, r.1)
  | inr r ↦ inr (BadRecord r.0, ap (option_map BadRecord) r.1)
]

-- ---- there is no other answer than the right one

pub only_script : (text : Entries) (r : Result (List ScriptItem) ScriptFault) → IfOk r (λ s. IsScript text s) → IfErr r (λ f. f ≢ NoMemory → IsScriptFault text f)
    → (items : List ScriptItem) → IsScript text items → MatchResult r (λ s. s ≡ items) (λ f. f ≡ NoMemory)
only_script text (Ok s) ok err items is = one_script text s items ok is
only_script text (Err (BadRecord at)) ok err items is = absurd (not_both text items (BadRecord at) is (err (λ q. cc)))
only_script text (Err NoMemory) ok err items is = refl

pub only_fault : (text : Entries) (r : Result (List ScriptItem) ScriptFault) → IfOk r (λ s. IsScript text s) → IfErr r (λ f. f ≢ NoMemory → IsScriptFault text f)
    → (f : ScriptFault) → IsScriptFault text f → MatchResult r (λ _. ⊥) (λ e. (e ≡ f) ⊎ (e ≡ NoMemory))
only_fault text (Ok s) ok err f is = not_both text s f ok is
only_fault text (Err (BadRecord at)) ok err f is = inl (one_fault text (BadRecord at) f (err (λ q. cc)) is)
only_fault text (Err NoMemory) ok err f is = inr refl
