-- No text goes on with the tokens up to the first fault.
use Rattle.std.proofs.Common.{◌≡◌, ℕ, false, List, [], ◌∷◌, ◌++◌, map, length, Some, None, Ok, sym, ap, subst, ◌∙◌, append_assoc}
use Rattle.std.specs.Prelude.{option_and_then, is_some}
use Rattle.std.proofs.lemmas.List.{append-nil, map_push}
use Rattle.std.proofs.lemmas.Option.{none-some, same_Some}
use Rattle.gml_core.specs.declared.token.Token.{Token}
use Rattle.gml_core.specs.declared.fault.GmlFault.{GmlFault}
use Rattle.gml_core.specs.Trees.{Entries, Word, spelling}
use Rattle.gml_core.specs.Lexing.{next_token}
use Rattle.gml_core.specs.Reading.{begin, word, fault_of, end_fault, IsBounded, IsFirstFault}
use Rattle.gml_core.proofs.Walks.{Shape, walk, walk_moves, none_step, walk_bounded, shape, begin_is}
use Rattle.gml_core.proofs.Unique.{stops_from, Stops}

-- behind a faulty token no words are walked
pub none_with : (bytes : List ℕ) (f : GmlFault) (first : IsFirstFault bytes f) (t : Token) (others : List Word) (tree : Entries)
    → next_token bytes first.at ≡ Ok (Some t) → IsBounded tree → spelling tree ≡ map (word bytes) (first.tokens ++ t ∷ []) ++ others → ⊥
none_with bytes f first t others tree comes bounded e =
    let s = first.state in
    let stop = subst (Stops bytes s) comes (stops_from bytes s (next_token bytes first.at) f first.fault) in
    let rest = word bytes t ∷ others in
    let grouped : map (word bytes) (first.tokens ++ t ∷ []) ++ others ≡ map (word bytes) first.tokens ++ rest = ap (λ (ws : List Word). ws ++ others) (map_push (word bytes) first.tokens t) ∙ append_assoc (map (word bytes) first.tokens) (word bytes t ∷ []) others in
    let walked : Some (false, 0) ≡ walk (is_some s.waits) (length s.lists) rest = sym (walk_bounded tree bounded) ∙ ap (walk false 0) (e ∙ grouped) ∙ walk_moves bytes begin s first.tokens rest first.moves in
    let nothing : walk (is_some s.waits) (length s.lists) rest ≡ None = ap (option_and_then (λ (x : Shape). walk x.0 x.1 others)) (none_step bytes s t stop.0 stop.1) in
    none-some _ (sym nothing ∙ sym walked)

-- the words of a text lead to no state in which the end is a fault
pub none_ends : (bytes : List ℕ) (f : GmlFault) (first : IsFirstFault bytes f) (tree : Entries) → next_token bytes first.at ≡ Ok None → IsBounded tree → spelling tree ≡ map (word bytes) first.tokens → ⊥
none_ends bytes f first tree comes bounded e =
    let s = first.state in
    let walked : Some (false, 0) ≡ Some (shape s) =
    sym (walk_bounded tree bounded) ∙ ap (walk false 0) (e ∙ sym (append-nil (map (word bytes) first.tokens))) ∙ walk_moves bytes begin s first.tokens [] first.moves in
    let at_begin : s ≡ begin = begin_is s (sym (same_Some _ _ walked)) in
    none-some f (sym (ap end_fault at_begin) ∙ sym (ap (fault_of bytes s) comes) ∙ first.fault)
