-- Tokens that are taken so far begin a text.
use Rattle.std.proofs.Common.{◌≡◌, ℕ, zero, suc, Bool, true, false, ltb, cond, pos, List, [], ◌∷◌, ◌++◌, length, map, Option, Some, None, Result, Ok, Err, refl, sym, ap, subst, ◌∙◌, append_assoc, arith}
use Rattle.std.specs.Prelude.{is_some}
use Rattle.std.proofs.lemmas.List.{append-nil}
use Rattle.gml_core.specs.declared.token.Token.{Token}
use Rattle.gml_core.specs.declared.fault.GmlFault.{GmlFault}
use Rattle.gml_core.specs.Trees.{int, atom, list, Entry, entry, Entries, none, more, push, Word, opens, closes, key, value, fits, spelling, entry_spelling}
use Rattle.gml_core.specs.Reading.{State, begin, step, step_in, at_pair, at_value, word, Moves, IsBounded}
use Rattle.gml_core.proofs.Walks.{walk, walk_moves, walked_list}

pub spelling-push : (es : Entries) (e : Entry) → spelling (push es e) ≡ spelling es ++ entry_spelling e
spelling-push none e = append-nil (entry_spelling e)
spelling-push (more d es) e = ap (λ (ws : List Word). entry_spelling d ++ ws) (spelling-push es e) ∙ sym (append_assoc (entry_spelling d) (spelling es) (entry_spelling e))

-- a list that is open, with the key of the list inside
pub record Layer : Type 0 where
  pub entries : Entries
  pub name : List ℕ
  pub at : ℕ

-- the words up to the innermost bracket; the innermost layer stands first
abbrev pub front : List Layer → List Word
front [] = []
front (l ∷ ls) = front ls ++ (spelling l.entries ++ key l.name l.at ∷ opens ∷ [])

abbrev pub waiting : Option (List ℕ × ℕ) → List Word
waiting None = []
waiting (Some w) = key w.0 w.1 ∷ []

pub record Partial : Type 0 where
  pub layers : List Layer
  pub entries : Entries
  pub waits : Option (List ℕ × ℕ)

abbrev pub partial_words : Partial → List Word
partial_words p = (front p.layers ++ spelling p.entries) ++ waiting p.waits

-- it is in this state, but for places
pub record IsIn (s : State) (p : Partial) : Type 0 where
  pub waits : is_some s.waits ≡ is_some p.waits
  pub layers : length s.lists ≡ length p.layers

pub record Grown (p : Partial) (ws : List Word) (s : State) : Type 0 where
  pub after : Partial
  pub words : partial_words after ≡ partial_words p ++ ws
  pub is_in : IsIn s after

ok_state : (x y : State) (r : Result State GmlFault) → r ≡ Ok x → r ≡ Ok y → x ≡ y
ok_state x y r a b = let both = sym a ∙ b in cc

kept_state : (b : Bool) (x m : State) (f : GmlFault) → cond b (Ok x) (Err f) ≡ Ok m → x ≡ m
kept_state true x m f e = cc
kept_state false x m f e = absurd cc

lists_is : (x m : State) → x ≡ m → length x.lists ≡ length m.lists
lists_is x m e = ap (λ (s : State). length s.lists) e

waits_is : (x m : State) → x ≡ m → is_some x.waits ≡ is_some m.waits
waits_is x m e = ap (λ (s : State). is_some s.waits) e

abbrev ok : State → Result State GmlFault
ok s = Ok s

same_ok : (x m : State) → ok x ≡ ok m → x ≡ m
same_ok x m e = cc

grow_pair : (ls : List Layer) (es : Entries) (lists : List ℕ) (at : ℕ) (w : Word) (m : State) → length lists ≡ length ls → at_pair lists at w ≡ Ok m → Grown (record { layers = ls; entries = es; waits = None }) (w ∷ []) m
grow_pair ls es lists at (key k place) m h e =
    let is = same_ok _ m e in
    record {
      after = record { layers = ls; entries = es; waits = Some (k, place) };
      words = simp append-nil;
      is_in = record { waits = sym (waits_is _ m is); layers = sym (lists_is _ m is) ∙ h };
    }
grow_pair ls es [] at closes m h e = absurd cc
grow_pair [] es (o ∷ os) at closes m h e = absurd (omega arith)
grow_pair (l ∷ ls) es (o ∷ os) at closes m h e =
    let is = same_ok _ m e in
    record {
      after = record { layers = ls; entries = push l.entries (entry l.name l.at (list es)); waits = None };
      words = rw (spelling-push l.entries (entry l.name l.at (list es))) (simp (append_assoc, append-nil));
      is_in = record { waits = sym (waits_is _ m is); layers = sym (lists_is _ m is) ∙ omega arith };
    }
grow_pair ls es lists at opens m h e = absurd cc
grow_pair ls es lists at (value a) m h e = absurd cc

grow_value : (ls : List Layer) (es : Entries) (k : List ℕ) (place from : ℕ) (lists : List ℕ) (at : ℕ) (w : Word) (m : State) → length lists ≡ length ls → at_value from lists at w ≡ Ok m
    → Grown (record { layers = ls; entries = es; waits = Some (k, place) }) (w ∷ []) m
grow_value ls es k place from lists at (key name p) m h e = absurd cc
grow_value ls es k place from lists at closes m h e = absurd cc
grow_value ls es k place from lists at opens m h e =
    let is = kept_state (ltb (length lists) 32) _ m _ e in
    record {
      after = record { layers = (record { entries = es; name = k; at = place }) ∷ ls; entries = none; waits = None };
      words = simp (append_assoc, append-nil);
      is_in = record { waits = sym (waits_is _ m is); layers = sym (lists_is _ m is) ∙ ap suc h };
    }
grow_value ls es k place from lists at (value a) m h e =
    let is = kept_state (fits a) _ m _ e in
    record {
      after = record { layers = ls; entries = push es (entry k place (atom a)); waits = None };
      words = rw (spelling-push es (entry k place (atom a))) (simp (append_assoc, append-nil));
      is_in = record { waits = sym (waits_is _ m is); layers = sym (lists_is _ m is) ∙ h };
    }

grow_in : (ls : List Layer) (es : Entries) (p : Option (List ℕ × ℕ)) (s : Option ℕ) (lists : List ℕ) (at : ℕ) (w : Word) (m : State) → is_some s ≡ is_some p → length lists ≡ length ls → step_in s lists at w ≡ Ok m
    → Grown (record { layers = ls; entries = es; waits = p }) (w ∷ []) m
grow_in ls es None None lists at w m same h e = grow_pair ls es lists at w m h e
grow_in ls es None (Some k) lists at w m same h e = absurd cc
grow_in ls es (Some p) None lists at w m same h e = absurd cc
grow_in ls es (Some p) (Some k) lists at w m same h e = grow_value ls es p.0 p.1 k lists at w m h e

pub grow : (bytes : List ℕ) (s m : State) (t : Token) (p : Partial) → IsIn s p → step bytes s t ≡ Ok m → Grown p (word bytes t ∷ []) m
unfolding step
grow bytes s m t p is e = grow_in p.layers p.entries p.waits s.waits s.lists t.from (word bytes t) m is.waits is.layers e

pub grow_all : (bytes : List ℕ) (s m : State) (ts : List Token) (p : Partial) → IsIn s p → Moves bytes s ts m → Grown p (map (word bytes) ts) m
grow_all bytes s m [] p is moves = record { after = p; words = sym (append-nil (partial_words p)); is_in = subst (λ (x : State). IsIn x p) moves is }
grow_all bytes s m (t ∷ ts) p is moves =
    let one = grow bytes s moves.0 t p is moves.1 in
    let others = grow_all bytes moves.0 m ts one.after one.is_in moves.2 in
    record {
      after = others.after;
      words = others.words ∙ ap (λ (ws : List Word). ws ++ map (word bytes) ts) one.words ∙ append_assoc (partial_words p) (word bytes t ∷ []) (map (word bytes) ts);
      is_in = others.is_in;
    }

abbrev pub nothing : Partial
nothing = record { layers = []; entries = none; waits = None }

-- ---- all open lists end

abbrev pub closers : ℕ → List Word
closers zero = []
closers (suc n) = closes ∷ closers n

abbrev pub close : List Layer → Entries → Entries
close [] es = es
close (l ∷ ls) es = close ls (push l.entries (entry l.name l.at (list es)))

pub spelling-close : (ls : List Layer) (es : Entries) → spelling (close ls es) ≡ (front ls ++ spelling es) ++ closers (length ls)
spelling-close [] es = sym (append-nil (spelling es))
spelling-close (l ∷ ls) es = spelling-close ls (push l.entries (entry l.name l.at (list es))) ∙ rw (spelling-push l.entries (entry l.name l.at (list es))) (simp append_assoc)

pub walk_closers : (n : ℕ) → walk false n (closers n) ≡ Some (false, 0)
walk_closers zero = refl
walk_closers (suc n) = walk_closers n

-- what ends the text
abbrev pub ending : Option (List ℕ × ℕ) → ℕ → List Word
ending None n = closers n
ending (Some w) n = value (int (pos 0)) ∷ closers n

abbrev pub ended : Partial → Entries
ended p = elim p.waits [ None ↦ close p.layers p.entries | Some w ↦ close p.layers (push p.entries (entry w.0 w.1 (atom (int (pos 0))))) ]

ended_words : (ls : List Layer) (es : Entries) (w : Option (List ℕ × ℕ)) → spelling (ended (record { layers = ls; entries = es; waits = w })) ≡ partial_words (record { layers = ls; entries = es; waits = w }) ++ ending w (length ls)
ended_words ls es None = spelling-close ls es ∙ simp (append_assoc, append-nil)
ended_words ls es (Some w) = spelling-close ls (push es (entry w.0 w.1 (atom (int (pos 0))))) ∙ rw (spelling-push es (entry w.0 w.1 (atom (int (pos 0))))) (simp append_assoc)

walk_ending : (w : Option (List ℕ × ℕ)) (n : ℕ) → walk (is_some w) n (ending w n) ≡ Some (false, 0)
walk_ending None n = walk_closers n
walk_ending (Some w) n = walk_closers n

-- some text goes on
pub goes_on : (bytes : List ℕ) (ts : List Token) (s : State) → Moves bytes begin ts s → (others : List Word) × (tree : Entries) × IsBounded tree × (spelling tree ≡ map (word bytes) ts ++ others)
goes_on bytes ts s moves =
    let g = grow_all bytes begin s ts nothing (record { waits = refl; layers = refl }) moves in
    let p = g.after in
    let others = ending p.waits (length p.layers) in
    let spelled : spelling (ended p) ≡ map (word bytes) ts ++ others = ended_words p.layers p.entries p.waits ∙ ap (λ (ws : List Word). ws ++ others) g.words in
    let walked : walk false 0 (spelling (ended p) ++ []) ≡ Some (false, 0) =
    ap (walk false 0) (append-nil (spelling (ended p)) ∙ spelled) ∙ walk_moves bytes begin s ts others moves ∙ (λ i. walk (g.is_in.waits i) (g.is_in.layers i) others) ∙ walk_ending p.waits (length p.layers) in
    let bounded = walked_list (ended p) 0 [] (false, 0) (omega arith) walked in
    (others, ended p, record { nests = omega (arith, bounded.nests); fit = bounded.fit }, spelled)
