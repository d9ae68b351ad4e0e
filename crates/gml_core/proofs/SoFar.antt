-- What `parse` keeps.
use Rattle.std.proofs.Common.{◌≡◌, ℕ, List, [], ◌∷◌, ◌++◌, Option, Some, None, Result, Ok, Err, refl, sym, ap, subst, ◌∙◌}
use Rattle.std.specs.Prelude.{IfOk}
use Rattle.std.proofs.lemmas.List.{map_push}
use Rattle.std.proofs.lemmas.Result.{IfOk-weaker}
use Rattle.gml_core.specs.declared.token.Token.{Token}
use Rattle.gml_core.specs.declared.fault.GmlFault.{GmlFault}
use Rattle.gml_core.specs.declared.parsing.Builder.{Builder}
use Rattle.gml_core.specs.declared.tree.Tree.{Tree}
use Rattle.gml_core.specs.Trees.{Word}
use Rattle.gml_core.specs.Views.{view}
use Rattle.gml_core.specs.Lexing.{next_token, first_place}
use Rattle.gml_core.specs.Reading.{State, begin, word, step, step_at, err_of, fault_of, Moves, IsText, IsFirstFault}
use Rattle.gml_core.specs.Building.{words_of, state_of, TakesWord, IsFinished}
use Rattle.gml_core.specs.Readers.{IsRead}
use Rattle.gml_core.proofs.Cuts.{Leads-push}
use Rattle.gml_core.proofs.Walks.{moves_bounded}

pub Moves-push : (bytes : List ℕ) (s m e : State) (ts : List Token) (t : Token) → Moves bytes s ts m → step bytes m t ≡ Ok e → Moves bytes s (ts ++ t ∷ []) e
Moves-push bytes s m e [] t moves one = (e, ap (λ (x : State). step bytes x t) moves ∙ one, refl)
Moves-push bytes s m e (u ∷ ts) t moves one = (moves.0, moves.1, Moves-push bytes moves.0 m e ts t moves.2 one)

pub read_begins : (bytes : List ℕ) (b : Builder) → b.stack.items ≡ [] → b.pairs.items ≡ [] → b.waits ≡ None → IsRead bytes b (first_place bytes)
read_begins bytes b stack pairs waits = record { tokens = []; leads = refl; words = rw (stack, pairs, waits) refl; moves = rw (stack, waits) refl }

pub step_is : (bytes : List ℕ) (s : State) (t : Token) → step bytes s t ≡ step_at s t.from (word bytes t)
unfolding step step_at
step_is bytes s t = refl

pub read_takes : (bytes : List ℕ) (b c : Builder) (at : ℕ) (t : Token) (w : Word) → IsRead bytes b at → next_token bytes at ≡ Ok (Some t) → word bytes t ≡ w → TakesWord t.from w b c → IsRead bytes c t.to
read_takes bytes b c at t w read comes said takes = record {
  tokens = read.tokens ++ t ∷ [];
  leads = Leads-push bytes (first_place bytes) at read.tokens t read.leads comes;
  words = map_push (word bytes) read.tokens t ∙ ap (λ (ws : List Word). ws ++ word bytes t ∷ []) read.words ∙ ap (λ (v : Word). words_of b ++ v ∷ []) said ∙ sym takes.words;
  moves = Moves-push bytes begin (state_of b) (state_of c) read.tokens t read.moves (step_is bytes (state_of b) t ∙ ap (step_at (state_of b) t.from) said ∙ takes.state);
}

pub read_refuses : (bytes : List ℕ) (b : Builder) (at : ℕ) (t : Token) (w : Word) (f : GmlFault) → IsRead bytes b at → next_token bytes at ≡ Ok (Some t) → word bytes t ≡ w → step_at (state_of b) t.from w ≡ Err f → IsFirstFault bytes f
read_refuses bytes b at t w f read comes said fails =
    let step-is : step bytes (state_of b) t ≡ Err f = step_is bytes (state_of b) t ∙ ap (step_at (state_of b) t.from) said ∙ fails in
    record {
      tokens = read.tokens;
      at = at;
      state = state_of b;
      leads = read.leads;
      moves = read.moves;
      fault = ap (fault_of bytes (state_of b)) comes ∙ ap err_of step-is;
    }

-- whatever comes next and is faulty is the first fault
pub read_fault : (bytes : List ℕ) (b : Builder) (at : ℕ) (comes : Result (Option Token) GmlFault) (f : GmlFault) → IsRead bytes b at → next_token bytes at ≡ comes → fault_of bytes (state_of b) comes ≡ Some f → IsFirstFault bytes f
read_fault bytes b at comes f read e fault = record {
  tokens = read.tokens;
  at = at;
  state = state_of b;
  leads = read.leads;
  moves = read.moves;
  fault = ap (fault_of bytes (state_of b)) e ∙ fault;
}

pub read_text : (bytes : List ℕ) (b : Builder) (at : ℕ) (t : Tree) → IsRead bytes b at → next_token bytes at ≡ Ok None → IsFinished b t → IsText bytes (view t)
read_text bytes b at t read comes finished = record {
  tokens = read.tokens;
  cut = (at, read.leads, comes);
  spelled = read.words ∙ finished.words;
  bounded = moves_bounded bytes read.tokens (view t) (read.words ∙ finished.words) (subst (Moves bytes begin read.tokens) finished.state read.moves);
}

pub read_texts : (bytes : List ℕ) (b : Builder) (at : ℕ) (r : Result Tree GmlFault) → IsRead bytes b at → next_token bytes at ≡ Ok None → IfOk r (IsFinished b) → IfOk r (λ t. IsText bytes (view t))
read_texts bytes b at r read comes finished = IfOk-weaker r (IsFinished b) (λ t. IsText bytes (view t)) (λ t done. read_text bytes b at t read comes done) finished
