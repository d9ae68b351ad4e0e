-- What a reader of tokens keeps: the words that it took, and the state after them.
--   open_words fs ps        the words of the lists that are open
--   words_of b              the words that a builder took
--   state_of b              the state after them
--   TakesWord at w old new  the word at this place is taken
--   IsAtom w v              the value is what the word says
--   IsFinished b t          the words are those of the tree, and nothing is left open
use Rattle.std.specs.Prelude.{◌≡◌, ℕ, List, [], ◌∷◌, ◌++◌, map, reverse, take, drop, true, Option, Some, None, Ok}
use Rattle.gml_core.specs.declared.tree.Value.{Value}
use Rattle.gml_core.specs.declared.tree.Pair.{Pair}
use Rattle.gml_core.specs.declared.tree.Tree.{Tree}
use Rattle.gml_core.specs.declared.parsing.Frame.{Frame}
use Rattle.gml_core.specs.declared.parsing.Waiting.{Waiting}
use Rattle.gml_core.specs.declared.parsing.Builder.{Builder}
use Rattle.gml_core.specs.Trees.{Word, opens, key, value as value_word, Atom, atom, fits, spelling}
use Rattle.gml_core.specs.Views.{entries, datum, view}
use Rattle.gml_core.specs.Reading.{State, begin, step_at}

-- the words of the lists that are open, the innermost first, where these are the pairs of all
abbrev pub open_words : List Frame → List Pair → List Word
open_words [] ps = spelling (entries ps)
open_words (f ∷ fs) ps = open_words fs (take f.start ps) ++ key f.key f.at ∷ opens ∷ spelling (entries (drop f.start ps))

abbrev pub waiting_words : Option Waiting → List Word
waiting_words None = []
waiting_words (Some w) = key w.key w.at ∷ []

abbrev pub waiting_place : Option Waiting → Option ℕ
waiting_place None = None
waiting_place (Some w) = Some w.at

abbrev pub words_of : Builder → List Word
words_of b = open_words (reverse b.stack.items) b.pairs.items ++ waiting_words b.waits

-- where the open lists begin, the innermost first
abbrev pub places : List Frame → List ℕ
places fs = reverse (map (λ f. f.from) fs)

abbrev pub state_of : Builder → State
state_of b = record { waits = waiting_place b.waits; lists = places b.stack.items }

-- a word is taken, at a place
pub record TakesWord (at : ℕ) (w : Word) (old new : Builder) : Type 0 where
  pub words : words_of new ≡ words_of old ++ w ∷ []
  pub state : step_at (state_of old) at w ≡ Ok (state_of new)

-- the value is the word's, which is no bracket and no key
pub record IsAtom (w : Word) (v : Value) : Type 0 where
  pub said : Atom
  pub value : datum v ≡ atom said
  pub word : w ≡ value_word said
  pub fit : fits said ≡ true

-- the words so far are those of the tree, and no list is open and no value missing
pub record IsFinished (b : Builder) (t : Tree) : Type 0 where
  pub words : words_of b ≡ spelling (view t)
  pub state : state_of b ≡ begin
