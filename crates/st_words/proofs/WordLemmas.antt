-- The words of a query, read two by two, and those of a generated graph.
use Rattle.std.proofs.Common.{◌≡◌, refl, ℕ, ◌+◌, ◌*◌, ◌<◌, ◌≤◌, ℤ, pos, inl, inr, List, [], ◌∷◌, ◌++◌, length, get_or, map, take, drop, ◌-◌, codes, sym, ap, ◌∙◌, subst, arith}
use Rattle.std.proofs.lemmas.List.{length_push, get_or_push, get_or_append_left, get_or-map, take_all, drop-map, length-drop}
use Rattle.std.proofs.lemmas.Bool.{cases_lt}
use Rattle.st_words.specs.declared.words.Command.{Command}
use Rattle.st_words.specs.declared.words.Command.TheVariants.{Query, Test, Draw, Lattice}
use Rattle.st_words.specs.declared.words.Operation.{Operation}
use Rattle.st_words.specs.declared.words.Operation.TheVariants.{Join, Meet}
use Rattle.st_words.specs.declared.words.Recipe.{Recipe}
use Rattle.st_words.specs.declared.words.Task.{Task}
use Rattle.st_words.specs.declared.words.Task.TheVariants.{File, Check, Orient, Session, Gen, Bench}
use Rattle.st_words.specs.Words.{IsName, ArePairNames, operation_word, IsRecipe, AreRecipe, IsCommand, IsTask, IsFileless}

-- the first i pairs of words write the names of the pairs
pub record AreFirstNames (words : List (List ℕ)) (i : ℕ) (pairs : List (ℤ × ℤ)) : Type 0 where
  pub size : length pairs ≡ i
  pub first : (k : ℕ) → k < i → IsName (get_or words (2 * k) []) (get_or pairs k (pos 0, pos 0)).0
  pub second : (k : ℕ) → k < i → IsName (get_or words (2 * k + 1) []) (get_or pairs k (pos 0, pos 0)).1

pub no_names : (words : List (List ℕ)) → AreFirstNames words 0 []
no_names words = record { size = omega arith; first = λ k l. absurd (omega arith); second = λ k l. absurd (omega arith) }

pub names_push : (words : List (List ℕ)) (i : ℕ) (pairs : List (ℤ × ℤ)) (u v : ℤ) → AreFirstNames words i pairs → IsName (get_or words (2 * i) []) u → IsName (get_or words (2 * i + 1) []) v → AreFirstNames words (i + 1) (pairs ++ (u, v) ∷ [])
names_push words i pairs u v h a b =
    let old : (k : ℕ) → k < i → get_or (pairs ++ (u, v) ∷ []) k (pos 0, pos 0) ≡ get_or pairs k (pos 0, pos 0) = λ k l. get_or_append_left pairs ((u, v) ∷ []) (pos 0, pos 0) k (omega (arith, h.size)) in
    let new : (k : ℕ) → k ≡ i → get_or (pairs ++ (u, v) ∷ []) k (pos 0, pos 0) ≡ (u, v) = λ k q. get_or_push pairs (u, v) (pos 0, pos 0) k (h.size ∙ sym q) in
    record {
      size = omega (arith, h.size, length_push pairs (u, v));
      first = λ k l. elim (cases_lt k i) [
        | inl lt ↦ subst (λ (p : ℤ × ℤ). IsName (get_or words (2 * k) []) p.0) (sym (old k lt)) (h.first k lt)
        | inr ge ↦
            let q : k ≡ i = omega arith in
            subst (λ (p : ℤ × ℤ). IsName (get_or words (2 * k) []) p.0) (sym (new k q)) (subst (λ (j : ℕ). IsName (get_or words (2 * j) []) u) (sym q) a)
      ];
      second = λ k l. elim (cases_lt k i) [
        | inl lt ↦ subst (λ (p : ℤ × ℤ). IsName (get_or words (2 * k + 1) []) p.1) (sym (old k lt)) (h.second k lt)
        | inr ge ↦
            let q : k ≡ i = omega arith in
            subst (λ (p : ℤ × ℤ). IsName (get_or words (2 * k + 1) []) p.1) (sym (new k q)) (subst (λ (j : ℕ). IsName (get_or words (2 * j + 1) []) v) (sym q) b)
      ];
    }

pub names_whole : (words : List (List ℕ)) (i : ℕ) (pairs : List (ℤ × ℤ)) → AreFirstNames words i pairs → length words ≡ 2 * i → ArePairNames words pairs
names_whole words i pairs h all = record {
  size = omega (arith, h.size);
  first = λ k l. h.first k (omega (arith, h.size));
  second = λ k l. h.second k (omega (arith, h.size));
}

-- a word that writes no name, first or second of its pair
pub no_first : (words : List (List ℕ)) (i : ℕ) → 2 * i < length words → ((n : ℤ) → IsName (get_or words (2 * i) []) n → ⊥) → (pairs : List (ℤ × ℤ)) → ArePairNames words pairs → ⊥
no_first words i l bad pairs h = bad _ (h.first i (omega (arith, h.size)))

pub no_second : (words : List (List ℕ)) (i : ℕ) → 2 * i + 1 < length words → ((n : ℤ) → IsName (get_or words (2 * i + 1) []) n → ⊥) → (pairs : List (ℤ × ℤ)) → ArePairNames words pairs → ⊥
no_second words i l bad pairs h = bad _ (h.second i (omega (arith, h.size)))

-- an item of a list, and its image
pub image_at : {X Y : Type 0} (f : X → Y) (xs : List X) (j : ℕ) (x : X) (d : Y) → j < length xs → x ≡ get_or xs j x → f x ≡ get_or (map f xs) j d
image_at f xs j x d l is = ap f is ∙ sym (get_or-map f xs j x d l)

-- ---- the first word and the rest
command_letter : Command → ℕ
command_letter Test = 116
command_letter (Draw form) = 100
command_letter (Query pairs) = 113
command_letter (Lattice Join from to) = 106
command_letter (Lattice Meet from to) = 109

of_word : (word name : List ℕ) → word ≡ name → get_or word 0 0 ≡ get_or name 0 0
of_word word name e = ap (λ (z : List ℕ). get_or z 0 0) e

by_letter : (name : List ℕ) (rest : List (List ℕ)) (c : Command) → IsCommand (name ∷ rest) c → get_or name 0 0 ≡ command_letter c
unfolding command_letter
by_letter name rest Test h = of_word name (codes "test") h.0
by_letter name rest (Draw form) h = of_word name (codes "draw") h.0
by_letter name rest (Query pairs) h = of_word name (codes "query") h.0
by_letter name rest (Lattice Join from to) h = of_word name (codes "join") h.0
by_letter name rest (Lattice Meet from to) h = of_word name (codes "meet") h.0

-- the word of a bound, with a rest that isn't two names, is no command
module _ (name : List ℕ) (rest : List (List ℕ)) where
  pub only_bound : (o : Operation) → name ≡ operation_word o → ((u v : ℤ) → ArePairNames rest ((u, v) ∷ []) → ⊥) → (c : Command) → IsCommand (name ∷ rest) c → ⊥
  unfolding command_letter
  only_bound o is none (Lattice o' u v) h = none u v h.1
  only_bound Join is none Test h = omega (arith, of_word name (codes "join") is, by_letter name rest Test h)
  only_bound Join is none (Draw form) h = omega (arith, of_word name (codes "join") is, by_letter name rest (Draw form) h)
  only_bound Join is none (Query pairs) h = omega (arith, of_word name (codes "join") is, by_letter name rest (Query pairs) h)
  only_bound Meet is none Test h = omega (arith, of_word name (codes "meet") is, by_letter name rest Test h)
  only_bound Meet is none (Draw form) h = omega (arith, of_word name (codes "meet") is, by_letter name rest (Draw form) h)
  only_bound Meet is none (Query pairs) h = omega (arith, of_word name (codes "meet") is, by_letter name rest (Query pairs) h)

-- no word
pub none_written : (words : List (List ℕ)) → length words ≡ 0 → words ≡ []
none_written [] n = refl
none_written (w ∷ words) n = absurd (omega (arith, n))

-- a word alone
pub one_word : (words : List (List ℕ)) (a b : List ℕ) → length words ≡ 1 → a ≡ get_or words 0 [] → a ≡ b → words ≡ b ∷ []
one_word [] a b n is same = absurd (omega (arith, n))
one_word (w ∷ []) a b n is same = ap (λ (z : List ℕ). z ∷ []) (sym is ∙ same)
one_word (w ∷ x ∷ words) a b n is same = absurd (omega (arith, n))

pub its_word : (words : List (List ℕ)) (a b : List ℕ) → a ≡ get_or words 0 [] → words ≡ b ∷ [] → a ≡ b
its_word words a b is one = is ∙ ap (λ (z : List (List ℕ)). get_or z 0 []) one

-- two words that write two names
pub two_written : (words : List (List ℕ)) (a b : List ℕ) (u v : ℤ) → length words ≡ 2 → a ≡ get_or words 0 [] → b ≡ get_or words 1 [] → IsName a u → IsName b v → ArePairNames words ((u, v) ∷ [])
two_written words a b u v n at_0 at_1 h k =
    let first : AreFirstNames words 1 ([] ++ (u, v) ∷ []) = names_push words 0 [] u v (no_names words) (subst (λ w. IsName w u) at_0 h) (subst (λ w. IsName w v) at_1 k) in
    names_whole words 1 ((u, v) ∷ []) first (omega (arith, n))

-- ---- a generated graph
-- words in which two places write no recipe ask for no generated graph
pub no_recipe : (words : List (List ℕ)) → ((r : Recipe) → AreRecipe words r → ⊥) → (task : Task) → IsFileless task → IsTask words task → ⊥
no_recipe words none (File command) l h = l
no_recipe words none Check l h = l
no_recipe words none (Orient from to) l h = l
no_recipe words none Session l h = l
no_recipe words none (Gen r) l h = none r h.2
no_recipe words none (Bench r form) l h = none r h.1

module _ {X : Type 0} (f : X → List ℕ) (words : List X) (a b : X) (there : 3 ≤ length words) (first : a ≡ get_or words 1 a) (second : b ≡ get_or words 2 b) where
  -- what the second and the third word write is what the words write
  pub recipe_in : (r : Recipe) → IsRecipe (f a) (f b) r → AreRecipe (map f words) r
  recipe_in r h =
      subst (λ z. IsRecipe z (get_or (map f words) 2 []) r) (image_at f words 1 a [] (omega arith) first)
      (subst (λ z. IsRecipe (f a) z r) (image_at f words 2 b [] (omega arith) second) h)

  pub recipe_out : (r : Recipe) → AreRecipe (map f words) r → IsRecipe (f a) (f b) r
  recipe_out r h =
      subst (λ z. IsRecipe z (f b) r) (sym (image_at f words 1 a [] (omega arith) first))
      (subst (λ z. IsRecipe (get_or (map f words) 1 []) z r) (sym (image_at f words 2 b [] (omega arith) second)) h)

-- words that ask neither for a generated graph, nor for a check, a session or an orientation, nor for a command on a file ask for nothing
pub no_task : (words : List (List ℕ)) → ((task : Task) → IsFileless task → IsTask words task → ⊥) → (IsTask words Check → ⊥) → (IsTask words Session → ⊥) → ((from to : ℤ) → IsTask words (Orient from to) → ⊥) → ((command : Command) → IsCommand words command → ⊥) → (task : Task) → IsTask words task → ⊥
no_task words a b s o d (File command) h = d command h
no_task words a b s o d Check h = b h
no_task words a b s o d (Orient from to) h = o from to h
no_task words a b s o d Session h = s h
no_task words a b s o d (Gen r) h = a (Gen r) tt h
no_task words a b s o d (Bench r form) h = a (Bench r form) tt h

-- the words behind the first three, as code has them
pub behind_three : {X : Type 0} (f : X → List ℕ) (words : List X) → map f (take (length words - 3) (drop 3 words)) ≡ drop 3 (map f words)
behind_three f words =
    let all : take (length words - 3) (drop 3 words) ≡ drop 3 words = take_all (length words - 3) (drop 3 words) (omega (arith, length-drop 3 words)) in
    ap (map f) all ∙ sym (drop-map f 3 words)

-- the first word and those behind it, as code has them
pub first_and_rest : {X : Type 0} (f : X → List ℕ) (words : List X) (w : X) → 1 ≤ length words → w ≡ get_or words 0 w → map f words ≡ f w ∷ map f (take (length words - 1) (drop 1 words))
first_and_rest f [] w l is = absurd (omega arith)
first_and_rest f (x ∷ words) w l is =
    let n : length (x ∷ words) - 1 ≡ length words = omega arith in
    ap (λ z. f z ∷ map f words) (sym is) ∙ ap (λ z. f w ∷ map f z) (sym (take_all (length (x ∷ words) - 1) words (omega (arith, n))))
