-- Words ask for at most one task: the first word is the task's verb, and each verb has a first letter of its own. A new verb
-- takes one line in each definition below, and one case of `one_held`.
use Rattle.std.proofs.Common.{◌≡◌, Bool, true, false, nat_eq, subst, ℕ, suc, ◌+◌, ◌*◌, ◌<◌, ℤ, pos, List, [], ◌∷◌, length, get_or, drop, codes, refl, sym, ap, ◌∙◌, arith}
use Rattle.st_words.specs.declared.words.Command.TheVariants.{Query, Test, Draw, Lattice}
use Rattle.st_words.specs.declared.words.DrawForm.{DrawForm}
use Rattle.st_words.specs.declared.words.DrawForm.TheVariants.{Visibility, Tessellation, Constrained, Polyline, Dominance}
use Rattle.st_words.specs.declared.words.Operation.TheVariants.{Join, Meet}
use Rattle.st_words.specs.declared.words.Recipe.{Recipe}
use Rattle.st_words.specs.declared.words.Spot.{Spot}
use Rattle.st_words.specs.declared.words.Spot.TheVariants.{Left, Middle, Right}
use Rattle.st_words.specs.declared.words.Task.{Task}
use Rattle.st_words.specs.declared.words.Task.TheVariants.{File, Check, Orient, Session, Gen, Bench}
use Rattle.st_words.specs.Words.{IsName, ArePairNames, form_words, AreForm, IsRecipe, IsTask, HasOneTask}

pair_same : (p q : ℤ × ℤ) → p.0 ≡ q.0 → p.1 ≡ q.1 → p ≡ q
pair_same p q e f = ap (λ (z : ℤ). let r : ℤ × ℤ = (z, p.1) in r) e ∙ ap (λ (z : ℤ). let r : ℤ × ℤ = (q.0, z) in r) f

same_list : (ps qs : List (ℤ × ℤ)) → length ps ≡ length qs → ((i : ℕ) → i < length ps → get_or ps i (pos 0, pos 0) ≡ get_or qs i (pos 0, pos 0)) → ps ≡ qs
same_list [] [] n each = refl
same_list [] (q ∷ qs) n each = absurd (omega arith)
same_list (p ∷ ps) [] n each = absurd (omega arith)
same_list (p ∷ ps) (q ∷ qs) n each =
    ap (λ (z : ℤ × ℤ). z ∷ ps) (each 0 (omega arith)) ∙ ap (λ (zs : List (ℤ × ℤ)). q ∷ zs) (same_list ps qs (omega arith) (λ i l. each (suc i) (omega arith)))

same_name : (word : List ℕ) (n m : ℤ) → IsName word n → IsName word m → n ≡ m
same_name word n m h k = sym h.value ∙ k.value

same_names : (words : List (List ℕ)) (ps qs : List (ℤ × ℤ)) → ArePairNames words ps → ArePairNames words qs → ps ≡ qs
same_names words ps qs h k =
    let n : length ps ≡ length qs = omega (arith, h.size, k.size) in
    same_list ps qs n (λ i l.
    let l' : i < length qs = omega arith in
    pair_same (get_or ps i (pos 0, pos 0)) (get_or qs i (pos 0, pos 0))
    (same_name (get_or words (2 * i) []) _ _ (h.first i l) (k.first i l'))
    (same_name (get_or words (2 * i + 1) []) _ _ (h.second i l) (k.second i l')))

-- the first letter of the first word, and of the second
first_letter : List (List ℕ) → ℕ
first_letter words = get_or (get_or words 0 []) 0 0

second_letter : List (List ℕ) → ℕ
second_letter words = get_or (get_or words 1 []) 0 0

-- the forms and the spots by the letters of their words
form_letter : DrawForm → ℕ
form_letter Visibility = 118
form_letter Tessellation = 116
form_letter Constrained = 99
form_letter (Polyline spot) = 112
form_letter Dominance = 100

spot_letter : Spot → ℕ
spot_letter Left = 108
spot_letter Middle = 109
spot_letter Right = 114

form_first : (form : DrawForm) → first_letter (form_words form) ≡ form_letter form
unfolding first_letter form_letter
form_first Visibility = refl
form_first Tessellation = refl
form_first Constrained = refl
form_first (Polyline spot) = refl
form_first Dominance = refl

spot_second : (spot : Spot) → second_letter (form_words (Polyline spot)) ≡ spot_letter spot
unfolding second_letter spot_letter
spot_second Left = refl
spot_second Middle = refl
spot_second Right = refl

same_spot : (s s' : Spot) → spot_letter s ≡ spot_letter s' → s ≡ s'
unfolding spot_letter
same_spot Left Left e = refl
same_spot Left Middle e = absurd (omega (arith, e))
same_spot Left Right e = absurd (omega (arith, e))
same_spot Middle Left e = absurd (omega (arith, e))
same_spot Middle Middle e = refl
same_spot Middle Right e = absurd (omega (arith, e))
same_spot Right Left e = absurd (omega (arith, e))
same_spot Right Middle e = absurd (omega (arith, e))
same_spot Right Right e = refl

-- a form has words of its own
by_letters : (f f' : DrawForm) → form_words f ≡ form_words f' → form_letter f ≡ form_letter f' → f ≡ f'
unfolding form_letter
by_letters Visibility Visibility w e = refl
by_letters Visibility Tessellation w e = absurd (omega (arith, e))
by_letters Visibility Constrained w e = absurd (omega (arith, e))
by_letters Visibility (Polyline s) w e = absurd (omega (arith, e))
by_letters Visibility Dominance w e = absurd (omega (arith, e))
by_letters Tessellation Visibility w e = absurd (omega (arith, e))
by_letters Tessellation Tessellation w e = refl
by_letters Tessellation Constrained w e = absurd (omega (arith, e))
by_letters Tessellation (Polyline s) w e = absurd (omega (arith, e))
by_letters Tessellation Dominance w e = absurd (omega (arith, e))
by_letters Constrained Visibility w e = absurd (omega (arith, e))
by_letters Constrained Tessellation w e = absurd (omega (arith, e))
by_letters Constrained Constrained w e = refl
by_letters Constrained (Polyline s) w e = absurd (omega (arith, e))
by_letters Constrained Dominance w e = absurd (omega (arith, e))
by_letters (Polyline s) Visibility w e = absurd (omega (arith, e))
by_letters (Polyline s) Tessellation w e = absurd (omega (arith, e))
by_letters (Polyline s) Constrained w e = absurd (omega (arith, e))
by_letters (Polyline s) (Polyline s') w e = ap (λ z. Polyline z) (same_spot s s' (sym (spot_second s) ∙ ap second_letter w ∙ spot_second s'))
by_letters (Polyline s) Dominance w e = absurd (omega (arith, e))
by_letters Dominance Visibility w e = absurd (omega (arith, e))
by_letters Dominance Tessellation w e = absurd (omega (arith, e))
by_letters Dominance Constrained w e = absurd (omega (arith, e))
by_letters Dominance (Polyline s) w e = absurd (omega (arith, e))
by_letters Dominance Dominance w e = refl

same_form : (words : List (List ℕ)) (f f' : DrawForm) → AreForm words f → AreForm words f' → f ≡ f'
same_form words f f' h k =
    let w : form_words f ≡ form_words f' = sym h ∙ k in
    by_letters f f' w (sym (form_first f) ∙ ap first_letter w ∙ form_first f')

same_recipe : (a b : List ℕ) (r r' : Recipe) → IsRecipe a b r → IsRecipe a b r' → r ≡ r'
same_recipe a b r r' h k =
    ap (λ (z : ℕ). let x : Recipe = record { vertices = z; seed = r.seed } in x) (sym h.vertices.value ∙ k.vertices.value)
    ∙ ap (λ (z : ℕ). let x : Recipe = record { vertices = r'.vertices; seed = z } in x) (sym h.words.value ∙ k.words.value)

same_two : (words : List (List ℕ)) (p q : ℤ × ℤ) → ArePairNames words (p ∷ []) → ArePairNames words (q ∷ []) → p ≡ q
same_two words p q h k = ap (λ (zs : List (ℤ × ℤ)). get_or zs 0 p) (same_names words (p ∷ []) (q ∷ []) h k)

-- ---- a verb, and what is said with it
data Verb : Type 0 where
  test : Verb
  draw : Verb
  query : Verb
  join : Verb
  meet : Verb
  check : Verb
  orient : Verb
  session : Verb
  gen : Verb
  bench : Verb

Held : Verb → Type 0
Held test = Unit {0}
Held draw = DrawForm
Held query = List (ℤ × ℤ)
Held join = ℤ × ℤ
Held meet = ℤ × ℤ
Held check = Unit {0}
Held orient = ℤ × ℤ
Held session = Unit {0}
Held gen = Recipe
Held bench = Recipe × DrawForm

task : (v : Verb) → Held v → Task
unfolding Held
task test h = File Test
task draw form = File (Draw form)
task query pairs = File (Query pairs)
task join p = File (Lattice Join p.0 p.1)
task meet p = File (Lattice Meet p.0 p.1)
task check h = Check
task orient p = Orient p.0 p.1
task session h = Session
task gen r = Gen r
task bench h = Bench h.0 h.1

verb : Task → Verb
verb (File Test) = test
verb (File (Draw form)) = draw
verb (File (Query pairs)) = query
verb (File (Lattice Join from to)) = join
verb (File (Lattice Meet from to)) = meet
verb Check = check
verb (Orient from to) = orient
verb Session = session
verb (Gen r) = gen
verb (Bench r form) = bench

held : (t : Task) → Held (verb t)
unfolding Held verb
held (File Test) = tt
held (File (Draw form)) = form
held (File (Query pairs)) = pairs
held (File (Lattice Join from to)) = (from, to)
held (File (Lattice Meet from to)) = (from, to)
held Check = tt
held (Orient from to) = (from, to)
held Session = tt
held (Gen r) = r
held (Bench r form) = (r, form)

whole : (t : Task) → task (verb t) (held t) ≡ t
unfolding Held verb held task
whole (File Test) = refl
whole (File (Draw form)) = refl
whole (File (Query pairs)) = refl
whole (File (Lattice Join from to)) = refl
whole (File (Lattice Meet from to)) = refl
whole Check = refl
whole (Orient from to) = refl
whole Session = refl
whole (Gen r) = refl
whole (Bench r form) = refl

-- ---- the first letter tells the verb
letter : Verb → ℕ
letter test = 116
letter draw = 100
letter query = 113
letter join = 106
letter meet = 109
letter check = 99
letter orient = 111
letter session = 115
letter gen = 103
letter bench = 98

choose : Bool → Verb → Verb → Verb
choose true v w = v
choose false v w = w

verb_by : ℕ → Verb
verb_by l =
    choose (nat_eq l 116) test (choose (nat_eq l 100) draw (choose (nat_eq l 113) query (choose (nat_eq l 106) join
    (choose (nat_eq l 109) meet (choose (nat_eq l 99) check (choose (nat_eq l 103) gen (choose (nat_eq l 111) orient (choose (nat_eq l 115) session bench))))))))

by_letter : (v : Verb) → verb_by (letter v) ≡ v
unfolding letter choose verb_by
by_letter test = refl
by_letter draw = refl
by_letter query = refl
by_letter join = refl
by_letter meet = refl
by_letter check = refl
by_letter orient = refl
by_letter session = refl
by_letter gen = refl
by_letter bench = refl

of_word : (word name : List ℕ) → word ≡ name → get_or word 0 0 ≡ get_or name 0 0
of_word word name e = ap (λ (z : List ℕ). get_or z 0 0) e

said : (words : List (List ℕ)) (t : Task) → IsTask words t → first_letter words ≡ letter (verb t)
unfolding first_letter verb letter
said [] (File c) h = absurd h
said (name ∷ words) (File Test) h = of_word name (codes "test") h.0
said (name ∷ words) (File (Draw form)) h = of_word name (codes "draw") h.0
said (name ∷ words) (File (Query pairs)) h = of_word name (codes "query") h.0
said (name ∷ words) (File (Lattice Join from to)) h = of_word name (codes "join") h.0
said (name ∷ words) (File (Lattice Meet from to)) h = of_word name (codes "meet") h.0
said words Check h = ap (λ (z : List (List ℕ)). get_or (get_or z 0 []) 0 0) h
said [] (Orient from to) h = absurd h
said (name ∷ words) (Orient from to) h = of_word name (codes "orient") h.0
said words Session h = ap (λ (z : List (List ℕ)). get_or (get_or z 0 []) 0 0) h
said words (Gen r) h = of_word (get_or words 0 []) (codes "gen") h.1
said words (Bench r form) h = of_word (get_or words 0 []) (codes "bench") h.0

-- ---- with one verb, words say one thing
one_held : (words : List (List ℕ)) (v : Verb) (a b : Held v) → IsTask words (task v a) → IsTask words (task v b) → task v a ≡ task v b
unfolding Held task
one_held words test a b h k = refl
one_held [] draw a b h k = absurd h
one_held (name ∷ words) draw a b h k = ap (λ z. File (Draw z)) (same_form words a b h.1 k.1)
one_held [] query a b h k = absurd h
one_held (name ∷ words) query a b h k = ap (λ (z : List (ℤ × ℤ)). File (Query z)) (same_names words a b h.1.2 k.1.2)
one_held [] join a b h k = absurd h
one_held (name ∷ words) join a b h k = ap (λ (z : ℤ × ℤ). File (Lattice Join z.0 z.1)) (same_two words (a.0, a.1) (b.0, b.1) h.1 k.1)
one_held [] meet a b h k = absurd h
one_held (name ∷ words) meet a b h k = ap (λ (z : ℤ × ℤ). File (Lattice Meet z.0 z.1)) (same_two words (a.0, a.1) (b.0, b.1) h.1 k.1)
one_held words check a b h k = refl
one_held [] orient a b h k = absurd h
one_held (name ∷ words) orient a b h k = ap (λ (z : ℤ × ℤ). Orient z.0 z.1) (same_two words (a.0, a.1) (b.0, b.1) h.1 k.1)
one_held words session a b h k = refl
one_held words gen a b h k = ap (λ z. Gen z) (same_recipe (get_or words 1 []) (get_or words 2 []) a b h.2 k.2)
one_held words bench a b h k =
    ap (λ z. Bench z a.1) (same_recipe (get_or words 1 []) (get_or words 2 []) a.0 b.0 h.1 k.1) ∙ ap (λ z. Bench b.0 z) (same_form (drop 3 words) a.1 b.1 h.2 k.2)

by_verbs : (words : List (List ℕ)) (v w : Verb) (a : Held v) → v ≡ w → IsTask words (task v a) → (b : Held w) → IsTask words (task w b) → task v a ≡ task w b
by_verbs words v w a e h = subst (λ (z : Verb). (b : Held z) → IsTask words (task z b) → task v a ≡ task z b) e (λ b k. one_held words v a b h k)

pub one_task_law : HasOneTask
one_task_law words t u h k =
    let e : verb t ≡ verb u = sym (by_letter (verb t)) ∙ ap verb_by (sym (said words t h) ∙ said words u k) ∙ by_letter (verb u) in
    let h' : IsTask words (task (verb t) (held t)) = subst (IsTask words) (sym (whole t)) h in
    let k' : IsTask words (task (verb u) (held u)) = subst (IsTask words) (sym (whole u)) k in
    sym (whole t) ∙ by_verbs words (verb t) (verb u) (held t) e h' (held u) k' ∙ whole u
