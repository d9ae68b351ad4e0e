use Rattle.std.proofs.Common.{◌≡◌, ℕ, ◌+◌, Some, None, Bool, true, List, refl, sym, ◌∙◌, ap, subst, arith, cond}
use Rattle.std.specs.Ordering.{is_eq}
use Rattle.std.proofs.Math.ListN.{set}
use Rattle.st_map.specs.Embedded.{Embedded}
use Rattle.st_number.specs.Parallel.{IsMarking, noted_at, compare_ends}
use Rattle.st_number.proofs.MarkLemmas.{ends, mark_new, mark_seen}
use Rattle.st_number.proofs.multiple.mark.Goals as goal

abbrev pair : ℕ → ℕ → ℕ × ℕ
pair a b = (a, b)

pair_same : (a b c d : ℕ) → a ≡ c → b ≡ d → pair a b ≡ pair c d
pair_same a b c d p q = λ i. (p i, q i)

pub set-requires : goal.set-requires
set-requires c =
    let g : Embedded = c.args.map.now.graph in
    let key : pair c.tail.result.0 c.head.result.0 ≡ ends g c.args.e.0 = pair_same _ _ _ _ c.tail.ensures.value c.head.ensures.value in
    let o = c.in_ok-d.ensures.old in
    let i = c.in-Some.is in
    let found : noted_at c.args.noted.now (pair c.tail.result.0 c.head.result.0) ≡ Some c.in-Some.d = sym o ∙ i in
    let told = c.requires.marking.told (pair c.tail.result.0 c.head.result.0) c.in-Some.d found in
    omega (arith, told.0, c.requires.there, c.requires.marking.size)

pub returns-in-Some : goal.returns-in-Some
returns-in-Some c =
    let g : Embedded = c.args.map.now.graph in
    let key : pair c.tail.result.0 c.head.result.0 ≡ ends g c.args.e.0 = pair_same _ _ _ _ c.tail.ensures.value c.head.ensures.value in
    let o = c.in_ok-d.ensures.old in
    let i = c.in-Some.is in
    let found : noted_at c.args.noted.now (pair c.tail.result.0 c.head.result.0) ≡ Some c.in-Some.d = sym o ∙ i in
    let at : noted_at c.args.noted.now (ends g c.args.e.0) ≡ Some c.in-Some.d = subst (λ z. noted_at c.args.noted.now z ≡ Some c.in-Some.d) key found in
    let there : noted_at c.note.new.noted (ends g c.args.e.0) ≡ Some c.args.e = subst (λ z. noted_at c.note.new.noted z ≡ Some c.args.e) key c.in_ok-d.ensures.there in
    let others : (q : ℕ × ℕ) → noted_at c.note.new.noted q ≡ cond (is_eq (compare_ends (ends g c.args.e.0) q)) (Some c.args.e) (noted_at c.args.noted.now q) =
    subst (λ z. (q : ℕ × ℕ) → noted_at c.note.new.noted q ≡ cond (is_eq (compare_ends z q)) (Some c.args.e) (noted_at c.args.noted.now q)) key c.in_ok-d.ensures.others in
    let is : c.set-in-Some.new.self ≡ set (set c.args.flags.now c.in-Some.d.0 true) c.args.e.0 true =
    c.set-in-Some.ensures ∙ ap (λ (z : List Bool). set z c.args.e.0 true) c.set.ensures in
    subst (λ z. IsMarking g (noted_at c.note.new.noted) z (c.args.e.0 + 1)) (sym is)
    (mark_seen g (noted_at c.args.noted.now) c.args.flags.now c.args.e.0 c.requires.there c.requires.marking (noted_at c.note.new.noted) c.args.e refl c.in-Some.d at there others)

pub returns-in-None : goal.returns-in-None
returns-in-None c =
    let g : Embedded = c.args.map.now.graph in
    let key : pair c.tail.result.0 c.head.result.0 ≡ ends g c.args.e.0 = pair_same _ _ _ _ c.tail.ensures.value c.head.ensures.value in
    let o = c.in_ok-d.ensures.old in
    let i = c.in-None.is in
    let none : noted_at c.args.noted.now (ends g c.args.e.0) ≡ None = subst (λ z. noted_at c.args.noted.now z ≡ None) key (sym o ∙ i) in
    let there : noted_at c.note.new.noted (ends g c.args.e.0) ≡ Some c.args.e = subst (λ z. noted_at c.note.new.noted z ≡ Some c.args.e) key c.in_ok-d.ensures.there in
    let others : (q : ℕ × ℕ) → noted_at c.note.new.noted q ≡ cond (is_eq (compare_ends (ends g c.args.e.0) q)) (Some c.args.e) (noted_at c.args.noted.now q) =
    subst (λ z. (q : ℕ × ℕ) → noted_at c.note.new.noted q ≡ cond (is_eq (compare_ends z q)) (Some c.args.e) (noted_at c.args.noted.now q)) key c.in_ok-d.ensures.others in
    mark_new g (noted_at c.args.noted.now) c.args.flags.now c.args.e.0 c.requires.there c.requires.marking (noted_at c.note.new.noted) c.args.e refl none there others
