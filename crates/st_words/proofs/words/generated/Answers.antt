use Rattle.std.proofs.Common.{◌≡◌, ◌≤◌, ◌-◌, length, map, get_or, take, drop, [], codes, arith, rules, sym, subst, ◌∙◌}
use Rattle.std.specs.String.{string_bytes}
use Rattle.std.proofs.lemmas.List.{length-map}
use Rattle.st_words.specs.Words.{AreForm}
use Rattle.st_words.proofs.WordLemmas.{image_at, no_recipe, recipe_in, recipe_out, behind_three}
use Rattle.st_words.proofs.words.generated.Goals as goal

pub returns-in_default-clause-none : goal.returns-in_default-clause-none
returns-in_default-clause-none c =
    let there : 3 ≤ length c.args.words.now = omega arith in
    no_recipe (map string_bytes c.args.words.now)
    (λ r h. c.in_default.ensures r (recipe_out string_bytes c.args.words.now c.index-words-1.result c.index-words-2.result there c.index-words-1.is c.index-words-2.is r h))

pub returns-then-eq-clause-some : goal.returns-then-eq-clause-some
returns-then-eq-clause-some c =
    let there : 3 ≤ length c.args.words.now = omega arith in
    let called : string_bytes c.index-words-0.result ≡ codes "gen" = search rules in
    let count : length c.args.words.now ≡ 3 = omega arith in
    let first : string_bytes c.index-words-0.result ≡ get_or (map string_bytes c.args.words.now) 0 [] = image_at string_bytes c.args.words.now 0 c.index-words-0.result [] (omega arith) c.index-words-0.is in (
      length-map c.args.words.now string_bytes ∙ count,
      sym first ∙ called,
      recipe_in string_bytes c.args.words.now c.index-words-1.result c.index-words-2.result there c.index-words-1.is c.index-words-2.is c.in-Some.recipe c.in-Some.ensures,
    )

pub returns-in-Some-form_of-clause-some : goal.returns-in-Some-form_of-clause-some
returns-in-Some-form_of-clause-some c =
    let there : 3 ≤ length c.args.words.now = omega arith in
    let called : string_bytes c.index-words-0-2.result ≡ codes "bench" = search rules in
    let first : string_bytes c.index-words-0-2.result ≡ get_or (map string_bytes c.args.words.now) 0 [] = image_at string_bytes c.args.words.now 0 c.index-words-0-2.result [] (omega arith) c.index-words-0-2.is in
    let are : AreForm (map string_bytes (take (length c.args.words.now - 3) (drop 3 c.args.words.now))) c.in-Some-form_of.form = search rules in (
      sym first ∙ called,
      recipe_in string_bytes c.args.words.now c.index-words-1.result c.index-words-2.result there c.index-words-1.is c.index-words-2.is c.in-Some.recipe c.in-Some.ensures,
      subst (λ z. AreForm z c.in-Some-form_of.form) (behind_three string_bytes c.args.words.now) are,
    )
