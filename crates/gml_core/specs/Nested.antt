-- How the lists that are open lie in one another.
--   nested fs n      no list begins before the one around it, the innermost first, and none behind n pairs
use Rattle.std.specs.Prelude.{ℕ, Bool, true, false, if◌then◌else◌, nat_le, List, [], ◌∷◌}
use Rattle.gml_core.specs.declared.parsing.Frame.{Frame}

abbrev pub nested : List Frame → ℕ → Bool
nested [] n = true
nested (f ∷ fs) n = if nat_le f.start n then nested fs f.start else false
