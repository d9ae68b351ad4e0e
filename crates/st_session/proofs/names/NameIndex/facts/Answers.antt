use Rattle.std.proofs.Common.{List, ℤ, subst}
use Rattle.st_session.specs.States.{HasEachOnce}
use Rattle.st_session.proofs.NameLemmas.{each_once_distinct}
use Rattle.st_session.proofs.names.NameIndex.facts.Goals as goal

pub returns : goal.returns
returns c = subst (λ (ks : List ℤ). HasEachOnce ks) c.self.view_is (each_once_distinct c.self.inside.set.keys c.len.ensures.unique)
