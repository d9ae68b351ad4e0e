use Rattle.std.proofs.Common.{ap, refl, rules, w64, FitsSigned, to_z, of_z}
use Rattle.std.proofs.lemmas.Int.{to_z-of_z}
use Rattle.st_report.specs.declared.stop.BadPath.TheVariants.{UnknownEdge}
use Rattle.stdraw_core.specs.Paths.{unknown_edge}
use Rattle.stdraw_core.proofs.paths.name_stop.Goals as goal

pub returns-in-UnknownEdge : goal.returns-in-UnknownEdge
returns-in-UnknownEdge c =
    let fit : FitsSigned w64 c.in-UnknownEdge.name = search rules in
    λ st. record {
      fault = UnknownEdge c.in-UnknownEdge.path (to_z w64 (of_z w64 c.in-UnknownEdge.name));
      is = refl;
      holds = unknown_edge c.in-UnknownEdge.path c.in-UnknownEdge.name ((rw c.in-UnknownEdge.is at c.requires) (λ e. cc)) (ap (λ z. UnknownEdge c.in-UnknownEdge.path z) (to_z-of_z w64 c.in-UnknownEdge.name fit));
    }
