-- How stages of the answer follow one another in the code.
use Rattle.std.proofs.Common.{refl}
use Rattle.std.specs.Prelude.{Result, Ok, Err}
use Rattle.st_report.specs.declared.stop.Refusal.{Refusal}
use Rattle.st_report.specs.declared.stop.Stop.{Stop}
use Rattle.st_report.specs.declared.stop.Stop.TheVariants.{Refused, ReadFault, WriteFault, NoMemory}
use Rattle.st_verdict.specs.Stages.{Then, refuses, goes_on}
use Rattle.st_verdict.specs.Stops.{IsStop, Gives}

-- a stop of the first stage is one of both
pub stop_first : {A B : Type 0} (first : Result A Refusal → Type 0) (next : A → Result B Refusal → Type 0) (stop : Stop) → IsStop first stop → IsStop (Then first next) stop
stop_first first next (Refused r) h = refuses r h refl
stop_first first next ReadFault h = absurd h
stop_first first next WriteFault h = absurd h
stop_first first next NoMemory h = tt

-- what the next stage gives after the first found something
pub gives_next : {A B : Type 0} (first : Result A Refusal → Type 0) (next : A → Result B Refusal → Type 0) (found : A) (result : Result B Stop) → first (Ok found) → Gives (next found) result → Gives (Then first next) result
gives_next first next found (Ok b) h g = goes_on found h g
gives_next first next found (Err (Refused r)) h g = goes_on found h g
gives_next first next found (Err ReadFault) h g = absurd g
gives_next first next found (Err WriteFault) h g = absurd g
gives_next first next found (Err NoMemory) h g = tt
