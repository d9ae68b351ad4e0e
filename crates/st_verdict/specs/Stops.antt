-- What a call that belongs to a stage of the answer gives: what the stage says, but for want of memory.
--   StopsAt stage result    where the call stops, it is with a refusal of the stage, or memory ran out
--   Gives stage result      the same, and else what it gives is what the stage finds
use Rattle.std.specs.Prelude.{Result, Ok, Err}
use Rattle.st_report.specs.declared.stop.Refusal.{Refusal}
use Rattle.st_report.specs.declared.stop.Stop.{Stop}
use Rattle.st_report.specs.declared.stop.Stop.TheVariants.{Refused, ReadFault, WriteFault, NoMemory}

-- the stop is a refusal of the stage, or memory ran out
abbrev pub IsStop : {A : Type 0} → (Result A Refusal → Type 0) → Stop → Type 0
IsStop stage (Refused refusal) = stage (Err refusal)
IsStop stage ReadFault = ⊥
IsStop stage WriteFault = ⊥
IsStop stage NoMemory = Unit {0}

abbrev pub StopsAt : {A T : Type 0} → (Result A Refusal → Type 0) → Result T Stop → Type 0
StopsAt stage (Ok _) = Unit {0}
StopsAt stage (Err stop) = IsStop stage stop

abbrev pub Gives : {A : Type 0} → (Result A Refusal → Type 0) → Result A Stop → Type 0
Gives stage (Ok found) = stage (Ok found)
Gives stage (Err stop) = IsStop stage stop
