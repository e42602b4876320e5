-- How a run goes on after one instruction, and how it ends.
--   goes_on skip rest rs vs    what the other instructions come to, from the registers and from what will be written; none where one aborts
--   executed all vs            what a run comes to with vs to be written; none where an instruction aborted
--   ended_by ending vs         what a run comes to that ended so, with vs beside to be written
--   ZerosGiven                 an order comes to the same from registers that have the values and then zeros: a value not given is 0
-- Assumes nothing.
use Rattle.std.specs.Prelude.{◌≡◌, ℕ, List, Some, None, Option}
use Rattle.orders.specs.Contents.{contents_of}
use Rattle.orders.specs.Meaning.{padded, run_from, outcome_of}
use Rattle.orders.specs.declared.instruction.Instruction.{Instruction}
use Rattle.orders.specs.declared.order.Order.{Order}
use Rattle.orders.specs.declared.outcome.Outcome.{Outcome}
use Rattle.orders.specs.declared.outcome.Outcome.TheVariants.{Nothing, Writes}
use Rattle.interpreter.specs.declared.Ending.{Ending}
use Rattle.interpreter.specs.declared.Ending.TheVariants as ending

abbrev pub goes_on : Option ℕ → List Instruction → List ℕ → List ℕ → Outcome
goes_on (Some n) rest rs vs = run_from n rest rs vs
goes_on None rest rs vs = Nothing

abbrev pub executed : Option Unit → List ℕ → Outcome
executed (Some u) vs = Writes vs
executed None vs = Nothing

abbrev pub ended_by : Ending → List ℕ → Outcome
ended_by ending.Writes vs = Writes vs
ended_by ending.Nothing vs = Nothing

abbrev pub ZerosGiven : Type 0
ZerosGiven = (o : Order) (vs : List ℕ) → outcome_of (contents_of o) (padded 32 vs) ≡ outcome_of (contents_of o) vs
