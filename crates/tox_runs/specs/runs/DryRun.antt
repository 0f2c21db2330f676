-- What a dry run reads, answers and writes.
use Rattle.std.specs.Prelude.{◌≡◌, ℕ, Bool, List, Option, Ok}
use Rattle.std.specs.Io.KnownBytes.{append_known}
use Rattle.tox_time.specs.streams.Arrivals.{arrival_list}
use Rattle.tox_time.specs.streams.Table.{table, ending}
use Rattle.tox_defs.specs.chain.Chain.{Toxics}
use Rattle.tox_defs.specs.Flow.{chain_flow}
use Rattle.tox_network.specs.runs.Runs.{OfEveryRest}
use Rattle.tox_text.specs.declared.fault.DryFault.{DryFault}
use Rattle.tox_text.specs.declared.fault.DryFault.TheVariants.{OutOfMemory, BadLine, TooLong, ReadFault, WriteFault, Arrival}
use Rattle.tox_text.specs.arrivals.ArrivalsText.{Arrived, arrivals_of}
use Rattle.tox_runs.specs.runs.Reading.{HasCause, ReadsWhole}
use Rattle.tox_text.specs.ResultText.{result_text}
use Rattle.tox_text.specs.Writing.{AppendsFront}

-- the result of what arrived, by the flow of a chain
abbrev pub flow_text : Toxics → List ℕ → Arrived → List ℕ
flow_text chain words arrived =
    let flow = chain_flow chain words (arrival_list arrived.items) in result_text arrived
    (table flow) (ending flow)

-- a text was read, and this is what it describes
pub record ParsesInput (before after : Option (List ℕ)) (arrived : Arrived) : Type 0 where
  pub text : List ℕ
  pub read : ReadsWhole before after text
  pub spelled : arrivals_of text ≡ Ok arrived

-- the result of what the read text describes was written, and nothing else
pub record WritesResult (chain : Toxics) (words : List ℕ)
    (before after old new : Option (List ℕ)) : Type 0 where
  pub arrived : Arrived
  pub read : ParsesInput before after arrived
  pub written : new ≡ append_known old (flow_text chain words arrived)

-- the result of what every run of the chain's stage network at rest delivered of it was written
pub record WritesEveryRest (chain : Toxics) (words : List ℕ)
    (before after old new : Option (List ℕ)) : Type 0 where
  pub arrived : Arrived
  pub read : ParsesInput before after arrived
  pub written : OfEveryRest chain words (arrival_list arrived.items)
      (λ moves network.
      new ≡ append_known old
      (result_text arrived (table network.delivered) (ending network.delivered)))

-- a prefix of the result was written
pub record WritesResultFront (chain : Toxics) (words : List ℕ)
    (before after old new : Option (List ℕ)) : Type 0 where
  pub arrived : Arrived
  pub read : ParsesInput before after arrived
  pub front : AppendsFront old new (flow_text chain words arrived)

-- what a fault leaves written: a prefix of the result where the writer failed, and else nothing
abbrev pub DryLeaves : Toxics → List ℕ → Option (List ℕ) → Option (List ℕ) → Option (List ℕ)
    → Option (List ℕ) → DryFault → Type 0
DryLeaves chain words before after old new OutOfMemory = new ≡ old
DryLeaves chain words before after old new (BadLine n) = new ≡ old
DryLeaves chain words before after old new TooLong = new ≡ old
DryLeaves chain words before after old new ReadFault = new ≡ old
DryLeaves chain words before after old new WriteFault = WritesResultFront chain words before after old new
DryLeaves chain words before after old new (Arrival fault n) = new ≡ old

-- why a dry run answers this fault, and what it then leaves written
pub record StopsDry (chain : Toxics) (words : List ℕ) (before after old new : Option (List ℕ))
    (read_failed write_failed : Bool) (fault : DryFault) : Type 0 where
  pub cause : HasCause before after read_failed write_failed fault
  pub left : DryLeaves chain words before after old new fault
