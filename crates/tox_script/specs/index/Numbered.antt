-- Rules by their numbers from 0.
use Rattle.std.specs.Prelude.{ℕ, Bool, List, [], Option, option_and_then, option_map, slice_get, unwrap_or}
use Rattle.std.specs.List.{position_from}
use Rattle.tox_time.specs.declared.streams.stream.Stream.{Stream}
use Rattle.tox_script.specs.Covering.{chains_in, covers}
use Rattle.tox_script.specs.Rule.{Rules}
use Rattle.tox_script.specs.declared.chains.Chains.{Chains}
use Rattle.tox_script.specs.declared.index.step.Step.{Step}
use Rattle.tox_script.specs.index.Steps.{HaveRules}

-- the number of the first rule of a script that covers a connection of a proxy
abbrev pub covering_number : List ℕ → ℕ → Rules → Option ℕ
covering_number proxy conn script = position_from (covers proxy conn) 0 script.rules

-- an index tells the first covering rule of each connection of a proxy
abbrev pub IsIndex : List ℕ → Rules → List Step → Type 0
IsIndex proxy script index = HaveRules index (λ conn. covering_number proxy conn script)

-- the chains of the rule of a number; no toxic without a rule
abbrev pub chains_numbered : Option ℕ → Rules → Chains
chains_numbered number script =
    chains_in script.settings.lanes (option_and_then (slice_get script.rules) number)

-- the stream of each toxic of the rule of a number, in the file's order
abbrev pub order_numbered : ℕ → Rules → List Stream
order_numbered number script =
    unwrap_or (option_map (λ rule. rule.order) (slice_get script.rules number)) []

-- whether the toxicity of each toxic of the rule of a number is given as a decimal text, in the file's order
abbrev pub decimals_numbered : ℕ → Rules → List Bool
decimals_numbered number script =
    unwrap_or (option_map (λ rule. rule.decimals) (slice_get script.rules number)) []
