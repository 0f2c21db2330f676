-- Chains as a command line gives them: one short form for each toxic.
use Rattle.std.specs.Prelude.{ℕ, ◌+◌, List, [], ◌∷◌, ◌++◌, length, nat_lt, Result, Ok, Err, if◌then◌else◌}
use Rattle.tox_time.specs.Steps.{◌>>=◌}
use Rattle.tox_words.specs.declared.lanes.Lanes.{Lanes}
use Rattle.tox_words.specs.Draw.{lane_count}
use Rattle.tox_defs.specs.chain.Chain.{Toxics}
use Rattle.tox_defs.specs.short.Short.{short_of}
use Rattle.tox_defs.specs.declared.toxic.Toxic.{Toxic}
use Rattle.tox_defs.specs.declared.fault.ShortFault.{ShortFault}
use Rattle.tox_runs.specs.declared.files.toxics.ToxicsFault.{ToxicsFault}
use Rattle.tox_runs.specs.declared.files.toxics.ToxicsFault.TheVariants.{Short, TooMany}

-- what the n-th short form leaves, where it is one
abbrev pub with_parsed : ℕ → Toxics → Result (Toxic × ℕ) ShortFault → Result Toxics ToxicsFault
with_parsed n chain (Err fault) = Err (Short fault n)
with_parsed n chain (Ok read) =
    if nat_lt (length chain.entries) (lane_count chain.lanes)
    then Ok (record {
      lanes = chain.lanes;
      entries = chain.entries
          ++ record { toxic = read.0; toxicity = read.1 } ∷ [];
    })
    else Err (TooMany n)

-- what the n-th short form leaves
abbrev pub with_short : ℕ → Toxics → List ℕ → Result Toxics ToxicsFault
with_short n chain text = with_parsed n chain (short_of text)

-- what the short forms leave one after the other, from the n-th on
abbrev pub with_shorts : ℕ → List (List ℕ) → Toxics → Result Toxics ToxicsFault
with_shorts n [] chain = Ok chain
with_shorts n (text ∷ texts) chain = with_short n chain text >>= with_shorts (n + 1) texts

-- the chain of so many lanes with the toxics that short forms name, or the first fault with its number from 1
abbrev pub chain_of : Lanes → List (List ℕ) → Result Toxics ToxicsFault
chain_of lanes texts = with_shorts 1 texts (record { lanes = lanes; entries = [] })
