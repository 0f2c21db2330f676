-- What is counted of a rule.
use Rattle.std.specs.Prelude.{◌≡◌, ◌≢◌, ℕ, ◌+◌, ◌<◌, Bool, List, Option, None, Some, length, replicate, slice_index, slice_index_or, if◌then◌else◌}
use Rattle.tox_time.specs.declared.streams.stream.Stream.{Stream}
use Rattle.tox_time.specs.declared.streams.stream.Stream.TheVariants.{Upstream, Downstream}
use Rattle.tox_check.specs.forecast.Applied.{flag_at}
use Rattle.tox_check.specs.forecast.Totals.{Totals}
use Rattle.tox_check.specs.declared.forecast.tally.Tally.{Tally}
use Rattle.tox_check.specs.declared.forecast.flags.LinkFlags.{LinkFlags}

-- the counts of a stream
abbrev pub counts_on : Stream → Tally → List ℕ
counts_on Upstream tally = tally.upstream
counts_on Downstream tally = tally.downstream

-- the totals that a tally has
abbrev pub totals_in : Tally → Totals
totals_in tally =
    record { met = tally.met; applied = λ stream place. slice_index (counts_on stream tally) place }

-- one more for a flag
abbrev pub one_for : Bool → ℕ
one_for flag = if flag then 1 else 0

-- each count has one more where a flag stands
abbrev pub CountsMore : List Bool → List ℕ → List ℕ → Type 0
CountsMore flags old new =
    (place : ℕ) → slice_index new place ≡ slice_index old place + one_for (flag_at place flags)

-- a tally counted one more link with these flags
pub record CountsLink (flags : LinkFlags) (old new : Tally) : Type 0 where
  pub met : new.met ≡ old.met + 1
  pub upstream : CountsMore flags.upstream.items old.upstream new.upstream
  pub downstream : CountsMore flags.downstream.items old.downstream new.downstream

-- of some tallies only one counted a link
pub record CountsOne (rule : ℕ) (flags : LinkFlags) (old new : List Tally) : Type 0 where
  pub length_same : length new ≡ length old
  pub here : (d : Tally) → rule < length old
      → CountsLink flags (slice_index_or old rule d) (slice_index_or new rule d)
  pub others : (n : ℕ) (d : Tally) → n ≢ rule → slice_index_or new n d ≡ slice_index_or old n d

-- of some tallies only that of the rule that was met counted a link
abbrev pub CountsRule : Option ℕ → LinkFlags → List Tally → List Tally → Type 0
CountsRule None flags old new = new ≡ old
CountsRule (Some rule) flags old new = CountsOne rule flags old new

-- a tally to which links can be added
pub record HasRoomFor (tally : Tally) : Type 0 where
  pub met : tally.met < 1000000
  pub upstream : (place : ℕ) → slice_index tally.upstream place < 1000000
  pub downstream : (place : ℕ) → slice_index tally.downstream place < 1000000

-- links can be added to each tally
abbrev pub HasRoom : List Tally → Type 0
HasRoom tallies =
    (rule : ℕ) (d : Tally) → rule < length tallies → HasRoomFor (slice_index_or tallies rule d)

-- nothing is counted
abbrev pub no_counts : Tally
no_counts = record { met = 0; upstream = replicate 32 0; downstream = replicate 32 0 }
