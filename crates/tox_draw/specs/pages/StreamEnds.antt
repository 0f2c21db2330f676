-- Who ended a stream, by its log.
use Rattle.std.specs.Prelude.{ℕ, Bool, true, false, List, Option, Some, None, nat_lt, if◌then◌else◌}
use Rattle.std.specs.List.{list_any}
use Rattle.tox_defs.specs.chain.Chain.{Toxics}
use Rattle.tox_defs.specs.declared.chain.applied.Placed.{Placed}
use Rattle.tox_defs.specs.declared.toxic.Toxic.{Toxic}
use Rattle.tox_defs.specs.declared.toxic.Toxic.TheVariants as toxic
use Rattle.tox_defs.specs.Flow.{applied}
use Rattle.tox_draw.specs.declared.pages.outcome.Outcome.{Outcome}
use Rattle.tox_draw.specs.declared.pages.outcome.Outcome.TheVariants as outcome
use Rattle.tox_draw.specs.declared.pages.stream_end.Cutter.{Cutter}
use Rattle.tox_draw.specs.declared.pages.stream_end.Cutter.TheVariants.{LimitData, Timeout, ResetPeer, Unsure}
use Rattle.tox_draw.specs.declared.pages.stream_end.StreamEnd.{StreamEnd}
use Rattle.tox_draw.specs.declared.pages.stream_end.StreamEnd.TheVariants.{Closed, Reset, Cut, Open, Broken, Missing, Unknown}

abbrev pub is_limit_data : Toxic → Bool
is_limit_data (toxic.LimitData bytes) = true
is_limit_data other = false

abbrev pub is_timeout : Toxic → Bool
is_timeout (toxic.Timeout ms start bytes) = true
is_timeout other = false

abbrev pub cutting_limit : Placed → Bool
cutting_limit placed = is_limit_data placed.toxic

abbrev pub cutting_timeout : Placed → Bool
cutting_timeout placed = is_timeout placed.toxic

-- the type of the toxics that close, where those of one type alone were met
abbrev pub cutter_among : Bool → Bool → Cutter
cutter_among true false = LimitData
cutter_among false true = Timeout
cutter_among true true = Unsure
cutter_among false false = Unsure

-- the type of the toxics of a chain that close a stream, if these words apply such toxics of one type alone
abbrev pub cutter_of : Toxics → List ℕ → Cutter
cutter_of chain words =
    cutter_among (list_any cutting_limit (applied chain words))
    (list_any cutting_timeout (applied chain words))

-- a source that ended at an instant, by a reset or not
abbrev pub by_source : ℕ → Bool → StreamEnd
by_source t reset = if reset then Reset t else Closed t

-- the source, if it ended, or else another end
abbrev pub by_source_or : StreamEnd → Option ℕ → Bool → StreamEnd
by_source_or other None reset = other
by_source_or other (Some t) reset = by_source t reset

-- a toxic at an instant, unless the source had ended before
abbrev pub by_toxic_at : ℕ → Cutter → Option ℕ → Bool → StreamEnd
by_toxic_at t cutter None reset = Cut t cutter
by_toxic_at t cutter (Some source) reset =
    if nat_lt source t then by_source source reset else Cut t cutter

-- who ended a stream with this outcome, whose source ended then, by a reset or not; a toxic that closed it is of this type
abbrev pub stream_end_of : Outcome → Option ℕ → Bool → Cutter → StreamEnd
stream_end_of (outcome.Unfaithful line) source reset cutter = Unknown
stream_end_of (outcome.Cut t) source reset cutter = by_toxic_at t cutter source reset
stream_end_of (outcome.Reset t) source reset cutter = by_toxic_at t ResetPeer source reset
stream_end_of (outcome.Closed t) source reset cutter = by_source_or (Closed t) source reset
stream_end_of (outcome.SourceReset t) source reset cutter = by_source_or (Reset t) source reset
stream_end_of outcome.Open source reset cutter = by_source_or Open source reset
stream_end_of (outcome.Broken cause) source reset cutter = by_source_or (Broken cause) source reset
stream_end_of outcome.Missing source reset cutter = by_source_or Missing source reset

-- when a stream ended, if the log says so
abbrev pub end_instant_of : StreamEnd → Option ℕ
end_instant_of (Closed t) = Some t
end_instant_of (Reset t) = Some t
end_instant_of (Cut t cutter) = Some t
end_instant_of other = None

-- whether the log says how the stream ended
abbrev pub tells_end : StreamEnd → Bool
tells_end Missing = false
tells_end Unknown = false
tells_end other = true
