-- How a link ended.
use Rattle.std.specs.Prelude.{ℕ, List, Option, Some, None, codes}
use Rattle.tox_time.specs.declared.streams.ending.Ending.{Ending}
use Rattle.tox_time.specs.declared.streams.ending.Ending.TheVariants.{StillOpen, Closed as ClosedAt, Reset as ResetAt}
use Rattle.tox_draw.specs.declared.link_end.LinkEnd.{LinkEnd}
use Rattle.tox_draw.specs.declared.link_end.LinkEnd.TheVariants.{Open, Closed, Reset, Broken, Missing}

-- an ending of a plan
abbrev pub end_of : Ending → LinkEnd
end_of StillOpen = Open
end_of (ClosedAt t) = Closed t
end_of (ResetAt t) = Reset t

-- the instant of an end
abbrev pub end_instant : LinkEnd → Option ℕ
end_instant Open = None
end_instant (Closed t) = Some t
end_instant (Reset t) = Some t
end_instant (Broken t) = Some t
end_instant (Missing t) = Some t

-- its word
abbrev pub link_end_word : LinkEnd → List ℕ
link_end_word Open = codes "open"
link_end_word (Closed t) = codes "closed"
link_end_word (Reset t) = codes "reset"
link_end_word (Broken t) = codes "broken"
link_end_word (Missing t) = codes "no end"
