-- Which timers a link still waits for.
use Rattle.std.specs.Prelude.{◌≡◌, ℕ, nat_eq, ◌⊎◌, Bool, false, List, filter, Option, Some, None, if◌then◌else◌}
use Rattle.std.specs.List.Sorted.{IsPermutation}
use Rattle.slab.specs.Slab.{Slab, get}
use Rattle.tox_time.specs.declared.streams.stream.Stream.{Stream}
use Rattle.tox_serve.specs.declared.workers.link_state.LinkState.{LinkState}
use Rattle.tox_serve.specs.declared.workers.link_state.LinkState.TheVariants.{Naming, Lacking, Connecting, Open}
use Rattle.tox_serve.specs.declared.workers.links.Place.{Place}
use Rattle.tox_serve.specs.declared.workers.timers.Timer.{Timer}
use Rattle.tox_serve.specs.declared.workers.timers.Turn.{Turn}
use Rattle.tox_serve.specs.workers.Directions.{is_armed}
use Rattle.tox_serve.specs.workers.OpenLinks.{direction_of}
use Rattle.tox_serve.specs.workers.Timers.{turn_of}

-- a direction of an open link waits for its timer, a link that is being connected for its deadline, and one without a descriptor for its next try
abbrev pub is_state_armed : {R : Type 0} → Stream → ℕ → Option (LinkState R) → Bool
is_state_armed its due None = false
is_state_armed its due (Some (Naming client)) = false
is_state_armed its due (Some (Lacking lacking)) = nat_eq lacking.due due
is_state_armed its due (Some (Connecting connecting)) = is_armed due connecting.deadline
is_state_armed its due (Some (Open link)) = is_armed due (direction_of its link.value).armed

-- a place's link waits for a timer of this turn that is due at an instant
abbrev pub is_place_armed : {R : Type 0} → Turn → ℕ → Option (Place R) → Bool
is_place_armed turn due None = false
is_place_armed turn due (Some place) =
    if nat_eq place.generation turn.key.generation then is_state_armed turn.stream due place.state else false

-- a link in these places waits for a timer
abbrev pub is_waited_for : {R : Type 0} → Slab (Place R) → Timer → Bool
is_waited_for places timer = is_place_armed (turn_of timer) timer.due (get places timer.key.slot)

-- all timers stay, or those that a link waits for
abbrev pub IsPurged : {R : Type 0} → Slab (Place R) → List Timer → List Timer → Type 0
IsPurged places old new = (new ≡ old) ⊎ IsPermutation (filter (is_waited_for places) old) new
