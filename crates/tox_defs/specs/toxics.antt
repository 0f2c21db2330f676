-- The toxics, each in a file of its own: its name, its attributes and their ranges, what it gives, its operation, and its law.
use Rattle.std.specs.Prelude.{List, [], ◌∷◌}
use Rattle.tox_defs.specs.declared.toxic.Toxic.{Toxic}
use Rattle.tox_defs.specs.declared.toxic.Toxic.TheVariants as toxic
use Rattle.tox_defs.specs.Meaning.{Meaning}
use Rattle.tox_defs.specs.toxics.Latency.{latency_meaning}
use Rattle.tox_defs.specs.toxics.Bandwidth.{bandwidth_meaning}
use Rattle.tox_defs.specs.toxics.SlowClose.{slow_close_meaning}
use Rattle.tox_defs.specs.toxics.Timeout.{timeout_meaning}
use Rattle.tox_defs.specs.toxics.ResetPeer.{reset_peer_meaning}
use Rattle.tox_defs.specs.toxics.Slicer.{slicer_meaning}
use Rattle.tox_defs.specs.toxics.LimitData.{limit_data_meaning}
pub mod Latency
pub mod Bandwidth
pub mod SlowClose
pub mod Timeout
pub mod ResetPeer
pub mod Slicer
pub mod LimitData
pub mod Ranges
pub mod Ordered
pub mod FirstBytes
pub mod Halt
pub mod Varied
pub mod Pieces

-- a toxic of each type, with zeros
abbrev pub each_type : List Toxic
each_type =
    toxic.Latency 0 0 0 0 ∷ toxic.Bandwidth 0 0 0 ∷ toxic.SlowClose 0 ∷ toxic.Timeout 0 0 0
    ∷ toxic.ResetPeer 0 0 ∷ toxic.Slicer 0 0 0 0 0 ∷ toxic.LimitData 0 ∷ []

-- what a toxic is
abbrev pub meaning_of : Toxic → Meaning
meaning_of (toxic.Latency latency jitter until from) = latency_meaning latency jitter until from
meaning_of (toxic.Bandwidth rate until from) = bandwidth_meaning rate until from
meaning_of (toxic.SlowClose delay) = slow_close_meaning delay
meaning_of (toxic.Timeout timeout from after) = timeout_meaning timeout from after
meaning_of (toxic.ResetPeer timeout after) = reset_peer_meaning timeout after
meaning_of (toxic.Slicer average_size size_variation delay until from) =
    slicer_meaning average_size size_variation delay until from
meaning_of (toxic.LimitData bytes) = limit_data_meaning bytes
