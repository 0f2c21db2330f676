-- What is proved of each toxic and of its operation, in a file for each toxic.
use Rattle.tox_defs.specs.declared.toxic.Toxic.{Toxic}
use Rattle.tox_defs.specs.declared.toxic.Toxic.TheVariants as toxic
use Rattle.tox_defs.specs.declared.operations.op.Op.{Op}
use Rattle.tox_defs.specs.declared.operations.op.Op.TheVariants.{Delay, Pace, Slow, Mute, Cutoff, Slicing, Limit, Halt}
use Rattle.tox_defs.proofs.OpFacts.{OpFacts}
use Rattle.tox_defs.proofs.ToxicFacts.{ToxicFacts}
use Rattle.tox_defs.proofs.ToxicProofs.Halting.{halt_facts}
use Rattle.tox_defs.proofs.ToxicProofs.Latency.{delay_facts, latency_facts}
use Rattle.tox_defs.proofs.ToxicProofs.Bandwidth.{bandwidth_facts, pace_facts}
use Rattle.tox_defs.proofs.ToxicProofs.SlowClose.{slow_close_facts, slow_facts}
use Rattle.tox_defs.proofs.ToxicProofs.Timeout.{mute_facts, timeout_facts}
use Rattle.tox_defs.proofs.ToxicProofs.ResetPeer.{cutoff_facts, reset_peer_facts}
use Rattle.tox_defs.proofs.ToxicProofs.Slicer.{slicer_facts, slicing_facts}
use Rattle.tox_defs.proofs.ToxicProofs.LimitData.{limit_data_facts, limit_facts}
pub mod FirstBytes
pub mod Halting
pub mod Latency
pub mod Bandwidth
pub mod SlowClose
pub mod Timeout
pub mod ResetPeer
pub mod Slicer
pub mod LimitData

pub toxic_facts : (toxic : Toxic) → ToxicFacts toxic
toxic_facts (toxic.Latency latency jitter until from) = latency_facts latency jitter until from
toxic_facts (toxic.Bandwidth rate until from) = bandwidth_facts rate until from
toxic_facts (toxic.SlowClose delay) = slow_close_facts delay
toxic_facts (toxic.Timeout timeout from after) = timeout_facts timeout from after
toxic_facts (toxic.ResetPeer timeout after) = reset_peer_facts timeout after
toxic_facts (toxic.Slicer average_size size_variation delay until from) = slicer_facts average_size size_variation delay until from
toxic_facts (toxic.LimitData bytes) = limit_data_facts bytes

pub op_facts : (op : Op) → OpFacts op
op_facts (Delay fixed latency jitter lane until from) = delay_facts fixed latency jitter lane until from
op_facts (Pace rate until from) = pace_facts rate until from
op_facts (Slow millis) = slow_facts millis
op_facts (Mute ending) = mute_facts ending
op_facts (Cutoff instant) = cutoff_facts instant
op_facts (Slicing average variation micros lane until from) = slicing_facts average variation micros lane until from
op_facts (Limit bytes) = limit_facts bytes
op_facts (Halt at after ending) = halt_facts at after ending
