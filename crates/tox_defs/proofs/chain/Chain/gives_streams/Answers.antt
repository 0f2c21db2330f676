-- The law of streams, at the chain's own toxics.
use Rattle.std.proofs.Common.{arith}
use Rattle.tox_defs.proofs.ChainStreams.{kept_by_chain}
use Rattle.tox_defs.proofs.Places.{length-stream}
use Rattle.tox_defs.proofs.chain.Chain.gives_streams.Goals as goal

pub returns-clause-keeps : goal.returns-clause-keeps
returns-clause-keeps c = λ words items stream. rw (← c.self.view_is) (kept_by_chain _ words items c.self.invariant stream)

pub returns-clause-few : goal.returns-clause-few
returns-clause-few c =
    λ words items stream.
    rw (← c.self.view_is)
    (let kept = kept_by_chain _ words items c.self.invariant stream in omega (arith, length-stream 0 0 _ kept.stream, kept.bytes))
