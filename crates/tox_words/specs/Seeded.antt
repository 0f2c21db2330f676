-- The words of a connection, made from a seed.
use Rattle.std.specs.Prelude.{ℕ, zero, suc, ◌+◌, ◌*◌, List, [], ◌∷◌}
use Rattle.rand_pcg.specs.Lcg.{Lcg, started, increment_of}
use Rattle.rand_pcg.specs.Pcg.{multiplier_64, pcg32}
use Rattle.tox_time.specs.declared.streams.stream.Stream.{Stream}
use Rattle.tox_time.specs.declared.streams.stream.Stream.TheVariants.{Upstream, Downstream}

-- the first outputs of a generator
unfoldable pub outputs : ℕ → Lcg → List ℕ
outputs zero generator = []
outputs (suc n) generator = (pcg32 generator).0 ∷ outputs n (pcg32 generator).1

-- the number of a stream
abbrev pub number_of : Stream → ℕ
number_of Upstream = 0
number_of Downstream = 1

-- the generator of a connection's stream
abbrev pub started_at : ℕ → ℕ → Stream → Lcg
started_at seed conn stream =
    started 64 multiplier_64 seed (increment_of 64 (2 * conn + number_of stream))

-- the words of a connection's stream
unfoldable pub seeded_words : ℕ → ℕ → Stream → List ℕ
seeded_words seed conn stream = outputs 1024 (started_at seed conn stream)
