-- The words so far, and then the outputs to come, are the words of the stream.
use Rattle.std.proofs.Common.{◌≡◌, ◌-◌, ◌++◌}
use Rattle.tox_words.specs.Seeded.{outputs, seeded_words}
use Rattle.tox_words.proofs.seed.seeded_words.Given as goal

abbrev pub invariant-loop : goal.invariant-loop
invariant-loop l =
    l.words.items ++ outputs (1024 - l.counter) l.generator ≡ seeded_words l.fn.seed l.fn.conn l.fn.stream
