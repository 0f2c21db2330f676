-- The words so far, and then the outputs to come, are the words of the stream.
use Rattle.std.proofs.Common.{◌≡◌, ◌-◌, ◌++◌, length, take}
use Rattle.tox_words.specs.Seeded.{outputs, seeded_words}
use Rattle.tox_words.proofs.first_words.FirstWords.from_seed.Given as goal

abbrev pub invariant-loop-lane : goal.invariant-loop-lane
invariant-loop-lane l = record {
  long : length l.words ≡ 32;
  made : take l.lane l.words ++ outputs (1024 - l.lane) l.generator ≡ seeded_words l.fn.seed l.fn.conn l.fn.stream;
}
