-- What a stream of a served link meets.
use Rattle.std.specs.Prelude.{◌≡◌, ℕ, List}
use Rattle.tox_time.specs.declared.streams.stream.Stream.{Stream}
use Rattle.tox_words.specs.Seeded.{seeded_words}
use Rattle.tox_compile.specs.Normal.{normal_form}
use Rattle.tox_script.specs.Rule.{Rules}
use Rattle.tox_script.specs.Covering.{toxics_for}
use Rattle.tox_serve.specs.declared.link.course.Course.{Course}

-- the words of the seed, and the plan of the toxics that the numbered connection of a proxy meets on the stream
pub record IsCourse (script : Rules) (seed : ℕ) (name : List ℕ) (number : ℕ) (stream : Stream)
    (course : Course) : Type 0 where
  pub for_stream : course.stream ≡ stream
  pub words : course.words ≡ seeded_words seed number stream
  pub lanes : course.plan.lanes ≡ (toxics_for name number stream script).chain.lanes
  pub plan : course.plan.ops
      ≡ normal_form (toxics_for name number stream script).chain (seeded_words seed number stream)
