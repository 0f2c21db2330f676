-- A new direction that is noted in a log is still new.
use Rattle.std.proofs.Common.{◌≡◌, ℕ, Bool, List, Option}
use Rattle.tox_serve.specs.declared.link.course.Course.{Course}
use Rattle.tox_serve.specs.declared.run.ServeRun.{ServeRun}
use Rattle.tox_serve.specs.link.Courses.{IsCourse}
use Rattle.tox_time.specs.declared.streams.stream.Stream.{Stream}
use Rattle.tox_serve.specs.workers.Begun.{BeginsCourse, HasCourse, IsNewDirection}
use Rattle.tox_serve.specs.workers.Reports.{GoesOnWithEnds, IsNotedSo}
use Rattle.tox_serve.specs.declared.workers.flow.Flow.{Flow}
use Rattle.tox_serve.specs.declared.workers.open_direction.DirectionState.{DirectionState}
use Rattle.tox_serve.specs.declared.workers.open_direction.OpenDirection.{OpenDirection}

module _ {R : Type 0} where
  begins_noted : (course : Course) (closing : Bool) (old : Flow R) (notes : Option (List ℕ)) (state : DirectionState R)
      (noted : GoesOnWithEnds old old.source old.sink notes state) → BeginsCourse course closing old → BeginsCourse course closing noted.flow
  begins_noted course closing old notes state noted begins = record {
    its = rw noted.its begins.its;
    source = rw noted.its_source begins.source;
    sink = rw noted.its_sink begins.sink;
    readable = rw noted.its_source begins.readable;
    closes = rw noted.its_source begins.closes;
    writable = rw noted.its_sink begins.writable;
    due = rw noted.its_sink begins.due;
    meaning = λ items is. rw noted.link (begins.meaning items is);
    fresh = rw noted.link begins.fresh;
  }

  new_noted : (course : Course) (closing : Bool) (old new : OpenDirection R) (notes : Option (List ℕ)) → IsNewDirection course closing old
      → IsNotedSo notes old.state new.state → new.armed ≡ old.armed → new.has_turn ≡ old.has_turn → IsNewDirection course closing new
  new_noted course closing old new notes is noted armed turn =
      let goes : GoesOnWithEnds is.flow is.flow.source is.flow.sink notes new.state = rw is.going at noted in
      record {
        flow = goes.flow;
        going = goes.going;
        idle = rw armed is.idle;
        no_turn = rw turn is.no_turn;
        begins = begins_noted course closing is.flow notes new.state goes is.begins;
      }

  -- a link's direction has the course that it was made with, also once it is noted
  pub has_course : (run : ServeRun) (name : List ℕ) (number : ℕ) (its_stream : Stream) (course : Course) (closing : Bool) (old new : OpenDirection R)
      (notes : Option (List ℕ)) → IsCourse run.script.now run.seed name number its_stream course → IsNewDirection course closing old
      → IsNotedSo notes old.state new.state → new.armed ≡ old.armed → new.has_turn ≡ old.has_turn → HasCourse run name number its_stream closing new
  has_course run name number its_stream course closing old new notes its is noted armed turn =
      record { course = course; its = its; begins = new_noted course closing old new notes is noted armed turn }
