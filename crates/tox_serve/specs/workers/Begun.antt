-- A direction of a course at which nothing has come, and a link of such directions.
use Rattle.std.specs.Prelude.{◌≡◌, ℕ, Bool, true, false, List, None, fold}
use Rattle.tox_time.specs.declared.streams.stream.Stream.{Stream}
use Rattle.tox_link.specs.Meaning.{MeansPlan}
use Rattle.tox_link.specs.direction.Follows.{IsNew}
use Rattle.tox_sockets.specs.ResetDue.{after_op}
use Rattle.tox_serve.specs.declared.link.course.Course.{Course}
use Rattle.tox_serve.specs.declared.link.opening.Opened.{Opened}
use Rattle.tox_serve.specs.declared.run.ServeRun.{ServeRun}
use Rattle.tox_serve.specs.link.Courses.{IsCourse}
use Rattle.tox_serve.specs.declared.workers.connecting.Client.{Client}
use Rattle.tox_serve.specs.declared.workers.flow.Flow.{Flow}
use Rattle.tox_serve.specs.declared.workers.open_direction.DirectionState.TheVariants.{Going}
use Rattle.tox_serve.specs.declared.workers.open_direction.OpenDirection.{OpenDirection}
use Rattle.tox_serve.specs.declared.workers.open_link.OpenLink.{OpenLink}
use Rattle.tox_serve.specs.declared.workers.taken_at.TakenAt.{TakenAt}

-- nothing has come, it gives what the course's plan means under its words, and its ends are those of the course's stream, of which
-- nothing is known but whether the source's peer sends no more
pub record BeginsCourse {R : Type 0} (course : Course) (closing : Bool) (flow : Flow R) : Type 0 where
  pub its : flow.stream ≡ course.stream
  pub source : flow.source.stream ≡ course.stream
  pub sink : flow.sink.stream ≡ course.stream
  pub readable : flow.source.readable ≡ true
  pub closes : flow.source.closing ≡ closing
  pub writable : flow.sink.writable ≡ true
  pub due : flow.sink.due ≡ fold after_op None course.plan.ops
  pub meaning : MeansPlan course.plan course.words flow.link.value.core
  pub fresh : IsNew flow.link.value

-- a direction goes on that begins a course, no timer is set, and it has no turn
pub record IsNewDirection {R : Type 0} (course : Course) (closing : Bool) (direction : OpenDirection R) : Type 0 where
  pub flow : Flow R
  pub going : direction.state ≡ Going flow
  pub idle : direction.armed ≡ None
  pub no_turn : direction.has_turn ≡ false
  pub begins : BeginsCourse course closing flow

-- a link of the proxy at this place is made of one that was opened, and was taken then
pub record IsMadeOf {R : Type 0} (opened : Opened) (place : ℕ) (taken : TakenAt) (link : OpenLink R) : Type 0 where
  pub number : link.number ≡ opened.number
  pub proxy : link.proxy ≡ place
  pub sockets : link.sockets ≡ opened.sockets
  pub live : link.live ≡ opened.live
  pub since : link.since ≡ taken

-- a link goes on from the connection of a client: it has its number, its proxy and its start
pub record IsLinkOf {R : Type 0} (client : Client) (link : OpenLink R) : Type 0 where
  pub number : link.number ≡ client.taken.number
  pub proxy : link.proxy ≡ client.proxy
  pub since : link.since ≡ client.since

-- a direction begins the course that the numbered connection of a proxy has on a stream in a run
pub record HasCourse {R : Type 0} (run : ServeRun) (name : List ℕ) (number : ℕ) (stream : Stream)
    (closing : Bool) (direction : OpenDirection R) : Type 0 where
  pub course : Course
  pub its : IsCourse run.script.now run.seed name number stream course
  pub begins : IsNewDirection course closing direction
