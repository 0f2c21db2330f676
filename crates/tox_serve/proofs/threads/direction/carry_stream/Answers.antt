-- What is reported is what was carried.
use Rattle.tox_serve.proofs.ReportLemmas.{report_of}
use Rattle.tox_serve.proofs.threads.direction.carry_stream.Goals as goal

pub returns : goal.returns
returns g c = rw c.end_carried-carried.ensures
    (report_of c.args.direction.course _ _ _ _ _ _ _ c.carry_timed-done.ensures.carried c.carry_timed-done.ensures.broken)
