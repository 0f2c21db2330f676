-- Until lines are moved there is none.
use Rattle.std.proofs.Common.{◌≡◌}
use Rattle.tox_serve.specs.output.LineQueue.{no_lines}
use Rattle.tox_serve.proofs.output.notice_channel.NoticeChannel.receive.Given as goal

abbrev pub invariant-loop : goal.invariant-loop
invariant-loop g l = l.empty ≡ no_lines
