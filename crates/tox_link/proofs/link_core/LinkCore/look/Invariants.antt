-- The look so far, and whether the runner has a slice left.
use Rattle.std.proofs.Common.{◌≡◌, length, None, Some}
use Rattle.tox_time.specs.declared.streams.ending.Ending.{Ending}
use Rattle.tox_link.specs.link_core.Core.{Looked, IsDrained, core_ending}
use Rattle.tox_link.proofs.link_core.LinkCore.look.Given as goal

abbrev pub invariant-loop-self : goal.invariant-loop-self
invariant-loop-self l = record {
  looked : Looked l.fn.self l.self;
  drained : l.self.found ≡ None → IsDrained l.self;
  known : (last : Ending) → core_ending l.fn.self ≡ Some last → core_ending l.self ≡ Some last;
}

abbrev pub decreases-loop-self : goal.decreases-loop-self
decreases-loop-self l = length l.self.waiting
