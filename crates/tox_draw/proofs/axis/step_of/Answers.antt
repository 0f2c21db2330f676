-- The table has the steps, and each lies in the range.
use Rattle.std.proofs.Common.{rules}
use Rattle.tox_draw.specs.Axes.{axis_steps, step_of}
use Rattle.tox_draw.proofs.AxisSteps.{step_of-in_range}
use Rattle.tox_draw.proofs.axis.step_of.Goals as goal

pub returns-clause-value : goal.returns-clause-value
unfolding step_of axis_steps
returns-clause-value c = search rules

pub returns-clause-some : goal.returns-clause-some
returns-clause-some c = rw (returns-clause-value c) ((step_of-in_range c.args.greatest).0)

pub returns-clause-most : goal.returns-clause-most
returns-clause-most c = rw (returns-clause-value c) ((step_of-in_range c.args.greatest).1)
