-- What a contract sees of a `Plan`, and what its fields keep.
use Rattle.tox_compile.specs.declared.plan.Plan.TheInside.{Inside}
use Rattle.tox_compile.specs.Meaning.{Ops, IsPlan}

abbrev pub operations : Inside → Ops
operations plan = record { lanes = plan.lanes; ops = plan.ops.items }

abbrev pub KeepsPlan : Inside → Type 0
KeepsPlan plan = IsPlan (operations plan)
