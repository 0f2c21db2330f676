-- The reason that is found is one.
use Rattle.std.proofs.Common.{◌<◌, length, IsSome, List, arith, get_or, subst}
use Rattle.std.proofs.lemmas.Option.{slice_get-get_or}
use Rattle.tox_defs.specs.declared.chain.Entry.{Entry}
use Rattle.tox_defs.specs.declared.toxic.Toxic.TheVariants.{Latency}
use Rattle.tox_check.specs.Idle.{reason}
use Rattle.tox_check.proofs.Unchanged.{unchanged}
use Rattle.tox_check.proofs.idleness.idleness_at.Goals as goal

pub returns-clause-unchanged : goal.returns-clause-unchanged
returns-clause-unchanged c some =
    let entries = c.args.chain.now.entries in
    let d : Entry = record { toxic = Latency 0 0 0 0; toxicity = 0 } in
    let below : c.args.place < length entries = omega (arith, c.if-len-place.false, c.len.ensures.value) in
    let warning_text : IsSome (reason c.args.place (get_or c.entries-entries.result.now c.args.place d).toxic c.entries-entries.result.now) =
    rw c.reason.ensures at some in
    unchanged c.args.chain.now c.args.place (get_or entries c.args.place d) c.len.ensures.chain (slice_get-get_or entries c.args.place d below)
    (subst (λ (es : List Entry). IsSome (reason c.args.place (get_or es c.args.place d).toxic es)) c.entries-entries.ensures.value warning_text)
