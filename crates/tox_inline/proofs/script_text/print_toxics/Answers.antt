-- One toxic behind the other.
use Rattle.tox_time.specs.declared.streams.stream.Stream.TheVariants.{Upstream}
use Rattle.tox_defs.specs.declared.toxic.Toxic.TheVariants.{Latency}
use Rattle.tox_text.proofs.Listed.{IsAt-read}
use Rattle.tox_inline.specs.Texts.{toxic_text}
use Rattle.tox_inline.specs.declared.toxics.NumberedToxic.{NumberedToxic}
use Rattle.tox_text.proofs.Printings.{Prints-more, Prints-stopped}
use Rattle.tox_inline.proofs.script_text.print_toxics.Goals as goal

-- what is read past the end
abbrev no_toxic : NumberedToxic
no_toxic = record { stream = Upstream; number = 0; entry = record { toxic = Latency 0 0 0 0; toxicity = 0 } }

pub loop-toxic-preserved : goal.loop-toxic-preserved
loop-toxic-preserved g c =
    let here = IsAt-read c.args.toxics.now c.loop-toxic.toxic-index no_toxic c.loop-toxic-test.true in
    Prints-more toxic_text here c.loop-toxic.invariant c.in_ok-print_toxic.ensures

pub returns-in_err-print_toxic : goal.returns-in_err-print_toxic
returns-in_err-print_toxic g c =
    let here = IsAt-read c.args.toxics.now c.loop-toxic.toxic-index no_toxic c.loop-toxic-test.true in
    Prints-stopped toxic_text here c.from_residual.ensures.1 c.loop-toxic.invariant c.in_err-print_toxic.ensures
