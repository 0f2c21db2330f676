-- Part by part, and then the whole slice.
use Rattle.std.proofs.Common.{◌≡◌, ◌+◌, ◌-◌, ℕ, replicate, true, subst, ◌∙◌, rules, refl, arith}
use Rattle.tox_log.specs.Judging.{Expects, rest_table}
use Rattle.tox_log.proofs.Refusing.{faithful-next}
use Rattle.tox_log.proofs.Judging.{begins-saying, goes-saying, said-all, begins-held}
use Rattle.tox_log.proofs.judge.hear_wrote.Goals as goal

pub parts-init : goal.parts-init
parts-init c =
    let judge = c.args.judge.now in
    let slice = c.args.slice.now in
    let fits = c.may_be_said.ensures.fits (search rules) in
    record {
      held = begins-held judge c.args.reading.now c.requires.later c.requires.held;
      heard = refl;
      latest = refl;
      ended = refl;
      from = omega (arith, fits);
      to = omega (arith, fits);
      due = fits.2;
      follows = λ means reported log follows. begins-saying means reported judge.core judge.heard judge.ended slice.span.start log slice.instant
          (rest_table judge.rest) judge.latest c.args.reading.now judge.said c.requires.later (omega (arith, fits)) follows;
      expects = λ expects. subst (λ at. Expects judge (slice.span.stop - at) slice.instant) (search rules) expects;
    }

pub parts-preserved : goal.parts-preserved
parts-preserved c =
    let old = c.parts.judge in
    let new = c.say_part.new.judge in
    let slice = c.args.slice.now in
    let yes : c.say_part.result ≡ true = search rules in
    let on = c.say_part.ensures.on yes in
    let counts = c.say_part.ensures.counts yes in
    record {
      held = c.say_part.ensures.held;
      heard = counts.0 ∙ c.parts.invariant.heard;
      latest = counts.1;
      ended = counts.2 ∙ c.parts.invariant.ended;
      from = omega (arith, on, c.parts.invariant.from);
      to = on.1;
      due = c.parts.invariant.due;
      follows = λ means reported log follows.
          let count : ℕ = new.said - old.said in
          let more : new.said ≡ old.said + count = omega (arith, on) in
          let whole : new.said - slice.span.start ≡ (old.said - slice.span.start) + count = omega (arith, on, c.parts.invariant.from) in
          goes-saying means reported new.core new.heard new.ended slice.span.start log slice.instant (rest_table new.rest) new.latest
          (old.said - slice.span.start) count (new.said - slice.span.start) whole
          (c.say_part.ensures.says yes means reported (replicate (old.said - slice.span.start) slice.instant) slice.span.start log count more
          (c.parts.invariant.follows means reported log follows));
      expects = λ expects. (c.say_part.ensures.expects (c.parts.invariant.expects expects) c.parts.invariant.due).1;
    }

pub returns-clause-hears : goal.returns-clause-hears
returns-clause-hears c = λ _ means reported log says follows.
    let slice = c.args.slice.now in
    let fits = c.may_be_said.ensures.fits (search rules) in
    let all : c.parts.judge.said ≡ slice.span.stop = omega (arith, c.parts.invariant.to, c.parts-test.false) in
    said-all means reported c.parts.judge slice c.args.reading.now log c.parts.invariant.latest all says fits.2 fits.1
    (c.parts.invariant.follows means reported log follows)

pub returns-then-not-may_be_said-clause-refuses : goal.returns-then-not-may_be_said-clause-refuses
returns-then-not-may_be_said-clause-refuses c = λ _ means reported log judged faithful.
    let next = faithful-next means reported c.args.judge.now log c.args.slice.now c.args.reading.now judged faithful in
    let takes : c.may_be_said.result ≡ true = c.may_be_said.ensures.takes next.starts next.some next.due in
    search rules

pub returns-then-not-say_part-clause-refuses : goal.returns-then-not-say_part-clause-refuses
returns-then-not-say_part-clause-refuses c = λ _ means reported log judged faithful.
    let next = faithful-next means reported c.args.judge.now log c.args.slice.now c.args.reading.now judged faithful in
    let goes_on : c.say_part.result ≡ true = (c.say_part.ensures.expects (c.parts.invariant.expects next.expects) c.parts.invariant.due).0 in
    search rules
