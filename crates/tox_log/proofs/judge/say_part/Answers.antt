-- The core's slice leaves at the same instant.
use Rattle.std.proofs.Common.{◌≡◌, ◌+◌, ◌-◌, ◌≤◌, ◌<◌, ◌++◌, replicate, refl, ap, sym, ◌∙◌, subst, rules, arith}
use Rattle.tox_log.specs.Judging.{FollowsWith, next_table}
use Rattle.tox_log.proofs.Refusing.{expects-rest}
use Rattle.tox_log.proofs.judge.say_part.Goals as goal

pub returns-clause-says : goal.returns-clause-says
returns-clause-says c = λ true means reported front start log count counts follows.
    let due : c.in-Some.part.instant ≡ c.args.slice.now.instant = search rules in
    let more : c.say.new.judge.said ≡ c.look.new.judge.said + count = omega (arith, counts, c.look.ensures.counts.3) in
    subst (λ t. FollowsWith means reported c.say.new.judge (front ++ replicate count t) start log) due
    (c.say.ensures.says means reported front start log count more (c.look.ensures.stays means reported front start log follows))

pub returns-clause-expects : goal.returns-clause-expects
returns-clause-expects c = λ expects before.
    let old = c.args.judge.now in
    let asked = c.look.new.judge in
    let new = c.say.new.judge in
    let slice = c.args.slice.now in
    let due : c.in-Some.part.instant ≡ slice.instant = search rules in
    let next : next_table old ≡ replicate (new.said - asked.said) slice.instant ++ next_table new =
    sym c.look.ensures.next ∙ c.say.ensures.next
    ∙ ap (λ stop. replicate (stop - asked.said) c.in-Some.part.instant ++ next_table new) (sym c.say.ensures.counts.3)
    ∙ ap (λ t. replicate (new.said - asked.said) t ++ next_table new) due in
    let same : asked.said ≡ old.said = c.look.ensures.counts.3 in
    let within : new.said ≤ slice.span.stop = search rules in
    let on : asked.said < new.said = search rules in (
      refl,
      expects-rest old new (slice.span.stop - old.said) (new.said - asked.said) (slice.span.stop - new.said) slice.instant
          (omega (arith, same, within, on)) next expects,
    )
