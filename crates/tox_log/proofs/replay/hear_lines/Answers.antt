-- Line by line.
use Rattle.std.proofs.Common.{rules, ℕ, ◌+◌, length, IfSome, ◌≡◌, ◌++◌, ◌∷◌, [], ◌∙◌, IfNone, MatchOption, subst, sym}
use Rattle.tox_link.proofs.Sent.{prepend_more}
use Rattle.tox_log.specs.Left.{HandsFirst, IsHeardTo}
use Rattle.tox_log.specs.Lines.{line_words}
use Rattle.tox_log.specs.Order.{GoesOnWith}
use Rattle.tox_log.specs.Reading.{Hands, IsLineNumber, LacksLine, next_number, to_hand}
use Rattle.tox_log.proofs.Numbering.{behind-heard, behind-line, number_behind}
use Rattle.tox_log.specs.Hearing.{SaysOf}
use Rattle.tox_log.specs.declared.replay.Verdict.TheVariants.{Unfinished}
use Rattle.tox_log.proofs.Faults.{failed-so, same-deep, same-fault}
use Rattle.tox_log.proofs.Hearing.{says-line, says-skipped}
use Rattle.tox_log.proofs.Leaving.{rest-left}
use Rattle.tox_log.proofs.Rooms.{IsNowShallow, shallow-first, shallow-next}
use Rattle.tox_log.proofs.replay.hear_lines.Goals as goal

pub lines-preserved-then-ne : goal.lines-preserved-then-ne
lines-preserved-then-ne g c =
    let (text, given, says, numbers) = c.lines.invariant.text in
    let before = g.R.Source.remaining c.lines.reader in
    let after = g.R.Source.remaining c.next_line.new.reader in
    let handed : Hands c.lines.log c.next_line.new.self before after c.in-Some.line =
    subst (λ handed. MatchOption handed (c.next_line.new.self.over ≡ c.lines.log.over) (Hands c.lines.log c.next_line.new.self before after)) c.in-Some.is
    c.in_ok-line.ensures.hands in
    let counted : (line : ℕ) → IsLineNumber (next_number c.lines.log) line
    → IsLineNumber c.next_line.new.self.number line × IsLineNumber (next_number c.next_line.new.self) (line + 1) =
    subst (λ handed. IfSome handed (λ _. (line : ℕ) → IsLineNumber (next_number c.lines.log) line
    → IsLineNumber c.next_line.new.self.number line × IsLineNumber (next_number c.next_line.new.self) (line + 1))) c.in-Some.is
    c.in_ok-line.ensures.numbered in
    let more = text ++ (line_words c.in-Some.line ++ 10 ∷ []) in record {
      working = c.in_ok-line.ensures.working;
      held = c.lines.invariant.held;
      same = (c.in_ok-line.ensures.same.0 ∙ c.lines.invariant.same.0, c.in_ok-line.ensures.same.1 ∙ c.lines.invariant.same.1);
      text = (
        more,
        prepend_more text (line_words c.in-Some.line ++ 10 ∷ []) (to_hand c.args.log.now (g.R.Source.remaining c.args.reader.now)) (to_hand c.lines.log before)
            (to_hand c.next_line.new.self after) given handed.given,
        λ start means begins begun. says-skipped start means text (line_words c.in-Some.line ++ 10 ∷ []) c.lines.log.over c.next_line.new.self.over
            c.lines.hearing c.lines.hearing.verdict (search rules) handed.going (says start means begins begun),
        λ start begins. subst (IsLineNumber (next_number c.next_line.new.self)) (sym (behind-line start text c.in-Some.line handed.writable))
            (counted (number_behind start text) (numbers start begins)).1,
      );
      follows = λ begun unfinished. let known : c.lines.hearing.verdict ≡ Unfinished → ⊥ = search rules in absurd (known unfinished);
      left = λ lines left.
          let (rest, remains) = c.lines.invariant.left lines left in
          let hands = subst (λ handed. HandsFirst handed c.next_line.new.self after rest) c.in-Some.is (c.in_ok-line.ensures.reads rest remains) in
          let (more, first, others) = rest-left c.next_line.new.self after rest c.in-Some.line hands in (more, others);
      shallow = λ means events lines judged left room.
          let (rest, remains, now) = c.lines.invariant.shallow means events lines judged left room in
          let hands = subst (λ handed. HandsFirst handed c.next_line.new.self after rest) c.in-Some.is (c.in_ok-line.ensures.reads rest remains) in
          let (more, first, others) = rest-left c.next_line.new.self after rest c.in-Some.line hands in
          let known : c.lines.hearing.verdict ≡ Unfinished → ⊥ = search rules in
          (more, others, λ unfinished. absurd (known unfinished));
    }

pub lines-preserved : goal.lines-preserved
lines-preserved g c =
    let (text, given, says, numbers) = c.lines.invariant.text in
    let before = g.R.Source.remaining c.lines.reader in
    let after = g.R.Source.remaining c.next_line.new.reader in
    let handed : Hands c.lines.log c.next_line.new.self before after c.in-Some.line =
    subst (λ handed. MatchOption handed (c.next_line.new.self.over ≡ c.lines.log.over) (Hands c.lines.log c.next_line.new.self before after)) c.in-Some.is
    c.in_ok-line.ensures.hands in
    let order : GoesOnWith c.lines.log.heard c.in-Some.line c.next_line.new.self.heard =
    subst (λ handed. MatchOption handed (c.next_line.new.self.heard ≡ c.lines.log.heard) (λ line. GoesOnWith c.lines.log.heard line c.next_line.new.self.heard))
    c.in-Some.is c.in_ok-line.ensures.order in
    let counted : (line : ℕ) → IsLineNumber (next_number c.lines.log) line
    → IsLineNumber c.next_line.new.self.number line × IsLineNumber (next_number c.next_line.new.self) (line + 1) =
    subst (λ handed. IfSome handed (λ _. (line : ℕ) → IsLineNumber (next_number c.lines.log) line
    → IsLineNumber c.next_line.new.self.number line × IsLineNumber (next_number c.next_line.new.self) (line + 1))) c.in-Some.is
    c.in_ok-line.ensures.numbered in
    let unfinished : c.lines.hearing.verdict ≡ Unfinished = search rules in record {
      working = c.in_ok-line.ensures.working;
      held = c.hear_line.ensures.held;
      same = (c.in_ok-line.ensures.same.0 ∙ c.lines.invariant.same.0, c.in_ok-line.ensures.same.1 ∙ c.lines.invariant.same.1);
      text = (
        text ++ (line_words c.in-Some.line ++ 10 ∷ []),
        prepend_more text (line_words c.in-Some.line ++ 10 ∷ []) (to_hand c.args.log.now (g.R.Source.remaining c.args.reader.now)) (to_hand c.lines.log before)
            (to_hand c.next_line.new.self after) given handed.given,
        λ start means begins begun. says-line start means text c.lines.log.over c.next_line.new.self.over c.lines.hearing c.hear_line.new.hearing c.in-Some.line
            c.number.result unfinished handed.going handed.over handed.writable c.in_ok-hear_line.ensures.hears
            (λ heard. subst (λ number. IsLineNumber number (start + length heard.events)) (sym c.number.ensures)
            (subst (IsLineNumber c.next_line.new.self.number) (behind-heard start means text c.lines.hearing heard)
            (counted (number_behind start text) (numbers start begins)).0)) (says start means begins begun),
        λ start begins. subst (IsLineNumber (next_number c.next_line.new.self)) (sym (behind-line start text c.in-Some.line handed.writable))
            (counted (number_behind start text) (numbers start begins)).1,
      );
      follows = λ begun still. subst (IsHeardTo c.hear_line.new.hearing.judge) (sym order.heard)
          (c.in_ok-hear_line.ensures.follows c.lines.log.heard (c.lines.invariant.follows begun unfinished) still);
      left = λ lines left.
          let (rest, remains) = c.lines.invariant.left lines left in
          let hands = subst (λ handed. HandsFirst handed c.next_line.new.self after rest) c.in-Some.is (c.in_ok-line.ensures.reads rest remains) in
          let (more, first, others) = rest-left c.next_line.new.self after rest c.in-Some.line hands in (more, others);
      shallow = λ means events lines judged left room.
          let (rest, remains, now) = c.lines.invariant.shallow means events lines judged left room in
          let hands = subst (λ handed. HandsFirst handed c.next_line.new.self after rest) c.in-Some.is (c.in_ok-line.ensures.reads rest remains) in
          let (more, first, others) = rest-left c.next_line.new.self after rest c.in-Some.line hands in (
            more,
            others,
            λ still. shallow-next means c.lines.hearing.judge c.hear_line.new.hearing.judge c.in-Some.line more
                (λ events judged. c.in_ok-hear_line.ensures.judges means events judged still)
                (subst (IsNowShallow means c.lines.hearing.judge) first (now unfinished)),
          );
    }

pub returns-in_err-line-clause-reads : goal.returns-in_err-line-clause-reads
returns-in_err-line-clause-reads g c = λ lines left begun.
    let (rest, remains) = c.lines.invariant.left lines left in
    failed-so c.from_residual.result _ _ _ c.from_residual.ensures.1 (λ fault is.
    same-fault fault c.in_err-line.field-0.0 is (c.in_err-line.ensures.reads rest remains).0)

pub returns-in_err-hear_line-clause-reads : goal.returns-in_err-hear_line-clause-reads
returns-in_err-hear_line-clause-reads g c = λ lines left begun.
    let order : GoesOnWith c.lines.log.heard c.in-Some.line c.next_line.new.self.heard =
    subst (λ handed. MatchOption handed (c.next_line.new.self.heard ≡ c.lines.log.heard) (λ line. GoesOnWith c.lines.log.heard line c.next_line.new.self.heard))
    c.in-Some.is c.in_ok-line.ensures.order in
    let unfinished : c.lines.hearing.verdict ≡ Unfinished = search rules in
    failed-so c.from_residual-in_err-hear_line.result _ _ _ c.from_residual-in_err-hear_line.ensures.1
    (λ fault is. same-fault fault c.in_err-hear_line.field-0.0 is
    (c.in_err-hear_line.ensures.reads c.lines.log.heard (c.lines.invariant.follows begun unfinished) order.next))

pub returns-in_default-clause-says : goal.returns-in_default-clause-says
returns-in_default-clause-says g c =
    let (text, given, says, numbers) = c.lines.invariant.text in
    let before = g.R.Source.remaining c.lines.reader in
    let after = g.R.Source.remaining c.next_line.new.reader in
    let over : c.next_line.new.self.over ≡ c.lines.log.over =
    subst (λ handed. MatchOption handed (c.next_line.new.self.over ≡ c.lines.log.over) (Hands c.lines.log c.next_line.new.self before after)) c.in_default.is
    c.in_ok-line.ensures.hands in
    let none : LacksLine (to_hand c.lines.log before) = subst (λ handed. IfNone handed (LacksLine (to_hand c.lines.log before))) c.in_default.is
    c.in_ok-line.ensures.ends in record {
      text = text;
      left = to_hand c.lines.log before;
      given = given;
      rest = none;
      says = λ start means begins begun. subst (λ over. SaysOf start means text over c.lines.hearing) (sym over) (says start means begins begun);
      heading = c.in_ok-line.ensures.same.0 ∙ c.lines.invariant.same.0;
      chain = c.in_ok-line.ensures.same.1 ∙ c.lines.invariant.same.1;
    }

pub returns-in_err-line-clause-finds_room : goal.returns-in_err-line-clause-finds_room
returns-in_err-line-clause-finds_room g c = λ means events lines judged left room.
    let (rest, remains, now) = c.lines.invariant.shallow means events lines judged left room in
    failed-so c.from_residual.result _ _ _ c.from_residual.ensures.1 (λ fault is.
    same-deep fault c.in_err-line.field-0.0 is (c.in_err-line.ensures.reads rest remains).1)

pub returns-in_err-hear_line-clause-finds_room : goal.returns-in_err-hear_line-clause-finds_room
returns-in_err-hear_line-clause-finds_room g c = λ means events lines judged left room.
    let after = g.R.Source.remaining c.next_line.new.reader in
    let (rest, remains, now) = c.lines.invariant.shallow means events lines judged left room in
    let hands = subst (λ handed. HandsFirst handed c.next_line.new.self after rest) c.in-Some.is (c.in_ok-line.ensures.reads rest remains) in
    let (more, first, others) = rest-left c.next_line.new.self after rest c.in-Some.line hands in
    let unfinished : c.lines.hearing.verdict ≡ Unfinished = search rules in
    let here : IsNowShallow means c.lines.hearing.judge (c.in-Some.line ∷ more) = subst (IsNowShallow means c.lines.hearing.judge) first (now unfinished) in
    failed-so c.from_residual-in_err-hear_line.result _ _ _ c.from_residual-in_err-hear_line.ensures.1
    (λ fault is. same-deep fault c.in_err-hear_line.field-0.0 is
    (c.in_err-hear_line.ensures.finds_room means here.events here.judged (shallow-first here.events c.in-Some.line more here.room)))
