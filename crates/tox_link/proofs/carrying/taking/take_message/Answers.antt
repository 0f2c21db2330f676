-- What comes is kept, and the ring's order allows it.
use Rattle.std.proofs.Common.{rules, [], ◌∷◌, ◌++◌, refl, ap, subst, ◌∙◌}
use Rattle.rtrb.specs.Ring.{received}
use Rattle.tox_link.specs.declared.ring.inbox.Inbox.{Inbox}
use Rattle.tox_link.specs.declared.ring.message.Message.{Message}
use Rattle.tox_link.specs.declared.ring.message.Message.TheVariants.{Piece, End}
use Rattle.tox_link.specs.ring.Messages.{Allows}
use Rattle.tox_link.proofs.LoggedLemmas.{keeps-inbox}
use Rattle.tox_link.proofs.SideLemmas.{sound-inbox, came-more}
use Rattle.tox_link.proofs.carrying.taking.take_message.Goals as goal

pub returns-in-Err-clause-ok : goal.returns-in-Err-clause-ok
returns-in-Err-clause-ok g c = sound-inbox c.args.side.now c.pop.new.self _ _ c.requires.sound c.in-Err.ensures.none

pub keep_piece-requires-clause-came : goal.keep_piece-requires-clause-came
keep_piece-requires-clause-came g c =
    let before = received c.args.side.now.inbox.receiver in
    record {
      before = before;
      sound = sound-inbox c.args.side.now c.pop.new.self before before c.requires.sound refl;
      going = search rules;
      came = c.in-Ok.ensures.some.0 ∙ ap (λ (message : Message). before ++ message ∷ []) c.in-Piece.is;
      allowed = subst (Allows before) c.in-Piece.is c.in-Ok.ensures.some.1;
    }

pub keep_end-requires-clause-came : goal.keep_end-requires-clause-came
keep_end-requires-clause-came g c =
    let before = received c.args.side.now.inbox.receiver in
    record {
      before = before;
      sound = sound-inbox c.args.side.now c.pop.new.self before before c.requires.sound refl;
      going = search rules;
      came = c.in-Ok.ensures.some.0 ∙ ap (λ (message : Message). before ++ message ∷ []) c.in-End.is;
      allowed = subst (Allows before) c.in-End.is c.in-Ok.ensures.some.1;
    }

pub returns-in_err-keep_piece-in-Piece-clause-came :
    goal.returns-in_err-keep_piece-in-Piece-clause-came
returns-in_err-keep_piece-in-Piece-clause-came g c =
    let before = received c.args.side.now.inbox.receiver in
    came-more c.keep_piece.new.side before (Piece c.in-Piece.bytes)
    (ap (λ (inbox : Inbox). received inbox.receiver) c.keep_piece.ensures.same.0 ∙ c.in-Ok.ensures.some.0
    ∙ ap (λ (message : Message). before ++ message ∷ []) c.in-Piece.is)

pub returns-in_err-keep_end-in-End-clause-came : goal.returns-in_err-keep_end-in-End-clause-came
returns-in_err-keep_end-in-End-clause-came g c =
    let before = received c.args.side.now.inbox.receiver in
    came-more c.keep_end.new.side before (End c.in-End.end)
    (ap (λ (inbox : Inbox). received inbox.receiver) c.keep_end.ensures.same.0 ∙ c.in-Ok.ensures.some.0
    ∙ ap (λ (message : Message). before ++ message ∷ []) c.in-End.is)

pub returns-in_ok-keep_piece-in-Piece-clause-came :
    goal.returns-in_ok-keep_piece-in-Piece-clause-came
returns-in_ok-keep_piece-in-Piece-clause-came g c =
    let before = received c.args.side.now.inbox.receiver in
    came-more c.keep_piece.new.side before (Piece c.in-Piece.bytes)
    (ap (λ (inbox : Inbox). received inbox.receiver) c.keep_piece.ensures.same.0 ∙ c.in-Ok.ensures.some.0
    ∙ ap (λ (message : Message). before ++ message ∷ []) c.in-Piece.is)

pub returns-in_ok-keep_piece-in-Piece-clause-log :
    goal.returns-in_ok-keep_piece-in-Piece-clause-log
returns-in_ok-keep_piece-in-Piece-clause-log g c =
    let noted = c.in_ok-keep_piece-in-Piece.ensures.log in
    record {
      more = noted.more;
      noted = noted.noted;
      keeps = keeps-inbox (g.C.Clock.reported c.args.clock.now) c.args.side.now c.keep_piece.new.side
          c.pop.new.self noted.more noted.keeps;
    }

pub returns-in_ok-keep_end-in-End-clause-came : goal.returns-in_ok-keep_end-in-End-clause-came
returns-in_ok-keep_end-in-End-clause-came g c =
    let before = received c.args.side.now.inbox.receiver in
    came-more c.keep_end.new.side before (End c.in-End.end)
    (ap (λ (inbox : Inbox). received inbox.receiver) c.keep_end.ensures.same.0 ∙ c.in-Ok.ensures.some.0
    ∙ ap (λ (message : Message). before ++ message ∷ []) c.in-End.is)

pub returns-in_ok-keep_end-in-End-clause-log : goal.returns-in_ok-keep_end-in-End-clause-log
returns-in_ok-keep_end-in-End-clause-log g c =
    let noted = c.in_ok-keep_end-in-End.ensures.log in
    record {
      more = noted.more;
      noted = noted.noted;
      keeps = keeps-inbox (g.C.Clock.reported c.args.clock.now) c.args.side.now c.keep_end.new.side
          c.pop.new.self noted.more noted.keeps;
    }

pub returns-in_ok-keep_piece-in-Piece-clause-took : goal.returns-in_ok-keep_piece-in-Piece-clause-took
returns-in_ok-keep_piece-in-Piece-clause-took g c = (
  c.in-Ok.message,
  ap (λ (inbox : Inbox). received inbox.receiver) c.keep_piece.ensures.same.0
      ∙ c.in-Ok.ensures.some.0,
)

pub returns-in_ok-keep_end-in-End-clause-took : goal.returns-in_ok-keep_end-in-End-clause-took
returns-in_ok-keep_end-in-End-clause-took g c = (
  c.in-Ok.message,
  ap (λ (inbox : Inbox). received inbox.receiver) c.keep_end.ensures.same.0
      ∙ c.in-Ok.ensures.some.0,
)
