-- The writer's side of a link, step by step.
use Rattle.std.proofs.Common.{◌≡◌, ℕ, ◌+◌, ◌<◌, ◌≤◌, cond, inl, inr, true, false, List, [], ◌∷◌, ◌++◌, length, length-append, length-drop, take, drop, Option}
use Rattle.std.proofs.Common.{Some, None, refl, ap, ◌∙◌, sym, subst, arith}
use Rattle.std.specs.Prelude.{IsSome, is_none, filter, nat_lt}
use Rattle.std.proofs.Math.Seq.{drop-append_seam}
use Rattle.std.proofs.lemmas.Bool.{cases_lt, lt-ltb, le-ltb}
use Rattle.std.proofs.lemmas.List.{take-append-le, take_all, drop-append-le}
use Rattle.tox_time.specs.declared.streams.slice.Slice.{Slice}
use Rattle.tox_lend.specs.Run.{Run, stop_of}
use Rattle.tox_lend.specs.Window.{Pieces, JoinUpTo, start_of}
use Rattle.rtrb.specs.Ring.{received}
use Rattle.tox_time.specs.declared.streams.ending.Ending.{Ending}
use Rattle.tox_lend.proofs.WindowLemmas.{JoinUpTo-push, kept_all, start_of-push}
use Rattle.tox_link.specs.declared.ring.inbox.Inbox.{Inbox}
use Rattle.tox_link.specs.declared.ring.message.Message.{Message}
use Rattle.tox_link.specs.declared.ring.message.Message.TheVariants.{Piece, End}
use Rattle.tox_link.specs.declared.ring.message.ReadEnd.{ReadEnd}
use Rattle.tox_link.specs.declared.source_ending.SourceEnding.TheVariants.{NotReached}
use Rattle.tox_link.specs.declared.carrying.writer_side.WriterSide.{WriterSide}
use Rattle.tox_link.specs.link_core.Core.{CoreView, KeepsCore, core_ending, core_position}
use Rattle.tox_link.specs.steps.Held.{AreOf}
use Rattle.tox_link.specs.ring.Messages.{bytes_of, has_end}
use Rattle.tox_link.specs.carrying.Side.{IsFresh, IsSound, GivesSlice, came}
use Rattle.tox_link.specs.Sources.{read_end_of}
use Rattle.tox_link.proofs.Sent.{sent_more, sent_end}

-- pieces end where the last one stops
start-below : (stop : ℕ) (pieces : List Run) → JoinUpTo stop pieces → start_of stop pieces ≤ stop
start-below stop [] joined = omega arith
start-below stop (piece ∷ pieces) joined = let rest = start-below stop pieces joined.2 in omega (arith, rest, joined.1)

-- a part of some bytes is one of more bytes
part-grows : (heard more bytes : List ℕ) (start : ℕ) → start + length bytes ≤ length heard → bytes ≡ take (length bytes) (drop start heard)
    → bytes ≡ take (length bytes) (drop start (heard ++ more))
part-grows heard more bytes start within is =
    let left = length-drop start heard in
    is ∙ sym (take-append-le (length bytes) (drop start heard) more (omega (arith, left, within)))
    ∙ ap (take (length bytes)) (sym (drop-append-le start heard more (omega (arith, within))))

pub parts-grow : (stop : ℕ) (heard more : List ℕ) (pieces : List Run) → JoinUpTo stop pieces → stop ≤ length heard → AreOf heard pieces
    → AreOf (heard ++ more) pieces
parts-grow stop heard more [] joined within parts = tt
parts-grow stop heard more (piece ∷ pieces) joined within parts =
    let below = start-below stop pieces joined.2 in (
      part-grows heard more piece.bytes piece.start (omega (arith, below, within, joined.1)) parts.0,
      parts-grow stop heard more pieces joined.2 within parts.1,
    )

-- one more piece
pub parts-add : (heard : List ℕ) (pieces : List Run) (run : Run) → AreOf heard pieces → run.bytes ≡ take (length run.bytes) (drop run.start heard)
    → AreOf heard (pieces ++ run ∷ [])
parts-add heard [] run parts last = (last, tt)
parts-add heard (piece ∷ pieces) run parts last = (parts.0, parts-add heard pieces run parts.1 last)

-- the bytes behind others are their own part
pub last-part : (heard bytes : List ℕ) (start : ℕ) → start ≡ length heard → bytes ≡ take (length bytes) (drop start (heard ++ bytes))
last-part heard bytes start at =
    sym (take_all (length bytes) bytes (omega arith)) ∙ ap (take (length bytes))
    (sym (drop-append_seam heard bytes) ∙ ap (λ n. drop n (heard ++ bytes)) (sym at))

-- the pieces that stop past a position
abbrev pub past : ℕ → List Run → List Run
past position pieces = filter (λ piece. nat_lt position (stop_of piece)) pieces

-- one piece stops past it, or not
module _ (position : ℕ) (piece : Run) (pieces : List Run) where
  past-kept : position < stop_of piece → past position (piece ∷ pieces) ≡ piece ∷ past position pieces
  past-kept inside = ap (λ test. cond test (piece ∷ past position pieces) (past position pieces)) (lt-ltb position (stop_of piece) inside)

  past-dropped : stop_of piece ≤ position → past position (piece ∷ pieces) ≡ past position pieces
  past-dropped ended = ap (λ test. cond test (piece ∷ past position pieces) (past position pieces)) (le-ltb position (stop_of piece) ended)

-- those that stop past a position where one may start still join up
pub past-joined : (stop position : ℕ) (pieces : List Run) → JoinUpTo stop pieces → start_of stop pieces ≤ position → position ≤ stop
    → JoinUpTo stop (past position pieces) × (start_of stop (past position pieces) ≤ position)
past-joined stop position [] joined from within = (tt, from)
past-joined stop position (piece ∷ pieces) joined from within =
    let Left : List Run → Type 0 = λ left. JoinUpTo stop left × (start_of stop left ≤ position) in
    elim (cases_lt position (stop_of piece)) [
      | inl inside ↦ subst Left (sym (past-kept position piece pieces inside
          ∙ ap (λ rest. piece ∷ rest) (kept_all stop position pieces joined.2 (omega (arith, joined.1, inside))))) (joined, from)
      | inr ended ↦ subst Left (sym (past-dropped position piece pieces ended))
          (past-joined stop position pieces joined.2 (omega (arith, joined.1, ended)) within)
    ]

pub past-parts : (heard : List ℕ) (position : ℕ) (pieces : List Run) → AreOf heard pieces → AreOf heard (past position pieces)
past-parts heard position [] parts = tt
past-parts heard position (piece ∷ pieces) parts = elim (cases_lt position (stop_of piece)) [
  | inl inside ↦ subst (AreOf heard) (sym (past-kept position piece pieces inside)) (parts.0, past-parts heard position pieces parts.1)
  | inr ended ↦ subst (AreOf heard) (sym (past-dropped position piece pieces ended)) (past-parts heard position pieces parts.1)
]

-- the pieces that a window holds from a position on
pub record IsLeft (heard : List ℕ) (stop position : ℕ) (left : List Run) : Type 0 where
  pub joined : JoinUpTo stop left
  pub start : start_of stop left ≤ position
  pub parts : AreOf heard left

pub past-left : (heard : List ℕ) (stop position : ℕ) (pieces : List Run) → JoinUpTo stop pieces → start_of stop pieces ≤ position → position ≤ stop
    → AreOf heard pieces → IsLeft heard stop position (past position pieces)
past-left heard stop position pieces joined from within parts =
    let left = past-joined stop position pieces joined from within in
    record { joined = left.0; start = left.1; parts = past-parts heard position pieces parts }

-- an open source has not reported why it ended
pub open-source : (side : WriterSide) (messages : List Message) (end : ReadEnd) → IsSound side messages → side.ended ≡ false
    → read_end_of side.source ≡ Some end → ⊥
open-source side messages end sound going reported = let over = (sound.whole end reported).ended in absurd (cc)

none-of : (end : Option ReadEnd) → ((last : ReadEnd) → end ≡ Some last → ⊥) → end ≡ None
none-of None never = refl
none-of (Some last) never = absurd (never last refl)

pub open-none : (side : WriterSide) (messages : List Message) → IsSound side messages → side.ended ≡ false → read_end_of side.source ≡ None
open-none side messages sound going = none-of (read_end_of side.source) (λ last reported. open-source side messages last sound going reported)

-- an ending that is not unknown is known
pub some-known : (ending : Option Ending) → (ending ≡ None → ⊥) → IsSome ending
some-known None known = absurd (known refl)
some-known (Some ending) known = refl

pub known-some : (ending : Option Ending) → (ending ≡ None → ⊥) → is_none ending ≡ false
known-some None known = absurd (known refl)
known-some (Some ending) known = refl

-- the ring has no part in what is sound
pub sound-inbox : (side : WriterSide) (inbox : Inbox) (before messages : List Message) → IsSound side before → messages ≡ before
    → IsSound (record side { inbox = inbox }) messages
sound-inbox side inbox before messages sound same = subst (IsSound (record side { inbox = inbox })) (sym same) (record {
  written = sound.written;
  within = sound.within;
  stop = sound.stop;
  joined = sound.joined;
  start = sound.start;
  parts = sound.parts;
  few = sound.few;
  live = sound.live;
  going = sound.going;
  reported = sound.reported;
  whole = λ end reported. let all = sound.whole end reported in record { ended = all.ended; bytes = all.bytes; before = all.before; last = all.last };
})

-- a piece leaves whether the end came
end-unsaid : (before : List Message) (message : Message) → has_end (message ∷ []) ≡ false → has_end (before ++ message ∷ []) ≡ has_end before
end-unsaid [] message none = none
end-unsaid (Piece piece ∷ before) message none = end-unsaid before message none
end-unsaid (End end ∷ before) message none = refl

end-said : (before : List Message) (end : ReadEnd) → has_end (before ++ End end ∷ []) ≡ true
end-said [] end = refl
end-said (Piece piece ∷ before) end = end-said before end
end-said (End other ∷ before) end = refl

-- what came with one more message
pub came-more : (side : WriterSide) (before : List Message) (message : Message) → received side.inbox.receiver ≡ before ++ message ∷ []
    → (more : List ℕ) × (came side ≡ bytes_of before ++ more)
came-more side before message more = (bytes_of (message ∷ []), sent_more before (received side.inbox.receiver) message (bytes_of (message ∷ [])) more refl)

unknown-of : (old new : Option Ending) → ((last : Ending) → old ≡ Some last → new ≡ Some last) → new ≡ None → old ≡ None
unknown-of None new stays none = refl
unknown-of (Some last) new stays none = let known = stays last refl in absurd (cc)

none-reported : (side : WriterSide) (end : ReadEnd) → side.source ≡ NotReached → read_end_of side.source ≡ Some end → ⊥
none-reported side end source reported = let none = ap read_end_of source in cc

ended-open : (side : WriterSide) → side.ended ≡ true → side.ended ≡ false → ⊥
ended-open side ended unended = cc

none-known : (core : CoreView) → core_ending core ≡ None → IsSome (core_ending core) → ⊥
none-known core none known = cc

-- a message came while the ending was known, and is dropped
pub sound-dropped : (old new : WriterSide) (before messages : List Message) (message : Message) → IsSound old before → old.ended ≡ false
    → IsSome (core_ending old.core)
    → messages ≡ before ++ message ∷ [] → has_end (message ∷ []) ≡ false → new.core ≡ old.core → new.window ≡ old.window → new.ended ≡ old.ended
    → new.source ≡ old.source → new.written ≡ old.written → IsSound new messages
sound-dropped old new before messages message sound going known came piece core window ended source written = record {
  written = written ∙ sound.written ∙ ap core_position (sym core);
  within = subst (λ core. core_position core ≤ core.bytes) (sym core) sound.within;
  stop = ap (λ (window : Pieces). window.stop) window ∙ sound.stop ∙ ap (λ (core : CoreView). core.bytes) (sym core);
  joined = subst (λ (window : Pieces). JoinUpTo window.stop window.held) (sym window) sound.joined;
  start = subst (λ (window : Pieces). start_of window.stop window.held ≤ core_position new.core) (sym window)
      (subst (λ core. start_of old.window.stop old.window.held ≤ core_position core) (sym core) sound.start);
  parts = subst (λ (window : Pieces). AreOf (bytes_of messages) window.held) (sym window)
      (subst (λ heard. AreOf heard old.window.held) (sym grown) (parts-grow old.window.stop (bytes_of before) (bytes_of (message ∷ [])) old.window.held
      sound.joined (omega (arith, sound.stop, sound.few)) sound.parts));
  few = let bytes = ap (λ (core : CoreView). core.bytes) core in let all = ap length grown
      ∙ length-append (bytes_of before) (bytes_of (message ∷ [])) in omega (arith, bytes, all, sound.few);
  live = λ _ unknown. absurd (none-known old.core (ap core_ending (sym core) ∙ unknown) known);
  going = λ unended. ap (λ (core : CoreView). core.ended) core ∙ sound.going (sym ended ∙ unended);
  reported = ended ∙ sound.reported ∙ sym (end-unsaid before message piece) ∙ ap has_end (sym came);
  whole = λ end reported. absurd (open-source old before end sound going (ap read_end_of (sym source) ∙ reported));
}
  where
    grown : bytes_of messages ≡ bytes_of before ++ bytes_of (message ∷ [])
    grown = sent_more before messages message (bytes_of (message ∷ [])) came refl

-- a piece came and is kept
pub sound-kept : (old new : WriterSide) (before messages : List Message) (message : Message) (bytes : List ℕ) (run : Run) → IsSound old before
    → old.ended ≡ false → core_ending old.core ≡ None
    → messages ≡ before ++ message ∷ [] → has_end (message ∷ []) ≡ false → bytes_of (message ∷ []) ≡ bytes → 0 < length bytes
    → new.core.bytes ≡ old.core.bytes + length bytes → new.core.ended ≡ false → core_position new.core ≡ core_position old.core
    → new.window ≡ record old.window { held = old.window.held ++ run ∷ []; stop = stop_of run } → run.start ≡ old.window.stop → run.bytes ≡ bytes
    → new.ended ≡ old.ended → new.source ≡ old.source → new.written ≡ old.written → IsSound new messages
sound-kept old new before messages message bytes run sound going unknown came piece one some counts goes_on position window starts run_is ended source written =
    record {
      written = written ∙ sound.written ∙ sym position;
      within = omega (arith, position, sound.within, counts);
      stop = stop;
      joined = subst (λ held. JoinUpTo new.window.stop held) (sym held) (subst (λ at. JoinUpTo at (old.window.held ++ run ∷ [])) (sym stop_is)
          (JoinUpTo-push old.window.stop old.window.held run sound.joined starts run_some));
      start = omega (arith, start_is, starts, sound.start, position);
      parts = subst (AreOf (bytes_of messages)) (sym held) (parts-add (bytes_of messages) old.window.held run
          (subst (λ heard. AreOf heard old.window.held) (sym grown) (parts-grow old.window.stop (bytes_of before) bytes old.window.held sound.joined
          (omega (arith, sound.stop, sound.few)) sound.parts)) last);
      few = omega (arith, all, counts, full);
      live = λ _ _. omega (arith, all, counts, full);
      going = λ _. goes_on;
      reported = ended ∙ sound.reported ∙ sym (end-unsaid before message piece) ∙ ap has_end (sym came);
      whole = λ end reported. absurd (open-source old before end sound going (ap read_end_of (sym source) ∙ reported));
    }
  where
    grown : bytes_of messages ≡ bytes_of before ++ bytes
    grown = sent_more before messages message bytes came one

    all : length (bytes_of messages) ≡ length (bytes_of before) + length bytes
    all = ap length grown ∙ length-append (bytes_of before) bytes

    full : old.core.bytes ≡ length (bytes_of before)
    full = sound.live going unknown

    held : new.window.held ≡ old.window.held ++ run ∷ []
    held = ap (λ (window : Pieces). window.held) window

    stop_is : new.window.stop ≡ stop_of run
    stop_is = ap (λ (window : Pieces). window.stop) window

    long : length run.bytes ≡ length bytes
    long = ap length run_is

    run_some : 0 < length run.bytes
    run_some = omega (arith, long, some)

    stop : new.window.stop ≡ new.core.bytes
    stop = omega (arith, stop_is, starts, long, sound.stop, counts)

    last : run.bytes ≡ take (length run.bytes) (drop run.start (bytes_of messages))
    last =
        subst (λ part. part ≡ take (length part) (drop run.start (bytes_of messages))) (sym run_is)
        (last-part (bytes_of before) bytes run.start (omega (arith, starts, sound.stop, full))
        ∙ ap (λ heard. take (length bytes) (drop run.start heard)) (sym grown))

    start_is : start_of new.window.stop new.window.held ≡ start_of old.window.stop old.window.held
    start_is = ap (λ (window : Pieces). start_of window.stop window.held) window ∙ start_of-push old.window.stop old.window.held run starts

-- the source's end came
pub sound-ended : (old new : WriterSide) (before messages : List Message) (end : ReadEnd) → IsSound old before → old.ended ≡ false
    → messages ≡ before ++ End end ∷ [] → new.ended ≡ true
    → new.core.bytes ≡ old.core.bytes → core_position new.core ≡ core_position old.core → new.window ≡ old.window → new.written ≡ old.written
    → ((last : ReadEnd) → read_end_of new.source ≡ Some last → (last ≡ end) × (core_ending old.core ≡ None)) → IsSound new messages
sound-ended old new before messages end sound going came ended counts position window written reported = record {
  written = written ∙ sound.written ∙ sym position;
  within = omega (arith, position, sound.within, counts);
  stop = ap (λ (window : Pieces). window.stop) window ∙ sound.stop ∙ sym counts;
  joined = subst (λ (window : Pieces). JoinUpTo window.stop window.held) (sym window) sound.joined;
  start = subst (λ (window : Pieces). start_of window.stop window.held ≤ core_position new.core) (sym window) (omega (arith, position, sound.start));
  parts = subst (λ (window : Pieces). AreOf (bytes_of messages) window.held) (sym window) (subst (λ heard. AreOf heard old.window.held) (sym same) sound.parts);
  few = omega (arith, all, counts, sound.few);
  live = λ unended unknown. absurd (ended-open new ended unended);
  going = λ unended. absurd (ended-open new ended unended);
  reported = ended ∙ sym (end-said before end) ∙ ap has_end (sym came);
  whole = λ last said.
      let is = reported last said in
      record {
        ended = ended;
        bytes = counts ∙ sound.live going is.1 ∙ sym all;
        before = before;
        last = came
            ∙ ap (λ last. before ++ End last ∷ []) (sym is.0);
      };
}
  where
    same : bytes_of messages ≡ bytes_of before
    same = sent_end before messages end came

    all : length (bytes_of messages) ≡ length (bytes_of before)
    all = ap length same

-- an ending stays known
pub unknown-before : (old new : CoreView) → KeepsCore old new → core_ending new ≡ None → core_ending old ≡ None
unknown-before old new kept none = unknown-of (core_ending old) (core_ending new) kept.ending none

-- the core took a step
pub sound-step : (old new : WriterSide) (messages : List Message) → IsSound old messages → KeepsCore old.core new.core → new.written ≡ core_position new.core
    → core_position new.core ≤ new.core.bytes
    → new.window.stop ≡ old.window.stop → IsLeft (bytes_of messages) new.window.stop (core_position new.core) new.window.held → new.ended ≡ old.ended
    → new.source ≡ old.source → IsSound new messages
sound-step old new messages sound kept written within stop left ended source = record {
  written = written;
  within = within;
  stop = stop ∙ sound.stop ∙ sym kept.bytes;
  joined = left.joined;
  start = left.start;
  parts = left.parts;
  few = omega (arith, kept.bytes, sound.few);
  live = λ unended none. kept.bytes ∙ sound.live (sym ended ∙ unended) (unknown-before old.core new.core kept none);
  going = λ unended. kept.ended ∙ sound.going (sym ended ∙ unended);
  reported = ended ∙ sound.reported;
  whole = λ end reported.
      let all = sound.whole end (ap read_end_of (sym source) ∙ reported) in
      record { ended = ended ∙ all.ended; bytes = kept.bytes ∙ all.bytes; before = all.before; last = all.last };
}

-- the core took a step that writes nothing
pub sound-waited : (side : WriterSide) (inbox : Inbox) (core : CoreView) (messages : List Message) → IsSound side messages → KeepsCore side.core core
    → core_position core ≡ core_position side.core
    → IsSound (record side { core = core; inbox = inbox }) messages
sound-waited side inbox core messages sound kept position =
    sound-step side (record side { core = core; inbox = inbox }) messages sound kept (sound.written ∙ sym position)
    (omega (arith, position, sound.within, kept.bytes)) refl
    (record { joined = sound.joined; start = omega (arith, position, sound.start); parts = sound.parts }) refl refl

-- a slice was written, and the pieces before its end are given up
pub sound-wrote : (side new : WriterSide) (slice : Slice) → GivesSlice side slice
    → new ≡ record side { window = record side.window { held = past slice.span.stop side.window.held }; emptied = new.emptied; written = slice.span.stop }
    → IsSound new (received new.inbox.receiver)
sound-wrote side new slice due same =
    let sound = due.sound in
    let takes = due.takes in
    let gave_up = record side { window = record side.window { held = past slice.span.stop side.window.held }; emptied = new.emptied; written = slice.span.stop }
    in
    let left : IsLeft (came side) side.window.stop slice.span.stop (past slice.span.stop side.window.held)
    = past-left (came side) side.window.stop slice.span.stop side.window.held sound.joined (omega (arith, sound.start, takes.starts, takes.within.some))
    (omega (arith, takes.arrived, sound.stop, due.kept.bytes)) sound.parts in
    subst (λ (side : WriterSide). IsSound side (received side.inbox.receiver)) (sym same)
    (sound-step (record side { core = due.before }) gave_up (received side.inbox.receiver) sound due.kept (sym takes.stops)
    (omega (arith, takes.stops, takes.arrived)) refl
    (subst (λ at. IsLeft (came side) side.window.stop at (past slice.span.stop side.window.held)) (sym takes.stops) left) refl refl)

-- nothing came yet
pub sound-fresh : (side : WriterSide) → IsFresh side → IsSound side (received side.inbox.receiver)
sound-fresh side fresh = record {
  written = fresh.written ∙ sym fresh.position;
  within = omega (arith, fresh.position);
  stop = fresh.stop ∙ sym fresh.bytes;
  joined = subst (JoinUpTo side.window.stop) (sym fresh.held) tt;
  start = subst (λ held. start_of side.window.stop held ≤ core_position side.core) (sym fresh.held) (omega (arith, fresh.stop));
  parts = subst (AreOf (came side)) (sym fresh.held) tt;
  few = omega (arith, fresh.bytes);
  live = λ unended none. fresh.bytes ∙ sym (ap (λ messages. length (bytes_of messages)) fresh.received);
  going = λ unended. fresh.going;
  reported = fresh.ended ∙ sym (ap has_end fresh.received);
  whole = λ end reported. absurd (none-reported side end fresh.source reported);
}

-- more that comes leaves what is written
pub came-front : (old new : WriterSide) (more : List ℕ) → IsSound old (received old.inbox.receiver) → new.written ≡ old.written → came new ≡ came old ++ more
    → take new.written (came new) ≡ take old.written (came old)
came-front old new more sound written grown =
    ap (λ n. take n (came new)) written ∙ ap (take old.written) grown ∙ take-append-le old.written (came old) more
    (omega (arith, sound.written, sound.within, sound.few))
