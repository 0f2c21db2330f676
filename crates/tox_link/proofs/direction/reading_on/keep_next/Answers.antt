-- The first piece of a read is kept, or all of it is dropped.
use Rattle.std.proofs.Common.{◌≡◌, ◌-◌, Option, Some, None, [], true, false, length, take, refl, sym, ap, ◌∙◌, arith}
use Rattle.std.specs.Io.KnownBytes.{prepend_known}
use Rattle.std.specs.Prelude.{is_some}
use Rattle.std.proofs.lemmas.List.{take_all}
use Rattle.tox_time.specs.declared.streams.ending.Ending.{Ending}
use Rattle.tox_link.specs.link_core.Core.{core_ending}
use Rattle.tox_link.proofs.DriveLemmas.{drove-read, drove-took, drove-shut}
use Rattle.tox_link.proofs.FollowLemmas.{drives-dropped}
use Rattle.tox_link.proofs.Logs.{events-none}
use Rattle.tox_link.proofs.direction.reading_on.keep_next.Goals as goal

pub returns-then-is_some-clause-drove : goal.returns-then-is_some-clause-drove
returns-then-is_some-clause-drove g c =
    let link = c.args.link.now in
    let bytes = c.args.bytes.now in
    let never : core_ending link.core ≡ None → ⊥ = λ none.
    let same : c.ending.result ≡ None = c.ending.ensures.value ∙ none in
    let some : is_some c.ending.result ≡ true = sym c.is_some.ensures ∙ c.if-is_some.true in
    let no : is_some c.ending.result ≡ false = ap is_some same in
    cc
    in
    λ left written.
    drove-read 1 1 (g.C.Clock.reported c.args.clock.now) link _ (prepend_known (take (length bytes) bytes) left) (prepend_known bytes left) left written written
    _ _ (omega arith) (ap (λ bytes. prepend_known bytes left) (take_all (length bytes) bytes (omega arith)))
    (drove-took (g.C.Clock.reported c.args.clock.now) link _ bytes left written (g.N.Notes.events c.args.notes.now) _ []
    (events-none (g.N.Notes.events c.args.notes.now))
    (drives-dropped (g.C.Clock.reported c.args.clock.now) link bytes link.ended written c.requires.held c.requires.idle c.requires.room.going (λ going. never))
    (record { found = omega arith; cuts = omega arith; written = omega arith; ended = omega arith }) (omega arith) (omega (arith, c.requires.some)))

pub returns-in_default-clause-stopped : goal.returns-in_default-clause-stopped
returns-in_default-clause-stopped g c = (
  refl,
  λ left written.
      drove-shut (g.C.Clock.reported c.args.clock.now) c.args.link.now _ c.args.bytes.now left written (g.N.Notes.events c.args.notes.now) _ c.requires.held
      c.requires.idle c.requires.room.going refl refl refl refl refl refl refl,
)

none-of : (last : Option Ending) → is_some last ≡ false → last ≡ None
none-of None is = refl
none-of (Some last) is = absurd (cc)

pub returns-clause-room : goal.returns-clause-room
returns-clause-room g c =
    let room = c.requires.room in
    let kept = c.in_ok-keep_bytes.ensures.room in
    λ less. record {
      pieces = room.pieces - 1;
      going = c.in_ok-keep_bytes.ensures.ok.0;
      few = omega (arith, room.few, less, c.min-len.ensures);
      core = omega (arith, room.core, room.few, less, c.min-len.ensures, kept.0, kept.1);
      window = λ unknown. let before = room.window (sym c.ending.ensures.value ∙ none-of c.ending.result (sym c.is_some.ensures ∙ c.if-is_some.false)) in
          omega (arith, before, room.few, less, c.min-len.ensures, kept.3, kept.4);
    }
