-- A direction that is driven by events, step by step.
use Rattle.std.proofs.Common.{◌≡◌, ℕ, ◌+◌, ◌<◌, ◌≤◌, ◌^◌, Bool, false, true, List, [], ◌∷◌, ◌++◌, length, length-append, take, drop, Option, Some, None, refl}
use Rattle.std.proofs.Common.{ap, ◌∙◌, sym, subst, append-nil, arith}
use Rattle.std.specs.Io.KnownBytes.{append_known}
use Rattle.std.specs.Prelude.{is_some, slice_get, IfSome}
use Rattle.std.proofs.Math.Seq.{drop-append_seam}
use Rattle.std.proofs.lemmas.List.{take-take, take-append-le, take_all}
use Rattle.tox_time.specs.declared.streams.item.Item.{Item}
use Rattle.tox_lend.specs.Run.{Run, stop_of}
use Rattle.tox_lend.specs.Window.{Pieces, JoinUpTo, start_of}
use Rattle.tox_link.specs.declared.direction.polled_link.PolledLink.{PolledLink}
use Rattle.tox_link.specs.declared.direction.unwritten.Unwritten.{Unwritten}
use Rattle.tox_time.specs.declared.streams.ending.Ending.{Ending}
use Rattle.tox_link.specs.declared.source_ending.SourceEnding.{SourceEnding}
use Rattle.tox_link.specs.declared.notes.LinkEvent.{LinkEvent}
use Rattle.tox_link.specs.declared.notes.LinkEvent.TheVariants.{Wrote}
use Rattle.tox_lend.proofs.WindowLemmas.{JoinUpTo-push, start_of-push}
use Rattle.tox_link.specs.log.Carried.{Carried, KeepsCarried}
use Rattle.tox_link.specs.link_core.Core.{CoreView, core_ending, core_position}
use Rattle.tox_link.specs.steps.Held.{AreOf, HoldsSpan}
use Rattle.tox_link.specs.direction.Follows.{unsaid, IsHeld, Follows, Drives, WritesOn, AreLeftOver}
use Rattle.tox_link.specs.ring.Messages.{IsUnsent}
use Rattle.tox_link.specs.log.Log.{has_source_end, IsFaithful}
use Rattle.tox_link.specs.Sources.{read_end_of}
use Rattle.tox_link.proofs.LoggedLemmas.{or-false_left}
use Rattle.tox_link.proofs.Logs.{end-same, has_source_end-append}
use Rattle.tox_link.proofs.HeldLemmas.{written_more}
use Rattle.tox_link.proofs.UnwrittenLemmas.{Begins, begins, idle-at, idle-up_to}
use Rattle.tox_link.proofs.SideLemmas.{past, past-joined, past-parts, parts-grow, parts-add, last-part}

-- the first of the slices that are being written
pub first-of : (link : PolledLink) (first : Unwritten) → IsHeld link → slice_get link.unwritten.items 0 ≡ Some first
    → Begins (core_position link.core) link.unwritten.items first
first-of link first held writing = begins (core_position link.core) link.unwritten.items first held.up_to.joined writing

-- the window holds what is left of it
pub holds-left : (link : PolledLink) (first : Unwritten) → IsHeld link → slice_get link.unwritten.items 0 ≡ Some first
    → link.written ≤ first.slice.span.stop → HoldsSpan link.window (record { start = link.written; stop = first.slice.span.stop })
holds-left link first held writing left =
    let within = (first-of link first held writing).within in
    record { joined = held.joined; from_start = held.start; in_order = left; to_stop = omega (arith, within, held.within, held.stop) }

-- more of the slices is written
pub held-on : (link : PolledLink) (count : ℕ) → IsHeld link → link.written + count ≤ core_position link.core
    → IsHeld (record link { written = link.written + count })
held-on link count held few =
    record {
      stop = held.stop;
      joined = held.joined;
      start = omega (arith, held.start);
      within = held.within;
      few = held.few;
      up_to = record { joined = held.up_to.joined; from_start = omega (arith, held.up_to.from_start); to_position = few };
      going = held.going;
      unheard = held.unheard;
    }

pub writes-part : (link : PolledLink) (old new : Option (List ℕ)) (front : List ℕ) (count : ℕ) → count ≤ length front
    → ((came : List ℕ) → AreOf came link.window.held → front ≡ take (length front) (drop link.written came)) → new ≡ append_known old (take count front)
    → WritesOn link old [] (record link { written = link.written + count }) new
writes-part link old new front count few part after = record {
  core = refl;
  source = refl;
  ended = refl;
  noted = refl;
  parts = λ came parts. parts;
  wrote = λ came before parts wrote.
      written_more before old new came link.written count wrote
      (after ∙ ap (λ bytes. append_known old (take count bytes)) (part came parts)
      ∙ ap (append_known old) (take-take count (length front) (drop link.written came) few));
}

-- nothing was written
pub writes-none : (link : PolledLink) (old new : Option (List ℕ)) → new ≡ old → WritesOn link old [] link new
writes-none link old new same = record {
  core = refl;
  source = refl;
  ended = refl;
  noted = refl;
  parts = λ came parts. parts;
  wrote = λ came before parts wrote.
      same ∙ wrote;
}

pub writes-same : (old new : PolledLink) (known : Option (List ℕ)) → new ≡ old → WritesOn old known [] new known
writes-same old new known same = subst (λ link. WritesOn old known [] link known) (sym same) (writes-none old known known refl)

-- a slice that is written to its end is noted, and the pieces that are written are given up
abbrev pub noted_link : PolledLink → PolledLink
noted_link link = record link {
  unwritten = record { items = drop 1 link.unwritten.items };
  window = record link.window { held = past link.written link.window.held };
}

pub held-noted : (link : PolledLink) (first : Unwritten) → IsHeld link → slice_get link.unwritten.items 0 ≡ Some first
    → first.slice.span.stop ≤ link.written → IsHeld (noted_link link)
held-noted link first held writing whole =
    let first = first-of link first held writing in
    let left = past-joined link.window.stop link.written link.window.held held.joined held.start
    (omega (arith, held.up_to.to_position, held.within, held.stop)) in
    record {
      stop = held.stop;
      joined = left.0;
      start = left.1;
      within = held.within;
      few = held.few;
      up_to = record { joined = first.joined; from_start = omega (arith, first.stops, whole); to_position = held.up_to.to_position };
      going = held.going;
      unheard = held.unheard;
    }

pub writes-noted : (link : PolledLink) (first : Unwritten) (known : Option (List ℕ)) → IsHeld link → slice_get link.unwritten.items 0 ≡ Some first
    → WritesOn link known (Wrote first.slice first.reading ∷ []) (noted_link link) known
writes-noted link first known held writing = record {
  core = refl;
  source = refl;
  ended = refl;
  noted = sym (first-of link first held writing).noted;
  parts = λ came parts. past-parts came link.written link.window.held parts;
  wrote = λ came before parts wrote. wrote;
}

-- where no slice is being written nothing is still to be noted
pub bare : (means : List Item → List Item) (reported : ℕ → Type 0) (core : CoreView) (unwritten : List Unwritten) (log : List LinkEvent) → unwritten ≡ []
    → Carried means reported core (log ++ unsaid unwritten) → Carried means reported core log
bare means reported core unwritten log idle carried = subst (Carried means reported core) (ap (λ slice. log ++ unsaid slice) idle ∙ append-nil log) carried

pub clad : (means : List Item → List Item) (reported : ℕ → Type 0) (core : CoreView) (unwritten : List Unwritten) (log : List LinkEvent) → unwritten ≡ []
    → Carried means reported core log → Carried means reported core (log ++ unsaid unwritten)
clad means reported core unwritten log idle carried = subst (Carried means reported core) (sym (ap (λ slice. log ++ unsaid slice) idle ∙ append-nil log))
    carried

-- what is written is no more than what came
pub written-within : (link : PolledLink) → IsHeld link → link.written ≤ link.core.bytes
written-within link held = omega (arith, held.up_to.to_position, held.within)

-- how a source ended that reported nothing
pub unsent-none : (link : PolledLink) (came : List ℕ) → read_end_of link.source ≡ None
    → IfSome (read_end_of link.source) (λ end. IsUnsent end (take link.core.bytes came) (drop link.core.bytes came))
unsent-none link came none = subst (λ source. IfSome source (λ end. IsUnsent end (take link.core.bytes came) (drop link.core.bytes came))) (sym none) tt

-- what was read last is not kept
unsent-left : (source : SourceEnding) (count new : ℕ) (came bytes : List ℕ) → new ≡ count → count ≡ length came
    → IfSome (read_end_of source) (λ end. IsUnsent end came bytes)
    → IfSome (read_end_of source) (λ end. IsUnsent end (take new (came ++ bytes)) (drop new (came ++ bytes)))
unsent-left source count new came bytes same full left =
    let at : new ≡ length came = same ∙ full in
    let front : take new (came ++ bytes) ≡ came = take-append-le new came bytes (omega (arith, at)) ∙ take_all new came (omega (arith, at)) in
    let rest : drop new (came ++ bytes) ≡ bytes = ap (λ n. drop n (came ++ bytes)) at ∙ drop-append_seam came bytes in
    subst (λ front. IfSome (read_end_of source) (λ end. IsUnsent end front (drop new (came ++ bytes)))) (sym front)
    (subst (λ rest. IfSome (read_end_of source) (λ end. IsUnsent end came rest)) (sym rest) left)

-- bytes came and are kept
module _ (link new : PolledLink) (run : Run) (held : IsHeld link) (idle : link.unwritten.items ≡ []) (some : 0 < length run.bytes)
    (starts : run.start ≡ link.window.stop)
    (counts : new.core.bytes ≡ link.core.bytes + length run.bytes) (position : core_position new.core ≡ core_position link.core)
    (window : new.window ≡ record link.window { held = link.window.held ++ run ∷ []; stop = stop_of run })
    (items : new.unwritten.items ≡ link.unwritten.items) (source : new.source ≡ link.source) (ended : new.ended ≡ link.ended)
    (written : new.written ≡ link.written)
  where
    held_is : new.window.held ≡ link.window.held ++ run ∷ []
    held_is = ap (λ (window : Pieces). window.held) window

    stop_is : new.window.stop ≡ stop_of run
    stop_is = ap (λ (window : Pieces). window.stop) window

    start_is : start_of new.window.stop new.window.held ≡ start_of link.window.stop link.window.held
    start_is = ap (λ (window : Pieces). start_of window.stop window.held) window ∙ start_of-push link.window.stop link.window.held run starts

    pub held-kept : new.core.ended ≡ false → new.core.bytes ≤ 2 ^ 40 → IsHeld new
    held-kept going few = record {
      stop = omega (arith, stop_is, starts, held.stop, counts);
      joined = subst (λ pieces. JoinUpTo new.window.stop pieces) (sym held_is)
          (subst (λ at. JoinUpTo at (link.window.held ++ run ∷ [])) (sym stop_is)
          (JoinUpTo-push link.window.stop link.window.held run held.joined starts some));
      start = omega (arith, start_is, held.start, written);
      within = omega (arith, position, held.within, counts);
      few = few;
      up_to = idle-up_to new.unwritten.items new.written (core_position new.core) (items ∙ idle)
          (written ∙ idle-at link.unwritten.items link.written (core_position link.core) held.up_to idle ∙ sym position);
      going = λ unended. going;
      unheard = λ unended. ap read_end_of source ∙ held.unheard (sym ended ∙ unended);
    }

    pub drives-kept : (reported : ℕ → Type 0) (more : List LinkEvent) (known : Option (List ℕ)) → link.ended ≡ false → core_ending link.core ≡ None
        → KeepsCarried reported link.core more new.core → has_source_end more ≡ false
        → Drives reported link known run.bytes more new known
    drives-kept reported more known going unknown keeps none means log came before follows =
        let all = length-append came run.bytes in
        let full : link.core.bytes ≡ length came = follows.live going unknown in
        let carried : Carried means reported new.core (log ++ more) = keeps means log
        (bare means reported link.core link.unwritten.items log idle follows.carried) in
        record {
          carried = clad means reported new.core new.unwritten.items (log ++ more) (items ∙ idle) carried;
          faithful = carried.faithful;
          closed = end-same log more none ∙ follows.closed ∙ ap (λ source. is_some (read_end_of source)) (sym source);
          parts = subst (AreOf (came ++ run.bytes)) (sym held_is)
              (parts-add (came ++ run.bytes) link.window.held run (parts-grow link.window.stop came run.bytes link.window.held held.joined
              (omega (arith, held.stop, full)) follows.parts)
              (last-part came run.bytes run.start (omega (arith, starts, held.stop, full))));
          few = omega (arith, all, full, counts);
          live = λ unended unknown. omega (arith, all, full, counts);
          unsent = unsent-none new (came ++ run.bytes) (ap read_end_of source ∙ held.unheard going);
          wrote = let few = written-within link held in
              follows.wrote ∙ ap (append_known before) (sym (take-append-le link.written came run.bytes (omega (arith, few, full)))
              ∙ ap (λ n. take n (came ++ run.bytes)) (sym written));
        }

-- bytes came and are dropped, as the ending is known or nothing more is read
pub drives-dropped : (reported : ℕ → Type 0) (link : PolledLink) (bytes : List ℕ) (ended : Bool) (known : Option (List ℕ)) → IsHeld link
    → link.unwritten.items ≡ []
    → link.ended ≡ false
    → (ended ≡ false → core_ending link.core ≡ None → ⊥) → Drives reported link known bytes [] (record link { ended = ended }) known
drives-dropped reported link bytes ended known held idle going over means log came before follows =
    let all = length-append came bytes in
    let same : log ++ [] ≡ log = append-nil log in
    record {
      carried = subst (λ log. Carried means reported link.core (log ++ unsaid link.unwritten.items)) (sym same) follows.carried;
      faithful = subst (IsFaithful means reported) (sym same) follows.faithful;
      closed = ap has_source_end same ∙ follows.closed;
      parts = parts-grow link.window.stop came bytes link.window.held held.joined (omega (arith, held.stop, follows.few)) follows.parts;
      few = omega (arith, all, follows.few);
      live = λ unended unknown. absurd (over unended unknown);
      unsent = unsent-none (record link { ended = ended }) (came ++ bytes) (held.unheard going);
      wrote = let few = written-within link held in
          follows.wrote ∙ ap (append_known before) (sym (take-append-le link.written came bytes (omega (arith, few, follows.few))));
    }

shut : (ended : Bool) → ended ≡ true → ended ≡ false → ⊥
shut ended was goes = cc

-- the source ended, or nothing more is read
module _ (link new : PolledLink) (held : IsHeld link) (idle : link.unwritten.items ≡ []) (counts : new.core.bytes ≡ link.core.bytes)
    (position : core_position new.core ≡ core_position link.core)
    (window : new.window ≡ link.window) (items : new.unwritten.items ≡ link.unwritten.items) (ended : new.ended ≡ true) (written : new.written ≡ link.written)
  where
    pub held-ended : IsHeld new
    held-ended = record {
      stop = ap (λ (window : Pieces). window.stop) window ∙ held.stop ∙ sym counts;
      joined = subst (λ (window : Pieces). JoinUpTo window.stop window.held) (sym window) held.joined;
      start = subst (λ (window : Pieces). start_of window.stop window.held ≤ new.written) (sym window) (omega (arith, held.start, written));
      within = omega (arith, position, held.within, counts);
      few = omega (arith, held.few, counts);
      up_to = idle-up_to new.unwritten.items new.written (core_position new.core) (items ∙ idle)
          (written ∙ idle-at link.unwritten.items link.written (core_position link.core) held.up_to idle ∙ sym position);
      going = λ unended. absurd (shut new.ended ended unended);
      unheard = λ unended. absurd (shut new.ended ended unended);
    }

    -- what was read last is left over
    pub drives-ended : (reported : ℕ → Type 0) (more : List LinkEvent) (bytes : List ℕ) (known : Option (List ℕ)) → link.ended ≡ false
        → KeepsCarried reported link.core more new.core → has_source_end more ≡ is_some (read_end_of new.source)
        → (core_ending link.core ≡ None → AreLeftOver link new.source bytes) → ((core_ending link.core ≡ None → ⊥) → read_end_of new.source ≡ None)
        → Drives reported link known bytes more new known
    drives-ended reported more bytes known going keeps says left late means log came before follows =
        let carried : Carried means reported new.core (log ++ more) = keeps means log
        (bare means reported link.core link.unwritten.items log idle follows.carried) in
        let all = length-append came bytes in
        record {
          carried = clad means reported new.core new.unwritten.items (log ++ more) (items ∙ idle) carried;
          faithful = carried.faithful;
          closed = has_source_end-append log more ∙ or-false_left (has_source_end log) (has_source_end more) (follows.closed ∙ ap is_some (held.unheard going))
              ∙ says;
          parts = subst (λ (window : Pieces). AreOf (came ++ bytes) window.held) (sym window)
              (parts-grow link.window.stop came bytes link.window.held held.joined (omega (arith, held.stop, follows.few)) follows.parts);
          few = omega (arith, all, counts, follows.few);
          live = λ unended unknown. absurd (shut new.ended ended unended);
          unsent = left_over means log came before follows (core_ending link.core) refl;
          wrote = let few = written-within link held in
              follows.wrote ∙ ap (append_known before) (sym (take-append-le link.written came bytes (omega (arith, few, follows.few))))
              ∙ ap (λ n. append_known before (take n (came ++ bytes))) (sym written);
        }
      where
        left_over : (means : List Item → List Item) (log : List LinkEvent) (came : List ℕ) (before : Option (List ℕ))
            → Follows means reported link log came before known → (ending : Option Ending) → core_ending link.core ≡ ending
            → IfSome (read_end_of new.source) (λ end. IsUnsent end (take new.core.bytes (came ++ bytes)) (drop new.core.bytes (came ++ bytes)))
        left_over means log came before follows (Some ending) knows = unsent-none new (came ++ bytes)
            (late (λ none. let both : Some ending ≡ None = sym knows ∙ none in cc))
        left_over means log came before follows None unknown =
            let full : link.core.bytes ≡ length came = follows.live going unknown in
            unsent-left new.source link.core.bytes new.core.bytes came bytes counts full (left unknown came full)
