-- A direction that is driven: steps one after the other.
use Rattle.std.proofs.Common.{◌≡◌, ℕ, ◌+◌, ◌≤◌, inl, inr, ◌⊎◌, Bool, false, true, List, [], ◌∷◌, ◌++◌, length, length-append, take, drop, Option, Some, None}
use Rattle.std.proofs.Common.{refl, ap, ◌∙◌, sym, subst, append_assoc, append-nil, arith}
use Rattle.std.specs.Io.KnownBytes.{append_known, prepend_known}
use Rattle.std.proofs.lemmas.List.{take-append-drop}
use Rattle.std.specs.Prelude.{is_some, IfSome, slice_get, ◌||◌, Result, Ok, Err, if◌then◌else◌}
use Rattle.tox_time.specs.declared.streams.item.Item.{Item}
use Rattle.tox_time.specs.declared.streams.slice.Slice.{Slice}
use Rattle.tox_time.specs.declared.streams.item.Item.TheVariants.{Quiet}
use Rattle.tox_compile.specs.Meaning.{deadline_of}
use Rattle.arrayvec.specs.ArrayVec.{ArrayVec}
use Rattle.tox_link.specs.declared.direction.polled_link.PolledLink.{PolledLink}
use Rattle.tox_link.specs.declared.direction.unwritten.Unwritten.{Unwritten}
use Rattle.tox_link.specs.declared.link_core.act.Act.{Act}
use Rattle.tox_link.specs.declared.link_core.act.Act.TheVariants.{Write, WaitUntil, WaitForInput, End}
use Rattle.tox_link.specs.declared.notes.LinkEvent.{LinkEvent}
use Rattle.tox_link.specs.steps.Held.{AreOf}
use Rattle.tox_link.specs.direction.Driven.{EndsView, Drove, IsReady, KeepsDone, done_of, moved_of, begun_by, steps_of_act, steps_of_move}
use Rattle.tox_link.specs.direction.Follows.{AreBegun, unsaid, IsUpTo, IsHeld, IsNew, Follows, Drives, WritesOn, AreLeftOver}
use Rattle.tox_link.specs.link_core.Acts.{Answered, After, Says, idle_act, wait_act}
use Rattle.tox_link.specs.link_core.Core.{CoreView, KeepsCore, LeavesOutput, remaining_output, next_instant, core_ending, core_deadline, core_position}
use Rattle.tox_link.specs.log.Carried.{Carried, KeepsCarried, noted_of}
use Rattle.tox_link.specs.log.Events.{with_events}
use Rattle.tox_link.specs.log.Log.{has_source_end, said, IsFaithful}
use Rattle.tox_link.specs.log.Logged.{IsCutOff}
use Rattle.tox_link.specs.Reports.{WritesFirst}
use Rattle.tox_time.specs.streams.Stream.{IsStream}
use Rattle.tox_time.specs.streams.Table.{table}
use Rattle.std.proofs.Math.Seq.{take-add, take-nil}
use Rattle.tox_link.specs.ring.Messages.{IsUnsent, EndsFor, HandsOn}
use Rattle.tox_link.specs.declared.ring.message.ReadEnd.{ReadEnd}
use Rattle.tox_link.specs.Sources.{read_end_of}
use Rattle.tox_link.proofs.CarryLemmas.{append-nothing, prepend-nil}
use Rattle.tox_link.proofs.FollowLemmas.{clad, drives-ended, unsent-none}
use Rattle.tox_link.proofs.UnwrittenLemmas.{begun-none, heard-unsaid, heard_bytes-unsaid, joined-append, said-of_heard, unsaid-append, unsaid-open}
use Rattle.tox_link.proofs.StepLemmas.{start-carried, says-heard}
use Rattle.tox_link.proofs.LoggedLemmas.{said-within}
use Rattle.tox_link.proofs.Logs.{end-same, faithful-front, events-append, events-none, has_source_end-append}
use Rattle.tox_link.proofs.Sent.{prepend_more}
use Rattle.tox_link.proofs.SideLemmas.{unknown-before}

left-false : (b c : Bool) → (b || c) ≡ false → b ≡ false
left-false true c none = cc
left-false false c none = refl

-- what was noted is faithful, where what was still to be noted of the slices is so
noted-faithful : (means : List Item → List Item) (reported : ℕ → Type 0) (log more : List LinkEvent) (old new : List Unwritten)
    → more ++ unsaid new ≡ unsaid old → IsFaithful means reported (log ++ unsaid old) → IsFaithful means reported (log ++ more)
noted-faithful means reported log more old new same after = faithful-front means reported (log ++ more) (unsaid new)
    (subst (IsFaithful means reported) (ap (λ said. log ++ said) (sym same) ∙ sym (append_assoc log more (unsaid new))) after)

-- slices are written on
pub writes-follow : (reported : ℕ → Type 0) (old new : PolledLink) (written written_after : Option (List ℕ)) (more : List LinkEvent)
    → WritesOn old written more new written_after → Drives reported old written [] more new written_after
writes-follow reported old new written written_after more on means log came before follows =
    let same : came ++ [] ≡ came = append-nil came in
    let none : has_source_end more ≡ false = left-false (has_source_end more) (has_source_end (unsaid new.unwritten.items))
    (sym (has_source_end-append more (unsaid new.unwritten.items)) ∙ ap has_source_end on.noted ∙ unsaid-open old.unwritten.items) in
    let bytes : new.core.bytes ≡ old.core.bytes = ap (λ (core : CoreView). core.bytes) on.core in
    record {
      carried = subst (Carried means reported new.core) (ap (λ said. log ++ said) (sym on.noted) ∙ sym (append_assoc log more (unsaid new.unwritten.items)))
          (subst (λ core. Carried means reported core (log ++ unsaid old.unwritten.items)) (sym on.core) follows.carried);
      faithful = noted-faithful means reported log more old.unwritten.items new.unwritten.items on.noted follows.carried.faithful;
      closed = end-same log more none ∙ follows.closed ∙ ap (λ source. is_some (read_end_of source)) (sym on.source);
      parts = subst (λ came. AreOf came new.window.held) (sym same) (on.parts came follows.parts);
      few = let long = ap length same in omega (arith, long, bytes, follows.few);
      live = λ unended none. bytes ∙ follows.live (sym on.ended ∙ unended) (ap core_ending (sym on.core) ∙ none) ∙ sym (ap length same);
      unsent = subst (λ source. IfSome (read_end_of source) (λ end. IsUnsent end (take new.core.bytes (came ++ [])) (drop new.core.bytes (came ++ []))))
          (sym on.source)
          (subst (λ count. IfSome (read_end_of old.source) (λ end. IsUnsent end (take count (came ++ [])) (drop count (came ++ [])))) (sym bytes)
          (subst (λ came. IfSome (read_end_of old.source) (λ end. IsUnsent end (take old.core.bytes came) (drop old.core.bytes came))) (sym same)
          follows.unsent));
      wrote = on.wrote came before follows.parts follows.wrote ∙ ap (λ came. append_known before (take new.written came)) (sym same);
    }

-- the slice that is given is noted later
unsaid-noted : (act : Act) (now : ℕ) → unsaid (begun_by act now) ≡ noted_of act now
unsaid-noted (Write slice) now = refl
unsaid-noted (WaitUntil t) now = refl
unsaid-noted WaitForInput now = refl
unsaid-noted (End last) now = refl

-- how much a direction that reads no more counts for
abbrev shut_of : Bool → ℕ
shut_of ended = if ended then 1 else 0

-- the core answered so
module _ (link : PolledLink) (core : CoreView) (now : ℕ) (held : IsHeld link) (kept : KeepsCore link.core core) where
  abbrev pub asked : Act → PolledLink
  asked act = record link { core = core; unwritten = record { items = link.unwritten.items ++ begun_by act now } }

  held-with : (slices : List Unwritten) → core_position core ≤ core.bytes → IsUpTo slices link.written (core_position core)
      → IsHeld (record link { core = core; unwritten = record { items = slices } })
  held-with slices within up_to = record {
    stop = held.stop ∙ sym kept.bytes;
    joined = held.joined;
    start = held.start;
    within = within;
    few = omega (arith, kept.bytes, held.few);
    up_to = up_to;
    going = λ unended. kept.ended ∙ held.going unended;
    unheard = held.unheard;
  }

  held-waited : LeavesOutput link.core core now → IsHeld (record link { core = core; unwritten = record { items = link.unwritten.items ++ [] } })
  held-waited leaves = held-with (link.unwritten.items ++ []) (omega (arith, leaves.position, held.within, kept.bytes))
      (subst (λ slices. IsUpTo slices link.written (core_position core)) (sym (append-nil link.unwritten.items))
      (subst (IsUpTo link.unwritten.items link.written) (sym leaves.position) held.up_to))

  pub held-asked : (act : Act) → After link.core now act core → IsHeld (asked act)
  held-asked (Write slice) (due, takes) =
      let up_to = held.up_to in
      let joined = joined-append (core_position link.core) (core_position core) link.unwritten.items (record { slice = slice; reading = now }) up_to.joined
      takes.starts takes.within.some (sym takes.stops) in
      held-with (link.unwritten.items ++ record { slice = slice; reading = now } ∷ []) (omega (arith, takes.stops, takes.arrived))
      (record {
        joined = joined.0;
        from_start = omega (arith, joined.1, up_to.from_start);
        to_position = omega (arith, up_to.to_position, takes.starts, takes.stops, takes.within.some);
      })
  held-asked (WaitUntil t) (before, leaves) = held-waited leaves
  held-asked WaitForInput leaves = held-waited leaves
  held-asked (End last) leaves = held-waited leaves

  pub work-asked : (act : Act) → After link.core now act core → core_position link.core + steps_of_act act ≤ core_position core
  work-asked (Write slice) (due, takes) = omega (arith, takes.starts, takes.stops, takes.within.some)
  work-asked (WaitUntil t) (before, leaves) = omega (arith, leaves.position)
  work-asked WaitForInput leaves = omega (arith, leaves.position)
  work-asked (End last) leaves = omega (arith, leaves.position)

  pub done-asked : (act : Act) → After link.core now act core → KeepsDone link (asked act)
  done-asked act after = record {
    found = let found = work-asked act after in omega (arith, found);
    cuts = kept.cuts;
    written = omega arith;
    ended =
        omega arith;
  }

  -- the slice that is given is noted behind the others
  said-on : (log : List LinkEvent) (act : Act)
      → (log ++ unsaid link.unwritten.items) ++ noted_of act now ≡ (log ++ []) ++ unsaid (link.unwritten.items ++ begun_by act now)
  said-on log act = append_assoc log (unsaid link.unwritten.items) (noted_of act now)
      ∙ ap (λ said. log ++ (unsaid link.unwritten.items ++ said)) (sym (unsaid-noted act now))
      ∙ ap (λ said. log ++ said) (sym (unsaid-append link.unwritten.items (begun_by act now)))
      ∙ ap (λ log. log ++ unsaid (link.unwritten.items ++ begun_by act now)) (sym (append-nil log))

  pub drives-asked : (reported : ℕ → Type 0) (act : Act) (known : Option (List ℕ)) → KeepsCarried reported link.core (noted_of act now) core
      → Drives reported link known [] [] (asked act) known
  drives-asked reported act known keeps means log came before follows =
      let same : came ++ [] ≡ came = append-nil came in
      let none : log ++ [] ≡ log = append-nil log in
      record {
        carried = subst (Carried means reported core) (said-on log act) (keeps means (log ++ unsaid link.unwritten.items) follows.carried);
        faithful = subst (IsFaithful means reported) (sym none) follows.faithful;
        closed = ap has_source_end none ∙ follows.closed;
        parts = subst (λ came. AreOf came link.window.held) (sym same) follows.parts;
        few = let long = ap length same in omega (arith, long, kept.bytes, follows.few);
        live = λ unended none. kept.bytes ∙ follows.live unended (unknown-before link.core core kept none) ∙ sym (ap length same);
        unsent = subst (λ count. IfSome (read_end_of link.source) (λ end. IsUnsent end (take count (came ++ [])) (drop count (came ++ [])))) (sym kept.bytes)
            (subst (λ came. IfSome (read_end_of link.source) (λ end. IsUnsent end (take link.core.bytes came) (drop link.core.bytes came))) (sym same)
            follows.unsent);
        wrote = follows.wrote ∙ ap (λ came. append_known before (take link.written came)) (sym same);
      }

-- a core that leaves its output says so still
pub says-still : (old core : CoreView) (now : ℕ) (act : Act) → Answered old core now act → LeavesOutput old core now → Says core now act
says-still old core now act answered leaves = record {
  slice = λ t is. answered.slice t (sym next ∙ is);
  idle = λ none.
      answered.idle (sym next ∙ none) ∙ ap (λ ended. idle_act ended now (core_deadline old) (core_ending core)) (sym answered.kept.ended)
      ∙ ap (λ ops. idle_act core.ended now (deadline_of ops) (core_ending core)) (sym answered.kept.ops);
}
  where
    next : next_instant (remaining_output core (Quiet ∷ [])) ≡ next_instant (remaining_output old (Quiet ∷ []))
    next = ap (λ ts. slice_get ts 0) (leaves.output 0 now (Quiet ∷ []) (omega arith) refl).tables

-- no step was taken
pub drove-none : (reported : ℕ → Type 0) (link : PolledLink) (view : EndsView) → Drove 0 reported link view link view
drove-none reported link view = record {
  bytes = [];
  more = [];
  read = prepend-nil view.remaining;
  noted = events-none view.events;
  follows = λ means log came before follows.
      subst (λ log. Follows means reported link log (came ++ []) before view.written) (sym (append-nil log))
      (subst (λ came. Follows means reported link log came before view.written) (sym (append-nil came)) follows);
  kept = record { found = omega arith; cuts = omega arith; written = omega arith; ended = omega arith };
  taken = omega arith;
  work = omega arith;
}

-- one drive after another
pub drove-then : (reported : ℕ → Type 0) (first second : ℕ) (a b c : PolledLink) (before between after : EndsView) → Drove first reported a before b between
    → Drove second reported b between c after → Drove (first + second) reported a before c after
drove-then reported first second a b c before between after one two = record {
  bytes = one.bytes ++ two.bytes;
  more = one.more ++ two.more;
  read = prepend_more one.bytes two.bytes before.remaining between.remaining after.remaining one.read two.read;
  noted = events-append before.events between.events after.events one.more two.more one.noted two.noted;
  follows = λ means log came start follows.
      subst (λ log. Follows means reported c log (came ++ (one.bytes ++ two.bytes)) start after.written) (append_assoc log one.more two.more)
      (subst (λ came. Follows means reported c ((log ++ one.more) ++ two.more) came start after.written) (append_assoc came one.bytes two.bytes)
      (two.follows means (log ++ one.more) (came ++ one.bytes) start (one.follows means log came start follows)));
  kept = record {
    found = omega (arith, one.kept.found, two.kept.found);
    cuts = omega (arith, one.kept.cuts, two.kept.cuts);
    written = omega (arith, one.kept.written, two.kept.written);
    ended = omega (arith, one.kept.ended, two.kept.ended);
  };
  taken = let bytes = length-append one.bytes two.bytes in omega (arith, one.taken, two.taken, bytes);
  work =
      let bytes = length-append one.bytes two.bytes in
      let more = length-append one.more two.more in
      omega (arith, one.work, two.work, bytes, more);
}

-- a direction that broke off
pub cut-follows : (means : List Item → List Item) (reported : ℕ → Type 0) (link : PolledLink) (log : List LinkEvent) (came : List ℕ)
    (before after : Option (List ℕ)) → IsHeld link → Follows means reported link log came before after
    → IsCutOff means reported link.written log
cut-follows means reported link log came before after held follows =
    let within = said-within means reported link.core (log ++ unsaid link.unwritten.items) follows.carried in
    let same = ap (λ items. length (table (means items))) (heard-unsaid log link.unwritten.items) in
    let heard_is = heard_bytes-unsaid log link.unwritten.items in
    record {
      faithful = follows.faithful;
      few = omega (arith, within, same, held.up_to.to_position);
      of_heard = said-of_heard log link.unwritten.items (says-heard means reported link.core (log ++ unsaid link.unwritten.items) follows.carried);
      within = omega (arith, held.up_to.to_position, held.within, heard_is, follows.carried.bytes);
    }

-- it wrote the first bytes of those that came
pub writes-came : (link : PolledLink) (given before after left : Option (List ℕ)) (came : List ℕ) → IsHeld link → link.core.bytes ≤ length came
    → given ≡ prepend_known came left → after ≡ append_known before (take link.written came)
    → WritesFirst given before after came link.written
writes-came link given before after left came held few gave wrote =
    record { left = left; gave = gave; few = omega (arith, held.up_to.to_position, held.within, few); wrote = wrote }

-- how the source ended, where the direction learnt of it in time
pub hands-on : (source : Option ReadEnd) (given left : Option (List ℕ)) (taken : ℕ) (came : List ℕ) → given ≡ prepend_known came left
    → IfSome source (λ end. IsUnsent end (take taken came) (drop taken came))
    → IfSome source (λ end. HandsOn given (take taken came) end left)
hands-on None given left taken came gave unsent = tt
hands-on (Some end) given left taken came gave unsent = (
  drop taken came,
  gave
      ∙ ap (λ bytes. prepend_known bytes left) (sym (take-append-drop taken came)),
  unsent,
)

-- the same drive from equal bytes, at as many steps or fewer
pub drove-read : (least fewer : ℕ) (reported : ℕ → Type 0) (old new : PolledLink) (given again left before after : Option (List ℕ))
    (events noted : Option (List LinkEvent)) → fewer ≤ least → given ≡ again
    → Drove least reported old (record { remaining = again; written = before; events = events }) new
    (record { remaining = left; written = after; events = noted })
    → Drove fewer reported old (record { remaining = given; written = before; events = events }) new
    (record { remaining = left; written = after; events = noted })
drove-read least fewer reported old new given again left before after events noted few same drove =
    record {
      bytes = drove.bytes;
      more = drove.more;
      read = same ∙ drove.read;
      noted = drove.noted;
      follows = drove.follows;
      kept = drove.kept;
      taken =
          drove.taken;
      work = omega (arith, few, drove.work);
    }

pub drove-less : (least fewer : ℕ) (reported : ℕ → Type 0) (old new : PolledLink) (before after : EndsView) → fewer ≤ least
    → Drove least reported old before new after → Drove fewer reported old before new after
drove-less least fewer reported old new before after few drove =
    record {
      bytes = drove.bytes;
      more = drove.more;
      read = drove.read;
      noted = drove.noted;
      follows = drove.follows;
      kept = drove.kept;
      taken = drove.taken;
      work = omega (arith, few, drove.work);
    }

-- a drive that moved so much, or cut so often, took as many steps as one may take at most
pub drove-enough : (steps : ℕ) (reported : ℕ → Type 0) (old new : PolledLink) (before after : EndsView)
    → (moved_of old + 81_920 ≤ moved_of new) ⊎ (old.core.runner.cuts + 4_096 ≤ new.core.runner.cuts) → Drove steps reported old before new after
    → Drove 32 reported old before new after
drove-enough steps reported old new before after enough drove =
    record {
      bytes = drove.bytes;
      more = drove.more;
      read = drove.read;
      noted = drove.noted;
      follows = drove.follows;
      kept = drove.kept;
      taken = drove.taken;
      work = work enough;
    }
  where
    work : (moved_of old + 81_920 ≤ moved_of new) ⊎ (old.core.runner.cuts + 4_096 ≤ new.core.runner.cuts)
        → done_of old + 32 ≤ done_of new + length drove.bytes + length drove.more
    work (inl moved) = omega (arith, moved, drove.taken, drove.kept.found, drove.kept.cuts, drove.kept.written, drove.kept.ended)
    work (inr cut) = omega (arith, cut, drove.kept.found, drove.kept.cuts, drove.kept.written, drove.kept.ended)

-- a move is at most one step
pub move-few : {E : Type 0} (moved : Result Bool E) → steps_of_move moved ≤ 1
move-few (Ok true) = omega arith
move-few (Ok false) = omega arith
move-few (Err fault) = omega arith

pub move-one : {E : Type 0} (moved : Bool) (result : Result Bool E) → result ≡ Ok moved → moved ≡ true → 1 ≤ steps_of_move result
move-one true (Ok true) same is = omega arith
move-one true (Ok false) same is = absurd (cc)
move-one true (Err fault) same is = absurd (cc)
move-one false result same is = absurd (cc)

-- a slice is written on
pub drove-writes : (least : ℕ) (reported : ℕ → Type 0) (old new : PolledLink) (left before after : Option (List ℕ)) (events noted : Option (List LinkEvent))
    (more : List LinkEvent) → noted ≡ with_events events more → WritesOn old before more new after
    → old.written ≤ new.written → old.written + least ≤ new.written + length more
    → Drove least reported old (record { remaining = left; written = before; events = events }) new
    (record { remaining = left; written = after; events = noted })
drove-writes least reported old new left before after events noted more said on forward work = record {
  bytes = [];
  more = more;
  read = prepend-nil left;
  noted = said;
  follows = writes-follow reported old new before after more on;
  kept = record {
    found = let position = ap core_position on.core in omega (arith, position);
    cuts = let cuts = ap (λ (core : CoreView). core.runner.cuts) on.core in omega (arith, cuts);
    written = forward;
    ended = let ended = ap shut_of on.ended in omega (arith, ended);
  };
  taken = let bytes = ap (λ (core : CoreView). core.bytes) on.core in omega (arith, bytes);
  work =
      let position = ap core_position on.core in
      let cuts = ap (λ (core : CoreView). core.runner.cuts) on.core in
      let ended = ap shut_of on.ended in
      omega (arith, work, position, cuts, ended);
}

-- the answer to a wait
pub says-asked : (old core : CoreView) (now : ℕ) (act : Act) (until : Option ℕ) → Answered old core now act → act ≡ wait_act until
    → Says core now (wait_act until)
says-asked old core now act None answered is = let same : Answered old core now WaitForInput = subst (Answered old core now) is answered in
    says-still old core now WaitForInput same same.output
says-asked old core now act (Some t) answered is = let same : Answered old core now (WaitUntil t) = subst (Answered old core now) is answered in
    says-still old core now (WaitUntil t) same same.output.1

-- the core was asked
pub drove-asked : (reported : ℕ → Type 0) (link new : PolledLink) (core : CoreView) (now : ℕ) (act : Act) (left known : Option (List ℕ))
    (events : Option (List LinkEvent)) → IsHeld link → Answered link.core core now act
    → KeepsCarried reported link.core (noted_of act now) core
    → new ≡ record link { core = core; unwritten = record { items = link.unwritten.items ++ begun_by act now } }
    → Drove (steps_of_act act) reported link (record { remaining = left; written = known; events = events }) new
    (record { remaining = left; written = known; events = events })
drove-asked reported link new core now act left known events held answered keeps same = record {
  bytes = [];
  more = [];
  read = prepend-nil left;
  noted = events-none events;
  follows = subst (λ (new : PolledLink). Drives reported link known [] [] new known) (sym same)
      (drives-asked link core now held answered.kept reported act known keeps);
  kept = subst (KeepsDone link) (sym same) (done-asked link core now held answered.kept act answered.output);
  taken = let bytes = ap (λ (link : PolledLink). link.core.bytes) same in omega (arith, bytes, answered.kept.bytes);
  work =
      let found = work-asked link core now held answered.kept act answered.output in
      let position = ap (λ (link : PolledLink). core_position link.core) same in
      let cuts = ap (λ (link : PolledLink). link.core.runner.cuts) same in
      let written = ap (λ (link : PolledLink). link.written) same in
      let ended = ap (λ (link : PolledLink). shut_of link.ended) same in
      omega (arith, found, position, cuts, answered.kept.cuts, written, ended);
}

-- only the core and the slices change
pub same-on : (first old new : PolledLink) (slices : ArrayVec Unwritten) → old ≡ record first { core = old.core; unwritten = old.unwritten }
    → new ≡ record old { core = new.core; unwritten = slices } → new ≡ record first { core = new.core; unwritten = new.unwritten }
same-on first old new slices one two = two ∙ ap (λ (old : PolledLink). record old { core = new.core; unwritten = slices }) one
    ∙ ap (λ slices. record first { core = new.core; unwritten = slices }) (sym (ap (λ (link : PolledLink). link.unwritten) two))

-- an answer that gives no slice
pub none-begun : (act : Act) (now : ℕ) → ((slice : Slice) → act ≡ Write slice → ⊥) → begun_by act now ≡ []
none-begun (Write slice) now never = absurd (never slice refl)
none-begun (WaitUntil t) now never = refl
none-begun WaitForInput now never = refl
none-begun (End last) now never = refl

-- the slice that an answer gives is given at or past its instant
pub begun-act : (reported : ℕ → Type 0) (old new : CoreView) (now : ℕ) (act : Act) → reported now → After old now act new
    → AreBegun reported (begun_by act now)
begun-act reported old new now (Write slice) read output = (read, output.0, tt)
begun-act reported old new now (WaitUntil t) read output = tt
begun-act reported old new now WaitForInput read output = tt
begun-act reported old new now (End last) read output = tt

-- nothing happened to the core
keeps-same : (reported : ℕ → Type 0) (old new : CoreView) → new ≡ old → KeepsCarried reported old [] new
keeps-same reported old new same means log carried = subst (Carried means reported new) (sym (append-nil log))
    (subst (λ core. Carried means reported core log) (sym same) carried)

-- input came, and nothing was written
pub drove-took : (reported : ℕ → Type 0) (link new : PolledLink) (bytes : List ℕ) (left known : Option (List ℕ)) (events noted : Option (List LinkEvent))
    (more : List LinkEvent) → noted ≡ with_events events more → Drives reported link known bytes more new known
    → KeepsDone link new → new.core.bytes ≤ link.core.bytes + length bytes → done_of link + 1 ≤ done_of new + length bytes + length more
    → Drove 1 reported link (record { remaining = prepend_known bytes left; written = known; events = events }) new
    (record { remaining = left; written = known; events = noted })
drove-took reported link new bytes left known events noted more said follows kept taken work =
    record { bytes = bytes; more = more; read = refl; noted = said; follows = follows; kept = kept; taken = taken; work = work }

-- the source ended, or nothing more is read
module _ (reported : ℕ → Type 0) (link new : PolledLink) (bytes : List ℕ) (left known : Option (List ℕ)) (events noted : Option (List LinkEvent))
    (held : IsHeld link) (idle : link.unwritten.items ≡ []) (going : link.ended ≡ false)
    (window : new.window ≡ link.window) (items : new.unwritten.items ≡ link.unwritten.items) (ended : new.ended ≡ true) (written : new.written ≡ link.written)
  where
    pub drove-ended : (more : List LinkEvent) → new.core.bytes ≡ link.core.bytes → core_position new.core ≡ core_position link.core
        → link.core.runner.cuts ≤ new.core.runner.cuts → noted ≡ with_events events more → KeepsCarried reported link.core more new.core
        → has_source_end more ≡ is_some (read_end_of new.source) → (core_ending link.core ≡ None → AreLeftOver link new.source bytes)
        → ((core_ending link.core ≡ None → ⊥) → read_end_of new.source ≡ None)
        → Drove 1 reported link (record { remaining = prepend_known bytes left; written = known; events = events }) new
        (record { remaining = left; written = known; events = noted })
    drove-ended more counts position cuts said keeps says over late =
        let before = ap shut_of going in
        let after = ap shut_of ended in
        drove-took reported link new bytes left known events noted more said
        (drives-ended link new held idle counts position window items ended written reported more bytes known going keeps says over late)
        (record { found = omega (arith, position); cuts = cuts; written = omega (arith, written); ended = omega (arith, before, after) })
        (omega (arith, counts))
        (omega (arith, position, cuts, written, before, after))

    pub drove-shut : new.core ≡ link.core → new.source ≡ link.source → noted ≡ events
        → Drove 1 reported link (record { remaining = prepend_known bytes left; written = known; events = events }) new
        (record { remaining = left; written = known; events = noted })
    drove-shut core source said =
        let none : read_end_of new.source ≡ None = ap read_end_of source ∙ held.unheard going in
        drove-ended [] (ap (λ (core : CoreView). core.bytes) core) (ap core_position core)
        (let cuts = ap (λ (core : CoreView). core.runner.cuts) core in omega (arith, cuts)) (said ∙ events-none events)
        (keeps-same reported link.core new.core core) (sym (ap is_some none))
        (λ unknown came long. subst (λ source. IfSome source (λ end. IsUnsent end came bytes)) (sym none) tt) (λ known. none)

-- a direction that is new may be driven
pub ready-new : (reported : ℕ → Type 0) (link : PolledLink) (left : Option (List ℕ)) (failed : Bool) → IsNew link → IsHeld link → failed ≡ false
    → IsReady reported link left failed
ready-new reported link left failed new held works = record {
  held = held;
  read = inl new.latest;
  begun = begun-none reported link.unwritten.items new.unwritten;
  working = λ going. works;
  cause = subst (λ source. IfSome source (λ end. (reads count : ℕ) → EndsFor end reads count left failed)) (sym (ap read_end_of new.source)) tt;
}

-- and follows its plan
pub follows-new : (means : List Item → List Item) (reported : ℕ → Type 0) (link : PolledLink) (known : Option (List ℕ)) → IsNew link
    → ((items : List Item) → IsStream items → remaining_output link.core items ≡ means items) → Follows means reported link [] [] known known
follows-new means reported link known new output =
    let carried : Carried means reported link.core [] = start-carried means reported link.core new.bytes new.latest new.position new.none_kept output in
    record {
      carried = clad means reported link.core link.unwritten.items [] new.unwritten carried;
      faithful = carried.faithful;
      closed = sym (ap (λ source. is_some (read_end_of source)) new.source);
      parts = subst (AreOf []) (sym new.held) tt;
      few = omega (arith, new.bytes);
      live = λ unended unknown. new.bytes;
      unsent = unsent-none link [] (ap read_end_of new.source);
      wrote = append-nothing known ∙ ap (append_known known) (sym (take-nil link.written));
    }

-- What was read is kept piece by piece

-- the first bytes, and then the others
pub split-read : (count : ℕ) (bytes : List ℕ) (left : Option (List ℕ))
    → prepend_known bytes left ≡ prepend_known (take count bytes) (prepend_known (drop count bytes) left)
split-read count bytes None = refl
split-read count bytes (Some left) = ap Some (ap (λ bytes. bytes ++ left) (sym (take-append-drop count bytes))
    ∙ append_assoc (take count bytes) (drop count bytes) left)

pub more-read : (done count : ℕ) (bytes : List ℕ) (left : Option (List ℕ))
    → prepend_known (take (done + count) bytes) left ≡ prepend_known (take done bytes) (prepend_known (take count (drop done bytes)) left)
more-read done count bytes None = refl
more-read done count bytes (Some left) = ap Some (ap (λ bytes. bytes ++ left) (take-add done count bytes)
    ∙ append_assoc (take done bytes) (take count (drop done bytes)) left)
