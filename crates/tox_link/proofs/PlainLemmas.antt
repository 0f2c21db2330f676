-- The core of a plan without operations.
use Rattle.std.proofs.Common.{◌≡◌, ◌≢◌, ℕ, zero, suc, ◌+◌, ◌<◌, ◌≤◌, Bool, true, false, List, [], ◌∷◌, ◌++◌, replicate, Option, Some, None, refl, ap, ◌∙◌, sym}
use Rattle.std.proofs.Common.{subst, arith}
use Rattle.std.specs.Prelude.{IsSome, slice_get, is_some, nat_le, if◌then◌else◌, ◌||◌, Ok}
use Rattle.std.proofs.lemmas.Bool.{leb-false}
use Rattle.tox_time.specs.declared.streams.item.Item.{Item}
use Rattle.tox_time.specs.declared.streams.item.Item.TheVariants.{Closed, Quiet}
use Rattle.tox_time.specs.declared.streams.ending.Ending.{Ending}
use Rattle.tox_time.specs.declared.streams.ending.Ending.TheVariants.{StillOpen, Closed as ClosedAt}
use Rattle.tox_time.specs.declared.streams.position.StreamPosition.{StreamPosition}
use Rattle.tox_time.specs.declared.streams.slice.Slice.{Slice}
use Rattle.tox_time.specs.declared.streams.arrivals.ArrivalFault.{ArrivalFault}
use Rattle.tox_time.specs.streams.Arrivals.{piece_fault}
use Rattle.tox_time.specs.streams.Stream.{span_len}
use Rattle.tox_time.specs.streams.Table.{table, ending, final_of}
use Rattle.tox_defs.proofs.OpCursors.{rest_of-read}
use Rattle.tox_defs.specs.operations.OpCursor.{ending_or}
use Rattle.tox_compile.specs.Meaning.{Ops, means}
use Rattle.tox_plan.specs.Cuts.{BeginsApart}
use Rattle.tox_plan.specs.RunnerView.{answer_of, to_come}
use Rattle.tox_plan.specs.Unended.{IsOpenAt, IsUnended}
use Rattle.tox_link.specs.declared.link_core.act.Act.{Act}
use Rattle.tox_link.specs.declared.link_core.act.Act.TheVariants.{Write, WaitUntil, WaitForInput, End}
use Rattle.tox_link.specs.declared.link_core.waiting.WaitingPiece.{WaitingPiece}
use Rattle.tox_link.specs.link_core.Acts.{After, Answered, HearsPiece, end_act, idle_act}
use Rattle.tox_link.specs.link_core.Core.{CoreView, LeavesOutput, TakesSlice, KeepsCore, remaining_output, arrivals_from, end_or, next_instant, core_ending}
use Rattle.tox_link.specs.link_core.NewCore.{Begins}
use Rattle.tox_link.specs.link_core.Plain.{plain_core, plain_runner, end_behind, end_reached}
use Rattle.tox_link.specs.link_core.CoreKept.{total_len}
use Rattle.tox_link.specs.link_core.PlainInside.{CameBy}
use Rattle.tox_link.proofs.Looks.{same-refl}
use Rattle.tox_link.proofs.WaitingLemmas.{arrivals_from-append, chunk_from}

-- nothing is left of what the runner was offered
given-all : (given : ℕ) (end : Option Ending) (items : List Item) → to_come (plain_runner given end) items ≡ ending_or end items
given-all given end items = ap (λ rest. ending_or end (rest ++ items)) (rest_of-read given given 0 (omega arith))

-- the pieces that wait are to come, and then the source's end
pub plain-read : (given : ℕ) (waiting : List WaitingPiece) (end : Option ℕ) (so_far : StreamPosition) (items : List Item)
    → remaining_output (plain_core given waiting end so_far) items ≡ arrivals_from given waiting (end_or end items)
plain-read given [] None so_far items = given-all given None items
plain-read given [] (Some t) so_far items = given-all given (Some (ClosedAt t)) items
plain-read given (piece ∷ pieces) end so_far items = given-all given None (arrivals_from given (piece ∷ pieces) (end_or end items))

-- at its start the core gives what arrives
pub plain-begins : (plan : Ops) (words : List ℕ) (so_far : StreamPosition) → so_far ≡ record { position = 0; latest = 0; ended = false } → plan.ops ≡ []
    → Begins plan words (plain_core 0 [] None so_far)
plain-begins plan words so_far first none = record {
  meaning = λ items stream. plain-read 0 [] None so_far items ∙ sym (ap (λ ops. means (record plan { ops = ops }) words items) none);
  start = (
    refl,
    refl,
    ap (λ (place : StreamPosition). place.ended) first,
    ap (λ (place : StreamPosition). place.position) first,
    ap (λ (place : StreamPosition). place.latest) first,
    refl,
  );
  none_kept = (refl, refl);
}

-- the first instant of a nonempty chunk
first-instant : (len t : ℕ) (rest : List ℕ) → 0 < len → slice_get (replicate len t ++ rest) 0 ≡ Some t
first-instant zero t rest some = absurd (omega (arith, some))
first-instant (suc len) t rest some = refl

-- the first piece that waits is given whole
module _ (given now : ℕ) (piece : WaitingPiece) (more : List WaitingPiece) (end : Option ℕ) (so_far : StreamPosition) (some : 0 < piece.len)
    (early : piece.instant ≤ so_far.latest) (later : so_far.latest ≤ now) (total : given + piece.len ≤ so_far.position) where
  abbrev pub given_slice : Slice
  given_slice = record { span = record { start = given; stop = given + piece.len }; instant = piece.instant }

  abbrev pub waiting_core : CoreView
  waiting_core = plain_core given (piece ∷ more) end so_far

  abbrev pub given_core : CoreView
  given_core = plain_core (given + piece.len) more end (record so_far { latest = now })

  apart : (more : List WaitingPiece) (end : Option ℕ) → BeginsApart piece.instant
      (to_come (plain_runner (given + piece.len) (end_reached more end)) (Quiet ∷ []))
  apart [] None = subst (BeginsApart piece.instant) (sym (given-all (given + piece.len) None (Quiet ∷ []))) tt
  apart [] (Some t) = subst (BeginsApart piece.instant) (sym (given-all (given + piece.len) (Some (ClosedAt t)) (Quiet ∷ []))) tt
  apart (next ∷ pieces) end = subst (BeginsApart piece.instant) (sym (given-all (given + piece.len) None (Quiet ∷ []))) tt

  next : next_instant (remaining_output waiting_core (Quiet ∷ [])) ≡ Some piece.instant
  next = ap next_instant (plain-read given (piece ∷ more) end so_far (Quiet ∷ []))
      ∙ first-instant (span_len given_slice.span) piece.instant (table (arrivals_from (given + piece.len) more (end_or end (Quiet ∷ [])))) (omega (arith, some))

  gives : TakesSlice waiting_core given_core given_slice
  gives = record {
    tables = λ items. ap table (plain-read given (piece ∷ more) end so_far items)
        ∙ ap (λ rest. replicate (span_len given_slice.span) piece.instant ++ table rest)
        (sym (plain-read (given + piece.len) more end (record so_far { latest = now }) items));
    endings = λ items. ap ending (plain-read given (piece ∷ more) end so_far items)
        ∙ ap ending (sym (plain-read (given + piece.len) more end (record so_far { latest = now }) items));
    starts = refl;
    stops = refl;
    within = record { from = omega arith; some = omega (arith, some); to = omega arith };
    arrived = omega (arith, total);
    apart = apart more end;
  }

  pub plain-gives : Answered waiting_core given_core now (Write given_slice)
  plain-gives = record {
    slice = λ t is. let same : Some t ≡ Some piece.instant = sym is ∙ next in (cc, omega (arith, early, later, let at : t ≡ piece.instant = cc in at));
    idle = λ none. absurd (let both : Some piece.instant ≡ None = sym next ∙ none in cc);
    ended = λ none. absurd (let both : Some piece.instant ≡ None = sym next ∙ none in cc);
    dropped = λ none. absurd (let both : Some piece.instant ≡ None = sym next ∙ none in cc);
    overdue = λ d none. absurd (let both : Some piece.instant ≡ None = sym next ∙ none in cc);
    unended = λ none. absurd (let both : Some piece.instant ≡ None = sym next ∙ none in cc);
    output = (omega (arith, early, later), gives);
    over = λ last is. absurd (cc);
    kept = record {
      drawing = refl;
      ops = refl;
      ended = refl;
      bytes = refl;
      waiting = (piece ∷ [], refl);
      count = omega arith;
      cuts = omega arith;
      ending =
          λ last is. absurd (cc);
    };
    given_up = λ unknown. record { first = piece.len ∷ []; lens = refl; start = omega arith; before = λ before. omega arith };
    holds = λ t is ahead. let same : Some t ≡ Some piece.instant = sym is
        ∙ next in absurd (let at : t ≡ piece.instant = cc in omega (arith, early, later, at, ahead));
    latest = refl;
  }

-- where no piece waits it ends as the source did, once that did
module _ (given now : ℕ) (end : Option ℕ) (so_far : StreamPosition) (ended : so_far.ended ≡ is_some end) where
  abbrev pub idle_core : CoreView
  idle_core = plain_core given [] end so_far

  abbrev pub later_core : CoreView
  later_core = plain_core given [] end (record so_far { latest = now })

  none-next : (end : Option ℕ) → next_instant (remaining_output (plain_core given [] end so_far) (Quiet ∷ [])) ≡ None
  none-next None = ap next_instant (plain-read given [] None so_far (Quiet ∷ []))
  none-next (Some t) = ap next_instant (plain-read given [] (Some t) so_far (Quiet ∷ []))

  known : (end : Option ℕ) → so_far.ended ≡ is_some end → so_far.ended ≡ true → IsSome (core_ending (plain_core given [] end so_far))
  known None none was = absurd (let both : true ≡ false = sym was ∙ none in cc)
  known (Some t) some was = refl

  unended : (end : Option ℕ) → core_ending (plain_core given [] end so_far) ≡ None
      → IsUnended [] (remaining_output (plain_core given [] end (record so_far { latest = now }))) now
  unended None unknown = record {
    quiet = subst (λ items. IsOpenAt now (ending items)) (sym (plain-read given [] None so_far (Quiet ∷ []))) tt;
    closed = λ closes. subst (λ items. ending items ≢ StillOpen) (sym (plain-read given [] None so_far (Closed now ∷ []))) (λ same. cc);
  }
  unended (Some t) unknown = absurd (cc)

  ended-at : (t : ℕ) (last : Ending) (items : List Item) (reached : Bool) → End last ≡ (if reached then End (ClosedAt t) else WaitUntil t)
      → end_or (Some t) items ≡ final_of last ∷ []
  ended-at t last items true is = let same : last ≡ ClosedAt t = cc in ap (λ last. final_of last ∷ []) (sym same)
  ended-at t last items false is = absurd (cc)

  over : (end : Option ℕ) (last : Ending) (items : List Item) → End last ≡ idle_act so_far.ended now None (end_reached [] end)
      → remaining_output (plain_core given [] end (record so_far { latest = now })) items ≡ final_of last ∷ []
  over None last items is = absurd (cc)
  over (Some t) last items is = plain-read given [] (Some t) (record so_far { latest = now }) items ∙ ended-at t last items (nat_le t now) is

  pub leaves-later : LeavesOutput idle_core later_core now
  leaves-later = record { output = λ position since items later stream. same-refl (remaining_output idle_core items); position = refl }

  keeps-later : KeepsCore idle_core later_core
  keeps-later = record {
    drawing = refl;
    ops = refl;
    ended = refl;
    bytes = refl;
    waiting = ([], refl);
    count = omega arith;
    cuts = omega arith;
    ending =
        λ last is. is;
  }

  after-closed : (t : ℕ) (reached : Bool) → nat_le t now ≡ reached → After idle_core now (if reached then End (ClosedAt t) else WaitUntil t) later_core
  after-closed t true is = leaves-later
  after-closed t false is = (leb-false t now is, leaves-later)

  pub plain-answers : (act : Act) → act ≡ idle_act so_far.ended now None (end_reached [] end) → After idle_core now act later_core
      → Answered idle_core later_core now act
  plain-answers act is after = record {
    slice = λ t some. absurd (let both : None ≡ Some t = sym (none-next end) ∙ some in cc);
    idle = λ none. is;
    ended = λ none was. known end ended was;
    dropped = λ none. refl;
    overdue = λ d none due. absurd (cc);
    unended = λ none. unended end;
    output = after;
    over = λ last said items. over end last items (sym said ∙ is);
    kept = keeps-later;
    given_up = λ unknown. record { first = []; lens = refl; start = omega arith; before = λ before. before };
    holds = λ t some. absurd (let both : None ≡ Some t = sym (none-next end) ∙ some in cc);
    latest = refl;
  }

-- the source has ended, or nothing waits
pub plain-closed : (given now t : ℕ) (so_far : StreamPosition) → so_far.ended ≡ true
    → Answered (plain_core given [] (Some t) so_far) (plain_core given [] (Some t) (record so_far { latest = now })) now (end_act true now (ClosedAt t))
plain-closed given now t so_far ended =
    plain-answers given now (Some t) so_far ended _ (ap (λ ended. end_act ended now (ClosedAt t)) (sym ended))
    (after-closed given now (Some t) so_far ended t (nat_le t now) refl)

pub plain-quiet : (given now : ℕ) (so_far : StreamPosition) → so_far.ended ≡ false
    → Answered (plain_core given [] None so_far) (plain_core given [] None (record so_far { latest = now })) now WaitForInput
plain-quiet given now so_far ended = plain-answers given now None so_far ended _ refl (leaves-later given now None so_far ended)

-- pieces that came by an instant came by a later one
pub came-later : (latest later : ℕ) (waiting : List WaitingPiece) → latest ≤ later → CameBy latest waiting → CameBy later waiting
came-later latest later [] after came = tt
came-later latest later (piece ∷ pieces) after came = (came.0, omega (arith, came.1, after), came-later latest later pieces after came.2)

pub came-append : (latest : ℕ) (waiting : List WaitingPiece) (piece : WaitingPiece) → CameBy latest waiting → 0 < piece.len → piece.instant ≤ latest
    → CameBy latest (waiting ++ piece ∷ [])
came-append latest [] piece came some by = (some, by, tt)
came-append latest (first ∷ pieces) piece came some by = (came.0, came.1, came-append latest pieces piece came.2 some by)

-- where the source goes on, no ending is known and none is kept
reached-none : (waiting : List WaitingPiece) → end_reached waiting None ≡ None
reached-none [] = refl
reached-none (piece ∷ pieces) = refl

behind-none : (waiting : List WaitingPiece) → end_behind waiting None ≡ None
behind-none [] = refl
behind-none (piece ∷ pieces) = refl

unknown-none : (given : ℕ) (waiting : List WaitingPiece) (so_far : StreamPosition) → core_ending (plain_core given waiting None so_far) ≡ None
unknown-none given [] so_far = refl
unknown-none given (piece ∷ pieces) so_far = refl

-- one more piece waits
pub plain-hears : (given : ℕ) (waiting : List WaitingPiece) (end : Option ℕ) (so_far next : StreamPosition) (len instant : ℕ) → so_far.ended ≡ is_some end
    → so_far.ended ≡ false → given + total_len waiting ≡ so_far.position → next ≡ record so_far { position = so_far.position + len; latest = instant }
    → piece_fault so_far.position so_far.latest so_far.ended len instant ≡ None
    → HearsPiece (plain_core given waiting end so_far) (plain_core given (waiting ++ record { len = len; instant = instant } ∷ []) end next) len instant (Ok tt)
plain-hears given waiting (Some t) so_far next len instant ended going total same fine = absurd (let both : false ≡ true = sym going ∙ ended in cc)
plain-hears given waiting None so_far next len instant ended going total same fine =
    let piece : WaitingPiece = record { len = len; instant = instant } in
    let more : List WaitingPiece = waiting ++ piece ∷ [] in
    let old : CoreView = plain_core given waiting None so_far in
    let fault : Bool → Option ArrivalFault = (λ ended. piece_fault so_far.position so_far.latest ended len instant) in
    record {
      answer = ap answer_of (sym fine ∙ ap fault going ∙ sym (ap (λ ended. fault (ended || is_some (core_ending old))) going
          ∙ ap (λ last. fault (false || is_some last)) (unknown-none given waiting so_far)));
      taken = ap (plain_core given more None) same
          ∙ ap (λ last. record old {
            runner = plain_runner given last;
            waiting = more;
            end = end_behind more None;
            bytes = so_far.position + len;
            latest =
                instant;
          })
          (reached-none more ∙ sym (reached-none waiting))
          ∙ ap (λ end. record old { waiting = more; end = end; bytes = so_far.position + len; latest = instant })
          (behind-none more ∙ sym (behind-none waiting));
      output = λ items. plain-read given more None next items ∙ arrivals_from-append given waiting piece items
          ∙ ap (λ at. arrivals_from given waiting (chunk_from at piece ∷ items)) total
          ∙ sym (plain-read given waiting None so_far (chunk_from so_far.position piece ∷ items));
      err = tt;
    }
