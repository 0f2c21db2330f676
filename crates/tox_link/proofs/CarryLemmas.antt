-- A link that ended, or broke off, and what its reader had to give.
use Rattle.std.proofs.Common.{◌≡◌, ℕ, ◌+◌, ◌≤◌, inl, Bool, true, false, List, [], ◌∷◌, ◌++◌, length, length-take-le, take, drop, Option, Some, None, refl, ap}
use Rattle.std.proofs.Common.{◌∙◌, sym, subst, append-nil, append_assoc, arith}
use Rattle.std.specs.Prelude.{is_some, IfSome}
use Rattle.std.specs.Io.KnownBytes.{append_known, prepend_known}
use Rattle.std.proofs.Math.Seq.{take-nil}
use Rattle.std.proofs.lemmas.List.{take-append-drop, take-take, take_all}
use Rattle.tox_time.specs.declared.streams.item.Item.{Item}
use Rattle.tox_time.specs.declared.streams.item.Item.TheVariants.{Quiet}
use Rattle.tox_time.specs.declared.streams.ending.Ending.{Ending}
use Rattle.tox_time.specs.declared.streams.ending.Ending.TheVariants.{StillOpen, Closed as ClosedAt}
use Rattle.tox_time.specs.streams.Stream.{IsStreamFrom}
use Rattle.tox_time.specs.streams.Table.{table, slices_table, ending}
use Rattle.tox_plan.proofs.Endings.{final-ending, final-table}
use Rattle.tox_link.specs.declared.ring.message.Message.{Message}
use Rattle.tox_link.specs.declared.ring.message.Message.TheVariants.{Piece, End}
use Rattle.tox_link.specs.declared.ring.message.ReadEnd.{ReadEnd}
use Rattle.tox_link.specs.declared.notes.LinkEvent.{LinkEvent}
use Rattle.tox_link.specs.declared.notes.LinkEvent.TheVariants.{Piece as PieceAt, SourceEnd, Wrote}
use Rattle.tox_link.specs.declared.carrying.writer_side.WriterSide.{WriterSide}
use Rattle.tox_link.specs.log.Carried.{Carried}
use Rattle.tox_link.specs.link_core.Core.{CoreView, core_position}
use Rattle.tox_link.specs.log.Log.{heard_from, heard, said, has_source_end}
use Rattle.tox_link.specs.log.Logged.{HasEnded, IsCutOff}
use Rattle.tox_link.specs.ring.Messages.{bytes_of, ArePieces, ReadsFrom, AreFirstOf, HandsOn, EndsFor}
use Rattle.tox_link.specs.declared.link_fault.LinkFault.{LinkFault}
use Rattle.tox_link.specs.Hangups.{Call, with_call, HangsUp, BreaksOff}
use Rattle.tox_link.specs.Reports.{ReportsAt, HeardSo, WritesFirst, is_write_fault, written_before}
use Rattle.tox_link.specs.carrying.Side.{IsSound, TookAll}
use Rattle.tox_link.specs.Sources.{read_end_of}
use Rattle.tox_link.proofs.Logs.{gapless-bytes}
use Rattle.tox_link.proofs.Sent.{bytes_of-append, prepend-append}
use Rattle.tox_link.proofs.Sizes.{small-none}
use Rattle.tox_link.proofs.StepLemmas.{faithful-nil}

-- how what was heard ends
heard-closed : (start : ℕ) (log : List LinkEvent) (rest : List Item) → has_source_end log ≡ true → (t : ℕ) × (ending (heard_from start log rest) ≡ ClosedAt t)
heard-closed start [] rest has = absurd (cc)
heard-closed start (PieceAt len instant ∷ log) rest has = heard-closed (start + len) log rest has
heard-closed start (SourceEnd instant ∷ log) rest has = (instant, refl)
heard-closed start (Wrote slice now ∷ log) rest has = heard-closed start log rest has

heard-going : (start : ℕ) (log : List LinkEvent) (rest : List Item) → has_source_end log ≡ false → ending (heard_from start log rest) ≡ ending rest
heard-going start [] rest has = refl
heard-going start (PieceAt len instant ∷ log) rest has = heard-going (start + len) log rest has
heard-going start (SourceEnd instant ∷ log) rest has = absurd (cc)
heard-going start (Wrote slice now ∷ log) rest has = heard-going start log rest has

heard-so : (log : List LinkEvent) (source : Option ReadEnd) → has_source_end log ≡ is_some source → HeardSo source (ending (heard log))
heard-so log (Some end) has = heard-closed 0 log (Quiet ∷ []) has
heard-so log None has = heard-going 0 log (Quiet ∷ []) has

-- a link that ended
pub link-reports : (means : List Item → List Item) (reported : ℕ → Type 0) (core : CoreView) (ended : Bool) (log : List LinkEvent) (last : Ending)
    (source : Option ReadEnd) (taken written : ℕ) → Carried means reported core log
    → has_source_end log ≡ is_some source → HasEnded reported core ended last → written ≡ core_position core → taken ≡ core.bytes
    → ReportsAt means reported log taken written last source core.latest
link-reports means reported core ended log last source taken written carried closed over wrote took = record {
  faithful = carried.faithful;
  whole = sym (carried.tables (Quiet ∷ []) refl ∙ ap (λ items. slices_table (said log) ++ table items) (over.only (Quiet ∷ []))
      ∙ ap (λ ts. slices_table (said log) ++ ts) (final-table last) ∙ append-nil (slices_table (said log)));
  ends = carried.endings (Quiet ∷ []) refl ∙ ap ending (over.only (Quiet ∷ [])) ∙ final-ending last;
  took = carried.bytes ∙ sym took;
  wrote = let long = gapless-bytes 0 (said log) (core_position core) carried.gapless in omega (arith, long, wrote);
  says = over.says;
  by = carried.by;
  reached = over.reached;
  settled = λ rest stream.
      let goes_on : IsStreamFrom core.bytes core.latest rest = subst (λ at. IsStreamFrom at core.latest rest) carried.bytes stream in
      record {
        tables = carried.tables rest goes_on ∙ ap (λ items. slices_table (said log) ++ table items) (over.only rest ∙ sym (over.only (Quiet ∷ [])))
            ∙ sym (carried.tables (Quiet ∷ []) refl);
        endings = carried.endings rest goes_on ∙ ap ending (over.only rest ∙ sym (over.only (Quiet ∷ []))) ∙ sym (carried.endings (Quiet ∷ []) refl);
      };
  hears = heard-so log source closed;
}

pub prepend-nil : (known : Option (List ℕ)) → known ≡ prepend_known [] known
prepend-nil None = refl
prepend-nil (Some bytes) = refl

pub append-nothing : (known : Option (List ℕ)) → known ≡ append_known known []
append-nothing None = refl
append-nothing (Some bytes) = ap Some (sym (append-nil bytes))

-- a link that did nothing
pub cut-nothing : (means : List Item → List Item) (reported : ℕ → Type 0) (written : ℕ) → written ≡ 0 → IsCutOff means reported written []
cut-nothing means reported written none = record {
  faithful = faithful-nil means reported;
  few = omega (arith, none);
  of_heard =
      record { few = omega arith; heard = omega arith; shallow = tt; small = small-none };
  within = omega (arith, none);
}

pub writes-nothing : (given before : Option (List ℕ)) (written : ℕ) → written ≡ 0 → WritesFirst given before before [] written
writes-nothing given before written none = record {
  left = given;
  gave = prepend-nil given;
  few = omega (arith, none);
  wrote = append-nothing before
      ∙ ap (append_known before) (sym (take-nil written));
}

-- the bytes of the first messages are the first that there were to give
pub first-bytes : (messages later more left : List Message) (before after : Option (List ℕ)) (reads : ℕ) (end : ReadEnd) (failed : Bool)
    → later ≡ messages ++ more → ReadsFrom before reads (later ++ left) end after failed
    → (rest : Option (List ℕ)) × (before ≡ prepend_known (bytes_of messages) rest)
first-bytes messages later more left before after reads end failed grown sent =
    let handed = sent.hands_on in
    let others : List ℕ = bytes_of more ++ bytes_of left in
    let whole : bytes_of (later ++ left) ≡ bytes_of messages ++ (bytes_of more ++ bytes_of left)
    = bytes_of-append later left ∙ ap (λ bytes. bytes ++ bytes_of left) (ap bytes_of grown ∙ bytes_of-append messages more)
    ∙ append_assoc (bytes_of messages) (bytes_of more) (bytes_of left) in (
      prepend_known (others ++ handed.0) after,
      handed.1 ∙ ap (λ bytes. prepend_known (bytes ++ handed.0) after) whole
          ∙ ap (λ bytes. prepend_known bytes after) (append_assoc (bytes_of messages) others handed.0)
          ∙ prepend-append (bytes_of messages) (others ++ handed.0) after,
    )

-- a link wrote the first bytes of those that it took
pub writes-first : (given old new rest : Option (List ℕ)) (came : List ℕ) (taken written : ℕ) → written ≤ taken → taken ≤ length came
    → given ≡ prepend_known came rest
    → new ≡ append_known old (take written came) → WritesFirst given old new (take taken came) written
writes-first given old new rest came taken written within few gave wrote =
    let long = length-take-le taken came few in
    record {
      left = prepend_known (drop taken came) rest;
      gave = gave ∙ ap (λ bytes. prepend_known bytes rest) (sym (take-append-drop taken came)) ∙ prepend-append (take taken came) (drop taken came) rest;
      few = omega (arith, long, within);
      wrote = wrote ∙ ap (append_known old) (sym (take-take written taken came within));
    }

not-nil : (before rest : List Message) (end : ReadEnd) → (before ++ End end ∷ []) ++ rest ≡ [] → ⊥
not-nil [] rest end same = cc
not-nil (message ∷ before) rest end same = cc

-- nothing comes behind the end
last-end : (before rest pieces : List Message) (end last : ReadEnd) → (before ++ End end ∷ []) ++ rest ≡ pieces ++ End last ∷ [] → ArePieces pieces
    → (rest ≡ []) × (end ≡ last)
last-end [] rest [] end last same are = ((cc), (cc))
last-end (message ∷ before) rest [] end last same are = absurd (not-nil before rest end (cc))
last-end [] rest (Piece piece ∷ pieces) end last same are = absurd (cc)
last-end (message ∷ before) rest (Piece piece ∷ pieces) end last same are = last-end before rest pieces end last (cc) are
last-end before rest (End other ∷ pieces) end last same are = absurd are

-- where all was taken, the reading ended so
took-all : (side : WriterSide) (messages later more left : List Message) (before after : Option (List ℕ)) (reads : ℕ) (end last : ReadEnd) (failed : Bool)
    → TookAll side messages last → later ≡ messages ++ more
    → ReadsFrom before reads (later ++ left) end after failed
    → HandsOn before (take side.core.bytes (bytes_of messages)) last after × EndsFor last reads (length (take side.core.bytes (bytes_of messages))) after failed
took-all side messages later more left before after reads end last failed all grown sent =
    let pieces = sent.ended in
    let joined : (all.before ++ End last ∷ []) ++ (more ++ left) ≡ pieces.0 ++ End end ∷ []
    = sym (append_assoc (all.before ++ End last ∷ []) more left) ∙ ap (λ messages. (messages ++ more) ++ left) (sym all.last)
    ∙ ap (λ messages. messages ++ left) (sym grown) ∙ pieces.1 in
    let none = last-end all.before (more ++ left) pieces.0 last end joined pieces.2 in
    let whole : later ++ left ≡ messages = ap (λ later. later ++ left) grown ∙ append_assoc messages more left ∙ ap (λ rest. messages ++ rest) none.0
    ∙ append-nil messages in
    let bytes : bytes_of (later ++ left) ≡ take side.core.bytes (bytes_of messages) = ap bytes_of whole
    ∙ sym (take_all side.core.bytes (bytes_of messages) (omega (arith, all.bytes))) in
    subst (λ end. HandsOn before (take side.core.bytes (bytes_of messages)) end after
    × EndsFor end reads (length (take side.core.bytes (bytes_of messages))) after failed) (sym none.1)
    (subst (λ bytes. HandsOn before bytes end after × EndsFor end reads (length bytes) after failed) bytes (sent.hands_on, sent.cause))

took-known : (side : WriterSide) (messages later more left : List Message) (before after : Option (List ℕ)) (reads : ℕ) (end : ReadEnd) (failed : Bool)
    (source : Option ReadEnd)
    → ((last : ReadEnd) → source ≡ Some last → TookAll side messages last) → later ≡ messages ++ more → ReadsFrom before reads (later ++ left) end after failed
    → IfSome source (λ last. HandsOn before (take side.core.bytes (bytes_of messages)) last after
    × EndsFor last reads (length (take side.core.bytes (bytes_of messages))) after failed)
took-known side messages later more left before after reads end failed None all grown sent = tt
took-known side messages later more left before after reads end failed (Some last) all grown sent =
    took-all side messages later more left before after reads end last failed (all last refl) grown sent

-- how the source ended, where the link learnt of it in time
pub source-reported : (side : WriterSide) (messages later more left : List Message) (before after : Option (List ℕ)) (reads : ℕ) (end : ReadEnd) (failed : Bool)
    → IsSound side messages → later ≡ messages ++ more
    → ReadsFrom before reads (later ++ left) end after failed
    → IfSome (read_end_of side.source) (λ last. HandsOn before (take side.core.bytes (bytes_of messages)) last after
    × EndsFor last reads (length (take side.core.bytes (bytes_of messages))) after failed)
source-reported side messages later more left before after reads end failed sound grown sent =
    took-known side messages later more left before after reads end failed (read_end_of side.source) sound.whole grown sent

-- the reading that was asked for
pub reads-same : (before given after : Option (List ℕ)) (reads asked : ℕ) (messages : List Message) (end : ReadEnd) (failed : Bool) → before ≡ given
    → reads ≡ asked → ReadsFrom before reads messages end after failed
    → ReadsFrom given asked messages end after failed
reads-same before given after reads asked messages end failed same count sent =
    subst (λ before. ReadsFrom before asked messages end after failed) same (subst (λ reads. ReadsFrom before reads messages end after failed) count sent)

-- a link that was refused before its reader's thread started
pub broke-unstarted : (reported : ℕ → Type 0) (calls : Option (List Call)) (fault : LinkFault) → written_before fault ≡ 0 → is_write_fault fault ≡ false
    → BreaksOff reported [] calls calls fault
broke-unstarted reported calls fault none cause = inl (refl, refl, none, cause)

-- where a link learnt why the reading ended, it took the source's end
took-end : (side : WriterSide) (messages : List Message) (source : Option ReadEnd) → ((end : ReadEnd) → source ≡ Some end → TookAll side messages end)
    → IfSome source (λ _. side.ended ≡ true)
took-end side messages (Some end) whole = (whole end refl).ended
took-end side messages None whole = tt

-- a link that ended is hung up with whether the source's end was taken
pub hung-up : (old new : Option (List Call)) (side : WriterSide) (messages : List Message) (last : Ending) → new ≡ with_call old last side.ended
    → (last ≡ StillOpen → side.ended ≡ true) → IsSound side messages
    → HangsUp old new messages last (read_end_of side.source)
hung-up old new side messages last called stays_open sound = record {
  called = called ∙ ap (with_call old last) sound.reported;
  stays_open = λ still. sym sound.reported ∙ stays_open still;
  known = subst (λ ended. IfSome (read_end_of side.source) (λ _. ended ≡ true)) sound.reported (took-end side messages (read_end_of side.source) sound.whole);
}

-- what was taken are the first messages of the reading
pub first-of : (messages later more left : List Message) (before after : Option (List ℕ)) (reads : ℕ) (end : ReadEnd) (failed : Bool) → later ≡ messages ++ more
    → ReadsFrom before reads (later ++ left) end after failed
    → AreFirstOf before reads messages after failed
first-of messages later more left before after reads end failed grown sent =
    let whole : later ++ left ≡ messages ++ (more ++ left) = ap (λ later. later ++ left) grown ∙ append_assoc messages more left in
    record { others = more ++ left; end = end; sent = subst (λ all. ReadsFrom before reads all end after failed) whole sent }
