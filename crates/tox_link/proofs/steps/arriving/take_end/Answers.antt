-- The source's end is one more event, or none where the ending is known.
use Rattle.std.proofs.Common.{◌≡◌, ℕ, ◌≤◌, true, false, List, [], ◌∷◌, Option, Some, None, ap, sym, ◌∙◌, arith}
use Rattle.std.specs.Prelude.{is_none, IfSome}
use Rattle.tox_time.specs.Time.{IsInstant}
use Rattle.tox_time.specs.declared.streams.ending.Ending.{Ending}
use Rattle.tox_time.specs.declared.streams.item.Item.{Item}
use Rattle.tox_time.specs.declared.streams.item.Item.TheVariants.{Closed}
use Rattle.tox_time.specs.streams.Table.{final_of}
use Rattle.tox_link.specs.declared.notes.LinkEvent.{LinkEvent}
use Rattle.tox_link.specs.declared.notes.LinkEvent.TheVariants.{SourceEnd}
use Rattle.tox_link.specs.steps.Arriving.{CarriesOn}
use Rattle.tox_link.specs.link_core.Acts.{HearsEnd}
use Rattle.tox_link.specs.link_core.Core.{CoreView, core_ending, remaining_output}
use Rattle.tox_link.specs.log.Carried.{noted_end}
use Rattle.tox_link.specs.log.Events.{with_events}
use Rattle.tox_link.proofs.Looks.{same-of}
use Rattle.tox_link.proofs.StepLemmas.{end-carried, wait-carried}
use Rattle.tox_link.proofs.steps.arriving.take_end.Goals as goal

carries-on : (reported : ℕ → Type 0) (before after : Option (List LinkEvent)) (old new : CoreView) (now : ℕ) (last : Option Ending)
    → old.latest ≤ now → IsInstant now → reported now → old.ended ≡ false → HearsEnd old new now → last ≡ core_ending old
    → IfSome last (λ last. (items : List Item) → remaining_output old items ≡ final_of last ∷ [])
    → after ≡ with_events before (noted_end last now) → CarriesOn reported before after old new (is_none (core_ending old))
carries-on reported before after old new now (Some last) later fits says going hears is only noted = record {
  more = [];
  noted = noted;
  keeps = wait-carried reported old new now later says hears.ended.1 hears.kept.0.bytes (λ ended. hears.ended.0)
      (λ log more none keeps going. absurd (let both : true ≡ false = sym hears.ended.0 ∙ going in cc))
      (record {
        output = λ position since items later stream. same-of _ _ (hears.output items ∙ only (Closed now ∷ []) ∙ sym (only items));
        position = hears.kept.2;
      });
  end = ap is_none is;
}
carries-on reported before after old new now None later fits says going hears is only noted = record {
  more = SourceEnd now ∷ [];
  noted = noted;
  keeps = end-carried reported old new now later fits says going hears.ended.0 hears.ended.1 hears.kept.0.bytes hears.kept.2 hears.output;
  end = ap is_none is;
}

pub returns-clause-carried : goal.returns-clause-carried
returns-clause-carried g c =
    carries-on (g.C.Clock.reported c.args.clock.now) _ _ c.args.core.now c.on_end.new.self c.reading-now.result c.ending-ending.result
    (omega (arith, c.reading-now.ensures.later, c.latest.ensures)) c.reading-now.ensures.bound c.reading-now.ensures.reported c.requires.first c.on_end.ensures
    c.ending-ending.ensures.value c.ending-ending.ensures.only c.in_ok-note_end.ensures.noted
