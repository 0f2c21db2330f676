-- One place more.
use Rattle.std.proofs.Common.{◌≤◌, ℕ, Bool, List, [], ◌∷◌, ◌++◌, false, length, flat_map, take, get_or, append-nil, arith, sym, ap, ◌∙◌}
use Rattle.std.specs.List.{enumerate_from}
use Rattle.std.proofs.lemmas.Grind.{flat_map-append}
use Rattle.std.proofs.lemmas.List.{take_all}
use Rattle.std.proofs.lemmas.List.FromFn.{length-enumerate_from}
use Rattle.tox_text.specs.declared.json.JsonItem.{JsonItem}
use Rattle.tox_text.proofs.Listed.{IsAt-enumerate, IsAt-read}
use Rattle.tox_check.specs.forecast.Objects.{place_item}
use Rattle.tox_check.proofs.forecast.FlagTurns.{take-more_at}
use Rattle.tox_check.proofs.forecast.object.place_items.Goals as goal

pub loop-place-preserved : goal.loop-place-preserved
loop-place-preserved c =
    let turn = c.loop-place in
    let flags = c.args.flags.now in
    let item = λ (placed : ℕ × Bool). place_item placed.0 placed.1 in
    let placed = enumerate_from 0 flags in
    let flag = get_or flags turn.place false in
    let here = IsAt-enumerate flags turn.place flag (IsAt-read flags turn.place false c.loop-place-test.true) in
    record {
      few = omega (arith, c.add_place.ensures.few, turn.invariant.few);
      inside = omega (arith, c.loop-place-test.true);
      made = c.add_place.ensures.items ∙ ap (λ (items : List JsonItem). items ++ place_item turn.place flag) turn.invariant.made
          ∙ sym (ap (flat_map item) (take-more_at placed turn.place (turn.place, flag) here)
          ∙ flat_map-append item (take turn.place placed) ((turn.place, flag) ∷ [])
          ∙ ap (λ (items : List JsonItem). flat_map item (take turn.place placed) ++ items) (append-nil (place_item turn.place flag)));
    }

pub returns : goal.returns
returns c =
    let placed = enumerate_from 0 c.args.flags.now in
    let past : length placed ≤ c.loop-place.place = omega (arith, length-enumerate_from 0 c.args.flags.now, c.loop-place-test.false) in
    c.loop-place.invariant.made ∙ ap (flat_map (λ (placed : ℕ × Bool). place_item placed.0 placed.1)) (take_all c.loop-place.place placed past)
