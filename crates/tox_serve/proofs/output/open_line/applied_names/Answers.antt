-- One toxic behind the other.
use Rattle.std.proofs.Common.{◌≤◌, ◌++◌, ℕ, List, refl, arith, flat_map, length, map, take, string_bytes, ap, ◌∙◌}
use Rattle.std.specs.List.{enumerate_from, zip}
use Rattle.std.proofs.lemmas.List.{take_all}
use Rattle.std.proofs.lemmas.List.FromFn.{length-enumerate_from}
use Rattle.std.proofs.lemmas.Slice.Zip.{length-zip}
use Rattle.tox_defs.specs.declared.toxic.Toxic.TheVariants.{Latency}
use Rattle.tox_words.specs.Draw.{draws_of}
use Rattle.tox_text.proofs.Listed.{IsAt-placed, flat_map-more}
use Rattle.tox_serve.specs.output.OpenLine.{applied_name, name_if}
use Rattle.tox_serve.proofs.output.open_line.applied_names.Goals as goal

pub loop-place-preserved : goal.loop-place-preserved
loop-place-preserved c =
    let turn = c.loop-place in
    let placed = enumerate_from 0 (zip c.args.entries.now (map string_bytes c.args.names.now)) in
    let draws = draws_of c.args.drawing.now in
    let here = IsAt-placed string_bytes c.args.entries.now c.args.names.now turn.place (record { toxic = Latency 0 0 0 0; toxicity = 0 })
    c.index-names-place.result c.requires.one_each c.loop-place-test.true c.index-names-place.is in
    record {
      few = omega (arith, c.add_if.ensures.few, turn.invariant.few);
      inside = omega (arith, c.loop-place-test.true);
      made = c.add_if.ensures.names ∙ ap (λ (ns : List (List ℕ)). ns ++ name_if c.is_applied.result c.deref.result.now) turn.invariant.made
          ∙ ap (λ (ns : List (List ℕ)). flat_map (applied_name draws) (take turn.place placed) ++ ns) (rw (c.is_applied.ensures, c.deref.ensures) refl)
          ∙ flat_map-more (applied_name draws) placed turn.place _ here;
    }

pub returns : goal.returns
returns c =
    let named = zip c.args.entries.now (map string_bytes c.args.names.now) in
    let placed = enumerate_from 0 named in
    let turn = c.loop-place in
    let past : length placed ≤ turn.place =
    omega (arith, length-enumerate_from 0 named, length-zip c.args.entries.now (map string_bytes c.args.names.now), c.loop-place-test.false) in
    record {
      names = turn.invariant.made ∙ ap (flat_map (applied_name (draws_of c.args.drawing.now))) (take_all turn.place placed past);
      few = omega (arith, c.requires.few, turn.invariant.few, turn.invariant.inside);
    }
