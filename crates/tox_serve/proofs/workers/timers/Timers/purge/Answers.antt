-- What the heap keeps are the timers that a link waits for.
use Rattle.std.proofs.Common.{◌≡◌, filter, map, inr, rules, ap, ◌∙◌}
use Rattle.std.proofs.lemmas.Fn.{filter_same}
use Rattle.std.proofs.lemmas.List.Sorted.{IsPermutation-map}
use Rattle.std.specs.BinaryHeap.{heap_items}
use Rattle.tox_serve.specs.workers.Armed.{is_waited_for}
use Rattle.tox_serve.specs.workers.Timers.{timers_of}
use Rattle.tox_serve.proofs.workers.TimerLemmas.{map-filter}
use Rattle.tox_serve.proofs.workers.timers.Timers.purge.Goals as goal

pub returns : goal.returns
returns g c =
    let places = c.args.links.now.places in
    let kept : c.retain.ensures.filtered.0 ≡ filter (λ reversed. is_waited_for places reversed.0) (heap_items c.args.self.now.heap) =
    filter_same _ _ _ (λ x b f' k. search rules) _ _ c.retain.ensures.filtered.1 in
    let timers : map (λ reversed. reversed.0) c.retain.ensures.filtered.0 ≡ filter (is_waited_for places) (timers_of c.args.self.now) =
    ap (map (λ reversed. reversed.0)) kept ∙ map-filter (is_waited_for places) (heap_items c.args.self.now.heap) in
    inr (rw timers at (IsPermutation-map (λ reversed. reversed.0) _ _ c.retain.ensures.filtered.2))
