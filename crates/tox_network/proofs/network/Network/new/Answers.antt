-- A network as it is made, and the laws of its runs.
use Rattle.std.proofs.Common.{◌≡◌, ◌+◌, ◌∙◌, [], replicate, length, refl, ap, rules}
use Rattle.tox_time.specs.streams.Arrivals.{arrival_list}
use Rattle.tox_network.proofs.EveryRun.{run_laws}
use Rattle.tox_network.proofs.Sound.{first_made}
use Rattle.tox_network.proofs.network.Network.new.Goals as goal

pub invariant_of-result : goal.invariant_of-result
invariant_of-result c =
    let count : c.len.result ≡ length c.in_ok-stages.stages.items = search rules in
    (first_made _ c.args.cap c.args.chain.now c.args.words.now (arrival_list c.args.arrivals.now) c.requires.some c.in_ok-stages.ensures.chain
    c.new-waiting.ensures.list.0 c.new-waiting.ensures.bound
    c.in_ok-queues.ensures.room (ap (λ w. w.arrived) c.new-waiting.ensures.all) refl (ap (λ w. w.waiting) c.new-waiting.ensures.all)
    (c.in_ok-queues.ensures.empty ∙ ap (λ count. replicate (count + 1) []) count) c.in_ok-stages.ensures.stages c.new-2.ensures).0

pub returns-clause-start : goal.returns-clause-start
returns-clause-start c =
    let count : c.len.result ≡ length c.in_ok-stages.stages.items = search rules in
    (first_made _ c.args.cap c.args.chain.now c.args.words.now (arrival_list c.args.arrivals.now) c.requires.some c.in_ok-stages.ensures.chain
    c.new-waiting.ensures.list.0 c.new-waiting.ensures.bound
    c.in_ok-queues.ensures.room (ap (λ w. w.arrived) c.new-waiting.ensures.all) refl (ap (λ w. w.waiting) c.new-waiting.ensures.all)
    (c.in_ok-queues.ensures.empty ∙ ap (λ count. replicate (count + 1) []) count) c.in_ok-stages.ensures.stages c.new-2.ensures).1

pub returns-in_err-stages-clause-laws : goal.returns-in_err-stages-clause-laws
returns-in_err-stages-clause-laws c = run_laws c.args.chain.now c.args.words.now (arrival_list c.args.arrivals.now) c.first_stages.ensures.chain
    c.new-waiting.ensures.list.0

pub returns-in_err-queues-clause-laws : goal.returns-in_err-queues-clause-laws
returns-in_err-queues-clause-laws c = run_laws c.args.chain.now c.args.words.now (arrival_list c.args.arrivals.now) c.first_stages.ensures.chain
    c.new-waiting.ensures.list.0

pub returns-clause-laws : goal.returns-clause-laws
returns-clause-laws c = run_laws c.args.chain.now c.args.words.now (arrival_list c.args.arrivals.now) c.first_stages.ensures.chain c.new-waiting.ensures.list.0
