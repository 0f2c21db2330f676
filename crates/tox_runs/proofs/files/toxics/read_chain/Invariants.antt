-- The short forms that are left make from here what all of them make.
use Rattle.std.proofs.Common.{◌≡◌, ◌+◌, drop, map}
use Rattle.tox_runs.specs.files.Toxics.{chain_of, with_shorts}
use Rattle.tox_runs.proofs.files.toxics.read_chain.Given as goal

abbrev pub invariant-loop-text : goal.invariant-loop-text
invariant-loop-text l = record {
  count : l.number ≡ l.text-index;
  rest : with_shorts (l.number + 1) (map (λ text. text.now) (drop l.text-index l.texts)) l.chain ≡ chain_of l.fn.lanes (map (λ text. text.now) l.texts);
}
