-- The first name at the distance is not passed yet.
use Rattle.std.proofs.Common.{◌≡◌, drop, map}
use Rattle.tox_text.specs.Nearest.{at_distance}
use Rattle.tox_text.proofs.nearest_name.at_distance.Given as goal

abbrev pub invariant-loop-other : goal.invariant-loop-other
invariant-loop-other l =
    at_distance l.distance l.name (map (λ other. other.now) (drop l.other-index l.names)) ≡ at_distance l.distance l.name (map (λ other. other.now) l.names)
