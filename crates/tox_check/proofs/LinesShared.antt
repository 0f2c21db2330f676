-- Where the first of some proxies listens, another one may too.
use Rattle.std.proofs.Common.{◌≡◌, ℕ, ◌≤◌, List, [], ◌∷◌, ◌++◌, length, arith, drop, get_or, refl}
use Rattle.std.specs.List.{find}
use Rattle.tox_config.specs.Proxy.{Proxy}
use Rattle.tox_check.specs.FileLines.{listens_there, shared_lines, shared_lines_of}

-- the lines of a proxy before others
abbrev pub first_shared : Proxy → List Proxy → List (List ℕ)
first_shared proxy others = shared_lines_of proxy (find (listens_there proxy) others)

-- the lines of the first proxy, and those of the others
pub shared_lines-first : (proxies : List Proxy) (d : Proxy) → 1 ≤ length proxies
    → first_shared (get_or proxies 0 d) (drop 1 proxies) ++ shared_lines (drop 1 proxies) ≡ shared_lines proxies
shared_lines-first [] d some = absurd (omega arith)
shared_lines-first (proxy ∷ proxies) d some = refl
