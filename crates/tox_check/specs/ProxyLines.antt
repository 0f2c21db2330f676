-- What is reported of the addresses of proxies.
use Rattle.std.specs.Prelude.{ℕ, ◌&&◌, ◌||◌, Bool, List, [], ◌∷◌, ◌++◌, bytes_eq, codes, flat_map, nat_eq, if◌then◌else◌}
use Rattle.std.specs.List.{after_first, before_first, starts_with}
use Rattle.tox_time.specs.Text.{is_colon}
use Rattle.tox_config.specs.Proxy.{Proxy}
use Rattle.tox_text.specs.Names.{visible_name}

-- whether an address begins with a scheme: two slashes stand behind its first colon
abbrev pub has_scheme : List ℕ → Bool
has_scheme address = starts_with nat_eq (after_first is_colon address) (codes "//")

-- whether a host is this machine
abbrev pub is_this_machine : List ℕ → Bool
is_this_machine host =
    bytes_eq host [] || bytes_eq host (codes "localhost")
    || bytes_eq host (codes "127.0.0.1") || bytes_eq host (codes "0.0.0.0")

-- whether two addresses have one port of this machine
abbrev pub is_one_port : List ℕ → List ℕ → Bool
is_one_port address other =
    is_this_machine (before_first is_colon address) && is_this_machine (before_first is_colon other)
    && bytes_eq (after_first is_colon address) (after_first is_colon other)

-- whether a proxy connects to where it listens
abbrev pub is_own_address : List ℕ → List ℕ → Bool
is_own_address listen upstream = bytes_eq listen upstream || is_one_port listen upstream

-- the address of the proxy of this name begins with a scheme; it is its `listen` or its `upstream`
abbrev pub scheme_line : List ℕ → List ℕ → List ℕ → List ℕ
scheme_line name which address =
    codes "proxy " ++ (visible_name name ++ (which ++ (codes " has a scheme: "
    ++ (visible_name address ++ codes "\n"))))

-- the upstream of the proxy of this name is its own address
abbrev pub own_address_line : List ℕ → List ℕ → List ℕ
own_address_line name upstream =
    codes "proxy " ++ (visible_name name ++ (codes " upstream is its own address: "
    ++ (visible_name upstream ++ codes "\n")))

-- a line, where it is so
abbrev pub line_if : Bool → List ℕ → List (List ℕ)
line_if so line = if so then line ∷ [] else []

-- what is reported of an address of the proxy of this name
abbrev pub address_lines : List ℕ → List ℕ → List ℕ → List (List ℕ)
address_lines name which address = line_if (has_scheme address) (scheme_line name which address)

-- what is reported of the upstream of a proxy
abbrev pub upstream_lines : Proxy → List (List ℕ)
upstream_lines proxy =
    address_lines proxy.name (codes " upstream") proxy.upstream
    ++ line_if (is_own_address proxy.listen proxy.upstream) (own_address_line proxy.name proxy.upstream)

-- the lines of a proxy, if it is enabled
abbrev pub proxy_lines : Proxy → List (List ℕ)
proxy_lines proxy =
    if proxy.enabled
    then address_lines proxy.name (codes " listen") proxy.listen ++ upstream_lines proxy
    else []

-- the lines of some proxies, in their order
abbrev pub proxies_lines : List Proxy → List (List ℕ)
proxies_lines proxies = flat_map proxy_lines proxies
