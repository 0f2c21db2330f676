-- Which proxies are served and for how many connections, and why nothing is served.
use Rattle.std.specs.Prelude.{◌≡◌, ℕ, Bool, true, ◌||◌, nat_le, List, Option, IsTrue}
use Rattle.std.specs.List.{Contains}
use Rattle.tox_config.specs.Proxy.{Proxy}
use Rattle.tox_sockets.specs.Bound.{is_reached}
use Rattle.tox_serve.specs.declared.fault.ServeFault.{ServeFault}
use Rattle.tox_serve.specs.declared.fault.ServeFault.TheVariants.{ListenRefused, ReadyRefused, SpawnRefused, OutOfMemory}

-- an enabled proxy has this name
pub record HasEnabled (proxies : List Proxy) (name : List ℕ) : Type 0 where
  pub proxy : Proxy
  pub listed : Contains proxies proxy
  pub enabled : proxy.enabled ≡ true
  pub named : proxy.name ≡ name

-- why an address of a proxy wasn't bound
abbrev pub IsListenFault : Proxy → ServeFault → Type 0
IsListenFault proxy (ListenRefused name errno) = name.now ≡ proxy.name
IsListenFault proxy (ReadyRefused errno) = ⊥
IsListenFault proxy SpawnRefused = ⊥
IsListenFault proxy OutOfMemory = Unit {0}

-- why an address for probes wasn't bound, where there is one
abbrev pub IsReadyFault : Bool → ServeFault → Type 0
IsReadyFault has_ready (ListenRefused name errno) = ⊥
IsReadyFault has_ready (ReadyRefused errno) = IsTrue has_ready
IsReadyFault has_ready SpawnRefused = ⊥
IsReadyFault has_ready OutOfMemory = Unit {0}

-- why nothing is served: an address that couldn't be listened at is that of an enabled proxy, or the one for probes, where there is one
abbrev pub HasServeCause : List Proxy → Bool → ServeFault → Type 0
HasServeCause proxies has_ready (ListenRefused name errno) = HasEnabled proxies name.now
HasServeCause proxies has_ready (ReadyRefused errno) = IsTrue has_ready
HasServeCause proxies has_ready SpawnRefused = Unit {0}
HasServeCause proxies has_ready OutOfMemory = Unit {0}

-- whether a proxy stops listening: after as many connections as it was told to, or as many links as a book holds
abbrev pub is_enough : Option ℕ → ℕ → ℕ → Bool
is_enough links connections opened = is_reached links connections || nat_le 1000000 opened
