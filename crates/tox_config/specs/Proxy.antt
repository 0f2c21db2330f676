-- The proxy that one object of a populate file gives.
use Rattle.std.specs.Prelude.{ℕ, Bool, true, List, [], ◌∷◌, codes, Option, Some, None, option_and_then, Result, Ok, ok_or}
use Rattle.serde_json.specs.Data.{Data, null}
use Rattle.serde_json.specs.Find.{as_bool, as_object, as_str, get}
use Rattle.tox_time.specs.Steps.{◌>>=◌}
use Rattle.tox_time.specs.Text.{is_sized, passing}
use Rattle.tox_config.specs.Address.{is_address}
use Rattle.tox_config.specs.declared.fault.ConfigFault.{ConfigFault}
use Rattle.tox_config.specs.declared.fault.ConfigFault.TheVariants.{NotObject, Name, Listen, Upstream, Enabled}

-- a proxy, with its texts as bytes
pub record Proxy : Type 0 where
  pub name : List ℕ
  pub listen : List ℕ
  pub upstream : List ℕ
  pub enabled : Bool

-- the name of an object: a text of 1 to 255 bytes
abbrev pub proxy_name : Data → Option (List ℕ)
proxy_name d = option_and_then (passing (is_sized 255)) (option_and_then as_str (get (codes "name") d))

-- the upstream of an object: an address
abbrev pub upstream_of : Data → Option (List ℕ)
upstream_of d =
    option_and_then (passing is_address) (option_and_then as_str (get (codes "upstream") d))

-- where a proxy listens that says nothing of it
abbrev pub default_listen : List ℕ
default_listen = codes "localhost:0"

-- where a member says to listen: the empty text stands for the default
abbrev pub listen_text : List ℕ → Option (List ℕ)
listen_text [] = Some default_listen
listen_text (byte ∷ bytes) = passing is_address (byte ∷ bytes)

-- where a member says to listen: absent and null stand for the default
abbrev pub listen_in : Option Data → Option (List ℕ)
listen_in None = Some default_listen
listen_in (Some null) = Some default_listen
listen_in (Some d) = option_and_then listen_text (as_str d)

-- where the proxy of an object listens
abbrev pub listen_of : Data → Option (List ℕ)
listen_of d = listen_in (get (codes "listen") d)

-- whether a member enables its proxy: absent and null do
abbrev pub enabled_in : Option Data → Option Bool
enabled_in None = Some true
enabled_in (Some null) = Some true
enabled_in (Some d) = as_bool d

-- whether the proxy of an object is enabled
abbrev pub enabled_of : Data → Option Bool
enabled_of d = enabled_in (get (codes "enabled") d)

-- the proxy of the value at a place, or the first of its faults
abbrev pub proxy_of : ℕ → Data → Result Proxy ConfigFault
proxy_of place d = do
  _ ← ok_or (as_object d) (NotObject place)
  name ← ok_or (proxy_name d) (Name place)
  listen ← ok_or (listen_of d) (Listen place)
  upstream ← ok_or (upstream_of d) (Upstream place)
  enabled ← ok_or (enabled_of d) (Enabled place)
  Ok (record { name = name; listen = listen; upstream = upstream; enabled = enabled })
