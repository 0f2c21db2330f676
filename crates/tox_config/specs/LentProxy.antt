-- What lent proxies stand for.
use Rattle.std.specs.Prelude.{List, [], ◌∷◌, if◌then◌else◌}
use Rattle.tox_config.specs.Proxy.{Proxy}
use Rattle.tox_config.specs.Populate.{is_named}
use Rattle.tox_config.specs.declared.lent_proxy.LentProxy.{LentProxy}

-- the proxy that a lent one stands for
abbrev pub lent_view : LentProxy → Proxy
lent_view lent = record {
  name = lent.name.now;
  listen = lent.listen.now;
  upstream = lent.upstream.now;
  enabled = lent.enabled;
}

-- a proxy in the place of the first one of its name, or last where none has it
abbrev pub put : Proxy → List Proxy → List Proxy
put p [] = p ∷ []
put p (q ∷ qs) = if is_named p.name q then p ∷ qs else q ∷ put p qs
