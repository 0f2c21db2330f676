-- Why nothing is served, and what the book keeps of a link.
use Rattle.std.proofs.Common.{◌≡◌, true, false, List, Result, Ok, Err, sym}
use Rattle.std.specs.List.{Contains}
use Rattle.tox_config.specs.Proxy.{Proxy}
use Rattle.tox_link.specs.book.Links.{MakesChange}
use Rattle.tox_link.specs.declared.book.sides.Link.{Link}
use Rattle.tox_link.specs.declared.book.BookFault.{BookFault}
use Rattle.tox_serve.specs.link.LinkEnds.{left_by}
use Rattle.tox_serve.specs.Serving.{HasServeCause, IsListenFault}
use Rattle.tox_serve.specs.declared.fault.ServeFault.{ServeFault}
use Rattle.tox_serve.specs.declared.fault.ServeFault.TheVariants.{ListenRefused, ReadyRefused, SpawnRefused, OutOfMemory}

-- an address of one of the proxies, which is enabled, wasn't bound
pub cause_of : (proxies : List Proxy) (proxy : Proxy) (fault : ServeFault) → Contains proxies proxy → proxy.enabled ≡ true
    → IsListenFault proxy fault → HasServeCause proxies false fault
cause_of proxies proxy (ListenRefused name errno) listed enabled named =
    record { proxy = proxy; listed = listed; enabled = enabled; named = sym named }
cause_of proxies proxy (ReadyRefused errno) listed enabled none = absurd none
cause_of proxies proxy SpawnRefused listed enabled none = tt
cause_of proxies proxy OutOfMemory listed enabled refused = tt

-- the links as a change leaves them
pub left : (old : List Link) (answer : Result (Unit {0}) BookFault) (new : List Link) (change : Result (List Link) BookFault)
    → MakesChange old answer new change → new ≡ left_by old change
left old answer new (Ok links) made = made.1
left old answer new (Err fault) kept = kept.1
