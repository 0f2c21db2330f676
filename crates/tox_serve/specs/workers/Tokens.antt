-- The numbers of tokens.
use Rattle.std.specs.Prelude.{ℕ, ◌+◌, ◌*◌, ◌<◌, ◌^◌}
use Rattle.tox_serve.specs.declared.workers.link_key.LinkKey.{LinkKey}
use Rattle.tox_serve.specs.declared.workers.subject.Subject.{Subject}
use Rattle.tox_serve.specs.declared.workers.subject.Subject.TheVariants.{Client, Server, Listener, Waker}

-- the generation of a link in the upper half, and its slot below it, without the last two bits
abbrev pub key_number : LinkKey → ℕ
key_number key = key.generation * 2 ^ 32 + key.slot * 4

-- the last two bits tell the client, the server and a listener of a slot, and the waker
abbrev pub token_number : Subject → ℕ
token_number (Client key) = key_number key
token_number (Server key) = key_number key + 1
token_number (Listener place) = place * 4 + 2
token_number Waker = 3

-- a key whose slot fits
pub record HasNumber (key : LinkKey) : Type 0 where
  pub slot : key.slot < 2 ^ 30
  pub generation : key.generation < 2 ^ 32

-- what has a token of its own
abbrev pub HasToken : Subject → Type 0
HasToken (Client key) = HasNumber key
HasToken (Server key) = HasNumber key
HasToken (Listener place) = place < 2 ^ 30
HasToken Waker = Unit {0}
