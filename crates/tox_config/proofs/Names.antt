-- What it tells that a proxy has a name.
use Rattle.std.proofs.Common.{◌≡◌, ℕ, Bool, true, false, true≢false, List, refl, sym, ap, ◌∙◌}
use Rattle.std.specs.Str.{bytes_eq}
use Rattle.std.proofs.lemmas.Bool.Decides.{same_from_decides, Decides-like}
use Rattle.std.proofs.lemmas.Slice.Eq.{bytes_eq-Decides}
use Rattle.tox_config.specs.Proxy.{Proxy}
use Rattle.tox_config.specs.Populate.{is_named}

-- a proxy that is named so has that name
pub name-is_named : (name : List ℕ) (p : Proxy) → is_named name p ≡ true → p.name ≡ name
name-is_named name p named = (bytes_eq-Decides p.name name).0 named

-- a proxy has its own name
pub is_named-itself : (p : Proxy) → is_named p.name p ≡ true
is_named-itself p = (bytes_eq-Decides p.name p.name).1 refl

-- whether two proxies have one name says the same of either
pub is_named-sym : (p q : Proxy) → is_named p.name q ≡ is_named q.name p
is_named-sym p q =
    same_from_decides (bytes_eq q.name p.name) (bytes_eq p.name q.name) (bytes_eq-Decides q.name p.name)
    (Decides-like (bytes_eq p.name q.name) (λ e. sym e) (λ e. sym e) (bytes_eq-Decides p.name q.name))

-- proxies of one name have the same names
pub is_named-same : (name : List ℕ) (p q : Proxy) → p.name ≡ q.name → is_named name p ≡ is_named name q
is_named-same name p q same = ap (λ n. bytes_eq n name) same

-- a proxy that has a name lacks another's
pub is_named-other : (name : List ℕ) (p q : Proxy) → is_named name p ≡ false → is_named name q ≡ true → is_named p.name q ≡ false
is_named-other name p q other named = at (is_named p.name q) refl
  where
    at : (b : Bool) → is_named p.name q ≡ b → is_named p.name q ≡ false
    at true is = absurd (true≢false (sym ((bytes_eq-Decides p.name name).1 (sym (name-is_named p.name q is) ∙ name-is_named name q named)) ∙ other))
    at false is = is
