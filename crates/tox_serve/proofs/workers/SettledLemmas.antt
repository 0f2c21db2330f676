-- A link that was taken out of its place and settled.
use Rattle.std.specs.declared.alloc.Global.{Global}
use Rattle.std.proofs.Common.{◌≡◌, ℕ, nat_eq, Bool, true, false, Option, None, Some, refl, sym, ◌∙◌}
use Rattle.std.specs.Prelude.{Box, IfSome}
use Rattle.slab.specs.Slab.{Slab, Updates, get}
use Rattle.tox_serve.specs.declared.link.end.LinkEnd.{LinkEnd}
use Rattle.tox_serve.specs.declared.workers.link_key.LinkKey.{LinkKey}
use Rattle.tox_serve.specs.declared.workers.link_state.LinkState.{LinkState}
use Rattle.tox_serve.specs.declared.workers.link_state.LinkState.TheVariants.{Open}
use Rattle.tox_serve.specs.declared.workers.links.Place.{Place}
use Rattle.tox_serve.specs.declared.workers.open_link.OpenLink.{OpenLink}
use Rattle.tox_serve.specs.workers.OpenLinks.{end_of}
use Rattle.tox_serve.specs.workers.Places.{link_state_of, with_link_state}
use Rattle.tox_serve.specs.workers.Settled.{IsSettled, open_at, open_of, settled_place}

module _ {R : Type 0} where
  by_generation : (end : Option LinkEnd) (generation : ℕ) (link : Box (OpenLink R) Global) (place : Place R) (same : Bool)
      → nat_eq place.generation generation ≡ same
      → settled_place end generation link (with_link_state generation None (Some place)) ≡ settled_place end generation link (Some place)
  by_generation None generation link place true is = simp is
  by_generation None generation link place false is = simp is
  by_generation (Some end) generation link place true is = simp is
  by_generation (Some end) generation link place false is = simp is

  -- what a place has once a link of it was taken and settled
  settled_place-taken : (end : Option LinkEnd) (generation : ℕ) (link : Box (OpenLink R) Global) (place : Option (Place R))
      → settled_place end generation link (with_link_state generation None place) ≡ settled_place end generation link place
  settled_place-taken None generation link None = refl
  settled_place-taken (Some end) generation link None = refl
  settled_place-taken end generation link (Some place) = by_generation end generation link place (nat_eq place.generation generation) refl

  settled_after_take : (key : LinkKey) (link : Box (OpenLink R) Global) (old between new : Slab (Place R))
      → Updates old between key.slot (with_link_state key.generation None (get old key.slot)) → IsSettled key link between new → IsSettled key link old new
  settled_after_take key link old between new takes settles = record {
    changed = rw (takes.changed, settled_place-taken (end_of link.value) key.generation link (get old key.slot)) at settles.changed;
    others = λ other differs. settles.others other differs ∙ takes.others other differs;
  }

  IfSome-open_of : (state : Option (LinkState R)) (link : Box (OpenLink R) Global) (P : Box (OpenLink R) Global → Type 0) → state ≡ Some (Open link)
      → P link → IfSome (open_of state) P
  IfSome-open_of state link P is holds = rw is holds

  -- an open link was taken out of its place, changed, and settled
  pub settled-open : (key : LinkKey) (link changed : Box (OpenLink R) Global) (old between new : Slab (Place R)) (P : Box (OpenLink R) Global → Type 0)
      → Some (Open link) ≡ link_state_of key.generation (get old key.slot)
      → Updates old between key.slot (with_link_state key.generation None (get old key.slot))
      → IsSettled key changed between new → (IsSettled key changed old new → P link) → IfSome (open_at key old) P
  settled-open key link changed old between new P is takes settles holds =
      IfSome-open_of (link_state_of key.generation (get old key.slot)) link P (sym is) (holds (settled_after_take key changed old between new takes settles))
