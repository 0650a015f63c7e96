-- The compass of a place: each direction exactly where such an elevator exists.
use Rattle.std.proofs.Common.{◌≡◌, ℕ, ◌*◌, ◌<◌, Bool, ◌&&◌, eqb, ltb, List, length, get_or, Decides, sym, refl, subst, Contains, All}
use Rattle.std.specs.List.{HoldsAt, list_any}
use Rattle.std.proofs.lemmas.List.Elements.{Contains-get_or, at_from_Contains}
use Rattle.std.proofs.lemmas.Bool.Decides.{Decides-and, Decides-by_or, Decides-eqb, Decides-like, Decides-ltb}
use Rattle.mesh.specs.declared.grid.Place.{Place}
use Rattle.mesh.specs.Halves.{pack}
use Rattle.mesh.proofs.Masks.{pack_small}
use Rattle.routing_laws.specs.Elevators.{origin}
use Rattle.routing_laws.specs.Optimistic.{Compass, compass, open_half}
use Rattle.routing_laws.proofs.Safe.{places_long, places_small}

-- some place passes a test exactly where one exists
any_decides : (test : Place → Bool) (P : Place → Type 0) → ((e : Place) → Decides (test e) (P e)) → (es : List Place) → Decides (list_any test es) ((e : Place) × Contains es e × P e)
any_decides test P each es =
    Decides-like (list_any test es)
    (λ (w : (k : ℕ) × (k < length es) × HoldsAt P es k). (get_or es w.0 origin, Contains-get_or es w.0 origin w.1, w.2 origin))
    (λ (w : (e : Place) × Contains es e × P e). let at = at_from_Contains es w.0 w.1 in (at.0, at.1, λ d. subst P (sym (at.2 d)) w.2))
    (Decides-by_or test P (list_any test) each refl (λ _ _. refl) es)

pub compass_is : (es : List Place) (p : Place) → Compass es p (compass es p)
compass_is es p = record {
  north_is = any_decides (λ e. eqb e.x p.x && ltb p.y e.y) (λ e. (e.x ≡ p.x) × (p.y < e.y)) (λ e. Decides-and _ _ (Decides-eqb e.x p.x) (Decides-ltb p.y e.y)) es;
  east_is = any_decides (λ e. ltb p.x e.x) (λ e. p.x < e.x) (λ e. Decides-ltb p.x e.x) es;
  south_is = any_decides (λ e. eqb e.x p.x && ltb e.y p.y) (λ e. (e.x ≡ p.x) × (e.y < p.y)) (λ e. Decides-and _ _ (Decides-eqb e.x p.x) (Decides-ltb e.y p.y)) es;
  west_is = any_decides (λ e. ltb e.x p.x) (λ e. e.x < p.x) (λ e. Decides-ltb e.x p.x) es;
}

pub open_long : (w h : ℕ) (es : List Place) → length (open_half w h es) ≡ w * h
open_long w h es = places_long (λ p. pack (compass es p)) w h

pub open_small : (w h : ℕ) (es : List Place) → All (λ v. v < 16) (open_half w h es)
open_small w h es = places_small (λ p. pack (compass es p)) w h (λ p. pack_small (compass es p))
