-- Facts at the ends of paths along listed arcs are decided and listed.
use Rattle.std.proofs.Common.{◌≡◌, Option, None, Some, refl}
use Rattle.dsr_model_laws.specs.Deciding.{IsDecided}
use Rattle.dsr_model_laws.proofs.Ways.{Arc, Way, At, AreCompared, by_logic, way_decided, here, further, carried}
use Rattle.dsr_model_laws.proofs.Listed.{IsListed, alike, each, those, one}

-- a path along arcs, from nothing
pub data Path {Fact : Type 0} (Leads : Arc Fact → Type 0) : Fact → Type 0 where
  first : {q : Fact} → Leads (None, q) → Path Leads q
  next : {p q : Fact} → Path Leads p → Leads (Some p, q) → Path Leads q

-- What is derived is carried along each arc, and is where a path leads.
pub record IsLeast {Fact : Type 0} (Leads : Arc Fact → Type 0) (D : Fact → Type 0) : Type 0 where
  pub closed : (p : Option Fact) (q : Fact) → Leads (p, q) → At D p → D q
  pub path : (q : Fact) → D q → Path Leads q

module _ {Fact : Type 0} (Leads : Arc Fact → Type 0) (D : Fact → Type 0) (same : AreCompared Fact) (arcs : IsListed Leads) (least : IsLeast Leads D) where
  on_way : {q : Fact} → Path Leads q → Way arcs.things None (Some q)
  on_way {q} (first l) = further arcs.things None None q (here arcs.things None) (arcs.all (None, q) l)
  on_way {q} (next {p} before l) = further arcs.things None (Some p) q (on_way before) (arcs.all (Some p, q) l)

  way_to : (q : Fact) → D q → Way arcs.things None (Some q)
  way_to q d = on_way (least.path q d)

  pub derived_decided : (q : Fact) → IsDecided (D q)
  derived_decided q =
      by_logic (λ w. carried D arcs.things (λ p r i. least.closed p r (arcs.only (p, r) i)) None (Some q) w tt) (way_to q) (way_decided same arcs.things None (Some q))

  -- what is derived stands at the end of an arc
  pub derived_listed : IsListed D
  derived_listed =
      alike (λ q. ((arc : Arc Fact) × Leads arc × (q ≡ arc.1)) × D q) D (λ q p. p.1)
      (λ q d. (carried (λ r. (arc : Arc Fact) × Leads arc × (r ≡ arc.1)) arcs.things (λ p r i _. ((p, r), arcs.only (p, r) i, refl)) None (Some q) (way_to q d) tt, d))
      (those (λ q. (arc : Arc Fact) × Leads arc × (q ≡ arc.1)) D (each Leads (λ arc q. q ≡ arc.1) arcs (λ arc _. one arc.1)) (λ q _. derived_decided q))
