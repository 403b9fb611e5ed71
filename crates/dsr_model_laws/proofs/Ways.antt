-- Ways along a list of arcs between nodes, decided by taking out one arc after the other: a way either avoids the
-- first arc, or leads to its start and on from its end.
use Rattle.std.proofs.Common.{◌≡◌, List, [], ◌∷◌, ◌⊎◌, inl, inr, Option, None, Some, refl, ap, subst}
use Rattle.dsr_meaning.specs.Counting.{IsIn}
use Rattle.dsr_model_laws.specs.Deciding.{IsDecided}

-- the arc's end follows from its start, or from nothing
abbrev pub Arc : Type 0 → Type 0
Arc Fact = Option Fact × Fact

abbrev pub Way : {Fact : Type 0} → List (Arc Fact) → Option Fact → Option Fact → Type 0
Way [] a b = a ≡ b
Way (arc ∷ arcs) a b = Way arcs a b ⊎ (Way arcs a arc.0 × Way arcs (Some arc.1) b)

-- what holds of the fact, if there is one
abbrev pub At : {Fact : Type 0} → (Fact → Type 0) → Option Fact → Type 0
At D None = Unit {0}
At D (Some fact) = D fact

pub both : {A B : Type 0} → IsDecided A → IsDecided B → IsDecided (A × B)
both (inl a) (inl b) = inl (a, b)
both (inl a) (inr n) = inr (λ p. n p.1)
both (inr n) d = inr (λ p. n p.0)

pub either : {A B : Type 0} → IsDecided A → IsDecided B → IsDecided (A ⊎ B)
either (inl a) d = inl (inl a)
either (inr n) (inl b) = inl (inr b)
either {A} {B} (inr n) (inr m) = inr (λ p. elim p as (λ _. ⊥) [ inl a ↦ n a | inr b ↦ m b ])

pub by_logic : {A B : Type 0} → (A → B) → (B → A) → IsDecided A → IsDecided B
by_logic f g (inl a) = inl (f a)
by_logic f g (inr n) = inr (λ b. n (g b))

-- equality is decided, of facts and so of nodes
abbrev pub AreCompared : Type 0 → Type 0
AreCompared Fact = (a b : Fact) → IsDecided (a ≡ b)

nodes : {Fact : Type 0} → AreCompared Fact → AreCompared (Option Fact)
nodes same None None = inl refl
nodes same None (Some b) = inr (λ (e : None ≡ Some b). absurd cc)
nodes same (Some a) None = inr (λ (e : Some a ≡ None). absurd cc)
nodes same (Some a) (Some b) = by_logic (λ e. ap Some e) (λ (e : Some a ≡ Some b). let q : a ≡ b = cc in q) (same a b)

module _ {Fact : Type 0} where
  pub way_decided : AreCompared Fact → (arcs : List (Arc Fact)) (a b : Option Fact) → IsDecided (Way arcs a b)
  way_decided same [] a b = nodes same a b
  way_decided same (arc ∷ arcs) a b = either (way_decided same arcs a b) (both (way_decided same arcs a arc.0) (way_decided same arcs (Some arc.1) b))

  pub here : (arcs : List (Arc Fact)) (a : Option Fact) → Way arcs a a
  here [] a = refl
  here (arc ∷ arcs) a = inl (here arcs a)

  -- one arc more at the end
  pub further : (arcs : List (Arc Fact)) (a p : Option Fact) (q : Fact) → Way arcs a p → IsIn (p, q) arcs → Way arcs a (Some q)
  further [] a p q w i = absurd i
  further (arc ∷ arcs) a p q (inl w) (inl e) = inr (subst (λ (x : Arc Fact). Way arcs a x.0 × Way arcs (Some x.1) (Some q)) e (w, here arcs (Some q)))
  further (arc ∷ arcs) a p q (inr w) (inl e) = inr (w.0, subst (λ (x : Arc Fact). Way arcs (Some x.1) (Some q)) e (here arcs (Some q)))
  further (arc ∷ arcs) a p q (inl w) (inr i) = inl (further arcs a p q w i)
  further (arc ∷ arcs) a p q (inr w) (inr i) = inr (w.0, further arcs (Some arc.1) p q w.1 i)

  -- what each arc carries from its start to its end, a way does
  pub carried : (D : Fact → Type 0) (arcs : List (Arc Fact)) → ((p : Option Fact) (q : Fact) → IsIn (p, q) arcs → At D p → D q) → (a b : Option Fact) → Way arcs a b → At D a → At D b
  carried D [] closed a b w d = subst (At D) w d
  carried D (arc ∷ arcs) closed a b (inl w) d = carried D arcs (λ p q i. closed p q (inr i)) a b w d
  carried D (arc ∷ arcs) closed a b (inr w) d =
      let rest : (p : Option Fact) (q : Fact) → IsIn (p, q) arcs → At D p → D q = λ p q i. closed p q (inr i) in
      carried D arcs rest (Some arc.1) b w.1 (closed arc.0 arc.1 (inl refl) (carried D arcs rest a arc.0 w.0 d))
