-- Literals that are alike have one list.
use Rattle.std.proofs.Common.{◌≡◌, ℕ, Bool, [], List, Option, Some, sym, subst}
use Rattle.dsr_ir.specs.declared.constraints.Literal.{Literal}
use Rattle.dsr_ir.specs.declared.updates.Template.{Template}
use Rattle.dsr_plan_laws.proofs.Unique.{Listed, Tried}
use Rattle.dsr_graph_theory.specs.Lists.{AreListed, AreListedOf, AreTaken, all_of}
use Rattle.dsr_graph_theory.specs.Owners.{Owner}
use Rattle.dsr_update_theory.specs.Templates.{AreTemplates, KnownSets, TellsKnown, literal_at}
use Rattle.dsr_graph.specs.Kinds.{AreAlike}

module _ (owner : Owner) where
  -- the list of a literal is that of each one like it
  pub listed_alike : (conj place : ℕ) (l : Literal) (to to_place : ℕ) (m : Literal) (ts : List Template) → literal_at owner.constraint conj place ≡ Some l → literal_at owner.constraint to to_place ≡ Some m → AreAlike l m → AreListedOf owner conj place ts → AreListedOf owner to to_place ts
  listed_alike conj place l to to_place m ts is is_too alike listed =
      let its : AreListed owner conj place l.atom ts = subst (Listed owner conj place ts) is listed in
      let tried = subst (Tried owner its.tried) is its.are_tried in
      let as_well : Tried owner its.tried (Some m) = λ known tells.
      subst (λ n. AreTemplates owner.spec known owner.constraint.quant m.atom n its.tried) alike.negated
      (subst (λ a. AreTemplates owner.spec known owner.constraint.quant a l.negated its.tried) alike.atom (tried known tells)) in
      subst (Listed owner to to_place ts) (sym is_too) (record {
        tried = its.tried;
        are_tried = subst (Tried owner its.tried) (sym is_too) as_well;
        compensable = its.compensable;
        are_compensable = its.are_compensable;
        are_taken = subst (λ a. AreTaken owner a 64 [] (all_of its.compensable) ts) alike.atom its.are_taken;
      })
