-- A field that a typed path reads of the record in pool 0 is one of the head's structure or of an ancestor of that.
use Rattle.std.proofs.Common.{◌≡◌, ◌∙◌, sym, subst}
use Rattle.dsr_ir.specs.declared.declarations.Spec.{Spec}
use Rattle.dsr_ir.specs.declared.rules.Path.{Path}
use Rattle.dsr_ir.specs.declared.rules.Rule.{Rule}
use Rattle.dsr_ir.specs.declared.tuples.Element.{Element}
use Rattle.dsr_ir.specs.declared.updates.Write.{Write}
use Rattle.dsr_meaning.specs.Instances.{premise_pool}
use Rattle.dsr_meaning.specs.Typed.{Descends, IsTyped, IsTypedPath, IsTypedRule, premise_structure}
use Rattle.dsr_step_theory.specs.Images.{IsOfHead}
use Rattle.dsr_step_laws.proofs.HeadRules.{no_set}

module _ (spec : Spec) (typed : IsTyped spec) where
  -- a write to a typed path of a rule, in a record of the rule
  pub of_head : (rule : Rule) → IsTypedRule spec.base rule → (e : Element) → e.pool ≡ premise_pool spec rule → (path : Path) → IsTypedPath spec.base rule path → (write : Write) → write.path ≡ path → IsOfHead spec e write
  of_head rule of e in_pool path its write is_path in_head =
      let premise = no_set spec typed rule.premise of.premise (sym in_pool ∙ in_head) in
      let of_record = subst (λ o. Descends spec.base.structures (premise_structure spec.base o) path.field.structure) premise its.is_field.of_record in
      subst (λ (p : Path). Descends spec.base.structures spec.base.head p.field.structure) (sym is_path) of_record
