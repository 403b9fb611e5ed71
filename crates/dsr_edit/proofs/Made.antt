-- A group of writes that is made leaves an image on the same layout, which differs only in the cells
-- of the fields that it writes.
use Rattle.std.proofs.Common.{◌≡◌, ◌∙◌, ℕ, false, List, [], ◌∷◌, length, map, IsSomeAnd, Some, inl, inr, refl, sym, ap, subst}
use Rattle.dsr_affected_laws.proofs.Keeping.{layout_stays}
use Rattle.dsr_affected_laws.proofs.Writing.{more_differ, none_differ, one_differs}
use Rattle.dsr_affected_laws.specs.Differing.{AreAlikeBut, AreFree, DifferOnlyIn}
use Rattle.dsr_edit.proofs.Entries.{cell_at}
use Rattle.dsr_edit.specs.Edits.{AreMade, MayWriteSome, entry_of}
use Rattle.dsr_edit.specs.Edits.AreMade.{done, made}
use Rattle.dsr_edit.specs.declared.groups.CellWrite.{CellWrite}
use Rattle.dsr_ir.specs.declared.declarations.Field.{Field}
use Rattle.dsr_ir.specs.declared.declarations.FieldRef.{FieldRef}
use Rattle.dsr_ir.specs.declared.declarations.Spec.{Spec}
use Rattle.dsr_ir.specs.declared.layouts.Layout.{Layout}
use Rattle.dsr_meaning.specs.Counting.{IsIn}
use Rattle.dsr_meaning.specs.Instances.{declared_field}
use Rattle.dsr_meaning.specs.Writes.{AreBytes}
use Rattle.dsr_resolve.proofs.AcceptedLayouts.{legal_of}
use Rattle.dsr_step_theory.specs.Images.{IsImageOf}
use Rattle.dsr_fixpoint.specs.Models.{IsLaidOut}

pub layout_laid_out : (spec : Spec) (layout : Layout) (bytes : List ℕ) → IsImageOf spec layout bytes → IsLaidOut spec layout bytes
layout_laid_out spec layout bytes image = record {
  typed = image.typed;
  layout_is = image.layout_is;
  legal = legal_of spec bytes layout image.layout_is image.typed image.small;
  small = image.small;
}

module _ (spec : Spec) (layout : Layout) where
  pub each_may : (group : List CellWrite) (old new : List ℕ) → AreMade spec layout group old new → (write : CellWrite) → IsIn write group → MayWriteSome spec layout write
  each_may [] old new m write among = absurd among
  each_may (w ∷ group) old new (made {middle = m} its cell may one rest) write (inl same) = subst (MayWriteSome spec layout) (sym same) (cell, may)
  each_may (w ∷ group) old new (made {middle = m} its cell may one rest) write (inr later) = each_may group m new rest write later

  pub as_long : (group : List CellWrite) (old new : List ℕ) → AreMade spec layout group old new → length new ≡ length old
  as_long [] old new done = refl
  as_long (w ∷ group) old new (made {middle = m} its cell may one rest) = as_long group m new rest ∙ one.puts.length

  pub are_bytes : (group : List CellWrite) (old new : List ℕ) → AreMade spec layout group old new → AreBytes old → AreBytes new
  are_bytes [] old new done bytes = bytes
  are_bytes (w ∷ group) old new (made {middle = m} its cell may one rest) bytes = are_bytes group m new rest one.bytes

  module _ (first : List ℕ) (image : IsImageOf spec layout first) (fields : List FieldRef) where
    pub differ : (group : List CellWrite) (old new : List ℕ) → ((w : CellWrite) → IsIn w group → IsIn w.field fields) → AreMade spec layout group old new → DifferOnlyIn spec layout fields old new
    differ [] old new among done = none_differ spec layout fields old
    differ (w ∷ group) old new among (made {middle = m} its cell may one rest) =
        more_differ spec layout fields old m new
        (one_differs spec layout fields w.elem w.field (entry_of w) cell old m (among w (inl refl)) (cell_at spec first layout image.layout_is image.typed w cell may) one.puts.others)
        (differ group m new (λ v is. among v (inr is)) rest)

in_mapped : (group : List CellWrite) (field : FieldRef) → IsIn field (map (λ (w : CellWrite). w.field) group) → (w : CellWrite) × IsIn w group × (field ≡ w.field)
in_mapped [] field among = absurd among
in_mapped (w ∷ group) field (inl same) = (w, inl refl, same)
in_mapped (w ∷ group) field (inr later) = let s = in_mapped group field later in (s.0, inr s.1, s.2)

mapped_in : (group : List CellWrite) (w : CellWrite) → IsIn w group → IsIn w.field (map (λ (v : CellWrite). v.field) group)
mapped_in [] w among = absurd among
mapped_in (v ∷ group) w (inl same) = inl (ap (λ (u : CellWrite). u.field) same)
mapped_in (v ∷ group) w (inr later) = inr (mapped_in group w later)

-- a group that is made, on an image
module _ (spec : Spec) (layout : Layout) (old new : List ℕ) (image : IsImageOf spec layout old) (group : List CellWrite) (m : AreMade spec layout group old new) where
  abbrev pub fields : List FieldRef
  fields = map (λ (w : CellWrite). w.field) group

  pub alike : AreAlikeBut spec layout fields old new
  alike = record {
    image = image;
    new_bytes = are_bytes spec layout group old new m image.bytes;
    differ = differ spec layout old image fields group old new (mapped_in group) m;
  }

  free : AreFree spec fields
  free field among =
      let s = in_mapped group field among in
      let may = each_may spec layout group old new m s.0 s.1 in
      let is : declared_field spec.base field ≡ Some may.1.field = ap (declared_field spec.base) s.2 ∙ may.1.names.is_field.declared in
      subst (λ o. IsSomeAnd o (λ (f : Field). f.fixed ≡ false)) (sym is) may.1.free

  pub image_stays : IsImageOf spec layout new
  image_stays = layout_stays spec layout fields old new alike free (as_long spec layout group old new m)
