-- What a repair saved is consistent by every check under the same specification.
use Rattle.std.proofs.Common.{◌≡◌, ℕ, true, List, Some, refl, sym, ap, subst, ◌∙◌}
use Rattle.std.proofs.lemmas.Option.{same_Some}
use Rattle.std.specs.Bool.{Decides}
use Rattle.std.specs.Cmp.Lexicographic.{nat_list_cmp_total, slice_cmp, texts_ties}
use Rattle.std.specs.FinMap.{get, get-insert, insert}
use Rattle.std.specs.Ordering.{eq_by_cmp, nat_cmp}
use Rattle.std.proofs.lemmas.Slice.Eq.{bytes_eq-Decides}
use Rattle.dsr_ir.specs.declared.declarations.Spec.{Spec}
use Rattle.dsr_ir.specs.declared.layouts.Layout.{Layout}
use Rattle.dsr_meaning.specs.Consistency.{IsConsistent}
use Rattle.dsr_meaning.specs.Refusals.{IsLayoutOf}
use Rattle.dsr_command_laws.specs.RepairHeadlines.{RepairsImages, RepairsLast}
use Rattle.dsr_command_laws.specs.Repairs.{WasRepaired}
use Rattle.dsr_script.specs.Outside.{Outside}
use Rattle.dsr_script.specs.declared.status.Status.{Status}
use Rattle.dsr_script.specs.declared.status.Verdict.TheVariants as verdicts
use Rattle.dsr_store.specs.Files.{Files, with_file}

-- a name is itself by the test of the map of files
is_itself : (name : List ℕ) → eq_by_cmp (slice_cmp nat_cmp) name name ≡ true
is_itself name =
    let decides : Decides (eq_by_cmp (slice_cmp nat_cmp) name name) (name ≡ name) =
    subst (λ test. Decides test (name ≡ name)) (texts_ties name name) (bytes_eq-Decides name name) in
    decides.1 refl

-- under the name stands what was saved
get_saved : (files saved : Files) (name bytes : List ℕ) → Some saved ≡ with_file (Some files) name bytes → get saved name ≡ Some bytes
get_saved files saved name bytes is =
    ap (λ f. get f name) (same_Some saved (insert files name bytes) is)
    ∙ get-insert nat_list_cmp_total files name bytes name ∙ rw (is_itself name) refl

-- a layout is one
same_layout : (spec : Spec) (bytes : List ℕ) (one other : Layout) → IsLayoutOf spec bytes one → IsLayoutOf spec bytes other → one ≡ other
same_layout spec bytes one other a b = same_Some one other (sym a.numbers ∙ b.numbers)

-- what was saved is consistent under every layout that it has
pub saved_consistent :
    (spec : Spec) (image name : List ℕ) (before after : Outside) (files saved : Files) → WasRepaired spec image name before after
    → before.held ≡ Some files → after.held ≡ Some saved → (new : List ℕ) (layout : Layout) → get saved name ≡ Some new
    → IsLayoutOf spec new layout → IsConsistent spec layout new
saved_consistent spec image name before after files saved was held now new layout stands laid_out =
    let there : get saved name ≡ Some was.new = get_saved files saved name was.new (sym now ∙ (was.saved.held ∙ ap (λ f. with_file f name was.new) held)) in
    let same : was.new ≡ new = same_Some was.new new (sym there ∙ stands) in
    let layout_same : was.layout ≡ layout = same_layout spec new was.layout layout (subst (λ b. IsLayoutOf spec b was.layout) same was.still) laid_out in
    subst (λ l. IsConsistent spec l new) layout_same (subst (IsConsistent spec was.layout) same was.consistent)

pub repairs_last : (words : List (List ℕ)) (before after : Outside) (status : Status) → RepairsImages words before after status → RepairsLast words before after status
repairs_last words before after status repairs files saved spec image name held now said is others layout new check same first last verdict on =
    let was = (repairs files spec image name verdicts.Ok held said is).repaired refl in
    on.ok.1 (saved_consistent spec image name before after files saved was held now new layout (subst (λ n. get saved n ≡ Some new) same check.image_file) check.laid_out)
