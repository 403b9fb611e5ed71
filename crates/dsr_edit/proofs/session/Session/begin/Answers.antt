use Rattle.std.proofs.Common.{◌≡◌, true, false, nat_eq, length, subst, sym, ◌∙◌, map}
use Rattle.dsr_edit.proofs.Made.{layout_laid_out}
use Rattle.dsr_edit.proofs.Outcomes.{found_are, no_items, none_found, some_items}
use Rattle.dsr_meaning.specs.Consistency.{bound_constraint}
use Rattle.dsr_edit.proofs.session.Session.begin.Goals as goal

pub prepare-requires-clause-legal : goal.prepare-requires-clause-legal
prepare-requires-clause-legal c = (layout_laid_out c.args.spec.now c.args.layout.now c.args.image c.requires.image).legal

pub rebuild-requires-clause-laid_out : goal.rebuild-requires-clause-laid_out
rebuild-requires-clause-laid_out c = layout_laid_out c.args.spec.now c.args.layout.now c.args.image c.requires.image

pub returns-then-not-is_none-clause-refused : goal.returns-then-not-is_none-clause-refused
returns-then-not-is_none-clause-refused c = (found_are c.args.spec.now c.args.layout.now c.args.image c.rebuild.new.model c.rebuild.ensures.model c.rebuild.ensures.prepared (map bound_constraint c.in_ok-found.found.items) c.in_ok-found.ensures, some_items c.in_ok-found.found.items (subst (λ xs. nat_eq (length xs) 0 ≡ false) c.deref.ensures.value (sym c.is_none.ensures ∙ c.if-not-is_none.true)))

pub invariant_of-result : goal.invariant_of-result
invariant_of-result c = record {
  image = c.requires.image;
  consistent = none_found c.args.spec.now c.args.layout.now c.args.image c.in_ok-found.found.items (no_items c.in_ok-found.found.items (subst (λ xs. nat_eq (length xs) 0 ≡ true) c.deref.ensures.value (sym c.is_none.ensures ∙ c.if-not-is_none.false))) (found_are c.args.spec.now c.args.layout.now c.args.image c.rebuild.new.model c.rebuild.ensures.model c.rebuild.ensures.prepared (map bound_constraint c.in_ok-found.found.items) c.in_ok-found.ensures);
  rules = c.in_ok-rules.ensures;
  prepared = c.rebuild.ensures.prepared;
  model = c.rebuild.ensures.model;
}

pub returns-clause-consistent : goal.returns-clause-consistent
returns-clause-consistent c = none_found c.args.spec.now c.args.layout.now c.args.image c.in_ok-found.found.items (no_items c.in_ok-found.found.items (subst (λ xs. nat_eq (length xs) 0 ≡ true) c.deref.ensures.value (sym c.is_none.ensures ∙ c.if-not-is_none.false))) (found_are c.args.spec.now c.args.layout.now c.args.image c.rebuild.new.model c.rebuild.ensures.model c.rebuild.ensures.prepared (map bound_constraint c.in_ok-found.found.items) c.in_ok-found.ensures)
