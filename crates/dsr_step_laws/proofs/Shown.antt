-- The examples: each update that is applied is of a template that is tried, and changes the model.
use Rattle.std.proofs.Common.{[], ◌∷◌, inl, inr, refl}
use Rattle.dsr_ir.specs.declared.tuples.Fact.TheVariants.{Member, Pair}
use Rattle.dsr_ir.specs.declared.tuples.Target.TheVariants.{Elem, Num}
use Rattle.dsr_ir.specs.declared.updates.Goal.{Goal}
use Rattle.dsr_ir.specs.declared.updates.Goal.TheVariants.{AddSet, RemoveSet, AddTuple, RemoveTuple, SetValue, Trim, Supply, ExactlyOne}
use Rattle.dsr_step_laws.specs.Examples.{Example}
use Rattle.dsr_step_laws.proofs.Applied.{applied_0, applied_1, applied_2, applied_3, applied_4, applied_5, applied_6, applied_7, applied_8}
use Rattle.dsr_step_laws.proofs.Changes.{gains_fresh, gains_member, gains_pair, gains_value, loses_marked, loses_pair, loses_second}
use Rattle.dsr_step_laws.proofs.Choosing.{step_0, step_1, step_2, step_3, step_4, step_5, step_6, step_7, step_8}
use Rattle.dsr_step_laws.proofs.Given.{example, image, layout, slot}
use Rattle.dsr_step_laws.proofs.Stepping.{joined, parted, supplied, trimmed, unmarked, valued}
use Rattle.dsr_step_laws.proofs.Tried.{assign, clear, cut, fill, join, mark, supply, template_of, unmark, templates_0, templates_1, templates_2, templates_3, templates_4, templates_5, templates_6, templates_7, templates_8, tried_0, tried_1, tried_2, tried_3, tried_4, tried_5, tried_6, tried_7, tried_8}

abbrev pub example_0 : Example AddSet
example_0 = record {
  spec = example;
  template = template_of AddSet (mark ∷ []);
  update = mark;
  layout = layout;
  step = step_0;
  old = image;
  new = valued;
  applied = applied_0;
  templates = templates_0;
  tried = tried_0;
  listed = inl refl;
  goal_is = refl;
  changed = (Member 1 (slot 0), inl gains_member);
}

abbrev pub example_1 : Example AddTuple
example_1 = record {
  spec = example;
  template = template_of AddTuple (join ∷ []);
  update = join;
  layout = layout;
  step = step_1;
  old = image;
  new = joined;
  applied = applied_1;
  templates = templates_1;
  tried = tried_1;
  listed = inl refl;
  goal_is = refl;
  changed = (Pair 0 (slot 0) (Elem (slot 0)), inl gains_pair);
}

abbrev pub example_2 : Example RemoveTuple
example_2 = record {
  spec = example;
  template = template_of RemoveTuple (cut ∷ []);
  update = cut;
  layout = layout;
  step = step_2;
  old = image;
  new = parted;
  applied = applied_2;
  templates = templates_2;
  tried = tried_2;
  listed = inl refl;
  goal_is = refl;
  changed = (Pair 0 (slot 1) (Elem (slot 1)), inr loses_pair);
}

abbrev pub example_3 : Example SetValue
example_3 = record {
  spec = example;
  template = template_of SetValue (assign ∷ []);
  update = assign;
  layout = layout;
  step = step_3;
  old = image;
  new = valued;
  applied = applied_3;
  templates = templates_3;
  tried = tried_3;
  listed = inl refl;
  goal_is = refl;
  changed = (Pair 1 (slot 0) (Num 1), inl gains_value);
}

abbrev pub example_4 : Example Trim
example_4 = record {
  spec = example;
  template = template_of Trim (clear 0 ∷ clear 1 ∷ []);
  update = clear 1;
  layout = layout;
  step = step_4;
  old = image;
  new = trimmed;
  applied = applied_4;
  templates = templates_4;
  tried = tried_4;
  listed = inl refl;
  goal_is = refl;
  changed = (Member 0 (slot 1), inr loses_second);
}

abbrev pub example_5 : Example Supply
example_5 = record {
  spec = example;
  template = template_of Supply (supply ∷ []);
  update = supply;
  layout = layout;
  step = step_5;
  old = image;
  new = supplied;
  applied = applied_5;
  templates = templates_5;
  tried = tried_5;
  listed = inl refl;
  goal_is = refl;
  changed = (Pair 0 (slot 0) (Elem (slot 2)), inl gains_fresh);
}

abbrev pub example_6 : Example ExactlyOne
example_6 = record {
  spec = example;
  template = template_of ExactlyOne (supply ∷ cut ∷ []);
  update = supply;
  layout = layout;
  step = step_6;
  old = image;
  new = supplied;
  applied = applied_6;
  templates = templates_6;
  tried = tried_6;
  listed = inl refl;
  goal_is = refl;
  changed = (Pair 0 (slot 0) (Elem (slot 2)), inl gains_fresh);
}

abbrev pub example_7 : Example ExactlyOne
example_7 = record {
  spec = example;
  template = template_of ExactlyOne (fill 0 ∷ clear 0 ∷ clear 1 ∷ []);
  update = clear 1;
  layout = layout;
  step = step_7;
  old = image;
  new = trimmed;
  applied = applied_7;
  templates = templates_7;
  tried = tried_7;
  listed = inl refl;
  goal_is = refl;
  changed = (Member 0 (slot 1), inr loses_second);
}

abbrev pub example_8 : Example RemoveSet
example_8 = record {
  spec = example;
  template = template_of RemoveSet (unmark ∷ []);
  update = unmark;
  layout = layout;
  step = step_8;
  old = image;
  new = unmarked;
  applied = applied_8;
  templates = templates_8;
  tried = tried_8;
  listed = inl refl;
  goal_is = refl;
  changed = (Member 1 (slot 1), inr loses_marked);
}

-- one for each goal
pub each_goal : (goal : Goal) → Example goal
each_goal AddSet = example_0
each_goal RemoveSet = example_8
each_goal AddTuple = example_1
each_goal RemoveTuple = example_2
each_goal SetValue = example_3
each_goal Trim = example_4
each_goal Supply = example_5
each_goal ExactlyOne = example_6
