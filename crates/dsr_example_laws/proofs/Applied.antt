-- Four constraints of which an update is applied, by one step each.
use Rattle.std.proofs.Common.{◌≡◌, ℕ, false, List, [], ◌∷◌, None, Some, inl, refl, slice_get}
use Rattle.dsr_step_laws.proofs.Choosing.{step_of}
use Rattle.dsr_step_laws.proofs.Given.{image, slot}
use Rattle.dsr_step_laws.proofs.Putting.{puts_byte_2, puts_byte_5}
use Rattle.dsr_step_laws.proofs.Stepping.{joined, unmarked, zero_one}
use Rattle.dsr_step_laws.proofs.Tried.{plain, template_of}
use Rattle.dsr_step_laws.proofs.Violated.{literal_of}
use Rattle.dsr_repair_theory.specs.Applications.{FactsHold}
use Rattle.dsr_repair_theory.specs.Choices.{IsChosen}
use Rattle.dsr_repair_theory.specs.Choices.IsUpdateAt.{adds}
use Rattle.dsr_example_laws.proofs.Facts.{IsTrueNow, first_in_c, first_mark, first_value, in_a, in_p}
use Rattle.dsr_example_laws.proofs.Given.{constraints, layout, numbered, sharing}
use Rattle.dsr_example_laws.proofs.Holding.{other_number, uses_apart, uses_both_at_5, uses_both_at_7, uses_nothing, violated_where}
use Rattle.dsr_example_laws.proofs.Placed.{image_is}
use Rattle.dsr_example_laws.proofs.Tables.{assign, mark, mark_write, one_zero}
use Rattle.dsr_ir.specs.declared.constraints.Atom.TheVariants as atoms
use Rattle.dsr_ir.specs.declared.constraints.Bound.TheVariants as bounds
use Rattle.dsr_ir.specs.declared.constraints.Quant.{Quant}
use Rattle.dsr_ir.specs.declared.constraints.Quant.TheVariants.{Each, Pairs}
use Rattle.dsr_ir.specs.declared.constraints.Var.{Var}
use Rattle.dsr_ir.specs.declared.constraints.Var.TheVariants.{First, Second}
use Rattle.dsr_ir.specs.declared.rules.Op.TheVariants.{Eq}
use Rattle.dsr_ir.specs.declared.tuples.Binding.{Binding}
use Rattle.dsr_ir.specs.declared.tuples.Binding.TheVariants as bindings
use Rattle.dsr_ir.specs.declared.updates.Goal.TheVariants.{SetValue}
use Rattle.dsr_ir.specs.declared.updates.Pick.TheVariants as picks
use Rattle.dsr_ir.specs.declared.updates.Template.{Template}
use Rattle.dsr_meaning.specs.Consistency.{IsBinding}
use Rattle.dsr_meaning.specs.Truth.{LiteralHolds, element_of, head}
use Rattle.dsr_step_laws.proofs.Beside.{one_together}
use Rattle.dsr_step_theory.specs.Resets.{byte_cell}
use Rattle.dsr_step_theory.specs.Steps.{IsStepped}
use Rattle.dsr_step_theory.specs.Steps.AreWritten.{done, made}
use Rattle.dsr_step_theory.specs.declared.steps.Step.{Step}
use Rattle.dsr_template_laws.proofs.ListedTemplates.{tried_at}
use Rattle.dsr_template_laws.specs.Judging.{Application, owner_of}
use Rattle.dsr_template_laws.specs.Tried.{IsTried}
use Rattle.dsr_update_theory.specs.Templates.{AreRawOf}

-- ---- v.value := 0, where v is slot 0

abbrev pub assigned : Var → Template
assigned v = template_of SetValue (assign v ∷ [])

abbrev pub assigning_step : ℕ → Binding → Step
assigning_step n b = step_of n b 6 (slot 0) None 0

module _ (n : ℕ) (name : List ℕ) (quant : Quant) (v : Var) (b : Binding) (declared : slice_get constraints n ≡ Some (numbered name quant v 2 0))
    (bound : IsBinding IsTrueNow quant b) (at : element_of b v ≡ Some (slot 0)) (facts_hold : FactsHold sharing layout image n) where
  pub is_false : LiteralHolds IsTrueNow b (literal_of (atoms.Value v 2 Eq (bounds.Num 0)) false) → ⊥
  is_false = other_number b v (slot 0) 2 0 1 at first_value one_zero

  pub chosen : IsChosen sharing layout image (atoms.Value v 2 Eq (bounds.Num 0)) (assigned v) (assigning_step n b) (assign v)
  chosen = record { stopped = None; update_is = adds (assign v) tt refl; rule = refl; place = at; entry = refl; number = refl; fresh = refl }

  pub stepped : IsStepped sharing layout (assigning_step n b) (assign v) image unmarked
  stepped = record { between = image; reset = refl; written = made (plain 1 0 (picks.Num 0)) (byte_cell 5) 0 refl refl one_zero puts_byte_5 done }

  abbrev pub assignment : Application
  assignment = record {
    spec = sharing;
    template = assigned v;
    update = assign v;
    layout = layout;
    step = assigning_step n b;
    old = image;
    new = unmarked;
    applied = record {
      image = image_is;
      violated = violated_where n name quant (atoms.Value v 2 Eq (bounds.Num 0)) false b declared bound is_false;
      facts_hold = facts_hold;
      literal = literal_of (atoms.Value v 2 Eq (bounds.Num 0)) false;
      literal_is = refl;
      is_false = is_false;
      chosen = chosen;
      stepped = stepped;
    };
  }

  pub assignment_tried : AreRawOf sharing (numbered name quant v 2 0) 0 0 (assigned v ∷ []) → IsTried assignment
  assignment_tried raw = record {
    tried = tried_at (owner_of assignment) 0 0 0 (literal_of (atoms.Value v 2 Eq (bounds.Num 0)) false) (assigned v) (assigned v ∷ []) (assign v) refl raw (inl refl) refl;
    may = record { writes = one_together _ _; fresh = tt };
  }

-- x in C : x.V = 0, <h, y> in P : y.V = 0, x in A : x.V = 0
abbrev pub assignment_each : Application
assignment_each = assignment 0 _ (Each 2) First (bindings.Each (slot 0)) refl first_in_c refl uses_nothing

abbrev pub assignment_left : Application
assignment_left = assignment 2 _ (Pairs 0) Second (bindings.Pair head (slot 0)) refl in_p refl uses_apart

abbrev pub assignment_here : Application
assignment_here = assignment 5 _ (Each 0) First (bindings.Each (slot 0)) refl in_a refl uses_both_at_5

pub tried_each : IsTried assignment_each
tried_each = assignment_tried 0 _ (Each 2) First (bindings.Each (slot 0)) refl first_in_c refl uses_nothing (λ known tells. refl)

pub tried_left : IsTried assignment_left
tried_left = assignment_tried 2 _ (Pairs 0) Second (bindings.Pair head (slot 0)) refl in_p refl uses_apart (λ known tells. refl)

pub tried_here : IsTried assignment_here
tried_here = assignment_tried 5 _ (Each 0) First (bindings.Each (slot 0)) refl in_a refl uses_both_at_5 (λ known tells. refl)

-- ---- head.marks[x] := 1, where x is slot 0

abbrev pub marked : Template
marked = template_of SetValue (mark ∷ [])

abbrev pub marking_step : Step
marking_step = step_of 7 (bindings.Each (slot 0)) 7 head None 0

pub unmarked_now : LiteralHolds IsTrueNow (bindings.Each (slot 0)) (literal_of (atoms.Value First 3 Eq (bounds.Num 1)) false) → ⊥
unmarked_now = other_number (bindings.Each (slot 0)) First (slot 0) 3 1 0 refl first_mark zero_one

pub chosen_mark : IsChosen sharing layout image (atoms.Value First 3 Eq (bounds.Num 1)) marked marking_step mark
chosen_mark = record { stopped = None; update_is = adds mark tt refl; rule = refl; place = refl; entry = refl; number = refl; fresh = refl }

pub stepped_mark : IsStepped sharing layout marking_step mark image joined
stepped_mark = record { between = image; reset = refl; written = made mark_write (byte_cell 2) 1 refl refl zero_one puts_byte_2 done }

abbrev pub marking : Application
marking = record {
  spec = sharing;
  template = marked;
  update = mark;
  layout = layout;
  step = marking_step;
  old = image;
  new = joined;
  applied = record {
    image = image_is;
    violated = violated_where 7 _ (Each 0) (atoms.Value First 3 Eq (bounds.Num 1)) false (bindings.Each (slot 0)) refl in_a unmarked_now;
    facts_hold = uses_both_at_7;
    literal = literal_of (atoms.Value First 3 Eq (bounds.Num 1)) false;
    literal_is = refl;
    is_false = unmarked_now;
    chosen = chosen_mark;
    stepped = stepped_mark;
  };
}

tried_marking : AreRawOf sharing marking.applied.violated.constraint 0 0 (marked ∷ [])
tried_marking known tells = refl

pub marking_tried : IsTried marking
marking_tried = record {
  tried = tried_at (owner_of marking) 0 0 0 marking.applied.literal marked (marked ∷ []) mark refl tried_marking (inl refl) refl;
  may = record { writes = one_together _ _; fresh = tt };
}
