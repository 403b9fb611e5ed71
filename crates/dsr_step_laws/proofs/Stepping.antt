-- The steps of the examples, and the images after them.
use Rattle.std.proofs.Common.{◌≡◌, ℕ, true, false, List, set, refl, arith}
use Rattle.dsr_ir.specs.declared.constraints.Var.TheVariants.{First}
use Rattle.dsr_ir.specs.declared.updates.Pick.TheVariants.{Num, NoneCode, CodeOf, Fresh}
use Rattle.dsr_step_theory.specs.Resets.{byte_cell}
use Rattle.dsr_step_theory.specs.Steps.{IsStepped}
use Rattle.dsr_step_theory.specs.Steps.AreWritten.{done, made}
use Rattle.dsr_step_laws.proofs.Choosing.{step_0, step_1, step_2, step_3, step_4, step_5, step_6, step_7, step_8}
use Rattle.dsr_step_laws.proofs.Given.{example, image, layout}
use Rattle.dsr_step_laws.proofs.Putting.{puts_byte_1, puts_byte_2, puts_byte_3, puts_byte_4, puts_byte_5, puts_free_at_2, reset_of_free}
use Rattle.dsr_step_laws.proofs.Tried.{assign, clear, cut, join, mark, marking, plain, supply, unmark}

-- ---- the new images

-- the value of slot 0 is 1
abbrev pub valued : List ℕ
valued = set image 3 1

-- slot 0 follows itself
abbrev pub joined : List ℕ
joined = set image 2 1

-- nothing follows slot 1
abbrev pub parted : List ℕ
parted = set image 4 0

-- the head has no second
abbrev pub trimmed : List ℕ
trimmed = set image 1 0

-- slot 2 follows slot 0
abbrev pub supplied : List ℕ
supplied = set image 2 3

-- the value of slot 1 is 0
abbrev pub unmarked : List ℕ
unmarked = set image 5 0

-- ---- the steps that lead to them; each write changes its byte, so it isn't skipped

pub zero_one : ◌≡◌ {A = ℕ} 0 1 → ⊥
zero_one same = omega (arith, same)

zero_three : ◌≡◌ {A = ℕ} 0 3 → ⊥
zero_three same = omega (arith, same)

two_zero : ◌≡◌ {A = ℕ} 2 0 → ⊥
two_zero same = omega (arith, same)

pub stepped_0 : IsStepped example layout step_0 mark image valued
stepped_0 = record {
  between = image;
  reset = refl;
  written = made (marking 1 true) (byte_cell 3) 1 refl refl zero_one puts_byte_3 done;
}

pub stepped_1 : IsStepped example layout step_1 join image joined
stepped_1 = record {
  between = image;
  reset = refl;
  written = made (plain 1 0 (CodeOf First)) (byte_cell 2) 1 refl refl zero_one puts_byte_2 done;
}

pub stepped_2 : IsStepped example layout step_2 cut image parted
stepped_2 = record {
  between = image;
  reset = refl;
  written = made (plain 1 0 NoneCode) (byte_cell 4) 0 refl refl two_zero puts_byte_4 done;
}

pub stepped_3 : IsStepped example layout step_3 assign image valued
stepped_3 = record {
  between = image;
  reset = refl;
  written = made (plain 1 1 (Num 1)) (byte_cell 3) 1 refl refl zero_one puts_byte_3 done;
}

pub stepped_4 : IsStepped example layout step_4 (clear 1) image trimmed
stepped_4 = record {
  between = image;
  reset = refl;
  written = made (plain 0 1 NoneCode) (byte_cell 1) 0 refl refl two_zero puts_byte_1 done;
}

pub stepped_5 : IsStepped example layout step_5 supply image supplied
stepped_5 = record {
  between = image;
  reset = reset_of_free;
  written = made (plain 1 0 Fresh) (byte_cell 2) 3 refl refl zero_three puts_free_at_2 done;
}

pub stepped_6 : IsStepped example layout step_6 supply image supplied
stepped_6 = record {
  between = image;
  reset = reset_of_free;
  written = made (plain 1 0 Fresh) (byte_cell 2) 3 refl refl zero_three puts_free_at_2 done;
}

pub stepped_7 : IsStepped example layout step_7 (clear 1) image trimmed
stepped_7 = record {
  between = image;
  reset = refl;
  written = made (plain 0 1 NoneCode) (byte_cell 1) 0 refl refl two_zero puts_byte_1 done;
}

-- the test holds of the 1 that is there, and isn't to hold
pub stepped_8 : IsStepped example layout step_8 unmark image unmarked
stepped_8 = record {
  between = image;
  reset = refl;
  written = made (marking 0 false) (byte_cell 5) 0 refl refl (λ fails. fails refl) puts_byte_5 done;
}
