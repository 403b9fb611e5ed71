-- The layout is that of the specification on the image, which isn't refused.
use Rattle.std.proofs.Common.{◌≡◌, refl, arith}
use Rattle.std.specs.Prelude.{[], Some}
use Rattle.dsr_step_laws.proofs.Given.{image}
use Rattle.dsr_step_laws.proofs.Putting.{bytes_of_image}
use Rattle.dsr_example_laws.proofs.Given.{base, layout, sharing}
use Rattle.dsr_example_laws.proofs.Typed.{typed}
use Rattle.dsr_meaning.specs.Layouts.{layout_of}
use Rattle.dsr_meaning.specs.Legal.{IsLegalLayout}
use Rattle.dsr_meaning.specs.Refusals.{IsLayoutOf, refusals}
use Rattle.dsr_resolve.proofs.AcceptedLayouts.{legal_of}
use Rattle.dsr_step_theory.specs.Images.{IsImageOf}

numbers : layout_of base image ≡ Some layout
numbers = refl

accepted : refusals sharing image ≡ []
accepted = refl

pub placed : IsLayoutOf sharing image layout
placed = record { numbers = numbers; accepted = accepted }

pub legal : IsLegalLayout layout
legal = legal_of sharing image layout placed typed (omega arith)

pub image_is : IsImageOf sharing layout image
image_is = record { typed = typed; bytes = bytes_of_image; layout_is = placed; small = omega arith }
