-- The layout is that of the specification on the image, which isn't refused.
use Rattle.std.proofs.Common.{◌≡◌, refl}
use Rattle.std.specs.Prelude.{[], Some}
use Rattle.dsr_meaning.specs.Layouts.{layout_of}
use Rattle.dsr_meaning.specs.Refusals.{IsLayoutOf, refusals}
use Rattle.dsr_step_laws.proofs.Given.{base, example, image, layout}

numbers : layout_of base image ≡ Some layout
numbers = refl

accepted : refusals example image ≡ []
accepted = refl

pub placed : IsLayoutOf example image layout
placed = record { numbers = numbers; accepted = accepted }
