-- The numbers of the width, where the field doesn't refer.
use Rattle.dsr_effect.proofs.NumberTests.{numbers_held}
use Rattle.dsr_effect.proofs.values.Values.of_field.Goals as goal

pub returns-in-Number : goal.returns-in-Number
returns-in-Number c = numbers_held c.of_numbers.result c.args.field.now c.greatest.result c.greatest.ensures c.in-Number.is c.of_numbers.ensures
