use Rattle.std.proofs.Common.{◌≡◌, ℕ, inr, sym, ap, ◌∙◌, length}
use Rattle.std.specs.Prelude.{option_map}
use Rattle.dsr_meaning.specs.FixedFields.{fixed_cell, head_fields}
use Rattle.dsr_meaning.specs.Refusals.{cut_refusals}
use Rattle.dsr_layout.specs.Tables.{known, clip_cell}
use Rattle.dsr_layout.proofs.Looking.{told_none}
use Rattle.dsr_layout.proofs.FixedReads.{all_readable, read_cell, read_values, cut_told}
use Rattle.dsr_layout.proofs.fixed_fields.fixed_values.Goals as goal

pub returns-in-Some-clause-refused : goal.returns-in-Some-clause-refused
returns-in-Some-clause-refused c =
    let base = c.args.base.now in
    let told = cut_told base (length c.args.bytes.now) c.requires.image c.deref.ensures.value c.in_ok-cells.ensures c.head_fields.ensures c.cut.ensures in
    inr (sym told ∙ c.in-Some.is)

pub values_in-requires-clause-readable : goal.values_in-requires-clause-readable
values_in-requires-clause-readable c =
    let base = c.args.base.now in
    let told = cut_told base (length c.args.bytes.now) c.requires.image c.deref.ensures.value c.in_ok-cells.ensures c.head_fields.ensures c.cut.ensures in
    let whole = told_none (cut_refusals (fixed_cell base) (head_fields base) (length c.args.bytes.now)) (sym c.in_default.is ∙ told) in
    let read : (k : ℕ) → known c.deref-2.result.now k ≡ option_map clip_cell (fixed_cell base k) = λ k. ap (λ cs. known cs k) c.deref-2.ensures.value ∙ c.in_ok-cells.ensures k in
    all_readable base (length c.args.bytes.now) c.deref-2.result.now c.requires.placeable c.requires.image whole read

pub returns-clause-uncut : goal.returns-clause-uncut
returns-clause-uncut c =
    let base = c.args.base.now in
    let told = cut_told base (length c.args.bytes.now) c.requires.image c.deref.ensures.value c.in_ok-cells.ensures c.head_fields.ensures c.cut.ensures in
    told_none (cut_refusals (fixed_cell base) (head_fields base) (length c.args.bytes.now)) (sym c.in_default.is ∙ told)

pub returns-clause-values : goal.returns-clause-values
returns-clause-values c =
    let base = c.args.base.now in
    let told = cut_told base (length c.args.bytes.now) c.requires.image c.deref.ensures.value c.in_ok-cells.ensures c.head_fields.ensures c.cut.ensures in
    let whole = told_none (cut_refusals (fixed_cell base) (head_fields base) (length c.args.bytes.now)) (sym c.in_default.is ∙ told) in
    let read : (k : ℕ) → known c.deref-2.result.now k ≡ option_map clip_cell (fixed_cell base k) = λ k. ap (λ cs. known cs k) c.deref-2.ensures.value ∙ c.in_ok-cells.ensures k in
    read_values base c.args.bytes.now c.deref-2.result.now c.in_ok-values_in.field-0.items (read_cell base (length c.args.bytes.now) c.deref-2.result.now c.requires.placeable c.requires.image whole read) c.in_ok-values_in.ensures
