use Rattle.std.proofs.Common.{inl, inr, ◌≡◌, true, refl}
use Rattle.dsr_report_read.proofs.Ahead.{refused}
use Rattle.dsr_report_read.proofs.Views.{from_own, from_viewed, own_or_viewed}
use Rattle.dsr_report_read.proofs.fields.is_of_pool.Goals as goal

pub returns-then-is_own : goal.returns-then-is_own
returns-then-is_own c = (
  λ _. from_own c.args.base.now c.args.pool c.args.structure (c.if-is_own.ensures.0 refl),
  λ _. c.if-is_own.true,
)

pub returns-else-is_own : goal.returns-else-is_own
returns-else-is_own c = (
  λ t. from_viewed c.args.base.now c.args.pool c.args.structure (c.is_viewed.ensures.0 t),
  λ its. elim (own_or_viewed c.args.base.now c.args.pool c.args.structure its) as (λ _. c.is_viewed.result ≡ true) [
    | inl own ↦ absurd (refused c.if-is_own.ensures own)
    | inr viewed ↦ c.is_viewed.ensures.1 viewed
  ],
)
