use Rattle.dsr_meaning.proofs.laws.violations_tell_consistency.Goals as goal

pub returns : goal.returns
returns c spec layout bytes = (λ a v h. a.all v h, λ k. record { in_order = tt; all = λ v h. absurd (k v h); only = λ v h. absurd h })
