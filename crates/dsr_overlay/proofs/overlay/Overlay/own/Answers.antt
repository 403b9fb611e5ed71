use Rattle.std.proofs.Common.{not, ◌∙◌, arith, ap}
use Rattle.dsr_overlay.specs.Overlays.{Overlaid}
use Rattle.dsr_overlay.proofs.Views.{inside, own_bytes, own_overlay, own_owned, stays_owned, there, there_owned}
use Rattle.dsr_overlay.proofs.overlay.Overlay.own.Goals as goal
use Rattle.dsr_overlay.proofs.overlay.Overlay.own.Goals.{in-Some-1, in-None-1}

pub index-requires : goal.index-requires
index-requires c = omega (arith, there _ _ _ c.self.view_is c.self.invariant c.args.number c.requires)

pub page_in-requires : goal.page_in-requires
page_in-requires c = inside _ _ _ c.self.view_is c.self.invariant c.args.number c.requires

pub index_mut-requires : goal.index_mut-requires
index_mut-requires c = omega (arith, there _ _ _ c.self.view_is c.self.invariant c.args.number c.requires)

pub invariant_of-self-in_ok-page-2 : goal.invariant_of-self-in_ok-page-2
invariant_of-self-in_ok-page-2 c =
    own_overlay _ _ _ c.self.view_is c.self.invariant c.args.number c.requires _ c.index.ensures (c.is_none.ensures ∙ ap not c.if-is_none.true) _ (c.in_ok-page.ensures ∙ c.page_in.ensures)

pub returns-in_ok-page-clause-bytes : goal.returns-in_ok-page-clause-bytes
returns-in_ok-page-clause-bytes c =
    let done = own_bytes _ _ _ c.self.view_is c.self.invariant c.args.number c.requires _ c.index.ensures (c.is_none.ensures ∙ ap not c.if-is_none.true) _ (c.in_ok-page.ensures ∙ c.page_in.ensures) in
    elim c.match-index_mut.branch [ in-Some-1 w ↦ ap (λ (x : Overlaid). x.bytes) w.self-is ∙ done | in-None-1 w ↦ ap (λ (x : Overlaid). x.bytes) w.self-is ∙ done ]

pub returns-in_ok-page-clause-owned : goal.returns-in_ok-page-clause-owned
returns-in_ok-page-clause-owned c =
    let done = own_owned _ _ _ c.self.view_is c.self.invariant c.args.number c.requires _ c.index.ensures (c.is_none.ensures ∙ ap not c.if-is_none.true) _ (c.in_ok-page.ensures ∙ c.page_in.ensures) in
    elim c.match-index_mut.branch [ in-Some-1 w ↦ ap (λ (x : Overlaid). x.owned) w.self-is ∙ done | in-None-1 w ↦ ap (λ (x : Overlaid). x.owned) w.self-is ∙ done ]

pub returns-in_ok-page-clause-there : goal.returns-in_ok-page-clause-there
returns-in_ok-page-clause-there c = there_owned _ _ _ c.self.view_is c.self.invariant c.args.number c.requires

pub returns-else-is_none-clause-owned : goal.returns-else-is_none-clause-owned
returns-else-is_none-clause-owned c =
    stays_owned _ _ _ c.self.view_is c.self.invariant c.args.number c.requires _ c.index.ensures (c.is_none.ensures ∙ ap not c.if-is_none.false)

pub returns-else-is_none-clause-there : goal.returns-else-is_none-clause-there
returns-else-is_none-clause-there c = there_owned _ _ _ c.self.view_is c.self.invariant c.args.number c.requires

pub returns-in_err-page-clause-there : goal.returns-in_err-page-clause-there
returns-in_err-page-clause-there c = there_owned _ _ _ c.self.view_is c.self.invariant c.args.number c.requires
