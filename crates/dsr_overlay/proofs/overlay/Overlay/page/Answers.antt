use Rattle.std.proofs.Common.{◌∙◌, arith}
use Rattle.dsr_overlay.proofs.Views.{inside, original_page, owned_page, there}
use Rattle.dsr_overlay.proofs.overlay.Overlay.page.Goals as goal

pub index-requires : goal.index-requires
index-requires c = omega (arith, there _ _ _ c.self.view_is c.self.invariant c.args.number c.requires)

pub page_in-requires : goal.page_in-requires
page_in-requires c = inside _ _ _ c.self.view_is c.self.invariant c.args.number c.requires

pub returns-in-Some : goal.returns-in-Some
returns-in-Some c =
    c.bytes.ensures ∙ owned_page _ _ _ c.self.view_is c.self.invariant c.args.number c.requires _ c.index.ensures _ c.in-Some.is

pub returns-in-None : goal.returns-in-None
returns-in-None c =
    c.page_in.ensures ∙ original_page _ _ _ c.self.view_is c.self.invariant c.args.number c.requires _ c.index.ensures c.in-None.is
