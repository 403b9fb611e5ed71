use Rattle.std.proofs.Common.{◌≡◌, ◌<◌, ◌≤◌, ◌++◌, [], ◌∷◌, length, refl, sym, ap, subst, ◌∙◌, arith}
use Rattle.std.proofs.lemmas.Bool.{false≢true}
use Rattle.dsr_compensate.proofs.Taken.{kept_if, kept_made, kept_serves, listed_length, listed_more, taken_again, taken_full, taken_kept, taken_left, well_more}
use Rattle.dsr_compensate.specs.Taking.{AreEffectsOf, AreTakenOf, AreWell, MayAllServe, templates_of}
use Rattle.dsr_meaning.specs.Counting.{IsIn}
use Rattle.dsr_compensate.specs.Owned.{owner_of}
use Rattle.dsr_compensate.proofs.listing.take.Goals as goal

pub returns-then-len-ge-MOST_TEMPLATES-clause-taken : goal.returns-then-len-ge-MOST_TEMPLATES-clause-taken
returns-then-len-ge-MOST_TEMPLATES-clause-taken c = λ all before.
    let long = listed_length c.args.listed.now.items in
    let full = c.if-len-ge-MOST_TEMPLATES.true in
    taken_full (owner_of c.args.owner.now) c.args.atom.now all (templates_of c.args.listed.now.items) c.args.template before (omega (arith, long, full))

pub returns-then-is_among-clause-taken : goal.returns-then-is_among-clause-taken
returns-then-is_among-clause-taken c = λ all before.
    taken_again (owner_of c.args.owner.now) c.args.atom.now all (templates_of c.args.listed.now.items) c.args.template before
    (subst (λ js. IsIn c.args.template (templates_of js)) c.deref.ensures.value (c.is_among.ensures.0 c.if-is_among.true))

pub returns-then-not-may_all_be_made-clause-taken : goal.returns-then-not-may_all_be_made-clause-taken
returns-then-not-may_all_be_made-clause-taken c = λ all before.
    taken_left (owner_of c.args.owner.now) c.args.atom.now all (templates_of c.args.listed.now.items) c.args.template before
    (λ kept. false≢true (sym c.if-not-may_all_be_made.true ∙ c.may_all_be_made.ensures.1 (kept_made (owner_of c.args.owner.now) c.args.atom.now c.args.template kept)))

pub returns-then-not-may_all_serve-clause-taken : goal.returns-then-not-may_all_serve-clause-taken
returns-then-not-may_all_serve-clause-taken c = λ all before.
    taken_left (owner_of c.args.owner.now) c.args.atom.now all (templates_of c.args.listed.now.items) c.args.template before
    (λ kept. false≢true (sym c.if-not-may_all_serve.true ∙ c.may_all_serve.ensures.1 (subst (MayAllServe (owner_of c.args.owner.now) c.args.template.goal c.args.atom.now) (sym c.items-updates.ensures) (kept_serves (owner_of c.args.owner.now) c.args.atom.now c.args.template kept))))

pub returns-clause-well : goal.returns-clause-well
returns-clause-well c =
    let room = c.if-len-ge-MOST_TEMPLATES.false in
    subst (AreWell (owner_of c.args.owner.now)) (sym c.in_ok-push.ensures.items)
    (well_more (owner_of c.args.owner.now) c.args.listed.now.items (record { template = c.args.template; effects = c.new-effects.result }) (omega (arith, room)) c.requires.well
    (subst (AreEffectsOf (owner_of c.args.owner.now) c.args.template.goal c.args.template.updates) (sym c.new-effects.ensures)
    (subst (λ us. AreEffectsOf (owner_of c.args.owner.now) c.args.template.goal us c.in_ok-effects.effects.items) c.items-updates.ensures c.in_ok-effects.ensures)))

pub returns-clause-taken : goal.returns-clause-taken
returns-clause-taken c = λ all before.
    let owner = owner_of c.args.owner.now in
    let long = listed_length c.args.listed.now.items in
    let room = c.if-len-ge-MOST_TEMPLATES.false in
    let new : IsIn c.args.template (templates_of c.args.listed.now.items) → ⊥ =
    λ found. false≢true (sym c.if-is_among.false ∙ c.is_among.ensures.1 (subst (λ js. IsIn c.args.template (templates_of js)) (sym c.deref.ensures.value) found)) in
    let serve = subst (MayAllServe owner c.args.template.goal c.args.atom.now) c.items-updates.ensures (c.may_all_serve.ensures.0 c.if-not-may_all_serve.false) in
    let kept = kept_if owner c.args.atom.now c.args.template (c.may_all_be_made.ensures.0 c.if-not-may_all_be_made.false) serve in
    subst (AreTakenOf owner c.args.atom.now (all ++ c.args.template ∷ [])) (sym (ap templates_of c.in_ok-push.ensures.items ∙ listed_more c.args.listed.now.items _))
    (taken_kept owner c.args.atom.now all (templates_of c.args.listed.now.items) c.args.template before (omega (arith, long, room)) new kept)
