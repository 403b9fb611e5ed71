-- A literal has one list.
use Rattle.std.proofs.Common.{◌≡◌, ℕ, zero, suc, Bool, true, false, List, [], ◌∷◌, take, Option, None, Some, refl, sym, ap, subst, ◌∙◌}
use Rattle.std.specs.Prelude.{MatchOption}
use Rattle.dsr_ir.specs.declared.constraints.Atom.{Atom}
use Rattle.dsr_ir.specs.declared.constraints.Atom.TheVariants.{Member, Pair, Count, Value}
use Rattle.dsr_ir.specs.declared.constraints.Bound.{Bound}
use Rattle.dsr_ir.specs.declared.constraints.Literal.{Literal}
use Rattle.dsr_ir.specs.declared.constraints.Measure.{Measure}
use Rattle.dsr_ir.specs.declared.constraints.Quant.{Quant}
use Rattle.dsr_ir.specs.declared.constraints.Var.{Var}
use Rattle.dsr_ir.specs.declared.declarations.Spec.{Spec}
use Rattle.dsr_ir.specs.declared.rules.Op.{Op}
use Rattle.dsr_ir.specs.declared.rules.Op.TheVariants.{Eq, Ne, Lt, Le, Gt, Ge}
use Rattle.dsr_ir.specs.declared.rules.Rule.{Rule}
use Rattle.dsr_ir.specs.declared.updates.Template.{Template}
use Rattle.dsr_ir.specs.declared.updates.Update.{Update}
use Rattle.dsr_ir.specs.declared.updates.Write.{Write}
use Rattle.dsr_graph_theory.specs.Candidates.{AreCompensations, ArePreventing}
use Rattle.dsr_graph_theory.specs.Lists.{AreCompensable, AreListed, AreListedOf, AreTaken, Compensable, all_of}
use Rattle.dsr_graph_theory.specs.Owners.{Owner, change_of}
use Rattle.dsr_update_theory.specs.Changes.{Change}
use Rattle.dsr_plan_laws.proofs.KnownSets.{told}
use Rattle.dsr_update_theory.specs.Templates.{AreOnce, AreRaw, AreRawOf, AreSized, AreTemplates, AreTrims, AreValued, KnownSets, TellsKnown, literal_at, supplies, with_trims}

once_one : {T : Type 0} {seen xs ys zs : List T} → AreOnce seen xs ys → AreOnce seen xs zs → ys ≡ zs
once_one AreOnce.done AreOnce.done = refl
once_one (AreOnce.again x before a) (AreOnce.again y again b) = once_one a b
once_one (AreOnce.again x before a) (AreOnce.first y new b) = absurd (new before)
once_one (AreOnce.first x new a) (AreOnce.again y before b) = absurd (new before)
once_one (AreOnce.first x new a) (AreOnce.first y new_too b) = ap (λ rest. x ∷ rest) (once_one a b)

trims_one : (spec : Spec) (measure : Measure) (ts us : List Template) → AreTrims spec measure ts → AreTrims spec measure us → ts ≡ us
trims_one spec measure ts us a b = once_one a b

module _ (spec : Spec) (known : KnownSets) (quant : Quant) where
  exactly_one : (measure : Measure) (ts us : List Template)
      → (trims : List Template) × AreTrims spec measure trims × (ts ≡ with_trims (supplies spec known quant measure) trims)
      → (trims : List Template) × AreTrims spec measure trims × (us ≡ with_trims (supplies spec known quant measure) trims)
      → ts ≡ us
  exactly_one measure ts us a b =
      a.2 ∙ (ap (with_trims (supplies spec known quant measure)) (trims_one spec measure a.0 b.0 a.1 b.1) ∙ sym b.2)

  sized_one : (measure : Measure) (op : Op) (k : ℕ) (ts us : List Template) → AreSized spec known quant measure op k ts → AreSized spec known quant measure op k us → ts ≡ us
  sized_one measure Le k ts us a b = trims_one spec measure ts us a b
  sized_one measure Ge zero ts us a b = a ∙ sym b
  sized_one measure Ge (suc zero) ts us a b = a ∙ sym b
  sized_one measure Ge (suc (suc k)) ts us a b = a ∙ sym b
  sized_one measure Eq zero ts us a b = trims_one spec measure ts us a b
  sized_one measure Eq (suc zero) ts us a b = exactly_one measure ts us a b
  sized_one measure Eq (suc (suc k)) ts us a b = a ∙ sym b
  sized_one measure Ne k ts us a b = a ∙ sym b
  sized_one measure Lt k ts us a b = a ∙ sym b
  sized_one measure Gt k ts us a b = a ∙ sym b

  valued_one : (v : Var) (rel : ℕ) (op : Op) (bound : Bound) (ts us : List Template) → AreValued spec v rel op bound ts → AreValued spec v rel op bound us → ts ≡ us
  valued_one v rel Eq bound ts us a b = a ∙ sym b
  valued_one v rel Le bound ts us a b = a ∙ sym b
  valued_one v rel Ge bound ts us a b = a ∙ sym b
  valued_one v rel Ne bound ts us a b = a ∙ sym b
  valued_one v rel Lt bound ts us a b = a ∙ sym b
  valued_one v rel Gt bound ts us a b = a ∙ sym b

  templates_one : (atom : Atom) (negated : Bool) (ts us : List Template) → AreTemplates spec known quant atom negated ts → AreTemplates spec known quant atom negated us → ts ≡ us
  templates_one (Member v set) false ts us a b = a ∙ sym b
  templates_one (Member v set) true ts us a b = once_one a b
  templates_one (Pair v w rel) false ts us a b = a ∙ sym b
  templates_one (Pair v w rel) true ts us a b = once_one a b
  templates_one (Count measure op k) negated ts us a b = sized_one measure op k ts us a b
  templates_one (Value v rel op bound) negated ts us a b = valued_one v rel op bound ts us a b

preventing_one : {c : Change} {rules : List Rule} {ws vs : List Write} → ArePreventing c rules ws → ArePreventing c rules vs → ws ≡ vs
preventing_one ArePreventing.done ArePreventing.done = refl
preventing_one (ArePreventing.prevented {writes = ws} rule w may is a) (ArePreventing.prevented rule_too v may_too is_too b) =
    let same : Some w ≡ Some v = sym is ∙ is_too in
    let first : w ≡ v = cc in
    ap (λ x. x ∷ ws) first ∙ ap (λ rest. v ∷ rest) (preventing_one a b)
preventing_one (ArePreventing.prevented rule w may is a) (ArePreventing.quiet rule_too none b) = absurd (let no = sym is ∙ none may in cc)
preventing_one (ArePreventing.quiet rule none a) (ArePreventing.prevented rule_too v may is b) = absurd (let no = sym is ∙ none may in cc)
preventing_one (ArePreventing.quiet rule none a) (ArePreventing.quiet rule_too none_too b) = preventing_one a b

zero_none : {owner : Owner} {atom : Atom} {before all us : List Template} → AreTaken owner atom zero before all us → us ≡ []
zero_none AreTaken.no_more = refl
zero_none AreTaken.enough = refl
zero_none (AreTaken.again t is_in a) = zero_none a
zero_none (AreTaken.left_out t not_kept a) = zero_none a

taken_one : {owner : Owner} {atom : Atom} {n : ℕ} {before all ts us : List Template} → AreTaken owner atom n before all ts → AreTaken owner atom n before all us → ts ≡ us
taken_one AreTaken.no_more AreTaken.no_more = refl
taken_one AreTaken.no_more AreTaken.enough = refl
taken_one AreTaken.enough b = sym (zero_none b)
taken_one (AreTaken.again t is_in a) AreTaken.enough = zero_none a
taken_one (AreTaken.again t is_in a) (AreTaken.again t_too is_too b) = taken_one a b
taken_one (AreTaken.again t is_in a) (AreTaken.left_out t_too not_kept b) = taken_one a b
taken_one (AreTaken.again t is_in a) (AreTaken.taken t_too new kept b) = absurd (new is_in)
taken_one (AreTaken.left_out t not_kept a) AreTaken.enough = zero_none a
taken_one (AreTaken.left_out t not_kept a) (AreTaken.again t_too is_in b) = taken_one a b
taken_one (AreTaken.left_out t not_kept a) (AreTaken.left_out t_too not_too b) = taken_one a b
taken_one (AreTaken.left_out t not_kept a) (AreTaken.taken t_too new kept b) = absurd (not_kept kept)
taken_one (AreTaken.taken t new kept a) (AreTaken.again t_too is_in b) = absurd (new is_in)
taken_one (AreTaken.taken t new kept a) (AreTaken.left_out t_too not_kept b) = absurd (not_kept kept)
taken_one (AreTaken.taken t new kept a) (AreTaken.taken t_too new_too kept_too b) = ap (λ rest. t ∷ rest) (taken_one a b)

module _ (owner : Owner) where
  same_compensations : (template : Template) (u v : Update) (ws vs : List Write) → u ≡ v → ArePreventing (change_of owner template.goal u) owner.spec.rules ws → ArePreventing (change_of owner template.goal v) owner.spec.rules vs → take 8 ws ≡ take 8 vs
  same_compensations template u v ws vs same a b =
      ap (take 8) (preventing_one (subst (λ x. ArePreventing (change_of owner template.goal x) owner.spec.rules ws) same a) b)

  compensations_one : {template : Template} {ws vs : List Write} → AreCompensations owner template ws → AreCompensations owner template vs → ws ≡ vs
  compensations_one {template} (AreCompensations.some u ws is a) (AreCompensations.some v vs is_too b) =
      let both : Some u ≡ Some v = sym is ∙ is_too in
      let same : u ≡ v = cc in
      same_compensations template u v ws vs same a b
  compensations_one (AreCompensations.some u ws is a) (AreCompensations.none none) = absurd (let no = sym is ∙ none in cc)
  compensations_one (AreCompensations.none none) (AreCompensations.some v vs is b) = absurd (let no = sym is ∙ none in cc)
  compensations_one (AreCompensations.none none) (AreCompensations.none none_too) = refl

  compensable_one : {ts : List Template} {ps qs : List Compensable} → AreCompensable owner ts ps → AreCompensable owner ts qs → ps ≡ qs
  compensable_one AreCompensable.done AreCompensable.done = refl
  compensable_one (AreCompensable.more {pairs = ps} t ws its a) (AreCompensable.more t_too vs its_too b) =
      ap (λ x. (t, x) ∷ ps) (compensations_one its its_too) ∙ ap (λ ys. (t, vs) ∷ ys) (compensable_one a b)

  -- whether these are what is tried for a literal, if there is one
  abbrev pub Tried : List Template → Option Literal → Type 0
  Tried ts o = MatchOption o (ts ≡ []) (λ l. (known : KnownSets) → TellsKnown owner.spec owner.constraint.quant known → AreRaw owner.spec known owner.constraint.quant l ts)

  abbrev pub Listed : ℕ → ℕ → List Template → Option Literal → Type 0
  Listed conj place ts o = MatchOption o (ts ≡ []) (λ l. AreListed owner conj place l.atom ts)

  -- what is known is told by some table, so what is tried is one list
  raw_one : (conj place : ℕ) (l : Literal) (ts us : List Template) → literal_at owner.constraint conj place ≡ Some l → AreRawOf owner.spec owner.constraint conj place ts → AreRawOf owner.spec owner.constraint conj place us → ts ≡ us
  raw_one conj place l ts us is a b =
      let known = told owner.spec owner.constraint.quant in
      templates_one owner.spec known.0 owner.constraint.quant l.atom l.negated ts us (subst (Tried ts) is a known.0 known.1) (subst (Tried us) is b known.0 known.1)

  pub listed_one : (conj place : ℕ) (ts us : List Template) → AreListedOf owner conj place ts → AreListedOf owner conj place us → ts ≡ us
  listed_one conj place ts us listed others = by (literal_at owner.constraint conj place) refl where
    by : (o : Option Literal) → literal_at owner.constraint conj place ≡ o → ts ≡ us
    by None none =
        let a : ts ≡ [] = subst (Listed conj place ts) none listed in
        let b : us ≡ [] = subst (Listed conj place us) none others in
        a ∙ sym b
    by (Some l) is =
        let a : AreListed owner conj place l.atom ts = subst (Listed conj place ts) is listed in
        let b : AreListed owner conj place l.atom us = subst (Listed conj place us) is others in
        let tried = raw_one conj place l a.tried b.tried is a.are_tried b.are_tried in
        let pairs = compensable_one (subst (λ xs. AreCompensable owner xs a.compensable) tried a.are_compensable) b.are_compensable in
        taken_one (subst (λ ps. AreTaken owner l.atom 64 [] (all_of ps) ts) pairs a.are_taken) b.are_taken
