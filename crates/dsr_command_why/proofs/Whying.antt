-- The answers for facts, by what was found of them.
use Rattle.std.proofs.Common.{◌≡◌, ◌<◌, ◌+◌, ◌++◌, ◌∙◌, ℕ, Bool, true, false, List, Option, None, Some, MatchOption, Result, Ok, Err, Decides, IfOk, Vec, Global, length, drop, slice_get, get_or, is_some, refl, sym, ap, subst}
use Rattle.std.specs.Option.{option_map_or}
use Rattle.std.specs.Prelude.{codes, decimal, if◌then◌else◌, nat_eq, option_and_then, reverse}
use Rattle.std.proofs.lemmas.Bool.{eqb-true, false≢true}
use Rattle.dsr_answers.specs.Texts.{pool_name}
use Rattle.dsr_report_read.specs.Lenient.{element_ahead, narrow, number_ahead}
use Rattle.dsr_chain_laws.proofs.Firsts.{is_chain}
use Rattle.dsr_chain_laws.specs.Shortest.{FirstChain}
use Rattle.dsr_command_why.proofs.Naming.{member_read, pair_read}
use Rattle.dsr_command_why.specs.Facts.{fact_text}
use Rattle.dsr_command_why.specs.Named.{member_ahead, pair_ahead}
use Rattle.dsr_command_why.specs.Whys.{IsWhyAnswer, TellsBelow, TellsChain, TellsMember, TellsOf}
use Rattle.dsr_command_why.specs.Whys.IsWhyAnswer.{outside}
use Rattle.dsr_ir.specs.declared.declarations.Rel.{Rel}
use Rattle.dsr_ir.specs.declared.declarations.SetDecl.{SetDecl}
use Rattle.dsr_ir.specs.declared.declarations.Spec.{Spec}
use Rattle.dsr_ir.specs.declared.layouts.Layout.{Layout}
use Rattle.dsr_ir.specs.declared.tuples.Element.{Element}
use Rattle.dsr_ir.specs.declared.tuples.Fact.{Fact}
use Rattle.dsr_ir.specs.declared.tuples.Fact.TheVariants.{Member, Pair}
use Rattle.dsr_ir.specs.declared.tuples.Instance.{Instance}
use Rattle.dsr_ir.specs.declared.updates.Symbol.TheVariants as symbols
use Rattle.dsr_layout.proofs.RangeOfFacts.{fact_in_range}
use Rattle.dsr_layout.specs.InRange.{IsMemberInRange, IsPairInRange}
use Rattle.std.proofs.lemmas.Option.{slice_get_read, slice_get_within}
use Rattle.dsr_meaning.specs.Instances.{record_count, set_pool}
use Rattle.dsr_meaning.specs.Legal.{IsLegalLayout}
use Rattle.dsr_meaning.specs.Looking.{symbol_of}
use Rattle.dsr_meaning.specs.Models.{IsDerived, IsFact, IsInComplement, IsMemberBy, base_of}
use Rattle.dsr_script.specs.declared.moves.Told.{Told}
use Rattle.dsr_step_theory.specs.Images.{IsImageOf}

either_pool : (b : Bool) (pool : ℕ) (x y : Element) → (b ≡ true → x.pool ≡ pool) → (b ≡ false → y.pool ≡ pool) → (let e : Element = (if b then x else y) in e.pool) ≡ pool
either_pool true pool x y head other = head refl
either_pool false pool x y head other = other refl

ahead_pool : (spec : Spec) (pool : ℕ) (text : List ℕ) → (element_ahead spec pool text).pool ≡ pool
ahead_pool spec pool text =
    either_pool (nat_eq pool 0) pool (record { pool = 0; slot = 0 })
    (record { pool = pool; slot = narrow (number_ahead (drop (length (pool_name spec pool) + 1) text)) })
    (λ is. sym (eqb-true pool 0 is)) (λ _. refl)

module _ (spec : Spec) (layout : Layout) (bytes : List ℕ) (image : IsImageOf spec layout bytes) (legal : IsLegalLayout layout) (word : List ℕ) where
  -- ---- one set

  module _ (number : ℕ) (set : SetDecl) (at : slice_get spec.base.sets number ≡ Some set) where
    abbrev pub read : Element
    read = member_ahead spec number set word

    base_is : base_of spec number ≡ set.except
    base_is = ap (option_and_then (λ (d : SetDecl). d.except)) at

    -- each fact of the set with this text is the one that is read
    only_member : (fact : Fact) → symbol_of fact ≡ symbols.Set number → IsFact spec layout bytes fact → fact_text spec fact ≡ word → fact ≡ Member number read
    only_member (Pair rel e target) same fact text = absurd (let both : symbols.Rel rel ≡ symbols.Set number = same in cc)
    only_member (Member s e) same fact text =
        let sets : s ≡ number = cc in
        let is : IsFact spec layout bytes (Member number e) = subst (λ k. IsFact spec layout bytes (Member k e)) sets fact in
        let its : fact_text spec (Member number e) ≡ word = subst (λ k. fact_text spec (Member k e) ≡ word) sets text in
        let elem = member_read spec layout bytes image legal number set e word at is its in
        λ k. Member (sets k) (sym elem k)

    -- the word isn't the text of the member
    pub member_unnamed :
        (e : Element) → e ≡ read → (is_its : Bool) → Decides is_its (fact_text spec (Member number e) ≡ word) → is_its ≡ false
        → TellsOf spec layout bytes word (symbols.Set number) None
    member_unnamed e same is_its decides other = λ fact symbol is text.
        let its : fact_text spec (Member number e) ≡ word =
        subst (λ f. fact_text spec f ≡ word) (only_member fact symbol is text ∙ ap (Member number) (sym same)) text in
        false≢true (sym other ∙ decides.1 its)

    -- the set is no complement
    of_chain : set.except ≡ None → (answer : Option Told) → TellsChain spec layout bytes word (Member number read) answer → TellsOf spec layout bytes word (symbols.Set number) answer
    of_chain plain (Some told) tells = tells
    of_chain plain None none = λ fact same is text.
        let its : IsFact spec layout bytes (Member number read) = subst (IsFact spec layout bytes) (only_member fact same is text) is in
        none (subst (λ o. IsMemberBy spec layout bytes number o read) (base_is ∙ plain) its)

    pub member_by_chain :
        {E : Type 0} (e : Element) → e ≡ read → set.except ≡ None → (answer : Result (Option Told) E)
        → IfOk answer (TellsChain spec layout bytes word (Member number e)) → IfOk answer (TellsOf spec layout bytes word (symbols.Set number))
    member_by_chain e same plain (Err fault) tells = tt
    member_by_chain e same plain (Ok answer) tells =
        of_chain plain answer (subst (λ x. TellsChain spec layout bytes word (Member number x) answer) same tells)

    -- it is one
    of_base : (base : ℕ) → set.except ≡ Some base → fact_text spec (Member number read) ≡ word → read.pool ≡ set.pool → (answer : Option Told) → TellsMember spec layout bytes base read answer → TellsOf spec layout bytes word (symbols.Set number) answer
    of_base base except text pool (Some told) tells =
        let its : IsInComplement spec layout bytes number base read = record {
          pool_is = pool ∙ sym pool_at;
          slot_below = subst (λ p. read.slot < record_count layout p) (pool ∙ sym pool_at) tells.0;
          outside = tells.1;
        } in
        subst (IsWhyAnswer spec bytes word) (sym tells.2) (outside layout number base read image.layout_is text (base_is ∙ except) its)
      where
        pool_at : set_pool spec number ≡ set.pool
        pool_at = ap (λ o. option_map_or (λ (d : SetDecl). d.pool) o 0) at
    of_base base except text pool None none = λ fact same is its_text.
        let its : IsFact spec layout bytes (Member number read) = subst (IsFact spec layout bytes) (only_member fact same is its_text) is in
        let inside : IsInComplement spec layout bytes number base read = subst (λ o. IsMemberBy spec layout bytes number o read) (base_is ∙ except) its in
        none (subst (λ p. read.slot < record_count layout p) (sym inside.pool_is) inside.slot_below) inside.outside

    -- the record that is read is of the set's pool
    read_pool : read.pool ≡ set.pool
    read_pool = ahead_pool spec set.pool _

    pub member_by_base :
        {E : Type 0} (e : Element) → e ≡ read → (is_its : Bool) → Decides is_its (fact_text spec (Member number e) ≡ word) → is_its ≡ true
        → (base : ℕ) → set.except ≡ Some base → (answer : Result (Option Told) E)
        → IfOk answer (TellsMember spec layout bytes base e) → IfOk answer (TellsOf spec layout bytes word (symbols.Set number))
    member_by_base e same is_its decides named base except (Err fault) tells = tt
    member_by_base e same is_its decides named base except (Ok answer) tells =
        of_base base except (subst (λ x. fact_text spec (Member number x) ≡ word) same (decides.0 named)) read_pool answer
        (subst (λ x. TellsMember spec layout bytes base x answer) same tells)

  -- ---- one relation

  module _ (number : ℕ) (rel : Rel) (at : slice_get spec.base.rels number ≡ Some rel) where
    abbrev pub read_pair : Fact
    read_pair = pair_ahead spec number rel word

    only_pair : (fact : Fact) → symbol_of fact ≡ symbols.Rel number → IsFact spec layout bytes fact → fact_text spec fact ≡ word → fact ≡ read_pair
    only_pair (Member s e) same fact text = absurd (let both : symbols.Set s ≡ symbols.Rel number = same in cc)
    only_pair (Pair r e target) same fact text =
        let rels : r ≡ number = cc in
        let is : IsFact spec layout bytes (Pair number e target) = subst (λ k. IsFact spec layout bytes (Pair k e target)) rels fact in
        let its : fact_text spec (Pair number e target) ≡ word = subst (λ k. fact_text spec (Pair k e target) ≡ word) rels text in
        (λ k. Pair (rels k) e target) ∙ sym (pair_read spec layout bytes image legal number rel e target word at is its)

    -- the word isn't the text of the pair
    pub pair_unnamed :
        (pair : Fact) → pair ≡ read_pair → (is_its : Bool) → Decides is_its (fact_text spec pair ≡ word) → is_its ≡ false
        → TellsOf spec layout bytes word (symbols.Rel number) None
    pair_unnamed pair same is_its decides other = λ fact symbol is text.
        let its : fact_text spec pair ≡ word = subst (λ f. fact_text spec f ≡ word) (only_pair fact symbol is text ∙ sym same) text in
        false≢true (sym other ∙ decides.1 its)

    of_pair : (answer : Option Told) → TellsChain spec layout bytes word read_pair answer → TellsOf spec layout bytes word (symbols.Rel number) answer
    of_pair (Some told) tells = tells
    of_pair None none = λ fact same is text. none (subst (IsFact spec layout bytes) (only_pair fact same is text) is)

    pub pair_by_chain :
        {E : Type 0} (pair : Fact) → pair ≡ read_pair → (answer : Result (Option Told) E)
        → IfOk answer (TellsChain spec layout bytes word pair) → IfOk answer (TellsOf spec layout bytes word (symbols.Rel number))
    pair_by_chain pair same (Err fault) tells = tt
    pair_by_chain pair same (Ok answer) tells = of_pair answer (subst (λ f. TellsChain spec layout bytes word f answer) same tells)

  -- ---- all symbols

  pub no_fact : TellsBelow spec layout bytes word (λ k. symbols.Set k) (length spec.base.sets) None → TellsBelow spec layout bytes word (λ k. symbols.Rel k) (length spec.base.rels) None
      → (fact : Fact) → IsFact spec layout bytes fact → fact_text spec fact ≡ word → ⊥
  no_fact sets rels (Member s e) is text =
      let range : IsMemberInRange spec layout s e = fact_in_range spec bytes layout image.layout_is.numbers image.typed (Member s e) is in
      sets s (slice_get_within spec.base.sets s range.decl range.declared) (Member s e) refl is text
  no_fact sets rels (Pair r e target) is text =
      let range : IsPairInRange spec layout r e target = fact_in_range spec bytes layout image.layout_is.numbers image.typed (Pair r e target) is in
      rels r (slice_get_within spec.base.rels r range.decl range.declared) (Pair r e target) refl is text

-- the text of a chain, piece by piece
pub told_text :
    (lines a b new : List ℕ) (n count : ℕ) → a ≡ lines ++ codes "chain " → b ≡ a ++ decimal n → new ≡ b ++ codes "\n" → n ≡ count
    → new ≡ lines ++ codes "chain " ++ decimal count ++ codes "\n"
told_text lines a b new n count first second third same = third ∙ ap (λ x. x ++ codes "\n") (second ∙ (λ k. first k ++ decimal (same k)))

-- whether a chain is found decides whether there is one
pub derived_told :
    (spec : Spec) (layout : Layout) (bytes : List ℕ) (fact : Fact) (found : Option (Vec Instance Global))
    → MatchOption found (IsDerived spec layout bytes fact → ⊥) (λ is. FirstChain spec layout bytes (reverse is.items) fact)
    → Decides (is_some found) (IsDerived spec layout bytes fact)
derived_told spec layout bytes fact None none = (λ e. absurd (false≢true e), λ derived. absurd (none derived))
derived_told spec layout bytes fact (Some is) first =
    (λ _. (reverse is.items, is_chain spec layout bytes (reverse is.items) fact first), λ _. refl)

-- what stands at a place of a list
pub listed_at : {A : Type 0} (xs ys : List A) → ys ≡ xs → (k : ℕ) (x : A) → k < length ys → x ≡ get_or ys k x → slice_get xs k ≡ Some x
listed_at xs ys same k x below is = ap (λ zs. slice_get zs k) (sym same) ∙ slice_get_read ys (length ys) k x refl below is
