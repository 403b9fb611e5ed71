-- A printed line of an update is read back.
use Rattle.std.proofs.Common.{◌≡◌, ◌<◌, ◌+◌, ◌^◌, ◌++◌, ◌∙◌, ℕ, List, [], ◌∷◌, Option, Some, length, drop, refl, sym, ap, subst, arith, append-nil}
use Rattle.std.specs.Prelude.{codes, decimal}
use Rattle.std.specs.Option.{option_map_or}
use Rattle.std.proofs.Math.Seq.{drop-append-add}
use Rattle.dsr_answers.specs.Texts.{binding_text, constraint_name, element_text}
use Rattle.dsr_ir.specs.declared.constraints.Quant.{Quant}
use Rattle.dsr_ir.specs.declared.constraints.Quant.TheVariants as quants
use Rattle.dsr_ir.specs.declared.declarations.Spec.{Spec}
use Rattle.dsr_ir.specs.declared.tuples.Binding.{Binding}
use Rattle.dsr_ir.specs.declared.tuples.Binding.TheVariants as bindings
use Rattle.dsr_ir.specs.declared.tuples.Element.{Element}
use Rattle.dsr_report.specs.Reports.{place_text, update_line}
use Rattle.dsr_report_read.proofs.LinesBack.{element_back}
use Rattle.dsr_report_read.proofs.ReadBack.{ReadsNumber, number_back, place_back, regroup}
use Rattle.dsr_report_read.specs.Forms.{IsRecord, IsRecordOf}
use Rattle.dsr_report_read.specs.Lenient.{behind_binding, behind_element, behind_number, binding_ahead, binding_in, conj_in, element_ahead, first_pool, head_in, literal_in, name_ahead, number_ahead, place_of, rule_in, second_pool}
use Rattle.dsr_report_read.specs.Lines.{bare}
use Rattle.dsr_report_read.specs.declared.lines.Head.{Head}

module _ (spec : Spec) where
  -- what is read of a text
  record ReadsBinding (quant : Quant) (text : List ℕ) (binding : Binding) (rest : List ℕ) : Type 0 where
    value : binding_ahead spec quant text ≡ binding
    behind : behind_binding spec quant text ≡ rest

  -- where the pool is known otherwise
  record ReadsAt (pool : ℕ) (text : List ℕ) (elem : Element) (rest : List ℕ) : Type 0 where
    value : element_ahead spec pool text ≡ elem
    behind : behind_element spec pool text ≡ rest

  at_pool : (pool : ℕ) (elem : Element) (rest : List ℕ) → IsRecord spec elem → pool ≡ elem.pool → ReadsAt pool (element_text spec elem ++ rest) elem rest
  at_pool pool elem rest its same =
      let read = element_back spec elem rest its in
      subst (λ p. ReadsAt p (element_text spec elem ++ rest) elem rest) (sym same) (record { value = read.value; behind = read.behind })

  known : (o : Option ℕ) (p : ℕ) → o ≡ Some p → option_map_or (λ q. q) o 0 ≡ p
  known o p is = ap (λ o. option_map_or (λ q. q) o 0) is

  binding_back : (quant : Quant) (binding : Binding) (rest : List ℕ) → IsRecordOf spec quant binding → ReadsBinding quant (binding_text spec binding ++ rest) binding rest
  binding_back quants.Once bindings.Once rest its = record { value = refl; behind = refl }
  binding_back (quants.Each set) (bindings.Each elem) rest its =
      let read = at_pool (first_pool spec (quants.Each set)) elem rest its.0 (known _ _ its.1) in
      record { value = ap bindings.Each read.value; behind = read.behind }
  binding_back (quants.Pairs rel) (bindings.Pair source target) rest its =
      let last = codes ">" ++ rest in
      let middle = codes "," ++ (element_text spec target ++ last) in
      let text : binding_text spec (bindings.Pair source target) ++ rest ≡ codes "<" ++ (element_text spec source ++ middle) =
      regroup (codes "<") (element_text spec source ∷ codes "," ∷ element_text spec target ∷ codes ">" ∷ rest ∷ [])
      ∙ ap (λ t. codes "<" ++ (element_text spec source ++ (codes "," ++ (element_text spec target ++ (codes ">" ++ t))))) (append-nil rest) in
      let one = at_pool (first_pool spec (quants.Pairs rel)) source middle its.0 (known _ _ its.2) in
      let two = at_pool (second_pool spec (quants.Pairs rel)) target last its.1 (known _ _ its.3) in
      subst (λ t. ReadsBinding (quants.Pairs rel) t (bindings.Pair source target) rest) (sym text)
      (record {
        value = ap (λ t. bindings.Pair t (element_ahead spec (second_pool spec (quants.Pairs rel)) (drop 1 (behind_element spec (first_pool spec (quants.Pairs rel)) (element_text spec source ++ middle))))) one.value
            ∙ ap (λ t. bindings.Pair source (element_ahead spec (second_pool spec (quants.Pairs rel)) (drop 1 t))) one.behind
            ∙ ap (bindings.Pair source) two.value;
        behind = ap (λ t. drop 1 (behind_element spec (second_pool spec (quants.Pairs rel)) (drop 1 t))) one.behind ∙ ap (drop 1) two.behind;
      })
  binding_back quants.Once (bindings.Each elem) rest its = absurd its
  binding_back quants.Once (bindings.Pair source target) rest its = absurd its
  binding_back (quants.Each set) bindings.Once rest its = absurd its
  binding_back (quants.Each set) (bindings.Pair source target) rest its = absurd its
  binding_back (quants.Pairs rel) bindings.Once rest its = absurd its
  binding_back (quants.Pairs rel) (bindings.Each elem) rest its = absurd its

  module _ (quant : Quant) (count : ℕ) (small : count < 2 ^ 64) (head : Head) (bound : IsRecordOf spec quant head.binding) where
    abbrev pub name : List ℕ
    name = constraint_name spec head.constraint

    abbrev rule_rest : List ℕ
    rule_rest = codes "\n"

    abbrev literal_rest : List ℕ
    literal_rest = codes " " ++ (decimal (head.rule + 1) ++ rule_rest)

    abbrev conj_rest : List ℕ
    conj_rest = codes "." ++ (decimal (head.literal + 1) ++ literal_rest)

    abbrev pub binding_rest : List ℕ
    binding_rest = codes " " ++ (decimal (head.conj + 1) ++ conj_rest)

    abbrev count_rest : List ℕ
    count_rest = codes " " ++ (name ++ (codes " " ++ (binding_text spec head.binding ++ binding_rest)))

    abbrev line : List ℕ
    line = update_line spec count (bare head)

    line_grouped : line ≡ codes "update " ++ (decimal count ++ count_rest)
    line_grouped =
        let place : place_text (bare head) ++ literal_rest ≡ decimal (head.conj + 1) ++ conj_rest =
        regroup (decimal (head.conj + 1)) (codes "." ∷ decimal (head.literal + 1) ∷ literal_rest ∷ [])
        ∙ ap (λ t. decimal (head.conj + 1) ++ (codes "." ++ (decimal (head.literal + 1) ++ t))) (append-nil literal_rest) in
        regroup (codes "update ") (decimal count ∷ codes " " ∷ name ∷ codes " " ∷ binding_text spec head.binding ∷ codes " " ∷ place_text (bare head) ∷ codes " " ∷ decimal (head.rule + 1) ∷ codes "\n" ∷ [])
        ∙ ap (λ t. codes "update " ++ (decimal count ++ (codes " " ++ (name ++ (codes " " ++ (binding_text spec head.binding ++ (codes " " ++ t))))))) place

    pub name_is : name_ahead line ≡ name ++ (codes " " ++ (binding_text spec head.binding ++ binding_rest))
    name_is = ap (λ t. drop 1 (behind_number (drop 7 t))) line_grouped ∙ ap (drop 1) (number_back count count_rest small refl).behind

    binding_is : binding_in spec head.constraint line ≡ binding_text spec head.binding ++ binding_rest
    binding_is = ap (drop (length name + 1)) name_is ∙ drop-append-add name (codes " " ++ (binding_text spec head.binding ++ binding_rest)) 1

    read : ReadsBinding quant (binding_in spec head.constraint line) head.binding binding_rest
    read = subst (λ t. ReadsBinding quant t head.binding binding_rest) (sym binding_is) (binding_back quant head.binding binding_rest bound)

    module _ (conj_small : head.conj < 2 ^ 32) (literal_small : head.literal < 2 ^ 32) (rule_small : head.rule < 2 ^ 32) where
      conj_is : ReadsNumber (conj_in spec quant head.constraint line) (head.conj + 1) conj_rest
      conj_is = subst (λ t. ReadsNumber (drop 1 t) (head.conj + 1) conj_rest) (sym read.behind) (number_back (head.conj + 1) conj_rest (omega (arith, conj_small)) refl)

      literal_is : ReadsNumber (literal_in spec quant head.constraint line) (head.literal + 1) literal_rest
      literal_is = subst (λ t. ReadsNumber (drop 1 t) (head.literal + 1) literal_rest) (sym conj_is.behind) (number_back (head.literal + 1) literal_rest (omega (arith, literal_small)) refl)

      rule_is : ReadsNumber (rule_in spec quant head.constraint line) (head.rule + 1) rule_rest
      rule_is = subst (λ t. ReadsNumber (drop 1 t) (head.rule + 1) rule_rest) (sym literal_is.behind) (number_back (head.rule + 1) rule_rest (omega (arith, rule_small)) refl)

      pub head_back : head_in spec quant head.constraint line ≡ head
      head_back =
          let conj : place_of (number_ahead (conj_in spec quant head.constraint line)) ≡ head.conj = ap place_of conj_is.value ∙ place_back head.conj conj_small in
          let literal : place_of (number_ahead (literal_in spec quant head.constraint line)) ≡ head.literal = ap place_of literal_is.value ∙ place_back head.literal literal_small in
          let rule : place_of (number_ahead (rule_in spec quant head.constraint line)) ≡ head.rule = ap place_of rule_is.value ∙ place_back head.rule rule_small in
          λ i. record { constraint = head.constraint; binding = read.value i; conj = conj i; literal = literal i; rule = rule i }
