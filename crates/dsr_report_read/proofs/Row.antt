-- Lines that were read one after the other.
use Rattle.std.proofs.Common.{◌≡◌, ◌≤◌, ◌<◌, ◌+◌, ◌++◌, ◌∙◌, ℕ, zero, suc, IsTrue, List, [], ◌∷◌, None, Some, length, take, get_or, slice_get, refl, sym, ap, subst, arith, length-append}
use Rattle.std.specs.Borrow.{Bor}
use Rattle.std.proofs.lemmas.Option.{slice_get_within}
use Rattle.dsr_ir.specs.declared.declarations.Spec.{Spec}
use Rattle.dsr_report_read.proofs.FirstNamed.{none_formed}
use Rattle.dsr_report_read.specs.Forms.{AreLines, IsFirstWrong, IsNext, IsReportOf}
use Rattle.dsr_report_read.specs.Lines.{kind_of, line_text, line_texts, may_follow, moved, start, state_after}
use Rattle.dsr_report_read.specs.Reads.{ReadsLine, texts_of}
use Rattle.dsr_report_read.specs.declared.lines.Kind.TheVariants as kinds
use Rattle.dsr_report_read.specs.declared.lines.Line.{Line}
use Rattle.dsr_report_read.specs.declared.lines.Line.TheVariants as lines
use Rattle.dsr_report_read.specs.declared.lines.State.{State}

-- ---- one line more

state_more : (s : State) (ls : List Line) (l : Line) → state_after s (ls ++ l ∷ []) ≡ moved (state_after s ls) l
state_more s [] l = refl
state_more s (k ∷ ls) l = state_more (moved s k) ls l

module _ (spec : Spec) where
  lines_more : (s : State) (ls : List Line) (l : Line) → AreLines spec s ls → IsNext spec (state_after s ls) l → AreLines spec s (ls ++ l ∷ [])
  lines_more s [] l are next = (next, tt)
  lines_more s (k ∷ ls) l are next = (are.0, lines_more (moved s k) ls l are.1 next)

  texts_more : (s : State) (ls : List Line) (l : Line) → line_texts spec s (ls ++ l ∷ []) ≡ line_texts spec s ls ++ line_text spec (state_after s ls).count l ∷ []
  texts_more s [] l = refl
  texts_more s (k ∷ ls) l = ap (λ ts. line_text spec s.count k ∷ ts) (texts_more (moved s k) ls l)

  long : (s : State) (ls : List Line) → length (line_texts spec s ls) ≡ length ls
  long s [] = refl
  long s (l ∷ ls) = ap suc (long (moved s l) ls)

take_one : {A : Type 0} (xs : List A) (k : ℕ) (x : A) → slice_get xs k ≡ Some x → take (k + 1) xs ≡ take k xs ++ x ∷ []
take_one [] k x is = absurd cc
take_one (y ∷ xs) zero x is = let same : y ≡ x = cc in ap (λ z. z ∷ []) same
take_one (y ∷ xs) (suc k) x is =
    let next : suc k + 1 ≡ suc (k + 1) = omega arith in
    ap (λ n. take n (y ∷ xs)) next ∙ ap (λ zs. y ∷ zs) (take_one xs k x is)

take_short : {A : Type 0} (xs : List A) (k : ℕ) → length (take k xs) ≤ length xs
take_short [] zero = omega arith
take_short [] (suc k) = omega arith
take_short (x ∷ xs) zero = omega arith
take_short (x ∷ xs) (suc k) = let rest = take_short xs k in omega (arith, rest)

take_all : {A : Type 0} (xs : List A) → take (length xs) xs ≡ xs
take_all [] = refl
take_all (x ∷ xs) = ap (λ ys. x ∷ ys) (take_all xs)

pub text_got : (texts : List (Bor (List ℕ))) (n : ℕ) (text : Bor (List ℕ)) → n < length texts → text ≡ get_or texts n text → slice_get (texts_of texts) n ≡ Some text.now
text_got [] n text less is = absurd (omega (arith, less))
text_got (x ∷ texts) zero text less is = ap (λ t. Some t.now) (sym is)
text_got (x ∷ texts) (suc n) text less is = text_got texts n text (omega (arith, less)) is

pub item_got : (texts : List (Bor (List ℕ))) (n : ℕ) (d : Bor (List ℕ)) → n < length texts → slice_get (texts_of texts) n ≡ Some (get_or texts n d).now
item_got [] n d less = absurd (omega (arith, less))
item_got (x ∷ texts) zero d less = refl
item_got (x ∷ texts) (suc n) d less = item_got texts n d (omega (arith, less))

pub texts_long : (texts : List (Bor (List ℕ))) → length (texts_of texts) ≡ length texts
texts_long [] = refl
texts_long (x ∷ texts) = ap suc (texts_long texts)

-- ---- what was read

-- the first texts are these lines
pub record AreRead (spec : Spec) (texts : List (List ℕ)) (place : ℕ) (ls : List Line) (state : State) : Type 0 where
  are_lines : AreLines spec start ls
  texts_are : take place texts ≡ line_texts spec start ls
  many : length ls ≡ place
  state_is : state ≡ state_after start ls
  pub few : state.count ≤ place

pub none_read : (spec : Spec) (texts : List (List ℕ)) → AreRead spec texts 0 [] start
none_read spec texts = record { are_lines = tt; texts_are = refl; many = refl; state_is = refl; few = omega arith }

count_little : (s : State) (l : Line) → (moved s l).count ≤ s.count + 1
count_little s l = elim l as (λ l. (moved s l).count ≤ s.count + 1) [
  | lines.Update h ↦ omega arith
  | lines.Reset e ↦ omega arith
  | lines.Set x ↦ omega arith
  | lines.Byte b ↦ omega arith
  | lines.End ↦ omega arith
]

module _ (spec : Spec) (texts : List (List ℕ)) where
  module _ (k : ℕ) (ls : List Line) (s : State) (read : AreRead spec texts k ls s) where
    module _ (text : List ℕ) (there : slice_get texts k ≡ Some text) where
      pub one_read : (l : Line) → IsNext spec s l → text ≡ line_text spec s.count l → AreRead spec texts (k + 1) (ls ++ l ∷ []) (moved s l)
      one_read l next is =
          let little = count_little s l in
          let few = read.few in
          let many = read.many in
          let both = length-append ls (l ∷ []) in
          record {
            are_lines = lines_more spec start ls l read.are_lines (subst (λ t. IsNext spec t l) read.state_is next);
            texts_are = take_one texts k text there ∙ (ap (λ ts. ts ++ text ∷ []) read.texts_are ∙ (ap (λ t. line_texts spec start ls ++ t ∷ []) (is ∙ ap (λ t. line_text spec t.count l) read.state_is) ∙ sym (texts_more spec start ls l)));
            many = omega (arith, both, many);
            state_is = ap (λ t. moved t l) read.state_is ∙ sym (state_more start ls l);
            few = omega (arith, little, few);
          }

      pub wrong_here : ReadsLine spec s text None → IsFirstWrong spec texts (k + 1)
      wrong_here none =
          let less = slice_get_within texts k text there in
          let many = read.many in
          record {
            before = ls;
            number_is = omega (arith, many);
            behind = record {
              are_lines = read.are_lines;
              texts_are = ap (λ n. take n texts) many ∙ read.texts_are;
              within = omega (arith, less, many);
              wrong = λ l follows its is.
                  let both : Some text ≡ Some (line_text spec (state_after start ls).count l) = sym there ∙ (ap (slice_get texts) (sym many) ∙ is) in
                  let same : text ≡ line_text spec (state_after start ls).count l = cc in
                  none_formed spec s text none l (subst (λ t. IsTrue (may_follow t.last (kind_of l))) (sym read.state_is) follows) its (same ∙ ap (λ t. line_text spec t.count l) (sym read.state_is));
              unended = λ _. omega (arith, less, many);
            };
          }

  -- as many were read as there are
  all_of : (k : ℕ) (ls : List Line) (s : State) → AreRead spec texts k ls s → length texts ≤ k → k ≡ length texts
  all_of k ls s read past =
      let short = take_short texts k in
      let many = read.many in
      let lines_long = long spec start ls in
      let same = ap length read.texts_are in
      omega (arith, short, many, lines_long, same, past)

  module _ (k : ℕ) (ls : List Line) (s : State) (its : AreRead spec texts k ls s) (past : length texts ≤ k) where
    read : AreRead spec texts (length texts) ls s
    read = subst (λ n. AreRead spec texts n ls s) (all_of k ls s its past) its

    pub no_end : (s.last ≡ Some kinds.End → ⊥) → IsFirstWrong spec texts (length texts + 1)
    no_end other =
        let many = read.many in
        record {
          before = ls;
          number_is = omega (arith, many);
          behind = record {
            are_lines = read.are_lines;
            texts_are = ap (λ n. take n texts) many ∙ read.texts_are;
            within = omega (arith, many);
            wrong = λ l follows its is. let less = slice_get_within texts (length ls) (line_text spec (state_after start ls).count l) is in absurd (omega (arith, less, many));
            unended = λ ended. absurd (other (ap (λ t. t.last) read.state_is ∙ ended));
          };
        }

    pub all_read : s.last ≡ Some kinds.End → IsReportOf spec texts ls
    all_read ended = record {
      are_lines = read.are_lines;
      texts_are = sym (take_all texts) ∙ read.texts_are;
      ended = sym (ap (λ t. t.last) read.state_is) ∙ ended;
    }
