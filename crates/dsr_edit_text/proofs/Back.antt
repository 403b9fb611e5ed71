-- A printed line is read back.
use Rattle.std.proofs.Common.{◌≡◌, ◌<◌, ◌+◌, ◌*◌, ◌-◌, ◌%◌, ◌^◌, ◌++◌, ◌∙◌, ℕ, Bool, true, false, Decides, IfSome, cond, List, [], ◌∷◌, Option, None, Some, length, take, drop, refl, sym, ap, subst, arith, append-nil}
use Rattle.std.specs.Prelude.{codes, decimal}
use Rattle.std.specs.List.{prefix_len}
use Rattle.std.proofs.Math.Seq.{drop-append_seam, take-append_seam}
use Rattle.std.proofs.lemmas.Bool.{false≢true}
use Rattle.dsr_edit_text.proofs.Spelled.{record_word, spelled}
use Rattle.dsr_edit_text.specs.Lenient.{behind_index, behind_word, field_in, index_ahead, index_in, opens, pool_in, set_in, slot_in, value_in, word_ahead}
use Rattle.dsr_edit_text.specs.Reads.{ReadsSet}
use Rattle.dsr_edit_text.specs.Scripts.{IsName, IsRecordText, IsSetText, SetText, index_text, set_text}
use Rattle.dsr_edit_text.specs.Shown.{shown}
use Rattle.dsr_edit_text.specs.declared.lines.SetLine.{SetLine}
use Rattle.dsr_lexer.proofs.Shapes.{both, every_front}
use Rattle.dsr_report_read.proofs.ReadBack.{number_back, regroup}
use Rattle.dsr_report_read.specs.Lenient.{behind_number, digits_len, number_ahead, value_after}
use Rattle.dsr_syntax_theory.specs.Tokens.{every, is_in_word}

-- ---- numbers have 64 bits

mod_small : (x : ℕ) → x % 2 ^ 64 < 2 ^ 64
mod_small x = omega arith

value_small : (ds : List ℕ) (v : ℕ) → v < 2 ^ 64 → value_after v ds < 2 ^ 64
value_small [] v small = small
value_small (d ∷ ds) v small = value_small ds ((v * 10 % 2 ^ 64 + (d - 48)) % 2 ^ 64) (mod_small (v * 10 % 2 ^ 64 + (d - 48)))

number_small : (text : List ℕ) → number_ahead text < 2 ^ 64
number_small text = value_small (take (digits_len text) text) 0 (omega arith)

index_small : (text : List ℕ) → IfSome (index_ahead text) (λ n. n < 2 ^ 64)
index_small text = by_case (opens text) where
  by_case : (b : Bool) → IfSome (cond b (Some (number_ahead (drop 1 text))) None) (λ n. n < 2 ^ 64)
  by_case true = number_small (drop 1 text)
  by_case false = tt

-- ---- words

words_long : (word rest : List ℕ) → every is_in_word word ≡ true → prefix_len is_in_word rest ≡ 0 → prefix_len is_in_word (word ++ rest) ≡ length word
words_long [] rest all stops = stops
words_long (b ∷ word) rest all stops =
    let parts = both (is_in_word b) (every is_in_word word) all in
    ap (λ c. cond c (1 + prefix_len is_in_word (word ++ rest)) 0) parts.0
    ∙ (let more = words_long word rest parts.1 stops in omega (arith, more))

-- what is read of a text
pub record ReadsWord (text word rest : List ℕ) : Type 0 where
  pub value : word_ahead text ≡ word
  pub behind : behind_word text ≡ rest

word_back : (word rest : List ℕ) → every is_in_word word ≡ true → prefix_len is_in_word rest ≡ 0 → ReadsWord (word ++ rest) word rest
word_back word rest all stops =
    let long = words_long word rest all stops in
    record {
      value = ap (λ k. take k (word ++ rest)) long ∙ take-append_seam word rest;
      behind = ap (λ k. drop k (word ++ rest)) long ∙ drop-append_seam word rest;
    }

-- ---- numbers in brackets

pub record ReadsIndex (text : List ℕ) (index : Option ℕ) (rest : List ℕ) : Type 0 where
  pub value : index_ahead text ≡ index
  pub behind : behind_index text ≡ rest

index_grouped : (n : ℕ) (rest : List ℕ) → index_text (Some n) ++ rest ≡ codes "[" ++ (decimal n ++ (codes "]" ++ rest))
index_grouped n rest =
    regroup (codes "[") (decimal n ∷ codes "]" ∷ rest ∷ []) ∙ ap (λ t. codes "[" ++ (decimal n ++ (codes "]" ++ t))) (append-nil rest)

index_back : (index : Option ℕ) (rest : List ℕ) → IfSome index (λ n. n < 2 ^ 64) → opens rest ≡ false → ReadsIndex (index_text index ++ rest) index rest
index_back None rest small closed = record {
  value = ap (λ b. cond b (Some (number_ahead (drop 1 rest))) None) closed;
  behind = ap (λ b. cond b (drop 1 (behind_number (drop 1 rest))) rest) closed;
}
index_back (Some n) rest small closed =
    let number = number_back n (codes "]" ++ rest) small refl in
    subst (λ t. ReadsIndex t (Some n) rest) (sym (index_grouped n rest)) (record { value = ap Some number.value; behind = ap (drop 1) number.behind })

index_stops : (index : Option ℕ) (rest : List ℕ) → prefix_len is_in_word rest ≡ 0 → prefix_len is_in_word (index_text index ++ rest) ≡ 0
index_stops None rest stops = stops
index_stops (Some n) rest stops = ap (prefix_len is_in_word) (index_grouped n rest)

-- ---- a line

module _ (set : SetText) where
  abbrev last : List ℕ
  last = decimal set.value ++ codes "\n"

  abbrev behind_field : List ℕ
  behind_field = index_text set.index ++ (codes " " ++ last)

  abbrev behind_pool : List ℕ
  behind_pool = index_text set.slot ++ (codes "." ++ (set.field ++ behind_field))

  set_grouped : set_text set ≡ codes "set " ++ (set.pool ++ behind_pool)
  set_grouped = regroup (codes "set ") (set.pool ∷ index_text set.slot ∷ codes "." ∷ set.field ∷ index_text set.index ∷ codes " " ∷ decimal set.value ∷ codes "\n" ∷ [])

  module _ (second : Bool) (its : IsSetText second set) where
    abbrev text : List ℕ
    text = set_text set

    pool_at : pool_in text ≡ set.pool ++ behind_pool
    pool_at = ap (drop 4) set_grouped

    pool_read : ReadsWord (set.pool ++ behind_pool) set.pool behind_pool
    pool_read = word_back set.pool behind_pool (record_word second set its.record_is) (index_stops set.slot (codes "." ++ (set.field ++ behind_field)) refl)

    slot_at : slot_in text ≡ behind_pool
    slot_at = ap behind_word pool_at ∙ pool_read.behind

    slot_read : ReadsIndex behind_pool set.slot (codes "." ++ (set.field ++ behind_field))
    slot_read = index_back set.slot (codes "." ++ (set.field ++ behind_field)) its.slot refl

    field_at : field_in text ≡ set.field ++ behind_field
    field_at = ap (λ t. drop 1 (behind_index t)) slot_at ∙ ap (drop 1) slot_read.behind

    field_read : ReadsWord (set.field ++ behind_field) set.field behind_field
    field_read = word_back set.field behind_field (spelled second set.field its.field).all (index_stops set.index (codes " " ++ last) refl)

    index_at : index_in text ≡ behind_field
    index_at = ap behind_word field_at ∙ field_read.behind

    index_read : ReadsIndex behind_field set.index (codes " " ++ last)
    index_read = index_back set.index (codes " " ++ last) its.index refl

    value_at : value_in text ≡ last
    value_at = ap (λ t. drop 1 (behind_index t)) index_at ∙ ap (drop 1) index_read.behind

    pub set_back : set_in text ≡ set
    set_back =
        let pool : word_ahead (pool_in text) ≡ set.pool = ap word_ahead pool_at ∙ pool_read.value in
        let slot : index_ahead (slot_in text) ≡ set.slot = ap index_ahead slot_at ∙ slot_read.value in
        let field : word_ahead (field_in text) ≡ set.field = ap word_ahead field_at ∙ field_read.value in
        let index : index_ahead (index_in text) ≡ set.index = ap index_ahead index_at ∙ index_read.value in
        let value : number_ahead (value_in text) ≡ set.value = ap number_ahead value_at ∙ (number_back set.value (codes "\n") its.value refl).value in
        λ k. record { pool = pool k; slot = slot k; field = field k; index = index k; value = value k }

-- ---- what a text is

module _ (second : Bool) (text : List ℕ) (set : SetLine) (is : shown set ≡ set_in text) where
  pub pool_word : every is_in_word set.pool.now ≡ true
  pool_word = subst (λ w. every is_in_word w ≡ true) (sym (ap (λ (s : SetText). s.pool) is)) (every_front is_in_word (pool_in text))

  pub field_word : every is_in_word set.field.now ≡ true
  field_word = subst (λ w. every is_in_word w ≡ true) (sym (ap (λ (s : SetText). s.field) is)) (every_front is_in_word (field_in text))

  -- each line whose text it is is the one that was read
  sole : (other : SetText) → IsSetText second other → text ≡ set_text other → other ≡ shown set
  sole other its same = sym (is ∙ (ap set_in same ∙ set_back other second its))

  pub no_record : (b : Bool) → Decides b (IsRecordText second (shown set)) → b ≡ false → ReadsSet second text None
  no_record b decides other = λ s its same. false≢true (sym other ∙ decides.1 (subst (IsRecordText second) (sole s its same) its.record_is))

  pub no_field : (b : Bool) → Decides b (IsName second set.field.now) → b ≡ false → ReadsSet second text None
  no_field b decides other = λ s its same. false≢true (sym other ∙ decides.1 (subst (λ (x : SetText). IsName second x.field) (sole s its same) its.field))

  pub no_text : (b : Bool) → Decides b (text ≡ set_text (shown set)) → b ≡ false → ReadsSet second text None
  no_text b decides other = λ s its same. false≢true (sym other ∙ decides.1 (same ∙ ap set_text (sole s its same)))

  pub read_so :
      (a b c : Bool) → Decides a (IsRecordText second (shown set)) → a ≡ true → Decides b (IsName second set.field.now) → b ≡ true
      → Decides c (text ≡ set_text (shown set)) → c ≡ true → ReadsSet second text (Some set)
  read_so a b c recorded one named two told three = (
    record {
      record_is = recorded.0 one;
      field = named.0 two;
      slot = subst (λ (s : SetText). IfSome s.slot (λ n. n < 2 ^ 64)) (sym is) (index_small (slot_in text));
      index = subst (λ (s : SetText). IfSome s.index (λ n. n < 2 ^ 64)) (sym is) (index_small (index_in text));
      value = subst (λ (s : SetText). s.value < 2 ^ 64) (sym is) (number_small (value_in text));
    },
    told.0 three,
  )
