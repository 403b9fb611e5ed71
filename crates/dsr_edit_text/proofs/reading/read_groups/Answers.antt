use Rattle.std.proofs.Common.{◌≡◌, ◌+◌, ◌++◌, ◌∙◌, false, true, List, [], ◌∷◌, Option, Some, length, map, sym, ap, subst, arith}
use Rattle.std.specs.Prelude.{nat_eq}
use Rattle.std.proofs.lemmas.Bool.{false≢true}
use Rattle.dsr_edit_text.proofs.Rows.{AreRead, all_read, commit_read, groups_more, lines_more, no_lines, none_read, set_read, some_lines, unended, wrong_here}
use Rattle.dsr_edit_text.specs.Reads.{IsWrongAt, ReadsSet}
use Rattle.dsr_edit_text.specs.Scripts.{SetText}
use Rattle.dsr_edit_text.specs.Shown.{shown, shown_groups, texts_of}
use Rattle.dsr_edit_text.specs.declared.lines.SetLine.{SetLine}
use Rattle.dsr_report_read.proofs.Row.{texts_long}
use Rattle.dsr_edit_text.proofs.reading.read_groups.Goals as goal

pub loop-place-init : goal.loop-place-init
loop-place-init c =
    subst (λ gs. AreRead c.args.second (texts_of c.args.texts.now) 0 (shown_groups gs) (map shown c.new-group.result.items)) (sym c.new-groups.ensures.items)
    (subst (λ g. AreRead c.args.second (texts_of c.args.texts.now) 0 [] (map shown g)) (sym c.new-group.ensures.items) (none_read c.args.second (texts_of c.args.texts.now)))

pub returns-in_default : goal.returns-in_default
returns-in_default c =
    wrong_here c.args.second (texts_of c.args.texts.now) c.loop-place.place (shown_groups c.loop-place.groups.items) (map shown c.loop-place.group.items) c.loop-place.invariant
    c.text_at-text.result.now c.text_at-text.ensures (λ is. false≢true (sym c.if-is_commit.false ∙ c.is_commit.ensures.1 is))
    (subst (λ (o : Option SetLine). ReadsSet c.args.second c.text_at-text.result.now o) c.in_default.is c.in_ok-set.ensures)

pub loop-place-preserved : goal.loop-place-preserved
loop-place-preserved c =
    let reads : ReadsSet c.args.second c.text_at-text.result.now (Some c.in-Some.set) =
    subst (λ (o : Option SetLine). ReadsSet c.args.second c.text_at-text.result.now o) c.in-Some.is c.in_ok-set.ensures in
    subst (λ (ls : List SetText). AreRead c.args.second (texts_of c.args.texts.now) (c.loop-place.place + 1) (shown_groups c.loop-place.groups.items) ls)
    (sym (ap (map shown) c.in_ok-push-2.ensures.items ∙ lines_more c.loop-place.group.items c.in-Some.set))
    (set_read c.args.second (texts_of c.args.texts.now) c.loop-place.place (shown_groups c.loop-place.groups.items) (map shown c.loop-place.group.items) c.loop-place.invariant
    c.text_at-text.result.now c.text_at-text.ensures (shown c.in-Some.set) reads.0 reads.1)

pub loop-place-preserved-then-is_commit : goal.loop-place-preserved-then-is_commit
loop-place-preserved-then-is_commit c =
    subst (λ (gs : List (List SetText)). AreRead c.args.second (texts_of c.args.texts.now) (c.loop-place.place + 1) gs (map shown c.new-group-then-is_commit.result.items))
    (sym (ap shown_groups c.in_ok-push.ensures.items ∙ groups_more c.loop-place.groups.items c.loop-place.group))
    (subst (λ (ls : List SetLine). AreRead c.args.second (texts_of c.args.texts.now) (c.loop-place.place + 1) (shown_groups c.loop-place.groups.items ++ map shown c.loop-place.group.items ∷ []) (map shown ls))
    (sym c.new-group-then-is_commit.ensures.items)
    (commit_read c.args.second (texts_of c.args.texts.now) c.loop-place.place (shown_groups c.loop-place.groups.items) (map shown c.loop-place.group.items) c.loop-place.invariant
    c.text_at-text.result.now c.text_at-text.ensures (c.is_commit.ensures.0 c.if-is_commit.true)))

pub returns-then-not-is_empty : goal.returns-then-not-is_empty
returns-then-not-is_empty c =
    let long = texts_long c.args.texts.now in
    let test = c.loop-place-test.false in
    subst (λ n. IsWrongAt c.args.second (texts_of c.args.texts.now) (n + 1)) long
    (unended c.args.second (texts_of c.args.texts.now) c.loop-place.place (shown_groups c.loop-place.groups.items) (map shown c.loop-place.group.items) c.loop-place.invariant
    (omega (arith, long, test)) (some_lines c.loop-place.group.items (subst (λ xs. nat_eq (length xs) 0 ≡ false) c.deref.ensures.value (sym c.is_empty.ensures ∙ c.if-not-is_empty.true))))

pub returns : goal.returns
returns c =
    let long = texts_long c.args.texts.now in
    let test = c.loop-place-test.false in
    all_read c.args.second (texts_of c.args.texts.now) c.loop-place.place (shown_groups c.loop-place.groups.items) (map shown c.loop-place.group.items) c.loop-place.invariant
    (omega (arith, long, test)) (no_lines c.loop-place.group.items (subst (λ xs. nat_eq (length xs) 0 ≡ true) c.deref.ensures.value (sym c.is_empty.ensures ∙ c.if-not-is_empty.false)))
