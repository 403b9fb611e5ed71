use Rattle.std.proofs.Common.{◌∙◌, refl, sym}
use Rattle.dsr_edit_text.proofs.Spelled.{a_keyword_found, no_keyword_found, no_letter, too_long}
use Rattle.dsr_edit_text.proofs.names.is_name.Goals as goal

pub returns-then-not-begins_word : goal.returns-then-not-begins_word
returns-then-not-begins_word c = no_letter c.args.second c.args.word.now (sym c.begins_word.ensures ∙ c.if-not-begins_word.true)

pub returns-then-word-gt-NAME_LIMIT : goal.returns-then-word-gt-NAME_LIMIT
returns-then-word-gt-NAME_LIMIT c = too_long c.args.second c.args.word.now _ refl c.if-word-gt-NAME_LIMIT.true

pub returns-in-Some : goal.returns-in-Some
returns-in-Some c = a_keyword_found c.args.second c.args.word.now c.find_keyword.result c.in-Some.field-0 c.in-Some.is c.find_keyword.ensures

pub returns-in-None : goal.returns-in-None
returns-in-None c =
    no_keyword_found c.args.second c.args.word.now c.find_keyword.result _ c.in-None.is c.find_keyword.ensures (sym c.begins_word.ensures ∙ c.if-not-begins_word.false) c.requires.word refl c.if-word-gt-NAME_LIMIT.false
