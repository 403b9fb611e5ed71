use Rattle.std.proofs.Common.{◌∙◌}
use Rattle.dsr_lexer.proofs.Found.{keyword_stands, name_stands, name_too_long}
use Rattle.dsr_lexer.proofs.words.find_word.Goals as goal

pub returns-in-Some : goal.returns-in-Some
returns-in-Some c = keyword_stands c.args.second c.args.text.now c.word_len-len.result c.in-Some.keyword c.requires c.word_len-len.ensures c.in-Some.ensures.0 c.in-Some.ensures.1

pub returns-then-len-gt-NAME_LIMIT : goal.returns-then-len-gt-NAME_LIMIT
returns-then-len-gt-NAME_LIMIT c = name_too_long c.args.second c.args.text.now c.word_len-len.result c.requires c.word_len-len.ensures c.in_default.ensures c.if-len-gt-NAME_LIMIT.true

pub returns : goal.returns
returns c = name_stands c.args.second c.args.text.now c.word_len-len.result c.new-name.result c.requires c.word_len-len.ensures c.in_default.ensures c.if-len-gt-NAME_LIMIT.false (c.new-name.ensures ∙ c.in_ok-from_slice.ensures.items)
