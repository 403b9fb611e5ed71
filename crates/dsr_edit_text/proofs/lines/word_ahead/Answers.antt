use Rattle.std.proofs.Common.{◌≤◌, length, subst, sym}
use Rattle.std.proofs.lemmas.List.Sums.{prefix_len-le-length}
use Rattle.dsr_syntax_theory.specs.Tokens.{is_in_word}
use Rattle.dsr_edit_text.proofs.lines.word_ahead.Goals as goal

pub split_at-requires : goal.split_at-requires
split_at-requires c = subst (λ n. n ≤ length c.args.text.now) (sym c.word_len.ensures) (prefix_len-le-length is_in_word c.args.text.now)
