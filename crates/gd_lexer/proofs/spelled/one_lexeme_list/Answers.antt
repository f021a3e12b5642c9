use Rattle.gd_lexer.proofs.OneSpelling.{one_lexeme_list, one_comment_list}
use Rattle.gd_lexer.proofs.spelled.one_lexeme_list.Goals as goal

pub returns-clause-tokens : goal.returns-clause-tokens
returns-clause-tokens c = one_lexeme_list

pub returns-clause-comments : goal.returns-clause-comments
returns-clause-comments c = one_comment_list
