use Rattle.std.proofs.Common.{get_or, codes, arith}
use Rattle.script.proofs.Names.{unread, no_word, texts-first}
use Rattle.script.proofs.parse.board.Goals as goal

pub returns-in_default-name : goal.returns-in_default-name
returns-in_default-name c =
    let s = (get_or c.args.words.now 0 no_word).now in
    rw (texts-first c.args.words.now no_word (grind arith), unread s (codes "table") (λ r. grind arith), unread s (codes "drive") (λ r. grind arith))
