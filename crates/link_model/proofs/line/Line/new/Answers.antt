use Rattle.std.proofs.Common.{[], true, None, refl, sym, subst}
use Rattle.sync_text.specs.Each.{Each}
use Rattle.link_model.specs.Kept.{WordsKept, words_kept, all_words}
use Rattle.link_model.specs.StandsFor.{StandsFor, AreOfOption}
use Rattle.link_model.proofs.Replies.{IsOf, stands-as}
use Rattle.link_model.proofs.Dues.{new-stands}
use Rattle.link_model.proofs.line.Line.new.Goals as goal

pub returns-clause-options : goal.returns-clause-options
unfolding AreOfOption
returns-clause-options c option = subst (λ (words : WordsKept). Each (IsOf option) (all_words words)) (sym c.new.ensures) tt

pub returns-clause-stands : goal.returns-clause-stands
unfolding StandsFor
returns-clause-stands c =
    stands-as c.from.result 0 true true None None (words_kept c.new.result) (record { arrived = None; on_way = [] }) [] refl c.new.ensures (new-stands c.from.result)
