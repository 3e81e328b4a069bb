use Rattle.std.proofs.Common.{sym, ap, ◌∙◌, subst}
use Rattle.turning.specs.Limits.{max_edge}
use Rattle.search.specs.Marks.{Within, place as mark_at}
use Rattle.strip_questions.proofs.Marks.{named_within, name_is}
use Rattle.strip_questions.proofs.place.place_in.Goals as goal

pub place_of-requires : goal.place_of-requires
place_of-requires c = subst (Within max_edge) (sym (name_is _ _ c.name.ensures c.requires.named)) (named_within _ c.requires.named)

pub returns : goal.returns
returns c = record { value = c.place_of.ensures.value ∙ ap (mark_at max_edge) (name_is _ _ c.name.ensures c.requires.named); within = c.place_of.ensures.within }
