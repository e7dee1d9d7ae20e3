use Rattle.atahost.proofs.laws.one_text_of_replays.Goals as goal

pub returns : goal.returns
returns c rounds others left before after k source first last n these those same =
    c.one_text_of_journals.ensures these.journals those.journals these.ranges those.ranges same
