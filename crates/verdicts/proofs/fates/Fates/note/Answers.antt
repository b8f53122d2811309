use Rattle.std.proofs.Common.{sym, ◌∙◌}
use Rattle.verdicts.proofs.Tables.{is_there_lem, noted_none, noted_nowhere, noted_there}
use Rattle.verdicts.proofs.fates.Fates.note.Goals as goal

pub returns-in_default-clause-moved : goal.returns-in_default-clause-moved
returns-in_default-clause-moved c k n h i j l = noted_none _ _ k n _ c.args.event (sym c.in_default.is ∙ c.of.ensures)

pub returns-in_default-place-clause-moved : goal.returns-in_default-place-clause-moved
returns-in_default-place-clause-moved c k n h i j l =
    noted_nowhere _ _ _ _ k n _ c.args.event c.in-Some.pair (sym c.in-Some.is ∙ c.of.ensures) c.in_default-place.ensures.there (is_there_lem _ _ k n h i j l)

pub returns-clause-moved : goal.returns-clause-moved
returns-clause-moved c k n h i j l =
    let fates = c.args.self.now in
    let there = c.in-Some-place.ensures.there in
    noted_there _ c.args.said.now fates.messages _ k n c.in-Some-place.at fates.all.items c.args.event c.in-Some.pair c.index-said-pair.result c.index.result.now c.changed.result
    (sym c.in-Some.is ∙ c.of.ensures) there.0 there.1 (is_there_lem _ _ k n h i j l) c.requires (sym fates.all.ok.0 ∙ fates.whole) c.index.ensures c.changed.ensures
