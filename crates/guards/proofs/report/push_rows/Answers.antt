use Rattle.std.proofs.Common.{◌++◌, [], ◌∷◌, string_bytes, ap, ◌∙◌}
use Rattle.guards.specs.Report.{indented}
use Rattle.guards.proofs.Rows.{no_more, row_more}
use Rattle.guards.proofs.report.push_rows.Goals as goal

pub loop-row-preserved : goal.loop-row-preserved
loop-row-preserved c =
    let s = c.in-Some.ensures.steps in
    let i = c.loop-row.invariant in
    let new = c.in_ok-write.ensures.bytes ∙ ap (λ l. string_bytes c.loop-row.text ++ indented (l ∷ [])) c.in_ok-row.ensures.made in
    (row_more _ _ _ _ _ _ _ i.0 i.1 s.1.0 s.1.1 s.1.2 new, s.0 ∙ i.1)

pub returns : goal.returns
returns c = no_more _ _ _ _ c.in-None.ensures.steps.1.0 c.loop-row.invariant.0
