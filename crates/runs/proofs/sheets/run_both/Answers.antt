use Rattle.runs.proofs.Agree.{runs_agree}
use Rattle.runs.proofs.sheets.run_both.Goals as goal

pub returns : goal.returns
returns g c =
    let h = c.run.ensures.run in
    let k = c.run-2.ensures.run in
    record { sheet = h; other = k; flat = c.run.ensures.flat; alike = runs_agree _ _ _ _ _ _ _ _ h k }
