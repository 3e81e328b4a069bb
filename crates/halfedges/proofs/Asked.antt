-- What a store answers that first asks whether there is room. Assumes nothing.
use Rattle.std.proofs.Common.{◌≡◌, ℕ, Bool, ap, ◌∙◌}
use Rattle.turning.specs.Limits.{max_edge}
use Rattle.chart.specs.declared.point.Point.{Point}
use Rattle.chart.specs.declared.point.End.{End}
use Rattle.chart.specs.Changes.{may_hang, may_cleave}
use Rattle.chart.specs.Linework.{Linework}

pub told_hang : (l : Linework) (room : Point → Point → Bool) (e : ℕ) (a b : End) (fits r : Bool) → r ≡ may_hang max_edge l (λ _ _. fits) e a b → fits ≡ room a.point b.point → r ≡ may_hang max_edge l room e a b
told_hang l room e a b fits r asked is = asked ∙ ap (λ f. may_hang max_edge l (λ _ _. f) e a b) is

pub told_cleave : (l : Linework) (room : Point → Point → Bool) (e f : ℕ) (p : Point) (fits r : Bool) → r ≡ may_cleave max_edge l (λ _ _. fits) e f p → fits ≡ room p p → r ≡ may_cleave max_edge l room e f p
told_cleave l room e f p fits r asked is = asked ∙ ap (λ b. may_cleave max_edge l (λ _ _. b) e f p) is
