-- What an edit answers where every pair of points fits, asked at a small limit that no held name lies beyond.
-- Assumes nothing.
use Rattle.std.proofs.Common.{◌≡◌, ℕ, ◌≤◌, true, leb, List, [], ◌∷◌, sym, refl, ap, ◌∙◌, arith}
use Rattle.std.proofs.lemmas.Bool.{le-leb, cond-true}
use Rattle.turning.specs.Limits.{max_edge}
use Rattle.turning.specs.Refusals.{Questions, Outcome, granted, outcome}
use Rattle.turning.specs.Counts.{holding}
use Rattle.search.specs.Buffers.{enough}
use Rattle.chart.specs.Linework.{Linework}
use Rattle.chart.specs.Stores.{Frame, Meaning}
use Rattle.edits.specs.Edits.{Edit, starts, sprouts, joins, splits, removes, questions, join_questions, made}
use Rattle.specimens.specs.Drawn.{Answers, Granted}
use Rattle.specimens.proofs.Limits.{Bounded, holding_limit, may_join_limit}
use Rattle.specimens.proofs.Bounds.{Numbered, made_bounded}

-- the line work l in some frame, where every pair of points fits
abbrev pub roomy : Linework → Frame → Meaning
roomy l f = record { lines = l; frame = f; fits = λ _ _. true }

-- the buffers of a join are long enough
abbrev pub Ready : Edit → Type 0
Ready (starts e p q) = Unit {0}
Ready (sprouts e c p) = Unit {0}
Ready (joins e c d marks line) = enough max_edge marks line ≡ true
Ready (splits e f p) = Unit {0}
Ready (removes e) = Unit {0}

-- the questions of an edit but that for its buffers
abbrev pub others : ℕ → Meaning → Edit → Questions
others m w (starts e p q) = questions m w (starts e p q)
others m w (sprouts e c p) = questions m w (sprouts e c p)
others m w (joins e c d marks line) = join_questions m w e c d
others m w (splits e f p) = questions m w (splits e f p)
others m w (removes e) = questions m w (removes e)

module _ (m : ℕ) (w : Meaning) (few : Bounded m w.lines.turn) (le : m ≤ max_edge) where
  in_range : (e : ℕ) → e ≤ m → leb e max_edge ≡ leb e m
  in_range e h = le-leb e max_edge (omega arith) ∙ sym (le-leb e m h)

  held : holding max_edge w.lines.turn ≡ holding m w.lines.turn
  held = holding_limit m max_edge w.lines.turn few le

  questions_limit : (q : Edit) → Numbered m q → Ready q → outcome (questions max_edge w q) ≡ outcome (others m w q)
  questions_limit (starts e p q) s r = let a = in_range e s in let b = held in simp (a, b)
  questions_limit (sprouts e c p) s r = let a = in_range e s in let b = held in simp (a, b)
  questions_limit (joins e c d marks line) s r =
      let a = in_range e s in
      let b = may_join_limit m max_edge w.lines.turn few le c d in
      cond-true (enough max_edge marks line) _ _ r ∙ simp (a, b)
  questions_limit (splits e f p) s r = let a = in_range f s in let b = held in simp (a, b)
  questions_limit (removes e) s r = refl

-- asked at the limit m, the edit answers r
abbrev pub SmallAnswers : ℕ → Linework → Edit → Outcome → Type 0
SmallAnswers m l q r = (f : Frame) → outcome (others m (roomy l f) q) ≡ r

pub answers : (m : ℕ) (l : Linework) (q : Edit) (r : Outcome) → Bounded m l.turn → m ≤ max_edge → Numbered m q → Ready q → SmallAnswers m l q r → Answers l q r
answers m l q r few le s y h w e all = ap (λ v. outcome (questions max_edge v q)) same ∙ questions_limit m (roomy l w.frame) few le q s y ∙ h w.frame
  where
    same : w ≡ roomy l w.frame
    same = λ i. record { lines = e i; frame = w.frame; fits = λ a b. all a b i }

-- ---- edits one after the other
-- each of them, where the line work is l, is said to be P
abbrev pub InTurn : (Linework → Edit → Type 0) → List Edit → Linework → Type 0
InTurn P [] l = Unit {0}
InTurn P (q ∷ qs) l = P l q × InTurn P qs (made q l)

-- asked at the limit m, they are granted
abbrev pub Grants : ℕ → Linework → Edit → Type 0
Grants m l q = Numbered m q × Ready q × SmallAnswers m l q granted

pub granted_all : (m : ℕ) (qs : List Edit) (l : Linework) → Bounded m l.turn → m ≤ max_edge → InTurn (Grants m) qs l → Granted qs l
granted_all m [] l few le g = tt
granted_all m (q ∷ qs) l few le g =
    (answers m l q granted few le g.0.0 g.0.1 g.0.2, granted_all m qs (made q l) (made_bounded m q l g.0.0 few) le g.1)
