-- The lines of a refusal and of a round that goes on by their parts.
-- Assumes nothing.
use mathlib.Core.Path.{◌≡◌, ap, ◌∙◌}
use mathlib.Core.List.{List, [], ◌∷◌, ◌++◌}
use Prim.Native.Nat.{ℕ}
use Rattle.printing.specs.Lines.{refused, go_on_from, Numeral, RefusedLine, GoOnLine}

-- what five puts leave, one after the other
pub refused_by_parts : (number place : ℕ) (word first space second end : List ℕ) → word ≡ refused
    → ((a : List ℕ) × (Numeral number a × (first ≡ word ++ a))) → space ≡ first ++ (32 ∷ [])
    → ((b : List ℕ) × (Numeral place b × (second ≡ space ++ b))) → end ≡ second ++ (10 ∷ []) → RefusedLine number place end
unfolding RefusedLine
refused_by_parts number place word first space second end e (a, (na, ea)) es (b, (nb, eb)) ee = (
  a,
  b,
  (
    na,
    (
      nb,
      ee
          ∙ ap (λ (t : List ℕ). t ++ (10 ∷ []))
          (eb ∙ ap (λ (t : List ℕ). t ++ b) (es ∙ ap (λ (t : List ℕ). t ++ (32 ∷ [])) (ea ∙ ap (λ (t : List ℕ). t ++ a) e))),
    ),
  ),
)

-- what three puts leave
pub go_on_by_parts : (step : ℕ) (words number end : List ℕ) → words ≡ go_on_from
    → ((a : List ℕ) × (Numeral step a × (number ≡ words ++ a))) → end ≡ number ++ (10 ∷ []) → GoOnLine step end
unfolding GoOnLine
go_on_by_parts step words number end e (a, (na, ea)) ee =
    (a, (na, ee ∙ ap (λ (t : List ℕ). t ++ (10 ∷ [])) (ea ∙ ap (λ (t : List ℕ). t ++ a) e)))
