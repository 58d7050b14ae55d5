-- The check with limits of its own (document 02, l) beside the check.
-- Assumes nothing.
use mathlib.Core.Path.{◌≡◌, refl, sym, ap, ◌∙◌, subst}
use mathlib.Core.Logic.{◌↔◌, inl, inr}
use Prim.Native.Nat.{ℕ, suc, ◌≤◌}
use native.Mathlib.Omega.{arith}
use mathlib.Core.Option.{some}
use mathlib.Core.List.{List}
use lib.ListN.{get_elem?}
use Rattle.meaning.specs.Result.{Result, ◌>>=◌}
use Rattle.meaning.specs.File.{File}
use Rattle.meaning.specs.Layout.{read_file}
use Rattle.meaning.specs.declared.Limits.{Limits}
use Rattle.meaning.specs.Limits.{small}
use Rattle.meaning.specs.declared.Reply.TheVariants.{Accepted, Refused}
use Rattle.meaning.specs.Reply.{check_file, reply_to, reply_of}
use Rattle.meaning.specs.Judged.{JudgedBy}
use Rattle.meaning.specs.Small.{reply_within, reply_small, Before}
use Rattle.meaning.specs.Points.{FullLimits, RepliesAlike, FirstBreach, SmallIsAccepted, LimitRefusals, LimitedJudged}
use Rattle.meaning.proofs.Numbered.{Yields, refused, given, Numbered}
use Rattle.meaning.proofs.LayoutFaults.{Within}
use Rattle.meaning.proofs.Stages.{From, empty, first, Stage, fault, fine, breach}
use Rattle.meaning.proofs.Breaches.{file_stage, read_alike}
use Rattle.meaning.proofs.StepRefusals.{OfSteps, check_ok}
use Rattle.meaning.proofs.Refusals.{reply_number, refusal_numbers}
use Rattle.meaning.proofs.Judgements.{no_judgement, reply_judges}

pub full_limits : FullLimits
unfolding reply_within reply_of read_file
full_limits bytes = (refl, λ p e. elim (refusal_numbers bytes 19 p e) [ inl h ↦ omega (arith, h.1) | inr h ↦ omega arith ])

pub replies_alike : RepliesAlike
unfolding reply_within reply_of reply_to ◌>>=◌
replies_alike l bytes =
    elim (read_alike l bytes) [
      | inl e ↦ inl (ap (λ x. reply_to (x >>= check_file)) e)
      | inr e ↦ inr (e.0, ap (λ x. reply_to (x >>= check_file)) e.1)
    ]

-- what is accepted under limits is accepted
pub accepted_full : (l : Limits) (bytes : List ℕ) → reply_within l bytes ≡ Accepted → reply_of bytes ≡ Accepted
accepted_full l bytes e =
    elim (replies_alike l bytes) [
      | inl a ↦ sym a ∙ e
      | inr b ↦ let c = b.1 in let z : ◌≡◌ {A = ℕ} 0 1 = cc in absurd (omega arith)
    ]

pub small_is_accepted : SmallIsAccepted
unfolding reply_small
small_is_accepted = accepted_full small

pub limited_judged : LimitedJudged
limited_judged l bytes =
    elim (replies_alike l bytes) [
      | inl a ↦ subst (JudgedBy bytes) (sym a) (reply_judges bytes)
      | inr b ↦ subst (JudgedBy bytes) (sym b.1) (no_judgement bytes 19 b.0 (λ low high. omega arith))
    ]

pub limit_refusals : LimitRefusals
limit_refusals l bytes r p e =
    elim (replies_alike l bytes) [
      | inl a ↦ inl (refusal_numbers bytes r p (sym a ∙ e))
      | inr b ↦ let c = b.1 in inr cc
    ]

-- ---- the first breach

-- a place is before what the steps refuse, and before what the layout refuses behind it
steps_before : (p : ℕ) {x : Result (Unit {0})} → Numbered OfSteps x → Before p (reply_to x)
unfolding reply_to
steps_before p (refused h) = inl h
steps_before p (given h) = tt

reply_before : {hi : ℕ} (p : ℕ) {P : File → Type 0} {y : Result File}
    → Yields (Within (suc p) hi) P y → Before p (reply_to (y >>= check_file))
unfolding reply_to ◌>>=◌
reply_before p (refused w) = inr (omega (arith, w.low))
reply_before p (given {a = f} h) = steps_before p (check_ok f)

at_first : {q : ℕ} {bs : List ℕ} → From q bs → (p : ℕ) → get_elem? bs 0 ≡ some p → q ≤ p
at_first empty p e = let z : ◌≡◌ {A = ℕ} 0 1 = cc in absurd (omega arith)
at_first (first {b = b} l) p e = let z : b ≡ p = cc in omega arith

-- 19 at a place, by the three cases of a stage
staged : {lo hi : ℕ} {P : File → Type 0} {x y : Result File} {bs : List ℕ} → Stage lo hi P x y bs → (p : ℕ)
    → (reply_to (x >>= check_file) ≡ Refused 19 p) ↔ (get_elem? bs 0 ≡ some p) × Before p (reply_to (y >>= check_file))
unfolding reply_to ◌>>=◌
staged (fault {r = r} w f) p = (
  (λ e. absurd (let z : r ≡ 19 = cc in elim w.number [ inl a ↦ omega (arith, a.1) | inr b ↦ omega arith ])),
  (λ h. absurd
      (let l = at_first f p h.0 in
      elim h.1 [
        | inl a ↦ elim w.number [ inl b ↦ omega (arith, a.0, b.1) | inr b ↦ omega (arith, a.1) ]
        | inr b ↦ omega arith
      ])),
)
staged (fine {a = f} h) p = (
  (λ e. absurd (let z = reply_number (check_ok f) 19 p e in omega arith)),
  (λ h. absurd (let e = h.0 in let z : ◌≡◌ {A = ℕ} 0 1 = cc in omega arith)),
)
staged (breach q l u h) p = (
  (λ e. let z : q ≡ p = cc in rw (← z) (refl, reply_before q h)),
  (λ e. let c = e.0 in cc),
)

pub first_breach : FirstBreach
unfolding reply_within reply_of
first_breach l bytes = staged (file_stage l bytes)
