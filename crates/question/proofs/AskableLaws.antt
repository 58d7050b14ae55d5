-- When a question is answered, and how.
-- Assumes nothing.
use mathlib.Core.Path.{◌≡◌, refl, sym, ap, ap₂, ◌∙◌, subst}
use Prim.Native.Nat.{ℕ, ◌-◌, ◌^◌, ◌≤◌, ◌<◌, min}
use mathlib.Core.Bool.{Bool, true, false, not, ◌&&◌}
use mathlib.Core.List.{List}
use lib.ListN.{length}
use lib.Dec.{T, ltb, ltb→lt, leb}
use borrow.Author.Tests.{lt-ltb, le-ltb, not-true, not-false}
use Rattle.task.specs.declared.Ends.{Ends}
use Rattle.task.specs.Inner.{ends_of}
use Rattle.task.proofs.MaskLaws.{within_all}
use Rattle.task.proofs.Tests.{and_left, and_right, holds, is_true}
use Rattle.certificate.specs.declared.Places.{Places}
use Rattle.certificate.specs.declared.Whole.{Whole}
use Rattle.meaning.specs.Result.{refuse, found, need, ◌>>=◌}
use Rattle.meaning.specs.File.{File}
use Rattle.meaning.specs.Layout.{read_file}
use Rattle.certificate.specs.Known.{Placed, decoded}
use Rattle.certificate.proofs.KnownLaws.{placed_state_sets, placed_ends}
use Rattle.meaning.specs.Sets.{in_set}
use Rattle.meaning.specs.declared.Answer.TheVariants.{Refused}
use Rattle.meaning.specs.Question.{depth, has_progression, askable, shallow, answer_to, answer_of}
use Rattle.question.specs.Asked.{answer_in}
use Rattle.meaning.proofs.Shallow.{shortcut}

all_four : (a b c d : Bool) → a ≡ true → (b && (c && d)) ≡ (a && b && c && d)
all_four true true c d h = refl
all_four true false c d h = refl
all_four false b c d h = absurd (holds h)

-- the places of a whole file are those of the bytes that its table is of
pub placed : (w : Whole) → Placed w.entries.bytes.now w.laid.at
placed w = subst (λ (b : List ℕ). Placed b w.laid.at) w.same w.laid.placed

module _ (bytes : List ℕ) (at : Places) (k : Placed bytes at) (e s : ℕ) where
  abbrev f : File
  f = decoded bytes

  -- no such entry; and one that there is
  pub unknown : at.state_sets ≤ e → false ≡ askable f e s
  unfolding askable
  unknown l = rw (← placed_state_sets bytes at k, le-ltb e at.state_sets l) refl

  pub in_file : e < at.state_sets → s < 2 ^ 64 → (top : ℕ) → top ≡ 2 ^ min at.ends.facts 64 - 1 → (c : Bool) → c ≡ shallow f e 4
      → (leb s top && c) ≡ askable f e s
  unfolding askable ends_of
  in_file l low top p c q =
      ap₂ ◌&&◌ (within_all at.ends.facts p s low ∙ ap (λ (x : Ends). ltb s (2 ^ x.facts)) (placed_ends bytes at k))
      (q ∙ sym (shortcut bytes f k.read e))
      ∙ all_four (ltb e (length f.state_sets)) (ltb s (2 ^ f.task.facts)) (not (has_progression f e)) (leb (depth f e) 4)
      (rw (← placed_state_sets bytes at k) (lt-ltb e at.state_sets l))

  -- what the code's test r tells
  module _ (r : Bool) (q : r ≡ askable f e s) where
    yes_asked : not r ≡ false → askable f e s ≡ true
    yes_asked n = sym q ∙ not-false r n

    pub asked : not r ≡ false → (e < length f.state_sets) × (has_progression f e ≡ false)
    unfolding askable
    asked n =
        let A : Bool = ltb e (length f.state_sets) in
        let B : Bool = ltb s (2 ^ f.task.facts) in
        let C : Bool = not (has_progression f e) in
        let t : T (A && B && C) = and_left (A && B && C) (leb (depth f e) 4) (holds (yes_asked n)) in
        let l : e < length f.state_sets = ltb→lt e (length f.state_sets) (and_left A B (and_left (A && B) C t)) in
        (l, not-true (has_progression f e) (is_true C (and_right (A && B) C t)))

    pub refused : not r ≡ true → Refused 13 0 ≡ answer_in f e s
    unfolding answer_in answer_to need ◌>>=◌
    refused n = rw (← q, not-true r n) refl

    pub answered : not r ≡ false → (d : Bool) → d ≡ in_set f e s → (b : Bool) → d ≡ b → answer_to (found b) ≡ answer_in f e s
    unfolding answer_in need ◌>>=◌
    answered n d p b h = rw (yes_asked n, ← p, h) refl

-- ---- the same of the file's bytes

pub read_answer : (bytes : List ℕ) (f : File) (e s : ℕ) → read_file bytes ≡ found f → answer_in f e s ≡ answer_of bytes e s
unfolding answer_in answer_of ◌>>=◌
read_answer bytes f e s h = rw h refl

pub unread_answer : (bytes : List ℕ) (r p e s : ℕ) → read_file bytes ≡ refuse r p → Refused r p ≡ answer_of bytes e s
unfolding answer_of answer_to ◌>>=◌
unread_answer bytes r p e s h = rw h refl
