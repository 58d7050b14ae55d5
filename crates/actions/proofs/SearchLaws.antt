-- The search down the action sets: what each kind of entry adds, and what is found at the end.
-- Assumes nothing.
use mathlib.Core.Path.{◌≡◌, sym, subst}
use mathlib.Core.Logic.{◌⊎◌, inl, inr}
use Prim.Native.Nat.{ℕ, ◌+◌, ◌<◌}
use native.Mathlib.Omega.{arith}
use native.Mathlib.Decide.{dec_lt}
use mathlib.Core.Bool.{not, ◌||◌}
use mathlib.Core.List.{List}
use lib.Dec.{T, eqb, eqb_refl, eqb→eq}
use Rattle.task.proofs.Tests.{both_ways, or_cases, or_left, or_right, never}
use Rattle.meaning.specs.File.{File}
use Rattle.meaning.specs.Sets.{in_actions}
use Rattle.actions.specs.Marks.{marked, Marks, Looking}
use Rattle.actions.proofs.MarkLaws.{zeros, no_marks}

-- one mark more: the old marks, the new one, and no other
module _ (words next : List ℕ) (x : ℕ) (k : Marks next (λ j. marked words j || eqb j x)) where
  more_old : (j : ℕ) → j < 256 → T (marked words j) → T (marked next j)
  more_old j l t = subst T (sym (k j l)) (or_left (marked words j) (eqb j x) t)

  more_new : x < 256 → T (marked next x)
  more_new l = subst T (sym (k x l)) (or_right (marked words x) (eqb x x) (eqb_refl x))

  more_cases : (j : ℕ) → j < 256 → T (marked next j) → T (marked words j) ⊎ (j ≡ x)
  more_cases j l t = elim (or_cases (marked words j) (eqb j x) (subst T (k j l) t)) [ inl s ↦ inl s | inr q ↦ inr (eqb→eq j x q) ]

module _ (f : File) (a : ℕ) where
  -- action i is in a wanted entry below `left`
  abbrev Awaits : List ℕ → ℕ → ℕ → Type 0
  Awaits wanted left i = (e : ℕ) × (e < left) × T (marked wanted e) × T (in_actions f e i)

  -- at the start the set itself is wanted, and nothing is found
  pub looking_first : (w : List ℕ) → a < 256 → Marks w (λ j. marked zeros j || eqb j a) → Looking f a (a + 1) w zeros
  looking_first w l m = record {
    sound = λ i _ h. absurd (subst T (no_marks i) h);
    wanted_sound = λ e b h i t.
        elim (more_cases zeros w a m e (omega arith) h) [
          | inl n ↦ absurd (subst T (no_marks e) n)
          | inr q ↦ subst (λ (x : ℕ). T (in_actions f x i)) q t
        ];
    complete = λ i _ t. inr (a, omega arith, more_new zeros w a m l, t);
  }

  -- at the end no entry is left, and what is found is the set
  pub looking_done : (w v : List ℕ) → Looking f a 0 w v → Marks v (in_actions f a)
  looking_done w v h i l =
      both_ways _ _ (h.sound i l) (λ t. elim (h.complete i l t) [ inl s ↦ s | inr (e, b, _, _) ↦ absurd (omega arith) ])

  module _ (e : ℕ) (w v : List ℕ) (h : Looking f a (e + 1) w v) where
    -- an action of the set is found, or in entry e, which is wanted, or in a wanted entry below e
    cases : (i : ℕ) → i < 256 → T (in_actions f a i) → T (marked v i) ⊎ (T (marked w e) × T (in_actions f e i)) ⊎ Awaits w e i
    cases i l t =
        elim (h.complete i l t) [
          | inl s ↦ inl s
          | inr (x, b, m, u) ↦ inr (elim (dec_lt x e) [
            | yes c ↦ inr (x, c, m, u)
            | no c ↦ (
                let q : x ≡ e = omega arith in
                inl (subst (λ (y : ℕ). T (marked w y)) q m, subst (λ (y : ℕ). T (in_actions f y i)) q u))
          ])
        ]

    -- entry e is not wanted
    pub looking_past : T (not (marked w e)) → Looking f a e w v
    looking_past n = record {
      sound = h.sound;
      wanted_sound = λ x b. h.wanted_sound x (omega arith);
      complete = λ i l t.
          elim (cases i l t) [
            | inl s ↦ inl s
            | inr (inl (m, _)) ↦ absurd (never (marked w e) m n)
            | inr (inr x) ↦ inr x
          ];
    }

    module _ (m : T (marked w e)) where
      -- the actions of entry e are found
      pub looking_found : (v' : List ℕ) → Marks v' (λ i. marked v i || in_actions f e i) → Looking f a e w v'
      looking_found v' k = record {
        sound = λ i l t.
            elim (or_cases (marked v i) (in_actions f e i) (subst T (k i l) t)) [
              | inl s ↦ h.sound i l s
              | inr u ↦ h.wanted_sound e (omega arith) m i u
            ];
        wanted_sound = λ x b. h.wanted_sound x (omega arith);
        complete = λ i l t.
            elim (cases i l t) [
              | inl s ↦ inl (subst T (sym (k i l)) (or_left (marked v i) (in_actions f e i) s))
              | inr (inl (_, u)) ↦ inl (subst T (sym (k i l)) (or_right (marked v i) (in_actions f e i) u))
              | inr (inr x) ↦ inr x
            ];
      }

      -- the two entries that entry e names are wanted
      pub looking_either : (x y : ℕ) (one both : List ℕ) → e < 256 → x < e → y < e
          → ((i : ℕ) → in_actions f e i ≡ (in_actions f x i || in_actions f y i))
          → Marks one (λ j. marked w j || eqb j x) → Marks both (λ j. marked one j || eqb j y) → Looking f a e both v
      looking_either x y one both b lx ly g k₁ k₂ = record {
        sound = h.sound;
        wanted_sound = λ z c t i u.
            elim (more_cases one both y k₂ z (omega arith) t) [
              | inl s ↦ elim (more_cases w one x k₁ z (omega arith) s) [
                | inl r ↦ h.wanted_sound z (omega arith) r i u
                | inr q ↦ up i (or_left (in_actions f x i) (in_actions f y i) (subst (λ (j : ℕ). T (in_actions f j i)) q u))
              ]
              | inr q ↦ up i (or_right (in_actions f x i) (in_actions f y i) (subst (λ (j : ℕ). T (in_actions f j i)) q u))
            ];
        complete = λ i l t.
            elim (cases i l t) [
              | inl s ↦ inl s
              | inr (inl (_, u)) ↦ inr (elim (or_cases (in_actions f x i) (in_actions f y i) (subst T (g i) u)) [
                | inl r ↦ (x, lx, more_old one both y k₂ x (omega arith) (more_new w one x k₁ (omega arith)), r)
                | inr r ↦ (y, ly, more_new one both y k₂ (omega arith), r)
              ])
              | inr (inr (z, c, n, u)) ↦ inr (z, c, more_old one both y k₂ z (omega arith) (more_old w one x k₁ z (omega arith) n), u)
            ];
      }
        where
          up : (i : ℕ) → T (in_actions f x i || in_actions f y i) → T (in_actions f a i)
          up i t = h.wanted_sound e (omega arith) m i (subst T (sym (g i)) t)
