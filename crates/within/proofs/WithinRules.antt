-- The rules of 15 to 28 but ST, as the tests that the code makes of the entries they name.
-- Assumes nothing.
use Prim.Native.Nat.{ℕ}
use mathlib.Core.Path.{◌≡◌, ◌∙◌, ap}
use mathlib.Core.Bool.{false, ◌&&◌}
use mathlib.Core.List.{[], ◌∷◌}
use lib.Dec.{eqb}
use Rattle.certificate.specs.declared.StateEntry.{StateEntry}
use Rattle.certificate.specs.declared.StateEntry.TheVariants.{Intersection, Union}
use Rattle.std.specs.Prelude.{Result}
use Rattle.certificate.specs.declared.StepFault.{StepFault}
use Rattle.certificate.specs.declared.Judgement.TheVariants.{Within, ActionsWithin}
use Rattle.certificate.specs.Views.{view_of}
use Rattle.meaning.specs.File.{either, intersection, union, progression, regression, File, action_set_at, state_set_at, first, second}
use Rattle.patterns.specs.Matched.{matched}
use Rattle.patterns.proofs.Views.{taken}
use Rattle.patterns.specs.Tests.{of_sort, names, names_both, names_complement}
use Rattle.rules.specs.Derives.{rule_numbered, follows, by_rule}
use Rattle.rules.proofs.RuleLaws.{and_comm, and_swap, and_reverse, eqb_comm, chain, opened}

-- UR, UL, IR and IL take one entry apart, and the other is one of those that it names
module _ (f : File) (p l r : ℕ) {v : StateEntry} {s u : ℕ} {reply : Result (Unit {0}) StepFault} where
  -- 15 UR: S<S+U
  pub ur : v ≡ view_of p (state_set_at f r) → v ≡ Union s u → reply ≡ matched (eqb s l) → reply ≡ by_rule f 15 (Within l r) []
  unfolding opened
  ur a b e = e ∙ ap matched (simp (taken _ _ a b, chain))

  -- 16 UL: S<U+S
  pub ul : v ≡ view_of p (state_set_at f r) → v ≡ Union u s → reply ≡ matched (eqb s l) → reply ≡ by_rule f 16 (Within l r) []
  unfolding opened
  ul a b e = e ∙ ap matched (simp (taken _ _ a b, chain))

  -- 17 IR: S&U<S
  pub ir : v ≡ view_of p (state_set_at f l) → v ≡ Intersection s u → reply ≡ matched (eqb r s) → reply ≡ by_rule f 17 (Within l r) []
  unfolding opened
  ir a b e = e ∙ ap matched (simp (taken _ _ a b, chain))

  -- 18 IL: U&S<S
  pub il : v ≡ view_of p (state_set_at f l) → v ≡ Intersection u s → reply ≡ matched (eqb r s) → reply ≡ by_rule f 18 (Within l r) []
  unfolding opened
  il a b e = e ∙ ap matched (simp (taken _ _ a b, chain))

module _ (f : File) where
  -- 19 DI: (S+U)&W<(S&W)+(U&W)
  pub di : (l r e w s u x y : ℕ) → state_set_at f l ≡ intersection e w → state_set_at f e ≡ union s u → state_set_at f r ≡ union x y
      → (names_both f 7 x s w && names_both f 7 y u w) ≡ follows f (rule_numbered 19) (Within l r) []
  unfolding opened
  di l r e w s u x y h1 h2 h3 = simp (h1, h2, h3, chain)

  -- the same where r is no union
  pub di_none : (l r : ℕ) → of_sort f 8 r ≡ false → false ≡ follows f (rule_numbered 19) (Within l r) []
  unfolding opened
  di_none l r h = simp (h, chain)

  -- 20 SU: S<W, U<W; S+U<W
  pub su : (l r a b c d : ℕ)
      → (names_both f 8 l a c && (eqb b r && eqb d r)) ≡ follows f (rule_numbered 20) (Within l r) (Within a b ∷ Within c d ∷ [])
  unfolding opened
  su l r a b c d =
      simp (
        eqb_comm a (first (state_set_at f l)),
        eqb_comm c (second (state_set_at f l)),
        and_swap (eqb b r) (eqb (second (state_set_at f l)) c) (eqb d r),
        chain,
      )

  -- 21 SI: S<U, S<W; S<U&W
  pub si : (l r a b c d : ℕ)
      → (names_both f 7 r b d && (eqb a l && eqb c l)) ≡ follows f (rule_numbered 21) (Within l r) (Within a b ∷ Within c d ∷ [])
  unfolding opened
  si l r a b c d =
      simp (
        eqb_comm b (first (state_set_at f r)),
        eqb_comm d (second (state_set_at f r)),
        and_comm (eqb c l) (eqb (second (state_set_at f r)) d),
        and_swap (eqb a l) (eqb (second (state_set_at f r)) d) (eqb c l),
        and_swap (eqb a l) (eqb (first (state_set_at f r)) b) (eqb (second (state_set_at f r)) d && eqb c l),
        chain,
      )

  -- 23 AT: S[A]<U, B within A; S[B]<U
  pub at_fewer_lem : (l r a b x y s n : ℕ) → state_set_at f l ≡ progression s n
      → (names_both f 9 a s y && (eqb b r && eqb x n)) ≡ follows f (rule_numbered 23) (Within l r) (Within a b ∷ ActionsWithin x y ∷ [])
  unfolding opened
  at_fewer_lem l r a b x y s n h =
      simp (h, eqb_comm y (second (state_set_at f a)), and_comm (eqb (second (state_set_at f a)) y) (eqb b r && eqb x n), chain)

  -- 24 AU: S[A]<U, S[B]<U; S[A+B]<U
  pub au : (l r a b c d s n x y : ℕ) → state_set_at f l ≡ progression s n → action_set_at f n ≡ either x y
      → (names_both f 9 a s x && (eqb b r && (names_both f 9 c s y && eqb d r)))
      ≡ follows f (rule_numbered 24) (Within l r) (Within a b ∷ Within c d ∷ [])
  unfolding opened
  au l r a b c d s n x y h1 h2 = simp (h1, h2, chain)

  -- 25 PT: S[A]<W, U<S; U[A]<W
  pub pt : (l r a b c d u n : ℕ) → state_set_at f l ≡ progression u n
      → (names_both f 9 a d n && (eqb b r && eqb c u)) ≡ follows f (rule_numbered 25) (Within l r) (Within a b ∷ Within c d ∷ [])
  unfolding opened
  pt l r a b c d u n h =
      simp (
        h,
        eqb_comm d (first (state_set_at f a)),
        and_comm (eqb (first (state_set_at f a)) d) (eqb (second (state_set_at f a)) n && (eqb b r && eqb c u)),
        chain,
      )

  -- 26 PU: S[A]<W, U[A]<W; (S+U)[A]<W
  pub pu : (l r a b c d e n s u : ℕ) → state_set_at f l ≡ progression e n → state_set_at f e ≡ union s u
      → (names_both f 9 a s n && (eqb b r && (names_both f 9 c u n && eqb d r)))
      ≡ follows f (rule_numbered 26) (Within l r) (Within a b ∷ Within c d ∷ [])
  unfolding opened
  pu l r a b c d e n s u h1 h2 = simp (h1, h2, chain)

  -- what PR and RP ask of the conclusion, in the order of the pattern
  turned : (k l r b s n : ℕ) → (names_complement f k l b n && names f 6 r s)
      ≡ (of_sort f k l && (of_sort f 6 (first (state_set_at f l)) && (of_sort f 6 r && (eqb s (first (state_set_at f r))
      && (eqb n (second (state_set_at f l)) && eqb b (first (state_set_at f (first (state_set_at f l)))))))))
  unfolding opened
  turned k l r b s n =
      simp (
        eqb_comm s (first (state_set_at f r)),
        eqb_comm n (second (state_set_at f l)),
        eqb_comm b (first (state_set_at f (first (state_set_at f l)))),
        and_reverse (eqb (first (state_set_at f (first (state_set_at f l)))) b) (eqb (second (state_set_at f l)) n) (names f 6 r s),
        chain,
      )

  -- 27 PR: S[A]<U; [A]~U<~S
  pub pr : (l r a b s n : ℕ) → state_set_at f a ≡ progression s n
      → (names_complement f 10 l b n && names f 6 r s) ≡ follows f (rule_numbered 27) (Within l r) (Within a b ∷ [])
  unfolding opened
  pr l r a b s n h = turned 10 l r b s n ∙ simp (h, chain)

  -- 28 RP: [A]S<U; (~U)[A]<~S
  pub rp : (l r a b s n : ℕ) → state_set_at f a ≡ regression s n
      → (names_complement f 9 l b n && names f 6 r s) ≡ follows f (rule_numbered 28) (Within l r) (Within a b ∷ [])
  unfolding opened
  rp l r a b s n h = turned 9 l r b s n ∙ simp (h, chain)
