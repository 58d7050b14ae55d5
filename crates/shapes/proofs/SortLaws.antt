-- What a permitted shape says of the kinds: few right leaves where all are of clauses, an anchor where some states are listed.
-- Assumes nothing.
use mathlib.Core.Path.{◌≡◌, subst}
use mathlib.Core.Logic.{inl, inr}
use Prim.Native.Nat.{ℕ, ◌≤◌}
use native.Mathlib.Omega.{arith}
use mathlib.Core.Bool.{Bool, true, false, not, ◌&&◌, ◌||◌}
use mathlib.Core.List.{List, [], ◌∷◌, ◌++◌, map, append-nil}
use lib.ListN.{length, length-append, length-map}
use lib.Dec.{T, eqb, leb, leb→le}
use Rattle.task.specs.Reach.{member}
use Rattle.task.proofs.Tests.{and_left, and_right, and_both, or_left, or_right, or_cases, never, holds}
use Rattle.meaning.specs.File.{File}
use Rattle.meaning.specs.Shapes.{keep, is_complement, literal_kind, others, complements, moved_left, moved_right, bracket, lists_init}
use Rattle.kinds.specs.declared.Flags.{Flags}
use Rattle.kinds.specs.Summary.{clauses_by, states_by, pair_by}
use Rattle.trees.proofs.TreeLaws.{keep_short}
use Rattle.shapes.proofs.KindLaws.{hit}
use Rattle.parts.specs.Written.{pair_sides}

pub clash : (b : Bool) → T b → b ≡ false → ⊥
clash true t e = subst T e t
clash false t e = t

module _ (x : Flags) (m : ℕ) (anchored : Bool) where
  abbrev listed : Bool
  listed = x.l3 || x.r3

  pub record Sorted : Type 0 where
    pub clauses : listed ≡ false → (m ≤ 2) × (T x.l4 → T x.l5 → ⊥)
    pub states : listed ≡ true → T anchored

  -- rules 1 to 3
  pub sorted : T (clauses_by x m || states_by x anchored) → Sorted
  unfolding clauses_by states_by
  sorted t =
      let h4 : Bool = x.l4 || x.r4 in
      let h5 : Bool = x.l5 || x.r5 in
      elim (or_cases (clauses_by x m) (states_by x anchored) t) [
        | inl c ↦ record {
          clauses = λ _. (
            leb→le m 2 (and_right (not listed && not (h4 && h5)) (leb m 2) c),
            λ u v. never (h4 && h5) (and_both h4 h5 (or_left x.l4 x.r4 u) (or_left x.l5 x.r5 v))
                (and_right (not listed) (not (h4 && h5)) (and_left (not listed && not (h4 && h5)) (leb m 2) c)),
          );
          states = λ e.
              absurd (never listed (holds e) (and_left (not listed) (not (h4 && h5))
              (and_left (not listed && not (h4 && h5)) (leb m 2) c)));
        }
        | inr s ↦ record {
          clauses = λ e.
              let u : T (listed && not h4) = and_left (listed && not h4) (not h5) (and_left (listed && not h4 && not h5) anchored s) in
              absurd (clash listed (and_left listed (not h4) u) e);
          states = λ _. and_right (listed && not h4 && not h5) anchored s;
        }
      ]

  -- rule 4
  pub sorted_pair : T (pair_by x) → m ≤ 2 → (T x.l3 → T anchored) → Sorted
  unfolding pair_by
  sorted_pair t l g =
      let h4 : Bool = x.l4 || x.r4 in
      let h5 : Bool = x.l5 || x.r5 in
      let two : Bool = (listed && h4) || (listed && h5) || (h4 && h5) in
      let both : T (not (x.l4 && x.l5)) = and_right (two && not x.r3) (not (x.l4 && x.l5)) t in
      let plain : T (not x.r3) = and_right two (not x.r3) (and_left (two && not x.r3) (not (x.l4 && x.l5)) t) in
      record {
        clauses = λ _. (l, λ u v. never (x.l4 && x.l5) (and_both x.l4 x.l5 u v) both);
        states = λ e. elim (or_cases x.l3 x.r3 (holds e)) [ inl y ↦ g y | inr y ↦ absurd (never x.r3 y plain) ];
      }

-- ---- one entry a side

module _ (f : File) (a b : ℕ) where
  pub pair_few : length (keep (λ k. not (eqb k 0)) (moved_right f (pair_sides a b))) ≤ 2
  unfolding moved_right others complements
  pair_few =
      let u = keep (λ e. not (is_complement f e)) (b ∷ []) in
      let v = keep (is_complement f) (a ∷ []) in
      omega (
        arith,
        keep_short (λ k. not (eqb k 0)) (map (literal_kind f) u ++ map (literal_kind f) v),
        length-append (map (literal_kind f) u) (map (literal_kind f) v),
        length-map u (literal_kind f),
        length-map v (literal_kind f),
        keep_short (λ e. not (is_complement f e)) (b ∷ []),
        keep_short (is_complement f) (a ∷ []),
      )

  pub pair_anchor : T (member 3 (moved_left f (pair_sides a b) ++ bracket f (pair_sides a b)))
      → T (hit (lists_init f) (moved_left f (pair_sides a b)))
  unfolding bracket hit
  pair_anchor t =
      let w = moved_left f (pair_sides a b) in
      or_right (member 0 w || (member 1 w && lists_init f)) (member 3 w) (subst (λ (ks : List ℕ). T (member 3 ks)) (append-nil w) t)
