-- The walk that answers whether an entry may be asked about: depth at most d and no progression, by one recursion on d.
-- Assumes nothing.
use mathlib.Core.Path.{◌≡◌, refl, ap, ap₂, ◌∙◌}
use Prim.Native.Nat.{ℕ, zero, suc, ◌<◌, max}
use native.Mathlib.Omega.{arith}
use mathlib.Core.Bool.{Bool, true, false, not, ◌&&◌, ◌||◌}
use lib.Dec.{leb, leb-suc-suc, leb-suc-zero}
use borrow.Author.Tests.{le-leb, lt-leb}
use native.Mathlib.Decide.{dec_le}
use Rattle.meaning.specs.File.{StateSet, basic, complement, intersection, union, progression, regression, File, state_set_at}
use Rattle.meaning.proofs.Reading.{file_read}
use Rattle.meaning.proofs.Order.{Earlier, Ordered, ordered}
use Rattle.meaning.specs.Sets.{rounds}
use Rattle.meaning.proofs.Settled.{settled_node}
use Rattle.meaning.specs.Question.{depth_node, depth, progression_node, has_progression, shallow_node, shallow}
use Rattle.meaning.specs.Points.{Shortcut}

-- ---- tests

and_false : (b : Bool) → b && false ≡ false
and_false true = refl
and_false false = refl

leb_max : (x y d : ℕ) → leb (max x y) d ≡ leb x d && leb y d
leb_max x y d =
    elim (dec_le x d) [
      | yes h ↦ elim (dec_le y d) [
        | yes k ↦ rw (le-leb x d h, le-leb y d k) (le-leb (max x y) d (omega arith))
        | no k ↦ rw (le-leb x d h, lt-leb y d (omega arith)) (lt-leb (max x y) d (omega arith))
      ]
      | no h ↦ rw (lt-leb x d (omega arith)) (lt-leb (max x y) d (omega arith))
    ]

both : (p q x y : Bool) → not (p || q) && (x && y) ≡ (not p && x) && (not q && y)
both false false x y = refl
both false true true y = refl
both false true false y = refl
both true q x y = refl

module _ (f : File) (o : Ordered f) where
  node_depth : (g h : ℕ → ℕ) (e : ℕ) (x : StateSet) → Earlier e x → ((a : ℕ) → a < e → g a ≡ h a) → depth_node g x ≡ depth_node h x
  unfolding depth_node
  node_depth g h e (basic b) l k = refl
  node_depth g h e (complement a) l k = ap suc (k a l)
  node_depth g h e (intersection a b) l k = ap₂ (λ (x y : ℕ). suc (max x y)) (k a l.0) (k b l.1)
  node_depth g h e (union a b) l k = ap₂ (λ (x y : ℕ). suc (max x y)) (k a l.0) (k b l.1)
  node_depth g h e (progression a b) l k = ap suc (k a l)
  node_depth g h e (regression a b) l k = ap suc (k a l)

  node_progression : (g h : ℕ → Bool) (e : ℕ) (x : StateSet) → Earlier e x → ((a : ℕ) → a < e → g a ≡ h a)
      → progression_node g x ≡ progression_node h x
  unfolding progression_node
  node_progression g h e (basic b) l k = refl
  node_progression g h e (complement a) l k = k a l
  node_progression g h e (intersection a b) l k = ap₂ ◌||◌ (k a l.0) (k b l.1)
  node_progression g h e (union a b) l k = ap₂ ◌||◌ (k a l.0) (k b l.1)
  node_progression g h e (progression a b) l k = refl
  node_progression g h e (regression a b) l k = k a l

  depth_node_lem : (e : ℕ) → depth f e ≡ depth_node (depth f) (state_set_at f e)
  unfolding depth
  depth_node_lem e = settled_node _ 0 (λ a g h k. node_depth g h a (state_set_at f a) (o.states a) k) e

  pub progression_node_lem : (e : ℕ) → has_progression f e ≡ progression_node (has_progression f) (state_set_at f e)
  unfolding has_progression
  progression_node_lem e = settled_node _ false (λ a g h k. node_progression g h a (state_set_at f a) (o.states a) k) e

  -- the bounds as the question has them, at depth d
  bounds : ℕ → ℕ → Bool
  bounds e d = not (has_progression f e) && leb (depth f e) d

  one_part : (d a : ℕ) → not (has_progression f a) && leb (suc (depth f a)) (suc d) ≡ bounds a d
  unfolding bounds
  one_part d a = rw (leb-suc-suc (depth f a) d) refl

  two_parts : (d a b : ℕ) → not (has_progression f a || has_progression f b) && leb (suc (max (depth f a) (depth f b))) (suc d) ≡ bounds a d
      && bounds b d
  unfolding bounds
  two_parts d a b =
      rw (leb-suc-suc (max (depth f a) (depth f b)) d, leb_max (depth f a) (depth f b) d)
      (both (has_progression f a) (has_progression f b) (leb (depth f a) d) (leb (depth f b) d))

  level : (d : ℕ) (less : ℕ → Bool) (x : StateSet) → ((a : ℕ) → bounds a d ≡ less a)
      → not (progression_node (has_progression f) x) && leb (depth_node (depth f) x) (suc d) ≡ shallow_node less x
  unfolding progression_node depth_node shallow_node
  level d less (basic b) h = le-leb 1 (suc d) (omega arith)
  level d less (complement a) h = one_part d a ∙ h a
  level d less (intersection a b) h = two_parts d a b ∙ ap₂ ◌&&◌ (h a) (h b)
  level d less (union a b) h = two_parts d a b ∙ ap₂ ◌&&◌ (h a) (h b)
  level d less (progression a e) h = refl
  level d less (regression a e) h = one_part d a ∙ h a

  -- every entry is at least one level deep
  deep : (x : StateSet) → leb (depth_node (depth f) x) 0 ≡ false
  unfolding depth_node
  deep (basic b) = refl
  deep (complement a) = leb-suc-zero (depth f a)
  deep (intersection a b) = leb-suc-zero (max (depth f a) (depth f b))
  deep (union a b) = leb-suc-zero (max (depth f a) (depth f b))
  deep (progression a e) = leb-suc-zero (depth f a)
  deep (regression a e) = leb-suc-zero (depth f a)

  walked : (d e : ℕ) → bounds e d ≡ shallow f e d
  unfolding bounds shallow rounds
  walked zero e = rw (depth_node_lem e, deep (state_set_at f e)) (and_false (not (has_progression f e)))
  walked (suc d) e = rw (progression_node_lem e, depth_node_lem e) (level d _ (state_set_at f e) (λ a. walked d a))

pub shortcut : Shortcut
unfolding bounds
shortcut bytes f r e = walked f (ordered bytes f (file_read bytes f r)) 4 e
